-- The mark is the test as a number.
use Rattle.std.proofs.Common.{◌≡◌, true, false, Bool, pos, if◌then◌else◌, refl, ap, ◌∙◌, arith, to_z, of_z, w64, to_z-of_z, ℤ}
use Rattle.std.specs.Prelude.{int_lt}
use Rattle.meaning.specs.Calc.{gives}
use Rattle.calculators.proofs.quantities.limit.Goals as goal

-- A choice of the figure is a choice of the answer.
gives_if : (b : Bool) (x y : ℤ) → gives (λ _. if b then x else y) ≡ (if b then gives (λ _. x) else gives (λ _. y))
gives_if true x y = refl
gives_if false x y = refl

pub returns-in-0 : goal.returns-in-0
returns-in-0 c =
    let marked : to_z w64 (of_z w64 c.from.result) ≡ (if int_lt c.args.a c.args.p then pos 1 else pos 0) = grind (arith, to_z-of_z, c.is_under.ensures) in
    rw c.in-0.is (ap (λ z. gives (λ _. z)) marked ∙ gives_if (int_lt c.args.a c.args.p) (pos 1) (pos 0))
