-- Worked cases of the quantity calculator, as one table over its definition.
use Rattle.std.specs.Prelude.{◌≡◌, ℕ, List, [], ◌∷◌, ℤ, pos, neg_ℤ}
use Rattle.std.specs.List.{AllByRecursion}
use Rattle.meaning.specs.Calc.{Answer, gives, faults}
use Rattle.calculators.specs.declared.quantities.Kind.{Kind}
use Rattle.calculators.specs.declared.quantities.Kind.TheVariants.{Entry, Sum, Product, Limit}
use Rattle.calculators.specs.Quantities.{kind_number, quantities}

-- A kind, a way, P, the inputs in place order, and the answer that is due.
pub record WorkedCase : Type 0 where
  pub kind : Kind
  pub way : ℕ
  pub p : ℤ
  pub inputs : List ℤ
  pub due : Answer ℤ

-- A case, its parts in a row.
abbrev pub case : Kind → ℕ → ℤ → List ℤ → Answer ℤ → WorkedCase
case kind way p inputs due = record { kind = kind; way = way; p = p; inputs = inputs; due = due }

-- The one figure that is due.
abbrev pub gets : ℤ → Answer ℤ
gets z = gives (λ _. z)

-- The cases.
abbrev pub worked_cases : List WorkedCase
worked_cases =
    -- -7 × 1 ÷ 2 is cut toward zero
    case Product 0 (pos 2) (neg_ℤ (pos 7) ∷ pos 1 ∷ []) (gets (neg_ℤ (pos 3)))
    -- the range ends at 1,000,000,000
    ∷ case Sum 0 (pos 0) (pos 999_999_999 ∷ pos 1 ∷ []) (gets (pos 1_000_000_000))
    ∷ case Sum 0 (pos 0) (pos 999_999_999 ∷ pos 2 ∷ []) (faults 1)
    -- and at -1,000,000,000
    ∷ case Sum 1 (pos 1) (pos 999_999_999 ∷ pos 0 ∷ []) (gets (neg_ℤ (pos 1_000_000_000)))
    ∷ case Sum 2 (pos 2) (pos 999_999_999 ∷ pos 0 ∷ []) (faults 1)
    -- way 1 of a product divides by b; a P under 1 is told before that
    ∷ case Product 1 (pos 1) (pos 0 ∷ pos 5 ∷ []) (faults 2)
    ∷ case Product 1 (pos 0) (pos 0 ∷ pos 5 ∷ []) (faults 3)
    -- a factor of 0 in the dividend
    ∷ case Product 0 (pos 7) (pos 0 ∷ pos 5 ∷ []) (gets (pos 0))
    -- weight from grammage in tenths and area: 479.988 is cut
    ∷ case Product 0 (pos 10_000) (pos 796 ∷ pos 6_030 ∷ []) (gets (pos 479))
    -- area from grammage and weight, and length from width and area
    ∷ case Product 2 (pos 10_000) (pos 796 ∷ pos 480 ∷ []) (gets (pos 6_030))
    ∷ case Product 2 (pos 1_000) (pos 1_200 ∷ pos 6_030 ∷ []) (gets (pos 5_025))
    -- 796 is under 800 and not under 796
    ∷ case Limit 0 (pos 800) (pos 796 ∷ []) (gets (pos 1))
    ∷ case Limit 0 (pos 796) (pos 796 ∷ []) (gets (pos 0))
    ∷ case Entry 0 (neg_ℤ (pos 12)) [] (gets (neg_ℤ (pos 12)))
    ∷ []

-- The quantity calculator answers each case as is due.
abbrev pub CasesHold : Type 0
CasesHold = AllByRecursion (λ c. quantities.answer (kind_number c.kind) c.way c.p c.inputs ≡ c.due) worked_cases
