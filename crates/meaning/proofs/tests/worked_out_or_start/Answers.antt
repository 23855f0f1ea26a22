-- What the calculator tells of an output is taken, by its laws, and so is the start.
use Rattle.std.proofs.Common.{◌≡◌, true, Ok, Err, Result, sym, refl, subst, ◌∙◌, rules}
use Rattle.std.specs.Result.{result_unwrap_or}
use Rattle.meaning.specs.declared.Fault.{Fault}
use Rattle.meaning.proofs.Taken.{tells_taken}
use Rattle.meaning.proofs.tests.worked_out_or_start.Goals as goal

either_taken : {F : Type 0} (P : F → Type 0) (told : Result F Fault) (start : F) → ((x : F) → told ≡ Ok x → P x) → P start → P (result_unwrap_or told start)
either_taken P (Ok x) start ok at_start = ok x refl
either_taken P (Err fault) start ok at_start = at_start

pub returns : goal.returns
returns g c =
    let calc = c.args.calculator.now in
    let m = g.C.Calculator.meaning calc in
    let laws = g.met.C.Calculator.lawful calc in
    subst (λ x. m.takes x ≡ true) (sym c.unwrap_or.ensures) (either_taken (λ x. m.takes x ≡ true) c.work_out.result c.start-2.result (λ x e. tells_taken m laws c.args.kind c.args.way c.args.output c.args.p x c.args.table.now c.args.places.now (search rules) (search rules) (search rules) c.requires (search rules) (sym c.work_out.ensures ∙ e)) (subst (λ x. m.takes x ≡ true) (sym c.start-2.ensures) laws.start_taken))
