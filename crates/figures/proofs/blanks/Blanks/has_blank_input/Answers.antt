use Rattle.std.proofs.Common.{rules, ◌≡◌, ℕ, zero, suc, ◌≤◌, Bool, not, ◌&&◌, ◌||◌, List, [], ◌∷◌, length, Option, refl, ap, ◌∙◌, add-one, arith}
use borrow.Author.Tests.{tests}
use Rattle.std.specs.List.{list_any, zip, range_with_len}
use Rattle.std.proofs.lemmas.Iterator.{YieldsList-from_slice, YieldsList-from_range, YieldsList-from_zip}
use Rattle.std.proofs.lemmas.Iterator.Search.{any_from_yields_List}
use Rattle.meaning.specs.Masks.{bit}
use Rattle.figures.specs.declared.blanks.Cause.{Cause}
use Rattle.figures.specs.Blanks.{is_blank}
use Rattle.figures.specs.Update.{blank_from}
use Rattle.figures.proofs.blanks.Blanks.has_blank_input.Goals as goal

-- Whether an input is blank, asked of each place beside its cell, from place k on.
module _ (mask : ℕ) (blanks : List (Option Cause)) where
  abbrev blank_input : ℕ × ℕ → Bool
  blank_input p = not (bit mask p.0) && is_blank blanks p.1

  any_blank : (k n : ℕ) (cs : List ℕ) → length cs ≤ n → list_any blank_input (zip (range_with_len k n) cs) ≡ blank_from mask k cs blanks
  any_blank k zero [] le = refl
  any_blank k zero (c ∷ cs) le = absurd (omega arith)
  any_blank k (suc n) [] le = refl
  any_blank k (suc n) (c ∷ cs) le =
      ap (λ (b : Bool). blank_input (k, c) || b) (ap (λ (j : ℕ). list_any blank_input (zip (range_with_len j n) cs)) (add-one k) ∙ any_blank (suc k) n cs (omega arith))

pub returns : goal.returns
returns c =
    let mask = c.args.way.now.outputs in
    let causes = c.args.self.now.causes in
    let places = c.places.result.now in
    any_from_yields_List (blank_input mask causes) c.any.new.self _ _ c.any.ensures.ran (YieldsList-from_zip (YieldsList-from_range 0 255 255 c.zip.ensures.first refl) (YieldsList-from_slice places cc)) (λ x b q k. search (rules, tests))
    ∙ any_blank mask causes 0 255 places (omega (arith, c.places.ensures.few)) ∙ ap (λ (cs : List ℕ). blank_from mask 0 cs causes) c.places.ensures.value
