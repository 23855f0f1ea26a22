-- Bringing the figures up to date: every held rule's outputs are blanked, then the planned ways are worked out in plan
-- order, each over what the ones before it left.
use Rattle.std.specs.Prelude.{ℕ, suc, Bool, false, if◌then◌else◌, not, ◌&&◌, ◌||◌, List, [], ◌∷◌, replicate, Some, None, Ok, Err, Option, Result, slice_index_or, slice_set}
use Rattle.meaning.specs.declared.Fault.{Fault}
use Rattle.meaning.specs.Masks.{bit}
use Rattle.meaning.specs.Calc.{Calc, tells}
use Rattle.figures.specs.declared.ways.SelectedWay.{SelectedWay}
use Rattle.figures.specs.declared.blanks.Cause.{Cause}
use Rattle.figures.specs.declared.blanks.Cause.TheVariants.{GiverHeld, Faulted, InputBlank}
use Rattle.figures.specs.Ways.{places_of}
use Rattle.figures.specs.Blanks.{is_blank}

-- The figures by cell, and why each blank cell is blank.
pub record Table (F : Type 0) : Type 0 where
  pub figures : List F
  pub blanks : List (Option Cause)

-- The table of these figures and blanks.
abbrev pub table : {F : Type 0} → List F → List (Option Cause) → Table F
table figures blanks = record { figures = figures; blanks = blanks }

-- For each output among the places from i on, in place order: what f makes, of the place and its cell, out of what came
-- before.
abbrev pub each_output : {X : Type 0} → (ℕ → ℕ → X → X) → ℕ → ℕ → List ℕ → X → X
each_output f mask i [] x = x
each_output f mask i (c ∷ cs) x = each_output f mask (suc i) cs (if bit mask i then f i c x else x)

-- Every output of a way is blank for a cause.
abbrev pub blanked : Cause → SelectedWay → List (Option Cause) → List (Option Cause)
blanked why w blanks = each_output (λ i c b. slice_set b c (Some why)) w.outputs 0 (places_of w) blanks

-- What is told of an output goes to its cell: a figure, or a blank with the fault, and then the entry stays.
abbrev pub told_to : {F : Type 0} → Result F Fault → ℕ → Table F → Table F
told_to (Ok x) c t = table (slice_set t.figures c x) (slice_set t.blanks c None)
told_to (Err fault) c t = table t.figures (slice_set t.blanks c (Some (Faulted fault)))

-- The calculator is asked for the output at place i, which names cell c.
abbrev pub asked_at : {F : Type 0} → Calc F → SelectedWay → F → ℕ → ℕ → Table F → Table F
asked_at m w p i c t = told_to (tells m w.kind w.way p t.figures (places_of w) i) c t

-- It is asked for each output, over the table as it then is.
abbrev pub asked : {F : Type 0} → Calc F → SelectedWay → F → Table F → Table F
asked m w p t = each_output (asked_at m w p) w.outputs 0 (places_of w) t

-- An input among the places from i on is blank.
abbrev pub blank_from : ℕ → ℕ → List ℕ → List (Option Cause) → Bool
blank_from mask i [] blanks = false
blank_from mask i (c ∷ cs) blanks = (not (bit mask i) && is_blank blanks c) || blank_from mask (suc i) cs blanks

abbrev pub has_blank_input : SelectedWay → List (Option Cause) → Bool
has_blank_input w blanks = blank_from w.outputs 0 (places_of w) blanks

-- A way is worked out: with a blank input its outputs are blank, otherwise the calculator is asked.
abbrev pub worked_out : {F : Type 0} → Calc F → SelectedWay → F → Table F → Table F
worked_out m w p t = if has_blank_input w t.blanks then table t.figures (blanked InputBlank w t.blanks) else asked m w p t

-- A rule's turn, with its parameter.
abbrev pub turn : {F : Type 0} → Calc F → F → Option SelectedWay → Table F → Table F
turn m p (Some w) t = worked_out m w p t
turn m p None t = t

-- The rules' turns, in their order. A parameter that the list lacks is the starting figure.
abbrev pub turns : {F : Type 0} → Calc F → List (Option SelectedWay) → List F → List ℕ → Table F → Table F
turns m rows ps [] t = t
turns m rows ps (x ∷ xs) t = turns m rows ps xs (turn m (slice_index_or ps x m.start) (slice_index_or rows x None) t)

abbrev pub held_by : Option SelectedWay → List (Option Cause) → List (Option Cause)
held_by (Some w) blanks = blanked GiverHeld w blanks
held_by None blanks = blanks

-- The outputs of the held rules are blank.
abbrev pub holds : List (Option SelectedWay) → List ℕ → List (Option Cause) → List (Option Cause)
holds rows [] blanks = blanks
holds rows (x ∷ xs) blanks = holds rows xs (held_by (slice_index_or rows x None) blanks)

-- The figures brought up to date, by the planned rules in their order and the held rules.
abbrev pub updated : {F : Type 0} → Calc F → List (Option SelectedWay) → List F → List ℕ → List ℕ → List F → Table F
updated m rows ps order held figures = turns m rows ps order (table figures (holds rows held (replicate 64 None)))
