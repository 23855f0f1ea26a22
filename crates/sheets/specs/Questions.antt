-- What the questions tell.
use Rattle.std.specs.Prelude.{◌≡◌, ℕ, List, [], ◌∷◌, ◌++◌, length, get_or, drop, Some, None, Ok, Err, Option, Result, slice_index_or}
use Rattle.meaning.specs.Calc.{Calc}
use Rattle.placing.specs.declared.rules.Rule.{Rule}
use Rattle.placing.specs.declared.rules.State.{State}
use Rattle.placing.specs.declared.rules.State.TheVariants.{Absent, Waiting, InForce}
use Rattle.placing.specs.Board.{no_rule, no_way, ways_of, state_of}
use Rattle.placing.specs.Search.{giver}
use Rattle.figures.specs.declared.blanks.Cause.{Cause}
use Rattle.figures.specs.Blanks.{cause_at}
use Rattle.records.specs.declared.refusal.Refusal.{Refusal}
use Rattle.sheets.specs.declared.answers.RuleAnswer.{RuleAnswer}
use Rattle.sheets.specs.declared.answers.RuleAnswer.TheVariants.{Absent as IsAbsent, Waits, InForceBy}
use Rattle.sheets.specs.declared.answers.CellAnswer.{CellAnswer}
use Rattle.sheets.specs.declared.answers.CellAnswer.TheVariants.{Shows, Blank}
use Rattle.sheets.specs.Contents.{Contents}
use Rattle.sheets.specs.Checks.{rule_refusal, cell_refusal, list_refusal}
use Rattle.sheets.specs.Refreshing.{IsPlanOn, held_on}

-- Absent, waiting, or the number of the selected way.
abbrev pub told_of : Rule → State → RuleAnswer
told_of rule Absent = IsAbsent
told_of rule Waiting = Waits
told_of rule (InForce i) = InForceBy (get_or (ways_of rule) i no_way).number

abbrev pub rule_told : Contents → ℕ → RuleAnswer
rule_told s x = told_of (slice_index_or s.rules x no_rule) (state_of s.states x)

abbrev pub TellsRule : Contents → ℕ → Result RuleAnswer Refusal → Type 0
TellsRule s x (Err why) = rule_refusal x ≡ Some why
TellsRule s x (Ok told) = (rule_refusal x ≡ None) × (told ≡ rule_told s x)

-- A rule, if the list has one.
abbrev pub first_of : List ℕ → Option ℕ
first_of [] = None
first_of (x ∷ xs) = Some x

abbrev pub shown_as : {F : Type 0} → Option Cause → F → Option ℕ → CellAnswer F
shown_as (Some why) figure giver' = Blank why
shown_as None figure giver' = Shows figure giver'

-- The cell's figure in the table with its giver, or the cause of its blank.
abbrev pub cell_told : {F : Type 0} → Calc F → Contents → List F → ℕ → CellAnswer F
cell_told m s figures c = shown_as (cause_at s.causes c) (slice_index_or figures c m.start) (first_of (giver s.rules s.states c))

abbrev pub TellsCell : {F : Type 0} → Calc F → Contents → List F → ℕ → Result (CellAnswer F) Refusal → Type 0
TellsCell m s figures c (Err why) = cell_refusal m s.cells figures c ≡ Some why
TellsCell m s figures c (Ok told) = (cell_refusal m s.cells figures c ≡ None) × (told ≡ cell_told m s figures c)

-- A list is filled from the front, and the entries behind stay; the answer is how many were filled.
abbrev pub Fills : List ℕ → List ℕ → ℕ → List ℕ → Type 0
Fills numbers list count list' = (count ≡ length numbers) × (list' ≡ numbers ++ drop (length numbers) list)

abbrev pub TellsPlan : Contents → List ℕ → Result ℕ Refusal → List ℕ → Type 0
TellsPlan s list (Err why) list' = (list_refusal (length list) ≡ Some why) × (list' ≡ list)
TellsPlan s list (Ok count) list' = (list_refusal (length list) ≡ None) × ((order : List ℕ) × IsPlanOn s order × Fills order list count list')

abbrev pub TellsHeld : Contents → List ℕ → Result ℕ Refusal → List ℕ → Type 0
TellsHeld s list (Err why) list' = (list_refusal (length list) ≡ Some why) × (list' ≡ list)
TellsHeld s list (Ok count) list' = (list_refusal (length list) ≡ None) × ((order : List ℕ) × IsPlanOn s order × Fills (held_on s order) list count list')
