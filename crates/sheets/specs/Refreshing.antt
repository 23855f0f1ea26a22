-- Bringing the figures of a sheet up to date, by the plan of the rules in force.
use Rattle.std.specs.Prelude.{◌≡◌, ℕ, List}
use Rattle.meaning.specs.Calc.{Calc}
use Rattle.planning.specs.Plan.{IsPlan, held_rules}
use Rattle.figures.specs.Ways.{flows_of}
use Rattle.figures.specs.Update.{Table, updated}
use Rattle.sheets.specs.Contents.{Contents, in_force_on}

-- The list is the plan of the rules in force on the sheet.
abbrev pub IsPlanOn : Contents → List ℕ → Type 0
IsPlanOn s order = IsPlan (flows_of (in_force_on s)) order

-- The rules in force that the plan leaves over, by rising number.
abbrev pub held_on : Contents → List ℕ → List ℕ
held_on s order = held_rules (flows_of (in_force_on s)) order

-- The figures after an update of a sheet, and the causes of its blanks.
pub record Refreshed {F : Type 0} (m : Calc F) (s : Contents) (parameters figures : List F) (after : Table F) : Type 0 where
  pub order : List ℕ
  pub plan : IsPlanOn s order
  pub value : after ≡ updated m (in_force_on s) parameters order (held_on s order) figures
