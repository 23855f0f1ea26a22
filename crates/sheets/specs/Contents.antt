-- What a sheet holds, apart from the caller's tables; the rules in force on it, and their ranks.
use Rattle.std.specs.Prelude.{ℕ, List, [], ◌∷◌, replicate, Some, None, Option}
use Rattle.meaning.specs.Ranks.{Ranks}
use Rattle.ranks.specs.Numbers.{rank_in}
use Rattle.ranks.specs.RankOrder.{rank_list}
use Rattle.placing.specs.declared.rules.Way.{Way}
use Rattle.placing.specs.declared.rules.Rule.{Rule}
use Rattle.placing.specs.declared.rules.State.{State}
use Rattle.placing.specs.declared.rules.State.TheVariants.{Absent}
use Rattle.placing.specs.Board.{way_by, empty_rule, standing_mask}
use Rattle.figures.specs.declared.ways.SelectedWay.{SelectedWay}
use Rattle.figures.specs.declared.blanks.Cause.{Cause}
use Rattle.records.specs.declared.row.Row.{Row}
use Rattle.records.specs.Records.{no_row}
use Rattle.records.specs.Making.{selected_by}

-- The number of cells; by rule number the kind and places, the listed ways and the state; by cell number the cause of a blank.
pub record Contents : Type 0 where
  pub cells : ℕ
  pub rows : List Row
  pub rules : List Rule
  pub states : List State
  pub causes : List (Option Cause)

-- The caller's tables: figures by cell, parameters and strengths by rule number.
pub record Tables (S F : Type 0) : Type 0 where
  pub figures : List F
  pub parameters : List F
  pub strengths : List S

-- A sheet without rules.
abbrev pub blank_sheet : ℕ → Contents
blank_sheet cells = record {
  cells = cells;
  rows = replicate 64 no_row;
  rules = replicate 64 empty_rule;
  states = replicate 64 Absent;
  causes = replicate 64 None;
}

abbrev pub selected_in : Row → Option Way → Option SelectedWay
selected_in row (Some way) = Some (selected_by row way)
selected_in row None = None

-- The selected ways of the rules in force, by rule number.
abbrev pub selected_ways : List Row → List Rule → List State → List (Option SelectedWay)
selected_ways [] rules states = []
selected_ways (row ∷ rows) [] states = []
selected_ways (row ∷ rows) (rule ∷ rules) [] = []
selected_ways (row ∷ rows) (rule ∷ rules) (state ∷ states) = selected_in row (way_by rule state) ∷ selected_ways rows rules states

abbrev pub in_force_on : Contents → List (Option SelectedWay)
in_force_on s = selected_ways s.rows s.rules s.states

-- The rank of each rule, by the strengths of the rules that stand.
abbrev pub rank_on : {S : Type 0} → Ranks S → List S → List State → ℕ → ℕ
rank_on r strengths states = rank_in (rank_list r strengths (standing_mask states))
