-- What an update over a plan leaves, for every calculator.
use Rattle.std.specs.Prelude.{◌≡◌, ℕ, ◌<◌, ◌≤◌, true, if◌then◌else◌, List, length, Some, None, Option, slice_index, slice_index_or}
use Rattle.meaning.specs.Lists.{is_on}
use Rattle.meaning.specs.Masks.{bit}
use Rattle.meaning.specs.Calc.{Answer, gives, faults, Calc, CalcLaws, input_figures}
use Rattle.planning.specs.Flows.{NoTwoGivers}
use Rattle.planning.specs.Plan.{IsPlan, held_rules}
use Rattle.figures.specs.declared.ways.SelectedWay.{SelectedWay}
use Rattle.figures.specs.declared.blanks.Cause.{Cause}
use Rattle.figures.specs.declared.blanks.Cause.TheVariants.{GiverHeld, Faulted, InputBlank}
use Rattle.figures.specs.Ways.{places_of, InForceBy, Output, flows_of}
use Rattle.figures.specs.Blanks.{cause_at, is_blank}
use Rattle.figures.specs.Update.{Table, has_blank_input, updated}

-- A way that the calculator has, on n cells: its places are those of the kind and name different cells below n, and its
-- outputs are those that the calculator fixes.
pub record Fits {F : Type 0} (m : Calc F) (n : ℕ) (w : SelectedWay) : Type 0 where
  pub kind_known : w.kind < m.kinds
  pub way_known : w.way < m.ways w.kind
  pub all_placed : length (places_of w) ≡ m.places w.kind
  pub outputs_fixed : (i : ℕ) → i < length (places_of w) → bit w.outputs i ≡ m.output w.kind w.way i
  pub cells_there : (i : ℕ) → i < length (places_of w) → slice_index (places_of w) i < n
  pub cells_differ : (i j : ℕ) → i < length (places_of w) → j < length (places_of w) → slice_index (places_of w) i ≡ slice_index (places_of w) j → i ≡ j

-- Rules in force on n cells, no cell with two givers, with their plan and the held ones.
pub record Planned {F : Type 0} (m : Calc F) (n : ℕ) (rows : List (Option SelectedWay)) (order held : List ℕ) : Type 0 where
  pub few_cells : n ≤ 64
  pub fit : (x : ℕ) (w : SelectedWay) → InForceBy rows x w → Fits m n w
  pub no_two_givers : NoTwoGivers (flows_of rows)
  pub plan : IsPlan (flows_of rows) order
  pub held_listed : held ≡ held_rules (flows_of rows) order

-- What a cell shows: its figure, or the cause of its blank.
pub data Shown (F : Type 0) : Type 0 where
  figure : F → Shown F
  blank : Cause → Shown F

abbrev pub shown_by : {F : Type 0} → Option Cause → F → Shown F
shown_by (Some why) x = blank why
shown_by None x = figure x

-- What cell c shows in a table; `start` stands past the table's end.
abbrev pub shows : {F : Type 0} → F → Table F → ℕ → Shown F
shows start t c = shown_by (cause_at t.blanks c) (slice_index_or t.figures c start)

abbrev pub answered : {F : Type 0} → Answer F → ℕ → Shown F
answered (gives figure_at) i = figure (figure_at i)
answered (faults n) i = blank (Faulted (record { number = n }))

-- What a way makes of the table for its output at place i: blank with cause 3 if an input is blank; otherwise what the calculator
-- answers on P and the inputs' figures, or blank with its fault.
abbrev pub made : {F : Type 0} → Calc F → SelectedWay → F → Table F → ℕ → Shown F
made m w p t i = if has_blank_input w t.blanks then blank InputBlank else answered (m.answer w.kind w.way p (input_figures m w.kind w.way t.figures (places_of w))) i

-- No rule in force gives the cell.
abbrev pub Free : List (Option SelectedWay) → ℕ → Type 0
Free rows c = (x i : ℕ) (w : SelectedWay) → InForceBy rows x w → Output w i c → ⊥

-- A table that is up to date: what holds of it alone.
pub record UpToDate {F : Type 0} (m : Calc F) (rows : List (Option SelectedWay)) (ps : List F) (order held : List ℕ) (after : Table F) : Type 0 where
  -- a cell that a planned rule gives shows what its way makes of the table as it now is
  pub planned : (x i c : ℕ) (w : SelectedWay) → is_on x order ≡ true → InForceBy rows x w → Output w i c → shows m.start after c ≡ made m w (slice_index_or ps x m.start) after i
  -- a cell that a held rule gives is blank with cause 1
  pub held_blank : (x i c : ℕ) (w : SelectedWay) → is_on x held ≡ true → InForceBy rows x w → Output w i c → cause_at after.blanks c ≡ Some GiverHeld
  -- a cell without a giver is not blank
  pub free_shown : (c : ℕ) → Free rows c → cause_at after.blanks c ≡ None

-- What an update keeps of the figures before it.
pub record Kept {F : Type 0} (rows : List (Option SelectedWay)) (before : List F) (after : Table F) : Type 0 where
  -- the entry of a cell without a giver is the one before
  pub free_kept : (c : ℕ) (d : F) → Free rows c → slice_index_or after.figures c d ≡ slice_index_or before c d
  -- and so is that of a blank cell
  pub blank_kept : (c : ℕ) (d : F) → is_blank after.blanks c ≡ true → slice_index_or after.figures c d ≡ slice_index_or before c d
  -- the table has the length that it had
  pub same_length : length after.figures ≡ length before

-- Every figure of the first n cells is taken.
abbrev pub AllTaken : {F : Type 0} → Calc F → ℕ → List F → Type 0
AllTaken m n figures = (c : ℕ) → c < n → m.takes (slice_index_or figures c m.start) ≡ true

-- The parameters of the planned rules are taken.
abbrev pub ParametersTaken : {F : Type 0} → Calc F → List F → List ℕ → Type 0
ParametersTaken m ps order = (x : ℕ) → is_on x order ≡ true → m.takes (slice_index_or ps x m.start) ≡ true

-- What holds after every update over a plan of rules on n cells, of a table that has them.
pub record UpdateLaws {F : Type 0} (m : Calc F) (n : ℕ) (rows : List (Option SelectedWay)) (ps : List F) (order held : List ℕ) (before : List F) (after : Table F) : Type 0 where
  pub up_to_date : UpToDate m rows ps order held after
  pub kept : Kept rows before after
  pub taken : ParametersTaken m ps order → AllTaken m n before → AllTaken m n after.figures

-- For every calculator of this sort of figure.
abbrev pub UpdateIsLawful : Type 0 → Type 0
UpdateIsLawful F = (m : Calc F) → CalcLaws m → (n : ℕ) (rows : List (Option SelectedWay)) (ps : List F) (order held : List ℕ) (before : List F) → Planned m n rows order held → n ≤ length before → UpdateLaws m n rows ps order held before (updated m rows ps order held before)
