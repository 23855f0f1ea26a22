-- What each call does: the answer, and what the sheet and the caller's tables hold after it. A refusal changes nothing.
use Rattle.std.specs.Prelude.{◌≡◌, ℕ, List, ◌++◌, drop, replicate, Some, None, Ok, Err, Result, slice_set}
use Rattle.meaning.specs.Ranks.{Ranks}
use Rattle.meaning.specs.Calc.{Calc}
use Rattle.placing.specs.declared.board.Added.{Added}
use Rattle.placing.specs.declared.rules.State.TheVariants.{Waiting}
use Rattle.placing.specs.Calls.{Adds, Removes, changed}
use Rattle.records.specs.declared.record.Record.{Record}
use Rattle.records.specs.declared.refusal.Refusal.{Refusal}
use Rattle.records.specs.Records.{row_of}
use Rattle.records.specs.Making.{rule_of}
use Rattle.sheets.specs.Contents.{Contents, Tables, blank_sheet, rank_on}
use Rattle.sheets.specs.Checks.{open_refusal, add_refusal, remove_refusal, enter_refusal}
use Rattle.sheets.specs.Refreshing.{Refreshed}

-- Opening gives a sheet without rules, and each of its cells the starting figure.
abbrev pub Opens : {F : Type 0} → Calc F → ℕ → Contents → List F → Result (Unit {0}) Refusal → Contents → List F → Type 0
Opens m cells s figures (Err why) s' figures' = (open_refusal cells figures ≡ Some why) × (s' ≡ s) × (figures' ≡ figures)
Opens m cells s figures (Ok done) s' figures' = (open_refusal cells figures ≡ None) × (s' ≡ blank_sheet cells) × (figures' ≡ replicate cells m.start ++ drop cells figures)

-- An accepted addition: strength and parameter go into the tables, the rule is put on the sheet and placed, and on success the
-- pass goes down behind it; the ranks are those with the new rule. Then the figures are brought up to date.
pub record AddsRule {S F : Type 0} (r : Ranks S) (m : Calc F) (rec : Record S F) (s : Contents) (t : Tables S F) (answer : Added) (s' : Contents) (t' : Tables S F) : Type 0 where
  pub cells : s'.cells ≡ s.cells
  pub rows : s'.rows ≡ slice_set s.rows rec.number (row_of rec)
  pub rules : s'.rules ≡ slice_set s.rules rec.number (rule_of m rec)
  pub strengths : t'.strengths ≡ slice_set t.strengths rec.number rec.strength
  pub parameters : t'.parameters ≡ slice_set t.parameters rec.number rec.parameter
  pub placed : Adds s.rules s.states (rank_on r t'.strengths (slice_set s.states rec.number Waiting)) rec.number (rule_of m rec) answer.in_force s'.states
  pub counted : answer.changed ≡ changed rec.number s.states s'.states
  pub refreshed : Refreshed m s' t'.parameters t.figures (record { figures = t'.figures; blanks = s'.causes })

abbrev pub AddsTo : {S F : Type 0} → Ranks S → Calc F → Record S F → Contents → Tables S F → Result Added Refusal → Contents → Tables S F → Type 0
AddsTo r m rec s t (Err why) s' t' = (add_refusal r m s t rec ≡ Some why) × (s' ≡ s) × (t' ≡ t)
AddsTo r m rec s t (Ok answer) s' t' = (add_refusal r m s t rec ≡ None) × AddsRule r m rec s t answer s' t'

-- An accepted removal: behind a rule in force the pass goes down, a waiting one changes no other. The tables keep its entries.
pub record RemovesRule {S F : Type 0} (r : Ranks S) (m : Calc F) (x : ℕ) (s : Contents) (t : Tables S F) (count : ℕ) (s' : Contents) (t' : Tables S F) : Type 0 where
  pub cells : s'.cells ≡ s.cells
  pub rows : s'.rows ≡ s.rows
  pub rules : s'.rules ≡ s.rules
  pub strengths : t'.strengths ≡ t.strengths
  pub parameters : t'.parameters ≡ t.parameters
  pub removed : Removes s.rules s.states (rank_on r t.strengths s.states) x s'.states
  pub counted : count ≡ changed x s.states s'.states
  pub refreshed : Refreshed m s' t'.parameters t.figures (record { figures = t'.figures; blanks = s'.causes })

abbrev pub RemovesFrom : {S F : Type 0} → Ranks S → Calc F → ℕ → Contents → Tables S F → Result ℕ Refusal → Contents → Tables S F → Type 0
RemovesFrom r m x s t (Err why) s' t' = (remove_refusal r m s t x ≡ Some why) × (s' ≡ s) × (t' ≡ t)
RemovesFrom r m x s t (Ok count) s' t' = (remove_refusal r m s t x ≡ None) × RemovesRule r m x s t count s' t'

-- An accepted entry: the rule's parameter is replaced, and no rule's state changes.
pub record EntersParameter {F : Type 0} (m : Calc F) (x : ℕ) (p : F) (s : Contents) (fs ps : List F) (s' : Contents) (fs' ps' : List F) : Type 0 where
  pub cells : s'.cells ≡ s.cells
  pub rows : s'.rows ≡ s.rows
  pub rules : s'.rules ≡ s.rules
  pub states : s'.states ≡ s.states
  pub parameters : ps' ≡ slice_set ps x p
  pub refreshed : Refreshed m s' ps' fs (record { figures = fs'; blanks = s'.causes })

abbrev pub EntersIn : {F : Type 0} → Calc F → ℕ → F → Contents → List F → List F → Result (Unit {0}) Refusal → Contents → List F → List F → Type 0
EntersIn m x p s figures parameters (Err why) s' figures' parameters' = (enter_refusal m s figures parameters x p ≡ Some why) × (s' ≡ s) × (figures' ≡ figures) × (parameters' ≡ parameters)
EntersIn m x p s figures parameters (Ok done) s' figures' parameters' = (enter_refusal m s figures parameters x p ≡ None) × EntersParameter m x p s figures parameters s' figures' parameters'
