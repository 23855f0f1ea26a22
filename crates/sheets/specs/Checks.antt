-- The checks of each call, in rising order of their numbers.
use Rattle.std.specs.Prelude.{ℕ, suc, Bool, true, false, not, ◌&&◌, ◌||◌, List, [], ◌∷◌, length, take, Some, None, Option, nat_le, nat_lt, slice_get, slice_index_or, if◌then◌else◌}
use Rattle.std.specs.List.{list_all}
use Rattle.meaning.specs.Ranks.{Ranks}
use Rattle.meaning.specs.Calc.{Calc}
use Rattle.placing.specs.declared.rules.State.{State}
use Rattle.placing.specs.Board.{state_of, is_standing}
use Rattle.records.specs.declared.record.Record.{Record}
use Rattle.records.specs.declared.refusal.Refusal.{Refusal}
use Rattle.records.specs.declared.refusal.Refusal.TheVariants.{CellCount, Tables as BadTables, RuleNumber, Stands, NoSuchRule, Parameter, NoSuchCell}
use Rattle.records.specs.Checks.{record_refusal}
use Rattle.sheets.specs.Contents.{Contents, Tables}

-- The figure table has every cell of the sheet, and each of these figures is taken.
abbrev pub figures_fit : {F : Type 0} → Calc F → ℕ → List F → Bool
figures_fit m cells figures = nat_le cells (length figures) && list_all m.takes (take cells figures)

-- A test passes at each standing rule, the first being rule x.
abbrev pub standing_pass : (ℕ → Bool) → ℕ → List State → Bool
standing_pass test x [] = true
standing_pass test x (s ∷ states) = (not (is_standing s) || test x) && standing_pass test (suc x) states

-- The parameter table has 64 entries, and those of the standing rules are taken.
abbrev pub parameters_fit : {F : Type 0} → Calc F → List State → List F → Bool
parameters_fit m states parameters = nat_le 64 (length parameters) && standing_pass (λ x. m.takes (slice_index_or parameters x m.start)) 0 states

abbrev pub known_strength : {S : Type 0} → Ranks S → Option S → Bool
known_strength r (Some s) = r.known s
known_strength r None = false

-- The strength table has 64 entries, and those of the standing rules are known.
abbrev pub strengths_fit : {S : Type 0} → Ranks S → List State → List S → Bool
strengths_fit r states strengths = nat_le 64 (length strengths) && standing_pass (λ x. known_strength r (slice_get strengths x)) 0 states

abbrev pub tables_fit : {S F : Type 0} → Ranks S → Calc F → Contents → Tables S F → Bool
tables_fit r m s t = figures_fit m s.cells t.figures && (parameters_fit m s.states t.parameters && strengths_fit r s.states t.strengths)

-- A refusal where a test fails, otherwise what the later checks say.
abbrev pub unless : Bool → Refusal → Option Refusal → Option Refusal
unless passed why later = if passed then later else Some why

abbrev pub open_refusal : {F : Type 0} → ℕ → List F → Option Refusal
open_refusal cells figures = unless (nat_le 1 cells && nat_le cells 64) CellCount (unless (nat_le cells (length figures)) BadTables None)

abbrev pub add_refusal : {S F : Type 0} → Ranks S → Calc F → Contents → Tables S F → Record S F → Option Refusal
add_refusal r m s t rec =
    unless (tables_fit r m s t) BadTables (unless (nat_lt rec.number 64) RuleNumber (unless (not (is_standing (state_of s.states rec.number))) Stands (record_refusal r m s.cells rec)))

abbrev pub remove_refusal : {S F : Type 0} → Ranks S → Calc F → Contents → Tables S F → ℕ → Option Refusal
remove_refusal r m s t x = unless (tables_fit r m s t) BadTables (unless (nat_lt x 64) RuleNumber (unless (is_standing (state_of s.states x)) NoSuchRule None))

-- An entry takes the figures and the parameters.
abbrev pub enter_refusal : {F : Type 0} → Calc F → Contents → List F → List F → ℕ → F → Option Refusal
enter_refusal m s figures parameters x p =
    unless (figures_fit m s.cells figures && parameters_fit m s.states parameters) BadTables (unless (nat_lt x 64) RuleNumber (unless (is_standing (state_of s.states x)) NoSuchRule (unless (m.takes p) Parameter None)))

abbrev pub rule_refusal : ℕ → Option Refusal
rule_refusal x = unless (nat_lt x 64) RuleNumber None

abbrev pub cell_refusal : {F : Type 0} → Calc F → ℕ → List F → ℕ → Option Refusal
cell_refusal m cells figures c = unless (figures_fit m cells figures) BadTables (unless (nat_lt c cells) NoSuchCell None)

-- A list to be filled has 64 entries at least.
abbrev pub list_refusal : ℕ → Option Refusal
list_refusal n = unless (nat_le 64 n) BadTables None
