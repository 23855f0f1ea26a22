-- A run: an accepted opening, and calls, each finding what the ones before left.
use Rattle.std.specs.Prelude.{◌≡◌, ℕ, false, List, [], ◌∷◌, ◌++◌, length, drop, replicate, None}
use Rattle.meaning.specs.Ranks.{Ranks}
use Rattle.meaning.specs.Calc.{Calc}
use Rattle.sheets.specs.Contents.{Tables, blank_sheet}
use Rattle.sheets.specs.Checks.{open_refusal}
use Rattle.runs.specs.declared.calls.Call.{Call}
use Rattle.runs.specs.declared.calls.Call.TheVariants.{Add, Remove, Enter, Freeze, Release}
use Rattle.runs.specs.Steps.{World, Answer, Step}

-- A call with its answer.
pub record Entry (S F : Type 0) : Type 0 where
  pub call : Call S F
  pub answer : Answer

-- A record has room for six places and four ways, as its type in the code has it.
abbrev pub Formed : {S F : Type 0} → Call S F → Type 0
Formed (Add rec) = (length rec.places ≡ 6) × (length rec.ways ≡ 4)
Formed (Remove x) = Unit {0}
Formed (Enter x p) = Unit {0}
Formed Freeze = Unit {0}
Formed Release = Unit {0}

-- The world that an accepted opening of so many cells leaves, over some tables.
abbrev pub opened_world : {S F : Type 0} → Calc F → ℕ → Tables S F → World S F
opened_world m cells t = record {
  contents = blank_sheet cells;
  tables = record { figures = replicate cells m.start ++ drop cells t.figures; parameters = t.parameters; strengths = t.strengths };
  frozen = false;
}

-- The runs that start from an opening of so many cells over some tables: the calls with their answers, oldest first, and the
-- world that they end in. A refused call is a step that changes nothing.
pub data Run {S F : Type 0} (r : Ranks S) (m : Calc F) (cells : ℕ) (t : Tables S F) : List (Entry S F) → World S F → Type 0 where
  opened : open_refusal cells t.figures ≡ None → Run r m cells t [] (opened_world m cells t)
  called : {history : List (Entry S F)} {w w' : World S F} (call : Call S F) (answer : Answer) → Run r m cells t history w → Formed call → Step r m call w answer w' → Run r m cells t (history ++ record { call = call; answer = answer } ∷ []) w'
