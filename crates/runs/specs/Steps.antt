-- What one call of a run does.
use Rattle.std.specs.Prelude.{◌≡◌, ℕ, Bool, true, false, Ok, Err, Result}
use Rattle.meaning.specs.Ranks.{Ranks}
use Rattle.meaning.specs.Calc.{Calc}
use Rattle.placing.specs.declared.board.Added.{Added}
use Rattle.records.specs.declared.refusal.Refusal.{Refusal}
use Rattle.sheets.specs.Contents.{Contents, Tables}
use Rattle.sheets.specs.Calls.{AddsTo, RemovesFrom, EntersIn}
use Rattle.runs.specs.declared.calls.Call.{Call}
use Rattle.runs.specs.declared.calls.Call.TheVariants.{Add, Remove, Enter, Freeze, Release}
use Rattle.runs.specs.declared.calls.Done.{Done}
use Rattle.runs.specs.declared.calls.Done.TheVariants.{Added as WasAdded, Removed, Accepted, Frozen, Released}

-- A sheet with its three tables, open or frozen.
pub record World (S F : Type 0) : Type 0 where
  pub contents : Contents
  pub tables : Tables S F
  pub frozen : Bool

-- The answer to a call: what was done, or why nothing was.
abbrev pub Answer : Type 0
Answer = Result Done Refusal

abbrev pub add_answer : Result Added Refusal → Answer
add_answer (Ok added) = Ok (WasAdded added)
add_answer (Err why) = Err why

abbrev pub remove_answer : Result ℕ Refusal → Answer
remove_answer (Ok count) = Ok (Removed count)
remove_answer (Err why) = Err why

abbrev pub enter_answer : Result (Unit {0}) Refusal → Answer
enter_answer (Ok done) = Ok Accepted
enter_answer (Err why) = Err why

-- What a call does, from one world to the next. While the sheet is frozen, only entries and a release come.
abbrev pub Step : {S F : Type 0} → Ranks S → Calc F → Call S F → World S F → Answer → World S F → Type 0
Step r m (Add rec) w a w' =
    (w.frozen ≡ false) × (w'.frozen ≡ false) × ((o : Result Added Refusal) × (a ≡ add_answer o) × AddsTo r m rec w.contents w.tables o w'.contents w'.tables)
Step r m (Remove x) w a w' =
    (w.frozen ≡ false) × (w'.frozen ≡ false) × ((o : Result ℕ Refusal) × (a ≡ remove_answer o) × RemovesFrom r m x w.contents w.tables o w'.contents w'.tables)
Step r m (Enter x p) w a w' =
    (w'.frozen ≡ w.frozen) × (w'.tables.strengths ≡ w.tables.strengths) × ((o : Result (Unit {0}) Refusal) × (a ≡ enter_answer o) × EntersIn m x p w.contents w.tables.figures w.tables.parameters o w'.contents w'.tables.figures w'.tables.parameters)
Step r m Freeze w a w' = (w.frozen ≡ false) × (w'.frozen ≡ true) × (a ≡ Ok Frozen) × (w'.contents ≡ w.contents) × (w'.tables ≡ w.tables)
Step r m Release w a w' = (w.frozen ≡ true) × (w'.frozen ≡ false) × (a ≡ Ok Released) × (w'.contents ≡ w.contents) × (w'.tables ≡ w.tables)
