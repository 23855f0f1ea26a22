-- The number of each refusal.
use Rattle.std.specs.Prelude.{◌≡◌, ℕ, Some, None, Ok, Err, Option, Result}
use Rattle.records.specs.declared.refusal.Refusal.{Refusal}
use Rattle.records.specs.declared.refusal.Refusal.TheVariants.{CellCount, Tables, RuleNumber, Stands, NoSuchRule, Kind, PlaceCount, MissingCell, RepeatedCell, Ways, Strength, Parameter, NoSuchCell}

abbrev pub refusal_number : Refusal → ℕ
refusal_number CellCount = 1
refusal_number Tables = 2
refusal_number RuleNumber = 3
refusal_number Stands = 4
refusal_number NoSuchRule = 5
refusal_number Kind = 6
refusal_number PlaceCount = 7
refusal_number MissingCell = 8
refusal_number RepeatedCell = 9
refusal_number Ways = 10
refusal_number Strength = 11
refusal_number Parameter = 12
refusal_number NoSuchCell = 20

-- A check's result: accepted where there is no refusal, otherwise the refusal itself.
abbrev pub Says : {X : Type 0} → Option Refusal → Result X Refusal → Type 0
Says refusal (Ok x) = refusal ≡ None
Says refusal (Err why) = refusal ≡ Some why
