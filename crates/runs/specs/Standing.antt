-- Which rules stand, with which records, strengths and parameters: read from the accepted calls of a history.
use Rattle.std.specs.Prelude.{◌≡◌, ℕ, Bool, List, [], ◌∷◌, map, Some, None, Option, ◌==◌, if◌then◌else◌, is_ok}
use Rattle.std.specs.List.{range_with_len}
use Rattle.meaning.specs.Ranks.{Ranks}
use Rattle.meaning.specs.Calc.{Calc}
use Rattle.ranks.specs.RankOrder.{precedes}
use Rattle.placing.specs.declared.rules.Rule.{Rule}
use Rattle.placing.specs.Board.{empty_rule}
use Rattle.records.specs.declared.record.Record.{Record}
use Rattle.records.specs.Records.{places_in, ways_in}
use Rattle.records.specs.Making.{rule_of}
use Rattle.runs.specs.declared.calls.Call.{Call}
use Rattle.runs.specs.declared.calls.Call.TheVariants.{Add, Remove, Enter, Freeze, Release}
use Rattle.runs.specs.Steps.{Answer}
use Rattle.runs.specs.Runs.{Entry}

-- By rule number the record of a standing rule, with its strength and its latest parameter.
abbrev pub Standing : Type 0 → Type 0 → Type 0
Standing S F = ℕ → Option (Record S F)

abbrev pub accepted : Answer → Bool
accepted answer = is_ok answer

-- A record with another parameter.
abbrev pub with_parameter : {S F : Type 0} → F → Option (Record S F) → Option (Record S F)
with_parameter p (Some rec) = Some (record {
  number = rec.number;
  kind = rec.kind;
  places = rec.places;
  place_count = rec.place_count;
  ways = rec.ways;
  way_count = rec.way_count;
  strength = rec.strength;
  parameter = p;
})
with_parameter p None = None

-- One entry written.
abbrev pub noted : {S F : Type 0} → ℕ → Option (Record S F) → Standing S F → Standing S F
noted n entry standing x = if x == n then entry else standing x

-- What an accepted call makes of the standing rules.
abbrev pub call_makes : {S F : Type 0} → Call S F → Standing S F → Standing S F
call_makes (Add rec) standing = noted rec.number (Some rec) standing
call_makes (Remove n) standing = noted n None standing
call_makes (Enter n p) standing = noted n (with_parameter p (standing n)) standing
call_makes Freeze standing = standing
call_makes Release standing = standing

abbrev pub entry_makes : {S F : Type 0} → Entry S F → Standing S F → Standing S F
entry_makes e standing x = if accepted e.answer then call_makes e.call standing x else standing x

-- The standing rules behind a history, from those before it.
abbrev pub standing_from : {S F : Type 0} → List (Entry S F) → Standing S F → Standing S F
standing_from [] standing = standing
standing_from (e ∷ history) standing = standing_from history (entry_makes e standing)

abbrev pub standing_by : {S F : Type 0} → List (Entry S F) → Standing S F
standing_by history = standing_from history (λ x. None)

-- The listed ways of the standing rules, as the calculator fixes their outputs.
abbrev pub rule_by : {S F : Type 0} → Calc F → Option (Record S F) → Rule
rule_by m (Some rec) = rule_of m rec
rule_by m None = empty_rule

unfoldable pub rules_by : {S F : Type 0} → Calc F → Standing S F → List Rule
rules_by m standing = map (λ x. rule_by m (standing x)) (range_with_len 0 64)

abbrev pub strength_by : {S F : Type 0} → Option (Record S F) → Option S
strength_by (Some rec) = Some rec.strength
strength_by None = None

-- Rule x ranks before rule y: its strength is before, or is level and x is the lower number.
abbrev pub ranks_before_by : {S F : Type 0} → Ranks S → Standing S F → ℕ → ℕ → Bool
ranks_before_by r standing x y = precedes r (strength_by (standing x)) x (strength_by (standing y)) y

-- The same rule with the same strength; the parameters may differ.
abbrev pub SameRule : {S F : Type 0} → Option (Record S F) → Option (Record S F) → Type 0
SameRule None None = Unit {0}
SameRule None (Some b) = ⊥
SameRule (Some a) None = ⊥
SameRule (Some a) (Some b) = (a.kind ≡ b.kind) × (places_in a ≡ places_in b) × (ways_in a ≡ ways_in b) × (a.strength ≡ b.strength)

abbrev pub SameRules : {S F : Type 0} → Standing S F → Standing S F → Type 0
SameRules a b = (x : ℕ) → SameRule (a x) (b x)
