-- What the calls on a board answer: each refusal with its place in the order of the checks, and what an accepted call does.
use Rattle.std.specs.Prelude.{◌≡◌, ℕ, Bool, if◌then◌else◌, ◌&&◌, List, Some, None, Ok, Err, Option, Result, nat_le, nat_lt, slice_set}
use Rattle.placing.specs.declared.rules.Rule.{Rule}
use Rattle.placing.specs.declared.rules.State.{State}
use Rattle.placing.specs.declared.board.Added.{Added}
use Rattle.placing.specs.declared.board.Refused.{Refused}
use Rattle.placing.specs.declared.board.Refused.TheVariants.{Number, Stands, Absent, Ways}
use Rattle.placing.specs.Board.{state_of, is_standing, lawful_rule}
use Rattle.placing.specs.Calls.{Adds, Removes, changed}

-- A rule that can be put on a board: it lists a way, and its ways are lawful.
abbrev pub is_rule : Rule → Bool
is_rule rule = nat_lt 0 rule.count && lawful_rule rule

-- Why an addition is refused, if it is.
abbrev pub add_refusal : List State → ℕ → Rule → Option Refused
add_refusal states r rule = if nat_le 64 r then Some Number else (if is_standing (state_of states r) then Some Stands else (if is_rule rule then None else Some Ways))

abbrev pub remove_refusal : List State → ℕ → Option Refused
remove_refusal states r = if nat_le 64 r then Some Number else (if is_standing (state_of states r) then None else Some Absent)

-- An addition: a refusal changes nothing; an accepted one answers whether the rule is in force, and the number of other
-- rules whose way or waiting is different at the end.
abbrev pub AddsTo : List Rule → List State → (ℕ → ℕ) → ℕ → Rule → Result Added Refused → List Rule → List State → Type 0
AddsTo rules states rank r rule (Err why) rules' states' = (add_refusal states r rule ≡ Some why) × (rules' ≡ rules) × (states' ≡ states)
AddsTo rules states rank r rule (Ok added) rules' states' = (add_refusal states r rule ≡ None) × (rules' ≡ slice_set rules r rule) × Adds rules states rank r rule added.in_force states' × (added.changed ≡ changed r states states')

-- A removal: a refusal changes nothing; an accepted one answers that number.
abbrev pub RemovesFrom : List Rule → List State → (ℕ → ℕ) → ℕ → Result ℕ Refused → List Rule → List State → Type 0
RemovesFrom rules states rank r (Err why) rules' states' = (remove_refusal states r ≡ Some why) × (rules' ≡ rules) × (states' ≡ states)
RemovesFrom rules states rank r (Ok count) rules' states' = (remove_refusal states r ≡ None) × (rules' ≡ rules) × Removes rules states rank r states' × (count ≡ changed r states states')
