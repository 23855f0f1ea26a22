-- The plan of the rules in force, and the rules that are held.
use Rattle.std.specs.Prelude.{◌≡◌, ℕ, ◌<◌, Bool, true, false, not, ◌&&◌, List, [], ◌∷◌, ◌++◌, Option, filter}
use Rattle.std.specs.List.{range_with_len}
use Rattle.meaning.specs.Lists.{is_on}
use Rattle.planning.specs.declared.flows.Flow.{Flow}
use Rattle.planning.specs.Flows.{rule_in_force, Feeds}

-- A rule can be planned next: it is in force, not yet planned, and each giver of an input is planned. So each input has
-- a planned giver or no giver.
pub record Ready (rows : List (Option Flow)) (planned : List ℕ) (y : ℕ) : Type 0 where
  pub in_force : rule_in_force rows y ≡ true
  pub unplanned : is_on y planned ≡ false
  pub supplied : (x : ℕ) → Feeds rows x y → is_on x planned ≡ true

-- How the plan goes on behind the planned rules: again and again by the lowest-numbered rule that is ready.
pub data GoesOn (rows : List (Option Flow)) : List ℕ → List ℕ → Type 0 where
  -- no rule is ready
  ends : {planned : List ℕ} → ((y : ℕ) → Ready rows planned y → ⊥) → GoesOn rows planned []
  -- this rule is ready, and no lower one
  next : {planned rest : List ℕ} {y : ℕ} → Ready rows planned y → ((z : ℕ) → z < y → Ready rows planned z → ⊥) → GoesOn rows (planned ++ y ∷ []) rest → GoesOn rows planned (y ∷ rest)

abbrev pub IsPlan : List (Option Flow) → List ℕ → Type 0
IsPlan rows plan = GoesOn rows [] plan

-- The rules that pass a test, by rising number.
unfoldable pub rules_where : (ℕ → Bool) → List ℕ
rules_where test = filter test (range_with_len 0 64)

-- A rule in force that the plan leaves over is held.
abbrev pub is_held : List (Option Flow) → List ℕ → ℕ → Bool
is_held rows plan x = rule_in_force rows x && not (is_on x plan)

-- The held rules, by rising number.
abbrev pub held_rules : List (Option Flow) → List ℕ → List ℕ
held_rules rows plan = rules_where (is_held rows plan)
