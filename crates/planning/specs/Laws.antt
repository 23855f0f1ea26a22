-- The laws of the plan.
use Rattle.std.specs.Prelude.{◌≡◌, ℕ, ◌<◌, true, false, ◌⊎◌, List, length, take, Option, ◌≢◌, slice_index}
use Rattle.meaning.specs.Lists.{is_on}
use Rattle.planning.specs.declared.flows.Flow.{Flow}
use Rattle.planning.specs.Flows.{rule_in_force, Gives, Reads, Feeds, NoTwoGivers}
use Rattle.planning.specs.Plan.{Ready, IsPlan, held_rules}
use Rattle.planning.specs.Rings.{OnOrFed}

-- What every plan is.
pub record PlanLaws (rows : List (Option Flow)) (plan : List ℕ) : Type 0 where
  -- only rules in force are on it
  pub only_in_force : (x : ℕ) → is_on x plan ≡ true → rule_in_force rows x ≡ true
  -- each at most once
  pub once : (i j : ℕ) → i < j → j < length plan → slice_index plan i ≢ slice_index plan j
  -- each after the givers of its inputs
  pub after_givers : (i x : ℕ) → i < length plan → Feeds rows x (slice_index plan i) → is_on x (take i plan) ≡ true
  -- a rule in force that is left out lies on a ring or is fed from one
  pub left_out : (x : ℕ) → rule_in_force rows x ≡ true → is_on x plan ≡ false → OnOrFed rows x
  -- and a rule that lies on a ring or is fed from one is left out
  pub ring_out : (x : ℕ) → OnOrFed rows x → is_on x plan ≡ false

abbrev pub PlansAreLawful : Type 0
PlansAreLawful = (rows : List (Option Flow)) (plan : List ℕ) → IsPlan rows plan → PlanLaws rows plan

-- The rules in force have one plan.
abbrev pub PlansAreSingle : Type 0
PlansAreSingle = (rows : List (Option Flow)) (plan plan' : List ℕ) → IsPlan rows plan → IsPlan rows plan' → plan ≡ plan'

-- The held rules are those on a ring or fed from one.
pub record HeldLaws (rows : List (Option Flow)) (plan : List ℕ) : Type 0 where
  pub held_ring : (x : ℕ) → is_on x (held_rules rows plan) ≡ true → OnOrFed rows x
  pub ring_held : (x : ℕ) → x < 64 → OnOrFed rows x → is_on x (held_rules rows plan) ≡ true
  -- each stands on the list once, the lower number first
  pub rising : (i j : ℕ) → i < j → j < length (held_rules rows plan) → slice_index (held_rules rows plan) i < slice_index (held_rules rows plan) j

abbrev pub HeldAreRings : Type 0
HeldAreRings = (rows : List (Option Flow)) (plan : List ℕ) → IsPlan rows plan → HeldLaws rows plan

-- A cell has a planned giver, or no giver.
abbrev pub Supplied : List (Option Flow) → List ℕ → ℕ → Type 0
Supplied rows planned c = ((x : ℕ) × (is_on x planned ≡ true) × Gives rows x c) ⊎ ((x : ℕ) → Gives rows x c → ⊥)

-- A rule in force, not yet planned, whose every input has a planned giver or no giver.
pub record ReadyByCells (rows : List (Option Flow)) (planned : List ℕ) (y : ℕ) : Type 0 where
  pub in_force : rule_in_force rows y ≡ true
  pub unplanned : is_on y planned ≡ false
  pub supplied : (c : ℕ) → Reads rows y c → Supplied rows planned c

-- Where no cell has two givers, such a rule is ready, and no other.
pub record ReadyLaws (rows : List (Option Flow)) (planned : List ℕ) (y : ℕ) : Type 0 where
  pub by_cells : Ready rows planned y → ReadyByCells rows planned y
  pub by_rules : NoTwoGivers rows → ReadyByCells rows planned y → Ready rows planned y

abbrev pub ReadyIsByCells : Type 0
ReadyIsByCells = (rows : List (Option Flow)) (planned : List ℕ) (y : ℕ) → ReadyLaws rows planned y
