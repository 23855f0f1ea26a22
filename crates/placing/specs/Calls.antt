-- The pass down, adding a rule to a board and removing one, as relations.
use Rattle.std.specs.Prelude.{◌≡◌, ℕ, zero, suc, ◌+◌, ◌-◌, ◌<◌, Bool, true, false, if◌then◌else◌, ◌||◌, List, [], ◌∷◌, Some, None, Option, ◌==◌, slice_set}
use Rattle.placing.specs.declared.rules.Rule.{Rule}
use Rattle.placing.specs.declared.rules.State.{State}
use Rattle.placing.specs.declared.rules.State.TheVariants.{Absent, Waiting, InForce}
use Rattle.placing.specs.Board.{state_of, is_waiting, is_in_force}
use Rattle.placing.specs.Search.{Places}

-- From rank k on, for n ranks: each rule that waits when it is reached is placed.
pub data Passes (rules : List Rule) (rank : ℕ → ℕ) : ℕ → ℕ → List State → List State → Type 0 where
  -- no rank is left
  end : {k : ℕ} {s : List State} → Passes rules rank k zero s s
  -- no rule of this rank waits
  skip : {k n : ℕ} {s t : List State} → ((x : ℕ) → x < 64 → rank x ≡ k → is_waiting (state_of s x) ≡ false) → Passes rules rank (suc k) n s t → Passes rules rank k (suc n) s t
  -- the rule of this rank waits and is placed, with success or without
  place : {k n x : ℕ} {o : Bool} {s u t : List State} → x < 64 → rank x ≡ k → is_waiting (state_of s x) ≡ true → Places rules s rank x o u → Passes rules rank (suc k) n u t → Passes rules rank k (suc n) s t

-- The pass down behind a rule.
abbrev pub PassesBehind : List Rule → (ℕ → ℕ) → ℕ → List State → List State → Type 0
PassesBehind rules rank r s t = Passes rules rank (suc (rank r)) (63 - rank r) s t

-- A rule is added as a waiting one and placed; on success the pass goes down behind it.
pub data Adds (rules : List Rule) (states : List State) (rank : ℕ → ℕ) (r : ℕ) (rule : Rule) : Bool → List State → Type 0 where
  waits : {s : List State} → Places (slice_set rules r rule) (slice_set states r Waiting) rank r false s → Adds rules states rank r rule false s
  comes : {s t : List State} → Places (slice_set rules r rule) (slice_set states r Waiting) rank r true s → PassesBehind (slice_set rules r rule) rank r s t → Adds rules states rank r rule true t

-- Behind a rule in force that is removed the pass goes down; a waiting one changes no other.
pub data Removes (rules : List Rule) (states : List State) (rank : ℕ → ℕ) (r : ℕ) : List State → Type 0 where
  waited : is_waiting (state_of states r) ≡ true → Removes rules states rank r (slice_set states r Absent)
  gave : {t : List State} → is_in_force (state_of states r) ≡ true → PassesBehind rules rank r (slice_set states r Absent) t → Removes rules states rank r t

abbrev pub same_state : State → State → Bool
same_state Absent Absent = true
same_state Absent Waiting = false
same_state Absent (InForce j) = false
same_state Waiting Absent = false
same_state Waiting Waiting = true
same_state Waiting (InForce j) = false
same_state (InForce i) Absent = false
same_state (InForce i) Waiting = false
same_state (InForce i) (InForce j) = i == j

-- Of the rules from x on, how many others than r are not what they were.
abbrev pub changed_from : ℕ → ℕ → List State → List State → ℕ
changed_from x r [] ts = 0
changed_from x r (s ∷ ss) [] = 0
changed_from x r (s ∷ ss) (t ∷ ts) = (if x == r || same_state s t then 0 else 1) + changed_from (suc x) r ss ts

-- The number of rules other than r whose way or waiting is different.
abbrev pub changed : ℕ → List State → List State → ℕ
changed r before after = changed_from 0 r before after

-- The waiting rule of a rank, or none.
abbrev pub WaitsAt : List State → (ℕ → ℕ) → ℕ → Option ℕ → Type 0
WaitsAt states rank k (Some x) = (x < 64) × (rank x ≡ k) × (is_waiting (state_of states x) ≡ true)
WaitsAt states rank k None = (x : ℕ) → x < 64 → rank x ≡ k → is_waiting (state_of states x) ≡ false
