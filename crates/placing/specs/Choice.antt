-- A choice of one listed way for each rule of a set, without a shared output; and boards settled by it.
use Rattle.std.specs.Prelude.{◌≡◌, ℕ, ◌<◌, true, ◌⊎◌, List, length, ◌≢◌}
use Rattle.placing.specs.declared.rules.Rule.{Rule}
use Rattle.placing.specs.declared.rules.State.{State}
use Rattle.placing.specs.Board.{listed, way_mask, state_of, is_in_force, is_waiting, Apart}

-- For each rule of the set the index of a listed way, and no two of these ways share an output.
pub record Choice (rules : List Rule) (InSet : ℕ → Type 0) (pick : ℕ → ℕ) : Type 0 where
  pub on_list : (x : ℕ) → InSet x → pick x < length (listed rules x)
  pub no_shared : (x y : ℕ) → InSet x → InSet y → (x ≢ y) → Apart (way_mask rules x (pick x)) (way_mask rules y (pick y))

-- There is such a choice.
abbrev pub Choosable : List Rule → (ℕ → Type 0) → Type 0
Choosable rules InSet = (pick : ℕ → ℕ) × Choice rules InSet pick

-- A rule, and the rules in force that rank before it.
abbrev pub WithBetter : List State → (ℕ → ℕ) → ℕ → ℕ → Type 0
WithBetter states rank r x = (x ≡ r) ⊎ ((is_in_force (state_of states x) ≡ true) × (rank x < rank r))

-- A standing rule waits exactly when it and the rules in force that rank before it have no such choice.
pub record SettledAt (rules : List Rule) (states : List State) (rank : ℕ → ℕ) (x : ℕ) : Type 0 where
  pub none : is_waiting (state_of states x) ≡ true → Choosable rules (WithBetter states rank x) → ⊥
  pub some : is_in_force (state_of states x) ≡ true → Choosable rules (WithBetter states rank x)

abbrev pub Settled : List Rule → List State → (ℕ → ℕ) → Type 0
Settled rules states rank = (x : ℕ) → SettledAt rules states rank x
