-- What a board is, and the laws of placing.
use Rattle.std.specs.Prelude.{◌≡◌, ℕ, ◌<◌, Bool, true, false, List, length, ◌≢◌, slice_set}
use Rattle.ranks.specs.Numbers.{Distinct, Below64}
use Rattle.placing.specs.declared.rules.Rule.{Rule}
use Rattle.placing.specs.declared.rules.State.{State}
use Rattle.placing.specs.Board.{listed, state_of, is_standing, is_waiting, is_in_force, NoTwoGivers, SelectedListed, lawful_rule, LawfulRules}
use Rattle.placing.specs.Choice.{Choosable, WithBetter, Settled}
use Rattle.placing.specs.Search.{Places}
use Rattle.placing.specs.Calls.{Adds, Removes}

-- Sixty-four rules with lawful ways, no cell with two givers, each selected way listed.
pub record IsBoard (rules : List Rule) (states : List State) : Type 0 where
  pub rules_counted : length rules ≡ 64
  pub states_counted : length states ≡ 64
  pub lawful : LawfulRules rules
  pub no_two_givers : NoTwoGivers rules states
  pub selected_listed : SelectedListed rules states

-- What a placing that succeeds leaves.
pub record Placed (rules : List Rule) (states : List State) (rank : ℕ → ℕ) (r : ℕ) (after : List State) : Type 0 where
  -- it is a board: all outputs in force are apart, and each by a listed way
  pub board : IsBoard rules after
  -- the placed rule is in force
  pub in_force : is_in_force (state_of after r) ≡ true
  -- of the rules that rank before it none has come into force or gone out of it
  pub before : (x : ℕ) → rank x < rank r → is_in_force (state_of after x) ≡ is_in_force (state_of states x)
  -- no other rule has come into force
  pub none_came : (x : ℕ) → (x ≢ r) → is_in_force (state_of after x) ≡ true → is_in_force (state_of states x) ≡ true
  -- and the same rules stand
  pub standing : (x : ℕ) → is_standing (state_of after x) ≡ is_standing (state_of states x)

-- A placing has one answer. It succeeds exactly where there is a choice of one listed way each, without a shared output,
-- for the placed rule and the rules in force that rank before it; otherwise it changes nothing.
pub record PlacingLaws (rules : List Rule) (states : List State) (rank : ℕ → ℕ) (r : ℕ) : Type 0 where
  pub single : (a b : Bool) (s t : List State) → Places rules states rank r a s → Places rules states rank r b t → (a ≡ b) × (s ≡ t)
  pub sound : (after : List State) → Places rules states rank r true after → Placed rules states rank r after
  pub succeeds : (after : List State) → Places rules states rank r true after → Choosable rules (WithBetter states rank r)
  pub fails : (after : List State) → Places rules states rank r false after → Choosable rules (WithBetter states rank r) → ⊥
  pub unchanged : (after : List State) → Places rules states rank r false after → after ≡ states

-- The laws hold on every board, for every waiting rule and all ranks that are distinct.
abbrev pub PlacingIsLawful : Type 0
PlacingIsLawful = (rules : List Rule) (states : List State) (rank : ℕ → ℕ) (r : ℕ) → IsBoard rules states → Distinct rank → r < 64 → is_waiting (state_of states r) ≡ true → PlacingLaws rules states rank r

-- What a call does is one thing: from one start there is at most one answer, and one board after it.
pub record SingleCalls (rules : List Rule) (states : List State) (rank : ℕ → ℕ) (r : ℕ) : Type 0 where
  pub adds : (rule : Rule) (a b : Bool) (s t : List State) → Adds rules states rank r rule a s → Adds rules states rank r rule b t → (a ≡ b) × (s ≡ t)
  pub removes : (s t : List State) → Removes rules states rank r s → Removes rules states rank r t → s ≡ t

abbrev pub CallsAreSingle : Type 0
CallsAreSingle = (rules : List Rule) (states : List State) (rank : ℕ → ℕ) (r : ℕ) → Distinct rank → SingleCalls rules states rank r

-- Adding any rule to a settled board, and removing any rule from one, leaves a settled board.
pub record SettlingLaws (rules : List Rule) (states : List State) (rank : ℕ → ℕ) (r : ℕ) : Type 0 where
  pub adding : (rule : Rule) (in_force : Bool) (after : List State) → lawful_rule rule ≡ true → is_standing (state_of states r) ≡ false → Adds rules states rank r rule in_force after → IsBoard (slice_set rules r rule) after × Settled (slice_set rules r rule) after rank
  pub removing : (after : List State) → Removes rules states rank r after → IsBoard rules after × Settled rules after rank

abbrev pub CallsSettle : Type 0
CallsSettle = (rules : List Rule) (states : List State) (rank : ℕ → ℕ) (r : ℕ) → IsBoard rules states → Distinct rank → Below64 rank → r < 64 → Settled rules states rank → SettlingLaws rules states rank r

-- A board without standing rules is settled.
abbrev pub EmptyIsSettled : Type 0
EmptyIsSettled = (rules : List Rule) (states : List State) (rank : ℕ → ℕ) → ((x : ℕ) → is_standing (state_of states x) ≡ false) → Settled rules states rank

-- Two boards with the same standing rules, listing the same ways, whose ranks order these rules alike.
pub record Alike (rules : List Rule) (states : List State) (rank : ℕ → ℕ) (rules' : List Rule) (states' : List State) (rank' : ℕ → ℕ) : Type 0 where
  pub standing : (x : ℕ) → is_standing (state_of states x) ≡ is_standing (state_of states' x)
  pub same_ways : (x : ℕ) → is_standing (state_of states x) ≡ true → listed rules x ≡ listed rules' x
  pub order : (x y : ℕ) → is_standing (state_of states x) ≡ true → is_standing (state_of states y) ≡ true → rank x < rank y → rank' x < rank' y
  pub order_back : (x y : ℕ) → is_standing (state_of states x) ≡ true → is_standing (state_of states y) ≡ true → rank' x < rank' y → rank x < rank y

-- If both are settled, the same rules are in force on both.
abbrev pub OneResult : Type 0
OneResult = (rules : List Rule) (states : List State) (rank : ℕ → ℕ) (rules' : List Rule) (states' : List State) (rank' : ℕ → ℕ) → Alike rules states rank rules' states' rank' → Settled rules states rank → Settled rules' states' rank' → (x : ℕ) → is_in_force (state_of states x) ≡ is_in_force (state_of states' x)
