-- The rules of a board, their listed ways and outputs, and who gives which cells.
use Rattle.std.specs.Prelude.{◌≡◌, ℕ, suc, ◌^◌, Bool, true, false, if◌then◌else◌, ◌&&◌, List, [], ◌∷◌, length, take, Some, None, Option, ◌==◌, ◌≢◌, bit_and, bit_or, nat_le, nat_lt, slice_index_or}
use Rattle.std.specs.List.{list_all}
use Rattle.placing.specs.declared.rules.Way.{Way}
use Rattle.placing.specs.declared.rules.Rule.{Rule}
use Rattle.placing.specs.declared.rules.State.{State}
use Rattle.placing.specs.declared.rules.State.TheVariants.{Absent, Waiting, InForce}

-- What lists of ways and of rules read as past their ends.
abbrev pub no_way : Way
no_way = record { number = 0; outputs = 0 ∷ 0 ∷ 0 ∷ 0 ∷ 0 ∷ 0 ∷ []; count = 0; mask = 0 }

abbrev pub no_rule : Rule
no_rule = record { ways = []; count = 0 }

-- The outputs of a way, in place order.
abbrev pub cells_of : Way → List ℕ
cells_of way = take way.count way.outputs

-- The listed ways of a rule, in their order.
abbrev pub ways_of : Rule → List Way
ways_of rule = take rule.count rule.ways

abbrev pub listed : List Rule → ℕ → List Way
listed rules x = ways_of (slice_index_or rules x no_rule)

-- The outputs of the listed way at an index, as a mask.
abbrev pub way_mask : List Rule → ℕ → ℕ → ℕ
way_mask rules x i = (slice_index_or (listed rules x) i no_way).mask

abbrev pub state_of : List State → ℕ → State
state_of states x = slice_index_or states x Absent

abbrev pub is_standing : State → Bool
is_standing Absent = false
is_standing Waiting = true
is_standing (InForce i) = true

abbrev pub is_waiting : State → Bool
is_waiting Absent = false
is_waiting Waiting = true
is_waiting (InForce i) = false

abbrev pub is_in_force : State → Bool
is_in_force Absent = false
is_in_force Waiting = false
is_in_force (InForce i) = true

-- The cells that a rule in a state gives: the outputs of its way if it is in force, else none.
abbrev pub given : Rule → State → ℕ
given rule Absent = 0
given rule Waiting = 0
given rule (InForce i) = (slice_index_or (ways_of rule) i no_way).mask

abbrev pub given_by : List Rule → ℕ → State → ℕ
given_by rules x state = given (slice_index_or rules x no_rule) state

-- The cells that a rule of the board gives.
abbrev pub gives : List Rule → List State → ℕ → ℕ
gives rules states x = given_by rules x (state_of states x)

-- The way by which a rule is in force, if it is.
abbrev pub way_by : Rule → State → Option Way
way_by rule Absent = None
way_by rule Waiting = None
way_by rule (InForce i) = Some (slice_index_or (ways_of rule) i no_way)

-- A rule that lists no way.
abbrev pub empty_rule : Rule
empty_rule = record { ways = no_way ∷ no_way ∷ no_way ∷ no_way ∷ []; count = 0 }

-- Two sets of cells share none.
abbrev pub Apart : ℕ → ℕ → Type 0
Apart m n = bit_and m n ≡ 0

-- No cell has two givers.
abbrev pub NoTwoGivers : List Rule → List State → Type 0
NoTwoGivers rules states = (x y : ℕ) → (x ≢ y) → Apart (gives rules states x) (gives rules states y)

-- A selected way is on its rule's list.
abbrev pub listed_by : List Rule → ℕ → State → Bool
listed_by rules x Absent = true
listed_by rules x Waiting = true
listed_by rules x (InForce i) = nat_lt i (length (listed rules x))

abbrev pub SelectedListed : List Rule → List State → Type 0
SelectedListed rules states = (x : ℕ) → listed_by rules x (state_of states x) ≡ true

-- The set of a list of cells.
abbrev pub mask_of : List ℕ → ℕ
mask_of [] = 0
mask_of (c ∷ cs) = bit_or (2 ^ c) (mask_of cs)

-- At most 6 outputs, each a cell below 64, and the mask is theirs.
abbrev pub lawful_way : Way → Bool
lawful_way way = nat_le way.count 6 && (list_all (λ c. nat_lt c 64) (cells_of way) && way.mask == mask_of (cells_of way))

-- At most 4 ways, each lawful.
abbrev pub lawful_rule : Rule → Bool
lawful_rule rule = nat_le rule.count 4 && list_all lawful_way (ways_of rule)

abbrev pub LawfulRules : List Rule → Type 0
LawfulRules rules = (x : ℕ) → lawful_rule (slice_index_or rules x no_rule) ≡ true

-- The rules that stand, among those from x on, as a mask.
abbrev pub standing_from : ℕ → List State → ℕ
standing_from x [] = 0
standing_from x (s ∷ states) = bit_or (if is_standing s then 2 ^ x else 0) (standing_from (suc x) states)

abbrev pub standing_mask : List State → ℕ
standing_mask states = standing_from 0 states
