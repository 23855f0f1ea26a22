-- Placing a rule, as a relation: from a pile of rules, marks and taken cells the search leads to marks, or it fails.
use Rattle.std.specs.Prelude.{◌≡◌, ℕ, zero, suc, ◌+◌, Bool, true, false, if◌then◌else◌, List, [], ◌∷◌, ◌++◌, replicate, Some, None, Option, ◌==◌, bit_and, bit_or, nat_lt, slice_index_or, slice_set}
use Rattle.meaning.specs.Masks.{bit}
use Rattle.placing.specs.declared.rules.Way.{Way}
use Rattle.placing.specs.declared.rules.Rule.{Rule}
use Rattle.placing.specs.declared.rules.State.{State}
use Rattle.placing.specs.declared.rules.State.TheVariants.{Waiting, InForce}
use Rattle.placing.specs.declared.rules.Mark.{Mark}
use Rattle.placing.specs.declared.rules.Mark.TheVariants.{PutOut, Fresh, Tried}
use Rattle.placing.specs.Board.{cells_of, listed, gives}

-- A rule is done once it is put out or tried. A number past the marks counts as done.
abbrev pub is_fresh : Mark → Bool
is_fresh PutOut = false
is_fresh Fresh = true
is_fresh (Tried i) = false

abbrev pub fresh_at : List Mark → ℕ → Bool
fresh_at marks x = is_fresh (slice_index_or marks x PutOut)

-- Of the n rules from x on, the first that gives the cell, if there is one.
unfoldable pub giver_from : List Rule → List State → ℕ → ℕ → ℕ → List ℕ
giver_from rules states c x zero = []
giver_from rules states c x (suc n) = if bit (gives rules states x) c then x ∷ [] else giver_from rules states c (suc x) n

-- The rule that gives a cell, if there is one.
abbrev pub giver : List Rule → List State → ℕ → List ℕ
giver rules states c = giver_from rules states c 0 64

-- For each cell, in order, its giver goes on the pile.
abbrev pub piled : List Rule → List State → List ℕ → List ℕ → List ℕ
piled rules states [] pile = pile
piled rules states (c ∷ cs) pile = piled rules states cs (giver rules states c ++ pile)

-- A rule or none, as a list.
abbrev pub one_of : Option ℕ → List ℕ
one_of (Some x) = x ∷ []
one_of None = []

-- How many rules are fresh.
abbrev pub fresh_count : List Mark → ℕ
fresh_count [] = 0
fresh_count (m ∷ marks) = (if is_fresh m then 1 else 0) + fresh_count marks

-- The rules and their states are those before the placing of r, and so the givers are.
module _ (rules : List Rule) (states : List State) (rank : ℕ → ℕ) (r : ℕ) where
  mutual
    -- The search from a pile.
    pub data Leads : List ℕ → List Mark → ℕ → Option (List Mark) → Type 0 where
      -- an empty pile is success
      empty : {marks : List Mark} {taken : ℕ} → Leads [] marks taken (Some marks)
      -- a rule that is done is passed over
      over : {x : ℕ} {pile : List ℕ} {marks : List Mark} {taken : ℕ} {o : Option (List Mark)} → fresh_at marks x ≡ false → Leads pile marks taken o → Leads (x ∷ pile) marks taken o
      -- one that ranks after r is put out
      out : {x : ℕ} {pile : List ℕ} {marks : List Mark} {taken : ℕ} {o : Option (List Mark)} → fresh_at marks x ≡ true → nat_lt (rank r) (rank x) ≡ true → Leads pile (slice_set marks x PutOut) taken o → Leads (x ∷ pile) marks taken o
      -- of any other the listed ways are tried in their order
      try : {x : ℕ} {pile : List ℕ} {marks : List Mark} {taken : ℕ} {o : Option (List Mark)} → fresh_at marks x ≡ true → nat_lt (rank r) (rank x) ≡ false → Tries x pile marks taken (listed rules x) 0 o → Leads (x ∷ pile) marks taken o

    -- The ways of a rule from index i on.
    pub data Tries : ℕ → List ℕ → List Mark → ℕ → List Way → ℕ → Option (List Mark) → Type 0 where
      -- with no way left this step fails
      spent : {x : ℕ} {pile : List ℕ} {marks : List Mark} {taken i : ℕ} → Tries x pile marks taken [] i None
      -- a way with a taken output is not tried
      barred : {x : ℕ} {pile : List ℕ} {marks : List Mark} {taken i : ℕ} {way : Way} {ways : List Way} {o : Option (List Mark)} → (bit_and taken way.mask == 0) ≡ false → Tries x pile marks taken ways (suc i) o → Tries x pile marks taken (way ∷ ways) i o
      -- a try that leads on
      leads : {x : ℕ} {pile : List ℕ} {marks : List Mark} {taken i : ℕ} {way : Way} {ways : List Way} {found : List Mark} → (bit_and taken way.mask == 0) ≡ true → Leads (piled rules states (cells_of way) pile) (slice_set marks x (Tried i)) (bit_or taken way.mask) (Some found) → Tries x pile marks taken (way ∷ ways) i (Some found)
      -- a try that fails is undone, and the next way is tried
      fails : {x : ℕ} {pile : List ℕ} {marks : List Mark} {taken i : ℕ} {way : Way} {ways : List Way} {o : Option (List Mark)} → (bit_and taken way.mask == 0) ≡ true → Leads (piled rules states (cells_of way) pile) (slice_set marks x (Tried i)) (bit_or taken way.mask) None → Tries x pile marks taken ways (suc i) o → Tries x pile marks taken (way ∷ ways) i o

-- What a rule is after a success.
abbrev pub marked : State → Mark → State
marked state PutOut = Waiting
marked state Fresh = state
marked state (Tried i) = InForce i

abbrev pub applied : List State → List Mark → List State
applied [] marks = []
applied (s ∷ states) [] = s ∷ states
applied (s ∷ states) (m ∷ marks) = marked s m ∷ applied states marks

-- Placing r: r alone is on the pile, no rule is done and no cell taken. On failure nothing changes.
pub data Places (rules : List Rule) (states : List State) (rank : ℕ → ℕ) (r : ℕ) : Bool → List State → Type 0 where
  placed : {found : List Mark} → Leads rules states rank r (r ∷ []) (replicate 64 Fresh) 0 (Some found) → Places rules states rank r true (applied states found)
  refused : Leads rules states rank r (r ∷ []) (replicate 64 Fresh) 0 None → Places rules states rank r false states
