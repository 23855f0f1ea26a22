-- The order of the rules under a ranking, and the rank numbers that tell it.
use Rattle.std.specs.Prelude.{◌≡◌, ℕ, ◌<◌, Bool, true, false, List, map, Some, None, Option, if◌then◌else◌, count_by, nat_lt, slice_get}
use Rattle.std.specs.List.{range_with_len}
use Rattle.std.specs.declared.cmp.Ordering.{Ordering}
use Rattle.std.specs.declared.cmp.Ordering.TheVariants.{Less, Equal, Greater}
use Rattle.meaning.specs.Masks.{bit}
use Rattle.meaning.specs.Ranks.{Ranks}

-- A strength, if the ranking knows it.
abbrev pub if_known : {S : Type 0} → Ranks S → Option S → Option S
if_known m (Some s) = if m.known s then Some s else None
if_known m None = None

-- The strength by which a rule ranks: that of a standing rule, if the ranking knows it.
abbrev pub strength_of : {S : Type 0} → Ranks S → List S → ℕ → ℕ → Option S
strength_of m strengths standing x = if bit standing x then if_known m (slice_get strengths x) else None

-- Before, or level and of the lower number.
abbrev pub or_number : Ordering → Bool → Bool
or_number Less lower = true
or_number Equal lower = lower
or_number Greater lower = false

-- Rule x ranks before rule y if its strength is before, or is level and x has the lower number. Rules without a strength
-- come behind all others, by number.
abbrev pub precedes : {S : Type 0} → Ranks S → Option S → ℕ → Option S → ℕ → Bool
precedes m (Some a) x (Some b) y = or_number (m.order a b) (nat_lt x y)
precedes m (Some a) x None y = true
precedes m None x (Some b) y = false
precedes m None x None y = nat_lt x y

abbrev pub ranks_before : {S : Type 0} → Ranks S → List S → ℕ → ℕ → ℕ → Bool
ranks_before m strengths standing x y = precedes m (strength_of m strengths standing x) x (strength_of m strengths standing y) y

-- The rank of a rule: how many rules rank before it.
abbrev pub rank_number : {S : Type 0} → Ranks S → List S → ℕ → ℕ → ℕ
rank_number m strengths standing x = count_by (λ y. ranks_before m strengths standing y x) (range_with_len 0 64)

-- The rank numbers of the sixty-four rules, by number.
unfoldable pub rank_list : {S : Type 0} → Ranks S → List S → ℕ → List ℕ
rank_list m strengths standing = map (rank_number m strengths standing) (range_with_len 0 64)

-- The rank numbers order any two rules as the ranking does.
abbrev pub Orders : {S : Type 0} → Ranks S → List S → ℕ → (ℕ → ℕ) → Type 0
Orders m strengths standing rank = (x y : ℕ) → x < 64 → y < 64 → nat_lt (rank x) (rank y) ≡ ranks_before m strengths standing x y
