-- Rank numbers by rule: read from a list, below 64, and all different.
use Rattle.std.specs.Prelude.{◌≡◌, ℕ, ◌<◌, Bool, not, ◌&&◌, List, ◌==◌, nat_lt, slice_index}

-- The rank of a rule, by a list of ranks.
abbrev pub rank_in : List ℕ → ℕ → ℕ
rank_in ranks x = slice_index ranks x

-- No two of the sixty-four rules have one rank.
abbrev pub Distinct : (ℕ → ℕ) → Type 0
Distinct rank = (x y : ℕ) → x < 64 → y < 64 → rank x ≡ rank y → x ≡ y

-- Whether two rules share a rank: a test, which no two rules of distinct ranks pass.
abbrev pub share_rank : (ℕ → ℕ) → ℕ → ℕ → Bool
share_rank rank x y = nat_lt x 64 && (nat_lt y 64 && (rank x == rank y && not (x == y)))

-- All ranks of the sixty-four rules are below 64.
abbrev pub Below64 : (ℕ → ℕ) → Type 0
Below64 rank = (x : ℕ) → x < 64 → rank x < 64
