-- A test of the elements of a list.
use Rattle.std.specs.Prelude.{ℕ, Bool, false, ◌||◌, List, [], ◌∷◌, ◌==◌}

-- The number is on the list.
abbrev pub is_on : ℕ → List ℕ → Bool
is_on x [] = false
is_on x (y ∷ ys) = x == y || is_on x ys
