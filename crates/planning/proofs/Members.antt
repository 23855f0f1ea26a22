-- Which numbers stand on a list.
use Rattle.std.proofs.Common.{◌≡◌, ℕ, zero, suc, ◌<◌, true, false, ◌||◌, eqb, ◌⊎◌, List, [], ◌∷◌, ◌++◌, length, get_or, refl, inl, inr, ⊎_elim, arith}
use Rattle.std.proofs.lemmas.Bool.{or_cases, eq-eqb, ne_eqb, eqb-true}
use Rattle.meaning.specs.Lists.{is_on}

-- A number is on two lists together if it is on one of them.
pub on_append : (x : ℕ) (xs ys : List ℕ) → is_on x (xs ++ ys) ≡ (is_on x xs || is_on x ys)
on_append x [] ys = refl
on_append x (y ∷ xs) ys = grind (arith, on_append x xs ys)

-- What is on the first list is on both together.
pub on_left : (x : ℕ) (xs ys : List ℕ) → is_on x xs ≡ true → is_on x (xs ++ ys) ≡ true
on_left x xs ys on = grind (arith, on_append x xs ys, on)

-- What is on neither is not on both together.
pub off_both : (x : ℕ) (xs ys : List ℕ) → is_on x xs ≡ false → is_on x ys ≡ false → is_on x (xs ++ ys) ≡ false
off_both x xs ys off off' = grind (arith, on_append x xs ys, off, off')

-- What is not on both together is not on the first.
pub off_left : (x : ℕ) (xs ys : List ℕ) → is_on x (xs ++ ys) ≡ false → is_on x xs ≡ false
off_left x xs ys off = grind (arith, on_append x xs ys, off)

-- The last number of a list is on it.
pub on_last : (x : ℕ) (xs : List ℕ) → is_on x (xs ++ x ∷ []) ≡ true
on_last x xs = grind (arith, on_append x xs (x ∷ []), eq-eqb x x refl)

-- A number on a list is its first or is on the rest.
pub on_cases : (x y : ℕ) (ys : List ℕ) → is_on x (y ∷ ys) ≡ true → (x ≡ y) ⊎ (is_on x ys ≡ true)
on_cases x y ys on = ⊎_elim (λ e. inl (eqb-true x y e)) inr (or_cases (eqb x y) (is_on x ys) on)

-- A number that is neither the first nor on the rest is not on the list.
pub off_cons : (x y : ℕ) (ys : List ℕ) → (x ≡ y → ⊥) → is_on x ys ≡ false → is_on x (y ∷ ys) ≡ false
off_cons x y ys ne off = grind (arith, ne_eqb x y ne, off)

-- What a place within a list holds is on it.
pub on_at : (xs : List ℕ) (i : ℕ) → i < length xs → is_on (get_or xs i 0) xs ≡ true
on_at [] i lt = absurd (omega arith)
on_at (x ∷ xs) zero lt = grind (arith, eq-eqb x x refl)
on_at (x ∷ xs) (suc i) lt = grind (arith, on_at xs i (omega arith))
