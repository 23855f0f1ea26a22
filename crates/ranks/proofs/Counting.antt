-- Counting the elements of a list that pass a test.
use Rattle.std.proofs.Common.{◌≡◌, ℕ, ◌<◌, ◌≤◌, ◌+◌, Bool, true, false, List, length, take, count_by, refl, ap, ◌∙◌, ⊎_elim, arith}
use Rattle.std.specs.Prelude.{if◌then◌else◌, slice_index_or, remove}
use mir.Val.{bool_byte}
use Rattle.std.proofs.lemmas.Bool.{cases_Bool}
use Rattle.std.specs.List.{range_with_len}
use Rattle.std.proofs.lemmas.List.{take_all}
use Rattle.std.proofs.lemmas.List.FromFn.{length-range_with_len, get_or-range_with_len}
use Rattle.std.proofs.lemmas.List.Sums.{sum_by-remove, sum_by-le-sum_by, count_by_more_yes, count_by_more_no}

-- What one element adds to the count.
abbrev pub one_if : Bool → ℕ
one_if b = if b then 1 else 0

-- That is the test as a number, and at most 1.
pub one_byte : (b : Bool) → bool_byte b ≡ one_if b
one_byte true = refl
one_byte false = refl

pub one_at_most : (b : Bool) → one_if b ≤ 1
one_at_most true = omega arith
one_at_most false = omega arith

one_if_le : (a b : Bool) → (a ≡ true → b ≡ true) → one_if a ≤ one_if b
one_if_le a b sub =
    ⊎_elim (λ e. omega (arith, ap one_if e, ap one_if (sub e))) (λ e. omega (arith, ap one_if e)) (cases_Bool a)

-- A test that passes wherever another does, and once where the other does not, counts more: without that element it counts
-- at least as many.
pub count_less : {X : Type 0} (p q : X → Bool) → ((x : X) → p x ≡ true → q x ≡ true) → (xs : List X) (i : ℕ) (d : X) → i < length xs → q (slice_index_or xs i d) ≡ true → p (slice_index_or xs i d) ≡ false → count_by p xs < count_by q xs
count_less p q sub xs i d lt hq hp =
    omega (arith, sum_by-remove (λ x. one_if (p x)) xs i d lt, sum_by-remove (λ x. one_if (q x)) xs i d lt, sum_by-le-sum_by (λ x. one_if (p x)) (λ x. one_if (q x)) (remove xs i) (λ x. one_if_le (p x) (q x) (sub x)), ap one_if hq, ap one_if hp)

-- How many of the first y of the sixty-four numbers pass.
unfoldable pub so_far : (ℕ → Bool) → ℕ → ℕ
so_far p y = count_by p (take y (range_with_len 0 64))

-- With y there is one more if y passes.
pub so_far_next : (p : ℕ → Bool) (y : ℕ) → y < 64 → so_far p (y + 1) ≡ so_far p y + one_if (p y)
unfolding so_far
so_far_next p y lt =
    let at : slice_index_or (range_with_len 0 64) y 0 ≡ y = get_or-range_with_len 0 64 y 0 lt ∙ omega arith in
    let within : y < length (range_with_len 0 64) = omega (arith, length-range_with_len 0 64, lt) in
    ⊎_elim (λ yes. omega (arith, count_by_more_yes p (range_with_len 0 64) y 0 within (ap p at ∙ yes), ap one_if yes))
    (λ no. omega (arith, count_by_more_no p (range_with_len 0 64) y 0 within (ap p at ∙ no), ap one_if no)) (cases_Bool (p y))

-- Below 0 none does, and below 64 that is all of them.
pub so_far_none : (p : ℕ → Bool) → so_far p 0 ≡ 0
unfolding so_far
so_far_none p = refl

pub so_far_all : (p : ℕ → Bool) → so_far p 64 ≡ count_by p (range_with_len 0 64)
unfolding so_far
so_far_all p = ap (count_by p) (take_all 64 (range_with_len 0 64) (omega (arith, length-range_with_len 0 64)))
