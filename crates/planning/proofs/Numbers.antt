-- The numbers that pass a test: which they are, and that they rise.
use Rattle.std.proofs.Common.{◌≡◌, ℕ, zero, suc, ◌+◌, ◌<◌, ◌≤◌, Bool, true, ◌&&◌, List, [], ◌∷◌, length, get_or, sym, refl, ◌∙◌, ⊎_elim, arith}
use Rattle.std.specs.List.{filter, range_with_len, AllPairs}
use Rattle.std.proofs.lemmas.Bool.{cases_eq, eq-eqb, ne_eqb, and_parts, and_from}
use Rattle.std.proofs.lemmas.List.Elements.{filter_agree}
use Rattle.std.proofs.lemmas.List.FromFn.{get_or-range_with_len}
use Rattle.std.proofs.lemmas.List.Kept.{AllPairs-filter, AllPairs-from_increasing}
use Rattle.meaning.specs.Lists.{is_on}
use Rattle.planning.specs.Plan.{rules_where}

-- A number is among those that pass a test if it was tested and passes.
on_filter : (test : ℕ → Bool) (x : ℕ) (xs : List ℕ) → is_on x (filter test xs) ≡ (is_on x xs && test x)
on_filter test x [] = refl
on_filter test x (y ∷ ys) =
    ⊎_elim (λ e. grind (arith, e, eq-eqb x y e, on_filter test x ys)) (λ ne. grind (arith, ne_eqb x y ne, on_filter test x ys)) (cases_eq x y)

-- A number from a on and below a + n is in that range.
on_range : (a n x : ℕ) → a ≤ x → x < a + n → is_on x (range_with_len a n) ≡ true
on_range a zero x from to = absurd (omega arith)
on_range a (suc n) x from to =
    ⊎_elim (λ e. grind (arith, eq-eqb x a e)) (λ ne. grind (arith, on_range (a + 1) n x (omega arith) (omega arith))) (cases_eq x a)

-- A rule on the list of those that pass a test passes it.
pub on_passes : (test : ℕ → Bool) (x : ℕ) → is_on x (rules_where test) ≡ true → test x ≡ true
unfolding rules_where
on_passes test x on = (and_parts (is_on x (range_with_len 0 64)) (test x) (sym (on_filter test x (range_with_len 0 64)) ∙ on)).1

-- A rule below sixty-four that passes the test is on it.
pub passes_on : (test : ℕ → Bool) (x : ℕ) → x < 64 → test x ≡ true → is_on x (rules_where test) ≡ true
unfolding rules_where
passes_on test x lt passes = on_filter test x (range_with_len 0 64) ∙ and_from (is_on x (range_with_len 0 64)) (test x) (on_range 0 64 x (omega arith) lt) passes

-- Of two rules on it the one that stands first is the lower.
pub rules_rise : (test : ℕ → Bool) → AllPairs (λ x y. x < y) (rules_where test)
unfolding rules_where
rules_rise test = AllPairs-filter (λ x y. x < y) test (range_with_len 0 64) (AllPairs-from_increasing (range_with_len 0 64) rises)
  where
    rises : (k : ℕ) → k + 1 < length (range_with_len 0 64) → get_or (range_with_len 0 64) k 0 < get_or (range_with_len 0 64) (k + 1) 0
    rises k lt =
        omega (arith, get_or-range_with_len 0 64 k 0 (omega (arith, lt)), get_or-range_with_len 0 64 (k + 1) 0 lt)

-- Two tests that agree give one list.
pub rules_agree : (test test' : ℕ → Bool) → ((x : ℕ) → test x ≡ test' x) → rules_where test ≡ rules_where test'
unfolding rules_where
rules_agree test test' agree = filter_agree test test' agree (range_with_len 0 64)
