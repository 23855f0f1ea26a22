-- Ranks of which no two rules share one are distinct, and the reverse.
use Rattle.std.proofs.Common.{◌≡◌, ℕ, true, false, not, ◌&&◌, eqb, ltb, ⊎_elim}
use Rattle.std.proofs.lemmas.Bool.{both_ways, cases_eq, cases_Bool, and_parts, and_from, lt-ltb, ltb-true, eq-eqb, eqb-true, ne_eqb, not_from_false, not-true, eqb-false}
use Rattle.ranks.specs.Numbers.{Distinct, share_rank}

pub not_shared : (rank : ℕ → ℕ) → ((x y : ℕ) → share_rank rank x y ≡ false) → Distinct rank
not_shared rank none x y hx hy e =
    ⊎_elim (λ same. same) (λ ne. absurd (both_ways _ (none x y) (and_from (ltb x 64) _ (lt-ltb x 64 hx) (and_from (ltb y 64) _ (lt-ltb y 64 hy) (and_from (eqb (rank x) (rank y)) (not (eqb x y)) (eq-eqb (rank x) (rank y) e) (not_from_false (eqb x y) (ne_eqb x y ne))))))) (cases_eq x y)

pub shared_not : (rank : ℕ → ℕ) → Distinct rank → (x y : ℕ) → share_rank rank x y ≡ false
shared_not rank distinct x y = ⊎_elim (λ h. absurd (clash h)) (λ h. h) (cases_Bool (share_rank rank x y))
  where
    clash : share_rank rank x y ≡ true → ⊥
    clash h =
        let first = and_parts (ltb x 64) (ltb y 64 && (eqb (rank x) (rank y) && not (eqb x y))) h in
        let second = and_parts (ltb y 64) (eqb (rank x) (rank y) && not (eqb x y)) first.1 in
        let third = and_parts (eqb (rank x) (rank y)) (not (eqb x y)) second.1 in
        eqb-false x y (not-true (eqb x y) third.1) (distinct x y (ltb-true x 64 first.0) (ltb-true y 64 second.0) (eqb-true (rank x) (rank y) third.0))
