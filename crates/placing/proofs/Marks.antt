-- Which rules are fresh after a mark is written, and how a list of ways goes on.
use Rattle.std.proofs.Common.{◌≡◌, ℕ, zero, suc, ◌+◌, ◌<◌, ◌≤◌, true, false, ◌⊎◌, List, [], ◌∷◌, length, get_or, drop, set, sym, refl, ap, ◌∙◌, inl, inr, ⊎_elim, arith, length-set, get_or-set_other, get_or-set_same}
use Rattle.std.proofs.lemmas.List.{get_or_past}
use Rattle.std.proofs.lemmas.Bool.{cases_eq, cases_lt, both_ways}
use Rattle.placing.specs.declared.rules.Mark.{Mark}
use Rattle.placing.specs.declared.rules.Mark.TheVariants.{PutOut}
use Rattle.placing.specs.Search.{is_fresh, fresh_at, fresh_count}

-- A rule that got a mark other than fresh is not fresh; past the end none is.
pub set_not_fresh : (marks : List Mark) (x : ℕ) (m : Mark) → is_fresh m ≡ false → fresh_at (set marks x m) x ≡ false
set_not_fresh marks x m e =
    ⊎_elim (λ h. ap is_fresh (get_or-set_same marks x m PutOut h) ∙ e) (λ h. let k : length (set marks x m) ≤ x = simp length-set h in ap is_fresh (get_or_past (set marks x m) x PutOut k)) (cases_lt x (length marks))

-- The others keep theirs.
pub set_fresh_other : (marks : List Mark) (x y : ℕ) (m : Mark) → (y ≡ x → ⊥) → fresh_at (set marks x m) y ≡ fresh_at marks y
set_fresh_other marks x y m ne = ap is_fresh (get_or-set_other marks x y m PutOut ne)

-- So what is fresh after it was fresh before, and is another rule.
pub fresh_before : (marks : List Mark) (x y : ℕ) (m : Mark) → is_fresh m ≡ false → fresh_at (set marks x m) y ≡ true → (fresh_at marks y ≡ true) × (y ≡ x → ⊥)
fresh_before marks x y m e h =
    let other : y ≡ x → ⊥ = λ same. both_ways _ (set_not_fresh marks x m e) (ap (fresh_at (set marks x m)) (sym same) ∙ h) in
    (sym (set_fresh_other marks x y m other) ∙ h, other)

-- The front of what is left of a list from an index on, and what is left behind it.
pub drop_front : {X : Type 0} (xs : List X) (i : ℕ) (d y : X) (ys : List X) → drop i xs ≡ y ∷ ys → (get_or xs i d ≡ y) × (drop (suc i) xs ≡ ys)
drop_front [] zero d y ys e = cc
drop_front [] (suc i) d y ys e = cc
drop_front (x ∷ xs) zero d y ys e = (cc, cc)
drop_front (x ∷ xs) (suc i) d y ys e = drop_front xs i d y ys e

pub drop_none : {X : Type 0} (xs : List X) (i : ℕ) → drop i xs ≡ [] → length xs ≤ i
drop_none [] i e = omega arith
drop_none (x ∷ xs) zero e = cc
drop_none (x ∷ xs) (suc i) e = omega (arith, drop_none xs i e)

-- A fresh rule is within the marks.
pub fresh_within : (marks : List Mark) (x : ℕ) → fresh_at marks x ≡ true → x < length marks
fresh_within marks x h =
    ⊎_elim (λ k. k) (λ k. absurd (both_ways _ (ap is_fresh (get_or_past marks x PutOut k)) h)) (cases_lt x (length marks))

-- What a mark reads as after a write: the new one at its own place, the old one elsewhere.
pub read_back : (marks : List Mark) (x y : ℕ) (m n : Mark) → x < length marks → get_or (set marks x m) y PutOut ≡ n → ((y ≡ x) × (m ≡ n)) ⊎ ((y ≡ x → ⊥) × (get_or marks y PutOut ≡ n))
read_back marks x y m n within h =
    ⊎_elim (λ e. inl (e, sym (get_or-set_same marks x m PutOut within) ∙ ap (λ k. get_or (set marks x m) k PutOut) (sym e) ∙ h)) (λ ne. inr (ne, sym (get_or-set_other marks x y m PutOut ne) ∙ h)) (cases_eq y x)

pub drop_within : {X : Type 0} (xs : List X) (i : ℕ) (y : X) (ys : List X) → drop i xs ≡ y ∷ ys → i < length xs
drop_within [] zero y ys e = cc
drop_within [] (suc i) y ys e = cc
drop_within (x ∷ xs) zero y ys e = omega arith
drop_within (x ∷ xs) (suc i) y ys e = omega (arith, drop_within xs i y ys e)

-- A mark on a fresh rule leaves one fresh rule less.
pub fresh_less : (marks : List Mark) (x : ℕ) (m : Mark) → is_fresh m ≡ false → fresh_at marks x ≡ true → fresh_count (set marks x m) + 1 ≡ fresh_count marks
fresh_less [] zero m e h = absurd (both_ways _ refl h)
fresh_less [] (suc x) m e h = absurd (both_ways _ refl h)
fresh_less (n ∷ marks) zero m e h = rw (e, h) (omega arith)
fresh_less (n ∷ marks) (suc x) m e h = omega (arith, fresh_less marks x m e h)

pub marked_less : (marks : List Mark) {after : List Mark} (x : ℕ) (m : Mark) → after ≡ set marks x m → is_fresh m ≡ false → fresh_at marks x ≡ true → fresh_count after + 1 ≡ fresh_count marks
marked_less marks x m written e h = ap (λ (n : List Mark). fresh_count n + 1) written ∙ fresh_less marks x m e h
