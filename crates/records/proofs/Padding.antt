-- The first elements of a list, filled up with a value.
use Rattle.std.proofs.Common.{◌≡◌, ℕ, zero, suc, ◌-◌, ◌<◌, ◌≤◌, List, [], ◌∷◌, ◌++◌, length, get_or, take, replicate, set, sym, refl, ap, ◌∙◌, ⊎_elim, arith}
use Rattle.std.proofs.lemmas.Bool.{cases_lt}
use Rattle.std.proofs.lemmas.List.{ext_get_or, get_or-take, get_or_append_left, get_or-append_right, length-take, length-append, length-replicate, get_or-replicate, get_or_past, take-replicate}
use Rattle.records.specs.Records.{padded}

-- Within the first n, a list filled up with a value reads as the list does with that value past its end.
padded_read : {X : Type 0} (n : ℕ) (d : X) (xs : List X) (k : ℕ) → k < n → get_or (padded n d xs) k d ≡ get_or xs k d
padded_read n d xs k lt =
    get_or-take n (xs ++ replicate n d) k d lt ∙ ⊎_elim (λ within. get_or_append_left xs (replicate n d) d k within) (λ past. get_or-append_right xs (replicate n d) (length xs) k d refl past ∙ get_or-replicate n (k - length xs) d d (omega arith) ∙ sym (get_or_past xs k d past)) (cases_lt k (length xs))

-- It has n elements.
padded_length : {X : Type 0} (n : ℕ) (d : X) (xs : List X) → length (padded n d xs) ≡ n
padded_length {X} n d xs = length-take n (xs ++ replicate n d) ∙ omega (arith, length-append xs (replicate n d), length-replicate {A = X} n d)

-- A list of n elements that reads as the list does is the list so filled up.
pub padded_by : {X : Type 0} (n : ℕ) (d : X) (xs kept : List X) → length kept ≡ n → ((k : ℕ) → k < n → get_or kept k d ≡ get_or xs k d) → kept ≡ padded n d xs
padded_by n d xs kept long same =
    ext_get_or d kept (padded n d xs) (long ∙ sym (padded_length n d xs)) (λ k lt. same k (omega (arith, long)) ∙ sym (padded_read n d xs k (omega (arith, long))))

-- A write at the end of a list, where it is filled up, adds to the list.
set_at_end : (n m : ℕ) (xs : List ℕ) (x : ℕ) → length xs < n → n ≤ m → set (take n (xs ++ replicate m 0)) (length xs) x ≡ take n ((xs ++ x ∷ []) ++ replicate m 0)
set_at_end zero m xs x lt le = absurd (omega arith)
set_at_end (suc n) zero xs x lt le = absurd (omega arith)
set_at_end (suc n) (suc m) [] x lt le = ap (λ ys. x ∷ ys) (take-replicate n m 0 (omega arith) ∙ sym (take-replicate n (suc m) 0 (omega arith)))
set_at_end (suc n) (suc m) (y ∷ ys) x lt le = ap (λ zs. y ∷ zs) (set_at_end n (suc m) ys x (omega arith) (omega arith))

-- The same of the first n filled up.
pub padded_push : (n : ℕ) (xs : List ℕ) (x : ℕ) → length xs < n → set (padded n 0 xs) (length xs) x ≡ padded n 0 (xs ++ x ∷ [])
padded_push n xs x lt = set_at_end n n xs x lt (omega arith)
