-- What `array::from_fn` makes, where the closure computes a function of the index and keeps its captures.
use Rattle.std.proofs.Common.{◌≡◌, ℕ, zero, suc, ◌+◌, ◌<◌, ◌≤◌, List, map, ◌∙◌, subst, ⊎_elim, arith}
use Rattle.std.specs.Prelude.{slice_index_or}
use Rattle.std.specs.Array.{IsFromFnResultFrom, IsFromFnResult}
use Rattle.std.specs.Fn.{Called}
use Rattle.std.specs.List.{range_with_len}
use Rattle.std.proofs.lemmas.Bool.{cases_eq}
use Rattle.std.proofs.lemmas.List.FromFn.{fill_by_all}
use denote.Param.Members.{Mut}

module _ {F B : Type 0} (g : Mut F (ℕ × Unit {0}) B) (h : ℕ → B) (f : F) (step : (i : ℕ) (y : B) (f' : F) → Called g f (i, tt) y f' → (y ≡ h i) × (f' ≡ f)) where
  -- From index i on, n elements are as the function has them.
  each_made : (ys : List B) (i n : ℕ) → IsFromFnResultFrom g f ys i n → (k : ℕ) (d : B) → i ≤ k → k < i + n → slice_index_or ys k d ≡ h k
  each_made ys i zero made k d le lt = absurd (omega arith)
  each_made ys i (suc n) (q, y, at, called, rest) k d le lt =
      let told = step i y q called in
      ⊎_elim (λ e. subst (λ (j : ℕ). slice_index_or ys j d ≡ h j) e (at.1 d ∙ told.0)) (λ ne. each_made ys (i + 1) n (subst (λ p. IsFromFnResultFrom g p ys (i + 1) n) told.1 rest) k d (omega arith) (omega arith)) (cases_eq i k)

  pub from_fn_at : (ys : List B) (n : ℕ) → IsFromFnResult g f ys n → (k : ℕ) (d : B) → k < n → slice_index_or ys k d ≡ h k
  from_fn_at ys n made k d lt = each_made ys 0 n made.each k d (omega arith) (omega arith)

  -- So the array is the list of the function's values.
  pub from_fn_list : (ys : List B) (n : ℕ) → IsFromFnResult g f ys n → ys ≡ map h (range_with_len 0 n)
  from_fn_list ys n made = fill_by_all h ys n (h 0) made.long (λ k lt. from_fn_at ys n made k (h 0) lt)
