-- Who gives a cell, and what the givers of a way's outputs put on the pile.
use Rattle.std.proofs.Common.{◌≡◌, ℕ, zero, suc, ◌+◌, ◌^◌, ◌%◌, ◌<◌, ◌≤◌, Bool, true, false, cond, ◌⊎◌, List, [], ◌∷◌, ◌++◌, length, get_or, drop, Some, None, Option, sym, refl, ap, ◌∙◌, subst, inl, inr, ⊎_elim, arith}
use Rattle.std.specs.Option.{MatchOption, option_map}
use Rattle.std.specs.List.{AllByRecursion, AllWithin, HoldsAt, zip}
use Rattle.std.proofs.lemmas.List.{drop_more}
use Rattle.std.proofs.lemmas.Slice.Zip.{length-zip, get_or-zip}
use Rattle.std.proofs.ByRecursion.{All-append}
use Rattle.std.proofs.lemmas.Bool.{cond_both, cases_eq, or_cases, both_ways}
use Rattle.meaning.specs.Masks.{bit}
use Rattle.meaning.proofs.MaskBits.{no_bit_of_0, bit_of_or, power_bit, apart_bits}
use Rattle.placing.specs.declared.rules.Rule.{Rule}
use Rattle.placing.specs.declared.rules.State.{State}
use Rattle.placing.specs.declared.rules.State.TheVariants.{Absent, Waiting, InForce}
use Rattle.placing.specs.Board.{no_rule, state_of, is_in_force, given, given_by, gives, mask_of, NoTwoGivers}
use Rattle.placing.specs.Search.{giver_from, giver, piled, one_of}

-- A rule that gives a cell is in force.
giving_state : (rules : List Rule) (x : ℕ) (s : State) (c : ℕ) → bit (given_by rules x s) c ≡ true → is_in_force s ≡ true
giving_state rules x Absent c h = absurd (no_bit_of_0 c h)
giving_state rules x Waiting c h = absurd (no_bit_of_0 c h)
giving_state rules x (InForce i) c h = refl

module _ (rules : List Rule) (states : List State) where
  abbrev pub InForceAt : ℕ → Type 0
  InForceAt x = is_in_force (state_of states x) ≡ true

  giver_in_force : (c x n : ℕ) → AllByRecursion InForceAt (giver_from rules states c x n)
  unfolding giver_from
  giver_in_force c x zero = tt
  giver_in_force c x (suc n) =
      cond_both (bit (gives rules states x) c) _ _ (AllByRecursion InForceAt) (λ h. (giving_state rules x (state_of states x) c h, tt)) (λ _. giver_in_force c (suc x) n)

  -- Whatever holds of the pile and of each rule in force holds of the pile with givers on it.
  pub piled_all : (P : ℕ → Type 0) → ((x : ℕ) → InForceAt x → P x) → (cs pile : List ℕ) → AllByRecursion P pile → AllByRecursion P (piled rules states cs pile)
  piled_all P each [] pile all = all
  piled_all P each (c ∷ cs) pile all =
      piled_all P each cs (giver rules states c ++ pile) (All-append P (giver rules states c) pile (all_each (giver rules states c) (giver_in_force c 0 64)) all)
    where
      all_each : (xs : List ℕ) → AllByRecursion InForceAt xs → AllByRecursion P xs
      all_each [] h = tt
      all_each (x ∷ xs) h = (each x h.0, all_each xs h.1)

-- Whether a rule in a state gives the cell.
abbrev pub gives_cell : ℕ → Rule × State → Bool
gives_cell c p = bit (given p.0 p.1) c

-- x stands on the list.
abbrev pub On : ℕ → List ℕ → Type 0
On x [] = ⊥
On x (y ∷ ys) = (x ≡ y) ⊎ On x ys

on_right : (x : ℕ) (xs ys : List ℕ) → On x ys → On x (xs ++ ys)
on_right x [] ys h = h
on_right x (y ∷ xs) ys h = inr (on_right x xs ys h)

on_left : (x : ℕ) (xs ys : List ℕ) → On x xs → On x (xs ++ ys)
on_left x [] ys h = absurd h
on_left x (y ∷ xs) ys (inl e) = inl e
on_left x (y ∷ xs) ys (inr h) = inr (on_left x xs ys h)

-- A bit of the mask of some cells is one of these cells.
pub mask_cell : (cs : List ℕ) (c : ℕ) → bit (mask_of cs) c ≡ true → On c cs
mask_cell [] c h = absurd (no_bit_of_0 c h)
mask_cell (d ∷ cs) c h =
    ⊎_elim (λ is. inl (power_bit d c is)) (λ is. inr (mask_cell cs c is)) (or_cases (bit (2 ^ d) c) (bit (mask_of cs) c) (sym (bit_of_or (2 ^ d) (mask_of cs) c) ∙ h))

module _ (rules : List Rule) (states : List State) where
  -- What is on the pile stays there.
  pub piled_keeps : (cs pile : List ℕ) (x : ℕ) → On x pile → On x (piled rules states cs pile)
  piled_keeps [] pile x h = h
  piled_keeps (c ∷ cs) pile x h = piled_keeps cs (giver rules states c ++ pile) x (on_right x (giver rules states c) pile h)

  -- The giver of each cell is put there.
  pub piled_giver : (cs pile : List ℕ) (c x : ℕ) → On c cs → On x (giver rules states c) → On x (piled rules states cs pile)
  piled_giver [] pile c x on gives = absurd on
  piled_giver (d ∷ cs) pile c x (inl e) gives =
      piled_keeps cs (giver rules states d ++ pile) x (on_left x (giver rules states d) pile (subst (λ (k : ℕ). On x (giver rules states k)) e gives))
  piled_giver (d ∷ cs) pile c x (inr on) gives = piled_giver cs (giver rules states d ++ pile) c x on gives

  -- A cell that a rule gives has that rule as its giver, since no cell has two.
  found_from : NoTwoGivers rules states → (c x y n : ℕ) → x ≤ y → y < x + n → bit (gives rules states y) c ≡ true → On y (giver_from rules states c x n)
  unfolding giver_from
  found_from one c x y zero le lt h = absurd (omega arith)
  found_from one c x y (suc n) le lt h =
      cond_both (bit (gives rules states x) c) _ _ (On y) (λ hx. ⊎_elim inl (λ ne. absurd (apart_bits (gives rules states y) (gives rules states x) c (one y x ne) h hx)) (cases_eq y x))
      (λ no. ⊎_elim (λ e. absurd (both_ways _ no (subst (λ (k : ℕ). bit (gives rules states k) c ≡ true) e h))) (λ ne. found_from one c (suc x) y n (omega arith) (omega arith) h) (cases_eq y x))

  pub giver_found : NoTwoGivers rules states → (c y : ℕ) → y < 64 → bit (gives rules states y) c ≡ true → On y (giver rules states c)
  giver_found one c y lt h = found_from one c 0 y 64 (omega arith) (omega arith) h

  -- Where no rule gives the cell there is no giver.
  no_giver : (c x n : ℕ) → ((k : ℕ) → x ≤ k → k < x + n → bit (gives rules states k) c ≡ false) → giver_from rules states c x n ≡ []
  unfolding giver_from
  no_giver c x zero none = refl
  no_giver c x (suc n) none =
      ap (λ (b : Bool). cond b (x ∷ []) (giver_from rules states c (suc x) n)) (none x (omega arith) (omega arith)) ∙ no_giver c (suc x) n (λ k le lt. none k (omega (arith, le)) (omega (arith, lt)))

  -- The first rule that gives the cell is its giver.
  first_giver : (c x y n : ℕ) → x ≤ y → y < x + n → bit (gives rules states y) c ≡ true → ((k : ℕ) → x ≤ k → k < y → bit (gives rules states k) c ≡ false) → giver_from rules states c x n ≡ y ∷ []
  unfolding giver_from
  first_giver c x y zero le lt hit none = absurd (omega arith)
  first_giver c x y (suc n) le lt hit none =
      ⊎_elim (λ e. ap (λ (b : Bool). cond b (x ∷ []) (giver_from rules states c (suc x) n)) (subst (λ (k : ℕ). bit (gives rules states k) c ≡ true) (sym e) hit) ∙ ap (λ (k : ℕ). k ∷ []) e)
      (λ ne. ap (λ (b : Bool). cond b (x ∷ []) (giver_from rules states c (suc x) n)) (none x (omega arith) (omega (arith, ne))) ∙ first_giver c (suc x) y n (omega (arith, ne)) (omega (arith, lt)) hit (λ k l m. none k (omega (arith, l)) m)) (cases_eq x y)

  -- What a rule gives is read from both tables at its number.
  beside : (c k : ℕ) → length rules ≡ 64 → length states ≡ 64 → k < 64 → {b : Bool} → gives_cell c (get_or (zip rules states) k (no_rule, Absent)) ≡ b → bit (gives rules states k) c ≡ b
  beside c k hr hs lt e = sym (ap (gives_cell c) (get_or-zip rules states k (no_rule, Absent) (omega (arith, hr, lt)) (omega (arith, hs, lt)))) ∙ e

  -- The tables side by side are as long as each.
  long : length rules ≡ 64 → length states ≡ 64 → length (zip rules states) ≡ 64
  long hr hs = omega (arith, hr, hs, length-zip rules states)

  -- So it is the rule at the first place of both tables that gives the cell.
  pub giver_is_first : (c : ℕ) (o : Option ℕ) → length rules ≡ 64 → length states ≡ 64 → MatchOption o (AllWithin (λ p. gives_cell c p ≡ false) (zip rules states) 0 (length (zip rules states))) (λ i. (i < length (zip rules states)) × HoldsAt (λ p. gives_cell c p ≡ true) (zip rules states) i × AllWithin (λ p. gives_cell c p ≡ false) (zip rules states) 0 i) → one_of (option_map (λ x. x % 256) o) ≡ giver rules states c
  giver_is_first c None hr hs none = sym (no_giver c 0 64 (λ k le lt. beside c k hr hs lt (none k (no_rule, Absent) (omega arith) (omega (arith, long hr hs, lt)))))
  giver_is_first c (Some i) hr hs at =
      let lt : i < 64 = omega (arith, long hr hs, at.0) in
      let small : i % 256 ≡ i = omega (arith, lt) in
      ap (λ (k : ℕ). k ∷ []) small ∙ sym (first_giver c 0 i 64 (omega arith) lt (beside c i hr hs lt (at.1 (no_rule, Absent))) (λ k le l. beside c k hr hs (omega (arith, lt, l)) (at.2 k (no_rule, Absent) (omega arith) l)))

  -- Piling cell by cell.
  pub piled_step : (cs pile : List ℕ) (i : ℕ) → i < length cs → piled rules states (drop i cs) pile ≡ piled rules states (drop (i + 1) cs) (giver rules states (get_or cs i 0) ++ pile)
  piled_step cs pile i lt = ap (λ (ds : List ℕ). piled rules states ds pile) (drop_more cs i 0 lt)

  pub piled_again : (cs pile higher target : List ℕ) (i : ℕ) → i < length cs → higher ≡ giver rules states (get_or cs i 0) ++ pile → piled rules states (drop i cs) pile ≡ target → piled rules states (drop (i + 1) cs) higher ≡ target
  piled_again cs pile higher target i lt e h = ap (piled rules states (drop (i + 1) cs)) e ∙ sym (piled_step cs pile i lt) ∙ h
