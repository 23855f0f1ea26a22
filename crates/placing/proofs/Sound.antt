-- What a search keeps from step to step, and so what a success leaves.
use Rattle.std.proofs.Common.{◌≡◌, ℕ, ◌<◌, true, false, ltb, ◌⊎◌, List, [], ◌∷◌, length, get_or, drop, set, Some, Option, sym, refl, ap, ◌∙◌, subst, inl, inr, ⊎_elim, arith, length-set}
use lib.Bits.{bit_and, bit_or, and_comm}
use Rattle.std.specs.List.{AllByRecursion}
use Rattle.std.proofs.lemmas.Bool.{both_ways, cases_eq, eqb-true, ltb-true}
use Rattle.meaning.specs.Masks.{bit}
use Rattle.meaning.proofs.MaskBits.{apart_or, apart_left, apart_right, common_bit}
use Rattle.placing.specs.declared.rules.Way.{Way}
use Rattle.placing.specs.declared.rules.Rule.{Rule}
use Rattle.placing.specs.declared.rules.State.{State}
use Rattle.placing.specs.declared.rules.Mark.{Mark}
use Rattle.placing.specs.declared.rules.Mark.TheVariants.{PutOut, Tried}
use Rattle.placing.specs.Board.{no_way, cells_of, listed, way_mask, gives, Apart, NoTwoGivers}
use Rattle.placing.specs.Search.{fresh_at, piled, Leads, Tries}
use Rattle.placing.proofs.Single.{some_same}
use Rattle.placing.proofs.Marks.{fresh_before, fresh_within, read_back, drop_front, drop_within}
use Rattle.placing.proofs.Givers.{InForceAt, On, piled_all, piled_keeps, piled_giver, giver_found}

apart_sym : (a b : ℕ) → Apart a b → Apart b a
apart_sym a b h = and_comm b a ∙ h

-- What holds of a rule and an index holds of equal ones.
carry : (P : ℕ → ℕ → Type 0) {x i y j : ℕ} → (y ≡ x) × (i ≡ j) → P x i → P y j
carry P {x} {i} {y} {j} h p = subst (λ (k : ℕ). P y k) h.1 (subst (λ (z : ℕ). P z i) (sym h.0) p)

tried_same : {j l : ℕ} → Tried j ≡ Tried l → j ≡ l
tried_same e = cc

module _ (rules : List Rule) (states : List State) (rank : ℕ → ℕ) (r : ℕ) where
  abbrev Piled : ℕ → Type 0
  Piled x = (x ≡ r) ⊎ InForceAt rules states x

  abbrev TriedAt : List Mark → ℕ → ℕ → Type 0
  TriedAt marks x i = get_or marks x PutOut ≡ Tried i

  -- Tried ways are listed, pairwise apart and within the taken cells; the outputs of a fresh rule are apart from these,
  -- or it is on the pile; the placed rule is on the pile until it is tried; and only rules that were in force, ranking
  -- after it, are put out.
  pub record Kept (pile : List ℕ) (marks : List Mark) (taken : ℕ) : Type 0 where
    pub counted : length marks ≡ 64
    pub tried_listed : (x i : ℕ) → TriedAt marks x i → i < length (listed rules x)
    pub tried_taken : (x i m : ℕ) → TriedAt marks x i → Apart taken m → Apart (way_mask rules x i) m
    pub tried_apart : (x y i j : ℕ) → TriedAt marks x i → TriedAt marks y j → (x ≡ y → ⊥) → Apart (way_mask rules x i) (way_mask rules y j)
    pub tried_from : (x i : ℕ) → TriedAt marks x i → Piled x
    pub fresh_apart : (x : ℕ) → fresh_at marks x ≡ true → InForceAt rules states x → Apart taken (gives rules states x) ⊎ On x pile
    pub placed_on : fresh_at marks r ≡ true → On r pile
    pub put_out_after : (x : ℕ) → x < 64 → get_or marks x PutOut ≡ PutOut → (rank r < rank x) × InForceAt rules states x
    pub piled_from : AllByRecursion Piled pile

  -- Passing over a rule that is done.
  kept_over : {x : ℕ} {pile : List ℕ} {marks : List Mark} {taken : ℕ} → fresh_at marks x ≡ false → Kept (x ∷ pile) marks taken → Kept pile marks taken
  kept_over {x} {pile} {marks} {taken} done k =
      let off : (y : ℕ) → fresh_at marks y ≡ true → On y (x ∷ pile) → On y pile = λ y f. ⊎_elim (λ e. absurd (both_ways _ done (ap (fresh_at marks) (sym e) ∙ f))) (λ h. h) in
      record {
        counted = k.counted;
        tried_listed = k.tried_listed;
        tried_taken = k.tried_taken;
        tried_apart = k.tried_apart;
        tried_from = k.tried_from;
        fresh_apart = λ y f g. ⊎_elim inl (λ on. inr (off y f on)) (k.fresh_apart y f g);
        placed_on = λ f. off r f (k.placed_on f);
        put_out_after = k.put_out_after;
        piled_from = k.piled_from.1;
      }

  tried_is_not_out : (i : ℕ) → Tried i ≡ PutOut → ⊥
  tried_is_not_out i e = cc

  -- Putting out a rule that ranks after the placed one.
  kept_out : {x : ℕ} {pile : List ℕ} {marks : List Mark} {taken : ℕ} → fresh_at marks x ≡ true → ltb (rank r) (rank x) ≡ true → Kept (x ∷ pile) marks taken → Kept pile (set marks x PutOut) taken
  kept_out {x} {pile} {marks} {taken} fresh after k =
      let within = fresh_within marks x fresh in
      let lt = ltb-true (rank r) (rank x) after in
      let was : (y i : ℕ) → TriedAt (set marks x PutOut) y i → TriedAt marks y i = λ y i t. ⊎_elim (λ h. absurd (tried_is_not_out i (sym h.1))) (λ h. h.1) (read_back marks x y PutOut (Tried i) within t) in
      let off : (y : ℕ) → (y ≡ x → ⊥) → On y (x ∷ pile) → On y pile = λ y ne. ⊎_elim (λ e. absurd (ne e)) (λ h. h) in
      record {
        counted = simp length-set k.counted;
        tried_listed = λ y i t. k.tried_listed y i (was y i t);
        tried_taken = λ y i m t. k.tried_taken y i m (was y i t);
        tried_apart = λ y z i j s t. k.tried_apart y z i j (was y i s) (was z j t);
        tried_from = λ y i t. k.tried_from y i (was y i t);
        fresh_apart = λ y f g. let b = fresh_before marks x y PutOut refl f in ⊎_elim inl (λ on. inr (off y b.1 on)) (k.fresh_apart y b.0 g);
        placed_on = λ f. let b = fresh_before marks x r PutOut refl f in off r b.1 (k.placed_on b.0);
        put_out_after = λ y h o. ⊎_elim (λ e. subst (λ (n : ℕ). (rank r < rank n) × InForceAt rules states n) (sym e.0) (lt, ⊎_elim (λ q. absurd (omega (arith, ap rank q))) (λ f. f) k.piled_from.0)) (λ e. k.put_out_after y h e.1) (read_back marks x y PutOut PutOut within o);
        piled_from = k.piled_from.1;
      }

  -- On a board whose ways' masks are those of their outputs.
  module _ (one : NoTwoGivers rules states) (small : (x : ℕ) → InForceAt rules states x → x < 64) (cells : (x i c : ℕ) → i < length (listed rules x) → bit (way_mask rules x i) c ≡ true → On c (cells_of (get_or (listed rules x) i no_way))) where
    -- A rule in force that is apart from the taken cells is apart from the way too, or gives one of its outputs and is piled.
    still_apart : (x i : ℕ) (pile : List ℕ) (taken y : ℕ) → i < length (listed rules x) → InForceAt rules states y → Apart taken (gives rules states y) → Apart (bit_or taken (way_mask rules x i)) (gives rules states y) ⊎ On y (piled rules states (cells_of (get_or (listed rules x) i no_way)) pile)
    still_apart x i pile taken y on_List g a =
        let mask = way_mask rules x i in
        let outs = cells_of (get_or (listed rules x) i no_way) in
        ⊎_elim (λ e. inl (apart_or taken mask (gives rules states y) a e)) (λ shared. let c = common_bit mask (gives rules states y) shared in inr (piled_giver rules states outs pile c.0 y (cells x i c.0 on_List c.1) (giver_found rules states one c.0 y (small y g) c.2))) (cases_eq (bit_and mask (gives rules states y)) 0)

    -- Trying a listed way none of whose outputs is taken.
    kept_try : {x i : ℕ} {pile : List ℕ} {marks : List Mark} {taken : ℕ} → fresh_at marks x ≡ true → i < length (listed rules x) → Apart taken (way_mask rules x i) → Kept (x ∷ pile) marks taken → Kept (piled rules states (cells_of (get_or (listed rules x) i no_way)) pile) (set marks x (Tried i)) (bit_or taken (way_mask rules x i))
    kept_try {x} {i} {pile} {marks} {taken} fresh on_List free k =
        let mask = way_mask rules x i in
        let outs = cells_of (get_or (listed rules x) i no_way) in
        let within = fresh_within marks x fresh in
        let now-tried : (y j : ℕ) → TriedAt (set marks x (Tried i)) y j → ((y ≡ x) × (i ≡ j)) ⊎ ((y ≡ x → ⊥) × TriedAt marks y j) = λ y j t. ⊎_elim (λ h. inl (h.0, tried_same h.1)) inr (read_back marks x y (Tried i) (Tried j) within t) in
        let old-new : (y j : ℕ) → TriedAt marks y j → Apart (way_mask rules y j) mask = λ y j t. k.tried_taken y j mask t free in
        let new-old : (y j : ℕ) → TriedAt marks y j → Apart mask (way_mask rules y j) = λ y j t. apart_sym (way_mask rules y j) mask (old-new y j t) in
        let off : (y : ℕ) → (y ≡ x → ⊥) → On y (x ∷ pile) → On y (piled rules states outs pile) = λ y ne. ⊎_elim (λ e. absurd (ne e)) (piled_keeps rules states outs pile y) in
        record {
          counted = simp length-set k.counted;
          tried_listed = λ y j t. ⊎_elim (λ h. carry (λ a b. b < length (listed rules a)) h on_List) (λ h. k.tried_listed y j h.1) (now-tried y j t);
          tried_taken = λ y j m t a. ⊎_elim (λ h. carry (λ a b. Apart (way_mask rules a b) m) h (apart_right taken mask m a)) (λ h. k.tried_taken y j m h.1 (apart_left taken mask m a)) (now-tried y j t);
          tried_apart = λ y z j l s t ne. ⊎_elim (λ h. ⊎_elim (λ g. absurd (ne (h.0 ∙ sym g.0))) (λ g. carry (λ a b. Apart (way_mask rules a b) (way_mask rules z l)) h (new-old z l g.1)) (now-tried z l t)) (λ h. ⊎_elim (λ g. carry (λ a b. Apart (way_mask rules y j) (way_mask rules a b)) g (old-new y j h.1)) (λ g. k.tried_apart y z j l h.1 g.1 ne) (now-tried z l t)) (now-tried y j s);
          tried_from = λ y j t. ⊎_elim (λ h. subst Piled (sym h.0) k.piled_from.0) (λ h. k.tried_from y j h.1) (now-tried y j t);
          fresh_apart = λ y f g. let b = fresh_before marks x y (Tried i) refl f in ⊎_elim (still_apart x i pile taken y on_List g) (λ on. inr (off y b.1 on)) (k.fresh_apart y b.0 g);
          placed_on = λ f. let b = fresh_before marks x r (Tried i) refl f in off r b.1 (k.placed_on b.0);
          put_out_after = λ y h o. ⊎_elim (λ e. absurd (tried_is_not_out i e.1)) (λ e. k.put_out_after y h e.1) (read_back marks x y (Tried i) PutOut within o);
          piled_from = piled_all rules states Piled (λ y h. inr h) outs pile k.piled_from.1;
        }

    -- At an empty pile, and at each end of a search that leads on.
    mutual
      pub leads_kept : {pile : List ℕ} {marks : List Mark} {taken : ℕ} {o : Option (List Mark)} → Leads rules states rank r pile marks taken o → Kept pile marks taken → (found : List Mark) → o ≡ Some found → (end : ℕ) × Kept [] found end
      leads_kept {taken = taken} (Leads.empty {marks = marks}) k found e = (taken, subst (λ (m : List Mark). Kept [] m taken) (some_same e) k)
      leads_kept (Leads.over d a) k found e = leads_kept a (kept_over d k) found e
      leads_kept (Leads.out d f a) k found e = leads_kept a (kept_out d f k) found e
      leads_kept (Leads.try d f t) k found e = tries_kept t refl d k found e

      tries_kept : {x : ℕ} {pile : List ℕ} {marks : List Mark} {taken : ℕ} {ways : List Way} {i : ℕ} {o : Option (List Mark)} → Tries rules states rank r x pile marks taken ways i o → drop i (listed rules x) ≡ ways → fresh_at marks x ≡ true → Kept (x ∷ pile) marks taken → (found : List Mark) → o ≡ Some found → (end : ℕ) × Kept [] found end
      tries_kept Tries.spent at f k found e = cc
      tries_kept {x} {i = i} (Tries.barred {way = way} {ways = ways} b t) at f k found e = tries_kept t (drop_front (listed rules x) i no_way way ways at).1 f k found e
      tries_kept {x} {pile} {marks} {taken} {i = i} (Tries.leads {way = way} {ways = ways} b a) at f k found e =
          let front = (drop_front (listed rules x) i no_way way ways at).0 in
          let free : Apart taken (way_mask rules x i) = subst (λ (w : Way). Apart taken w.mask) (sym front) (eqb-true _ 0 b) in
          let tried = kept_try f (drop_within (listed rules x) i way ways at) free k in
          leads_kept a (subst (λ (w : Way). Kept (piled rules states (cells_of w) pile) (set marks x (Tried i)) (bit_or taken w.mask)) front tried) found e
      tries_kept {x} {i = i} (Tries.fails {way = way} {ways = ways} b a t) at f k found e = tries_kept t (drop_front (listed rules x) i no_way way ways at).1 f k found e
