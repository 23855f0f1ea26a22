-- The order of the rules is strict and total, so that counting the rules before a rule gives its rank.
use Rattle.std.proofs.Common.{◌≡◌, ℕ, ◌<◌, Bool, true, false, ltb, List, length, Some, None, Option, sym, refl, ap, ◌∙◌, subst, ⊎_elim, arith}
use Rattle.std.proofs.lemmas.Bool.{both_ways, cases_Bool, cases_eq, cond_both, lt-ltb, le-ltb, ltb-true, ltb-false}
use Rattle.std.specs.declared.cmp.Ordering.{Ordering}
use Rattle.std.specs.declared.cmp.Ordering.TheVariants.{Less, Equal, Greater}
use Rattle.std.specs.Ordering.{ordering_reverse, is_le}
use Rattle.std.specs.Prelude.{slice_get, slice_index_or}
use Rattle.std.specs.List.{range_with_len}
use Rattle.std.proofs.lemmas.List.FromFn.{length-range_with_len, get_or-range_with_len}
use Rattle.std.proofs.lemmas.List.Sums.{count_by-le-length}
use Rattle.meaning.specs.Masks.{bit}
use Rattle.meaning.specs.Ranks.{Ranks, RankLaws}
use Rattle.ranks.specs.RankOrder.{if_known, strength_of, or_number, precedes, ranks_before, rank_number, Orders}
use Rattle.ranks.specs.Numbers.{Distinct, Below64}
use Rattle.ranks.proofs.Counting.{count_less}

ltb_self : (x : ℕ) → ltb x x ≡ false
ltb_self x = le-ltb x x (omega arith)

-- What an order says with its two strengths exchanged.
not_after_back : (o : Ordering) (t : Bool) → or_number o t ≡ true → is_le o ≡ true
not_after_back Less t h = refl
not_after_back Equal t h = refl
not_after_back Greater t h = h

before_after : Less ≡ Greater → ⊥
before_after e = let z : ◌≡◌ {A = ℕ} 0 1 = cc in omega arith

fixed : (o : Ordering) → o ≡ ordering_reverse o → o ≡ Equal
fixed Less e = absurd (before_after e)
fixed Equal e = refl
fixed Greater e = absurd (before_after (sym e))

by_order : {G : Type 0} (o : Ordering) → (o ≡ Less → G) → (o ≡ Equal → G) → (o ≡ Greater → G) → G
by_order Less b l a = b refl
by_order Equal b l a = l refl
by_order Greater b l a = a refl

module _ {S : Type 0} (m : Ranks S) (laws : RankLaws m) where
  abbrev Known : Option S → Type 0
  Known (Some s) = m.known s ≡ true
  Known None = Unit {0}

  if_known_lem : (o : Option S) → Known (if_known m o)
  if_known_lem (Some s) = cond_both (m.known s) (Some s) None Known (λ e. e) (λ _. tt)
  if_known_lem None = tt

  -- A strength is level with itself.
  self_level : (a : S) → m.known a ≡ true → m.order a a ≡ Equal
  self_level a k = fixed (m.order a a) (laws.exchange a a k k)

  -- A strength that is not after a second is not after what the second is not after; level with that only if level twice.
  left_level : (a b c : S) → m.known a ≡ true → m.known b ≡ true → m.known c ≡ true → is_le (m.order a b) ≡ true → is_le (m.order b c) ≡ true → m.order a c ≡ Equal → m.order a b ≡ Equal
  left_level a b c ka kb kc ab bc level =
      by_order (m.order a b) (λ e. absurd (both_ways _ (ap is_le (laws.exchange a b ka kb ∙ ap ordering_reverse e)) (laws.transitive b c a kb kc ka bc (ap is_le (laws.exchange a c ka kc ∙ ap ordering_reverse level))))) (λ e. e) (λ e. absurd (both_ways _ (ap is_le e) ab))

  right_level : (a b c : S) → m.known a ≡ true → m.known b ≡ true → m.known c ≡ true → is_le (m.order a b) ≡ true → is_le (m.order b c) ≡ true → m.order a c ≡ Equal → m.order b c ≡ Equal
  right_level a b c ka kb kc ab bc level =
      by_order (m.order b c) (λ e. absurd (both_ways _ (ap is_le (laws.exchange b c kb kc ∙ ap ordering_reverse e)) (laws.transitive c a b kc ka kb (ap is_le (laws.exchange a c ka kc ∙ ap ordering_reverse level)) ab))) (λ e. e) (λ e. absurd (both_ways _ (ap is_le e) bc))

  order_trans : (a b c : S) (x y z : ℕ) → m.known a ≡ true → m.known b ≡ true → m.known c ≡ true → or_number (m.order a b) (ltb x y) ≡ true → or_number (m.order b c) (ltb y z) ≡ true → or_number (m.order a c) (ltb x z) ≡ true
  order_trans a b c x y z ka kb kc h k =
      let ab = not_after_back (m.order a b) (ltb x y) h in
      let bc = not_after_back (m.order b c) (ltb y z) k in
      by_order (m.order a c) (λ e. ap (λ o. or_number o (ltb x z)) e) (λ e. let lower = ap (λ o. or_number o (ltb x y)) (sym (left_level a b c ka kb kc ab bc e)) ∙ h in let further = ap (λ o. or_number o (ltb y z)) (sym (right_level a b c ka kb kc ab bc e)) ∙ k in ap (λ o. or_number o (ltb x z)) e ∙ lt-ltb x z (omega (arith, ltb-true x y lower, ltb-true y z further))) (λ e. absurd (both_ways _ (ap is_le e) (laws.transitive a b c ka kb kc ab bc)))

  -- The order of the rules, by their strengths and numbers: strict, transitive and total.
  irreflexive : (a : Option S) (x : ℕ) → Known a → precedes m a x a x ≡ false
  irreflexive (Some a) x k = ap (λ o. or_number o (ltb x x)) (self_level a k) ∙ ltb_self x
  irreflexive None x k = ltb_self x

  transitive : (a b c : Option S) (x y z : ℕ) → Known a → Known b → Known c → precedes m a x b y ≡ true → precedes m b y c z ≡ true → precedes m a x c z ≡ true
  transitive (Some a) (Some b) (Some c) x y z ka kb kc h k = order_trans a b c x y z ka kb kc h k
  transitive (Some a) (Some b) None x y z ka kb kc h k = refl
  transitive (Some a) None (Some c) x y z ka kb kc h k = absurd (both_ways _ refl k)
  transitive (Some a) None None x y z ka kb kc h k = refl
  transitive None (Some b) c x y z ka kb kc h k = absurd (both_ways _ refl h)
  transitive None None (Some c) x y z ka kb kc h k = k
  transitive None None None x y z ka kb kc h k = lt-ltb x z (omega (arith, ltb-true x y h, ltb-true y z k))

  total : (a b : Option S) (x y : ℕ) → Known a → Known b → (x ≡ y → ⊥) → precedes m a x b y ≡ false → precedes m b y a x ≡ true
  total (Some a) (Some b) x y ka kb ne h =
      by_order (m.order a b) (λ e. absurd (both_ways _ h (ap (λ o. or_number o (ltb x y)) e))) (λ e. let higher = ltb-false x y (ap (λ o. or_number o (ltb x y)) (sym e) ∙ h) in ap (λ o. or_number o (ltb y x)) (laws.exchange a b ka kb ∙ ap ordering_reverse e) ∙ lt-ltb y x (omega arith)) (λ e. ap (λ o. or_number o (ltb y x)) (laws.exchange a b ka kb ∙ ap ordering_reverse e))
  total (Some a) None x y ka kb ne h = absurd (both_ways _ h refl)
  total None (Some b) x y ka kb ne h = refl
  total None None x y ka kb ne h = lt-ltb y x (omega (arith, ltb-false x y h))

  module _ (strengths : List S) (standing : ℕ) where
    abbrev before : ℕ → ℕ → Bool
    before = ranks_before m strengths standing

    known : (x : ℕ) → Known (strength_of m strengths standing x)
    known x = cond_both (bit standing x) (if_known m (slice_get strengths x)) None Known (λ _. if_known_lem (slice_get strengths x)) (λ _. tt)

    abbrev rank : ℕ → ℕ
    rank = rank_number m strengths standing

    abbrev numbers : List ℕ
    numbers = range_with_len 0 64

    -- Each number below 64 stands on the list of them at its own place.
    there : (x : ℕ) → x < 64 → x < length numbers
    there x lt = omega (arith, lt, length-range_with_len 0 64)

    read : (x : ℕ) → x < 64 → slice_index_or numbers x 0 ≡ x
    read x lt = get_or-range_with_len 0 64 x 0 lt ∙ omega arith

    not_itself : (x : ℕ) → x < 64 → before (slice_index_or numbers x 0) x ≡ false
    not_itself x lt = subst (λ (z : ℕ). before z x ≡ false) (sym (read x lt)) (irreflexive (strength_of m strengths standing x) x (known x))

    -- What ranks before x ranks before what x ranks before, and x does not rank before itself.
    rises : (x y : ℕ) → x < 64 → before x y ≡ true → rank x < rank y
    rises x y lt h =
        count_less (λ z. before z x) (λ z. before z y) (λ z k. transitive (strength_of m strengths standing z) (strength_of m strengths standing x) (strength_of m strengths standing y) z x y (known z) (known x) (known y) k h) numbers x 0 (there x lt) (subst (λ (z : ℕ). before z y ≡ true) (sym (read x lt)) h) (not_itself x lt)

    other_way : (x y : ℕ) → (x ≡ y → ⊥) → before x y ≡ false → before y x ≡ true
    other_way x y ne h = total (strength_of m strengths standing x) (strength_of m strengths standing y) x y (known x) (known y) ne h

    pub rank_orders : Orders m strengths standing rank
    rank_orders x y lx ly =
        ⊎_elim (λ h. lt-ltb (rank x) (rank y) (rises x y lx h) ∙ sym h) (λ h. ⊎_elim (λ e. subst (λ (z : ℕ). ltb (rank x) (rank z) ≡ before x y) e (ltb_self (rank x) ∙ sym h)) (λ ne. let less = rises y x ly (other_way x y ne h) in le-ltb (rank x) (rank y) (omega arith) ∙ sym h) (cases_eq x y)) (cases_Bool (before x y))

    pub rank_below : Below64 rank
    rank_below x lt =
        let less = count_less (λ z. before z x) (λ _. true) (λ z _. refl) numbers x 0 (there x lt) refl (not_itself x lt) in
        omega (arith, less, count_by-le-length (λ (z : ℕ). true) numbers, length-range_with_len 0 64)

    pub rank_distinct : Distinct rank
    rank_distinct x y lx ly e =
        ⊎_elim (λ same. same) (λ ne. ⊎_elim (λ h. absurd (omega (arith, rises x y lx h))) (λ h. absurd (omega (arith, rises y x ly (other_way x y ne h)))) (cases_Bool (before x y))) (cases_eq x y)
