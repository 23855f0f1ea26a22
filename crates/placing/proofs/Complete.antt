-- The search fails only if there is no choice of one listed way each, without a shared output, for the placed rule and the
-- rules in force that rank before it.
use Rattle.std.proofs.Common.{◌≡◌, ℕ, ◌≤◌, true, false, ltb, ◌⊎◌, List, drop, set, None, Option, sym, refl, subst, inl, inr, ⊎_elim, arith}
use lib.Bits.{bit_or}
use Rattle.std.specs.List.{AllByRecursion}
use Rattle.std.proofs.lemmas.Bool.{both_ways, cases_eq, eq-eqb, ltb-false}
use Rattle.meaning.proofs.MaskBits.{apart_or}
use Rattle.placing.specs.declared.rules.Way.{Way}
use Rattle.placing.specs.declared.rules.Rule.{Rule}
use Rattle.placing.specs.declared.rules.State.{State}
use Rattle.placing.specs.declared.rules.Mark.{Mark}
use Rattle.placing.specs.declared.rules.Mark.TheVariants.{PutOut, Tried}
use Rattle.placing.specs.Board.{no_way, cells_of, listed, way_mask, Apart}
use Rattle.placing.specs.Choice.{Choice, WithBetter}
use Rattle.placing.specs.Search.{fresh_at, Leads, Tries}
use Rattle.placing.proofs.Marks.{fresh_before, drop_front, drop_none}
use Rattle.placing.proofs.Givers.{InForceAt, piled_all}

module _ (rules : List Rule) (states : List State) (rank : ℕ → ℕ) (r : ℕ) (same_rank : (x : ℕ) → InForceAt rules states x → rank x ≡ rank r → x ≡ r) (pick : ℕ → ℕ) (choice : Choice rules (WithBetter states rank r) pick) where
  abbrev InSet : ℕ → Type 0
  InSet = WithBetter states rank r

  -- What stands on the pile: the placed rule, and rules in force.
  abbrev Piled : ℕ → Type 0
  Piled x = (x ≡ r) ⊎ InForceAt rules states x

  -- Every fresh rule of the set could still take its way in the choice.
  abbrev Clear : List Mark → ℕ → Type 0
  Clear marks taken = (x : ℕ) → InSet x → fresh_at marks x ≡ true → Apart taken (way_mask rules x (pick x))

  -- A rule of the pile that does not rank after the placed one is in the set.
  in_set : (x : ℕ) → Piled x → ltb (rank r) (rank x) ≡ false → InSet x
  in_set x (inl e) not_after = inl e
  in_set x (inr f) not_after =
      ⊎_elim (λ e. inl (same_rank x f e)) (λ ne. inr (f, omega (arith, ltb-false (rank r) (rank x) not_after))) (cases_eq (rank x) (rank r))

  -- A rule that gets a mark leaves the others clear.
  clear_put_out : (marks : List Mark) (taken x : ℕ) → Clear marks taken → Clear (set marks x PutOut) taken
  clear_put_out marks taken x clear y s f = clear y s (fresh_before marks x y PutOut refl f).0

  clear_tried : (marks : List Mark) (taken x i : ℕ) → InSet x → i ≡ pick x → Clear marks taken → Clear (set marks x (Tried i)) (bit_or taken (way_mask rules x i))
  clear_tried marks taken x i sx e clear y sy f =
      let before = fresh_before marks x y (Tried i) refl f in
      let shared : Apart (way_mask rules x i) (way_mask rules y (pick y)) = rw e (choice.no_shared x y sx sy (λ q. before.1 (sym q))) in
      apart_or taken (way_mask rules x i) (way_mask rules y (pick y)) (clear y sy before.0) shared

  mutual
    pub leads_complete : {pile : List ℕ} {marks : List Mark} {taken : ℕ} {o : Option (List Mark)} → Leads rules states rank r pile marks taken o → o ≡ None → AllByRecursion Piled pile → Clear marks taken → ⊥
    leads_complete Leads.empty e all clear = cc
    leads_complete (Leads.over d a) e all clear = leads_complete a e all.1 clear
    leads_complete {marks = marks} {taken = taken} (Leads.out {x = x} d f a) e all clear = leads_complete a e all.1 (clear_put_out marks taken x clear)
    leads_complete (Leads.try {x = x} d f t) e all clear = tries_complete t e refl (in_set x all.0 f) d (omega arith) all.1 clear

    tries_complete : {x : ℕ} {pile : List ℕ} {marks : List Mark} {taken : ℕ} {ways : List Way} {i : ℕ} {o : Option (List Mark)} → Tries rules states rank r x pile marks taken ways i o → o ≡ None → drop i (listed rules x) ≡ ways → InSet x → fresh_at marks x ≡ true → i ≤ pick x → AllByRecursion Piled pile → Clear marks taken → ⊥
    tries_complete {x} {i = i} Tries.spent e at s f le all clear = omega (arith, drop_none (listed rules x) i at, choice.on_list x s)
    tries_complete {x} {taken = taken} {i = i} (Tries.barred {way = way} {ways = ways} b t) e at s f le all clear =
        let front = drop_front (listed rules x) i no_way way ways at in
        let free : i ≡ pick x → ⊥ = λ q. both_ways _ b (eq-eqb _ 0 (subst (λ (w : Way). Apart taken w.mask) front.0 (subst (λ (k : ℕ). Apart taken (way_mask rules x k)) (sym q) (clear x s f)))) in
        tries_complete t e front.1 s f (omega arith) all clear
    tries_complete (Tries.leads b a) e at s f le all clear = cc
    tries_complete {x} {marks = marks} {taken = taken} {i = i} (Tries.fails {way = way} {ways = ways} b a t) e at s f le all clear =
        let front = drop_front (listed rules x) i no_way way ways at in
        let onto = piled_all rules states Piled (λ y h. inr h) (cells_of way) _ all in
        ⊎_elim (λ q. leads_complete a refl onto (subst (λ (w : Way). Clear (set marks x (Tried i)) (bit_or taken w.mask)) front.0 (clear_tried marks taken x i s q clear)))
        (λ ne. tries_complete t e front.1 s f (omega arith) all clear) (cases_eq i (pick x))
