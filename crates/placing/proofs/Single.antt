-- A search, a placing, a pass and a call have at most one answer.
use Rattle.std.proofs.Common.{◌≡◌, ℕ, suc, Bool, List, set, Some, None, Option, sym, refl, ap, ◌∙◌, subst}
use Rattle.std.proofs.lemmas.Bool.{both_ways}
use Rattle.ranks.specs.Numbers.{Distinct}
use Rattle.placing.specs.declared.rules.Way.{Way}
use Rattle.placing.specs.declared.rules.Rule.{Rule}
use Rattle.placing.specs.declared.rules.State.{State}
use Rattle.placing.specs.declared.rules.State.TheVariants.{Waiting}
use Rattle.placing.specs.declared.rules.Mark.{Mark}
use Rattle.placing.specs.Board.{state_of}
use Rattle.placing.specs.Search.{applied, Leads, Tries, Places}
use Rattle.placing.specs.Calls.{Passes, PassesBehind, Adds, Removes}
use Rattle.placing.specs.Laws.{CallsAreSingle}
use Rattle.placing.proofs.States.{not_both}

-- A value that is there is not a value that is not, and two that are there are equal if they are equal as answers.
pub some_none : {X : Type 0} {x : X} → Some x ≡ None → ⊥
some_none e = cc

pub some_same : {X : Type 0} {x y : X} → Some x ≡ Some y → x ≡ y
some_same e = cc

module _ (rules : List Rule) (states : List State) (rank : ℕ → ℕ) (r : ℕ) where
  mutual
    pub leads_single : {pile : List ℕ} {marks : List Mark} {taken : ℕ} {o p : Option (List Mark)} → Leads rules states rank r pile marks taken o → Leads rules states rank r pile marks taken p → o ≡ p
    leads_single Leads.empty Leads.empty = refl
    leads_single (Leads.over d a) (Leads.over e b) = leads_single a b
    leads_single (Leads.over d a) (Leads.out e f b) = absurd (both_ways _ d e)
    leads_single (Leads.over d a) (Leads.try e f b) = absurd (both_ways _ d e)
    leads_single (Leads.out d f a) (Leads.over e b) = absurd (both_ways _ e d)
    leads_single (Leads.out d f a) (Leads.out e g b) = leads_single a b
    leads_single (Leads.out d f a) (Leads.try e g b) = absurd (both_ways _ g f)
    leads_single (Leads.try d f a) (Leads.over e b) = absurd (both_ways _ e d)
    leads_single (Leads.try d f a) (Leads.out e g b) = absurd (both_ways _ f g)
    leads_single (Leads.try d f a) (Leads.try e g b) = tries_single a b

    tries_single : {x : ℕ} {pile : List ℕ} {marks : List Mark} {taken i : ℕ} {ways : List Way} {o p : Option (List Mark)} → Tries rules states rank r x pile marks taken ways i o → Tries rules states rank r x pile marks taken ways i p → o ≡ p
    tries_single Tries.spent Tries.spent = refl
    tries_single (Tries.barred d a) (Tries.barred e b) = tries_single a b
    tries_single (Tries.barred d a) (Tries.leads e b) = absurd (both_ways _ d e)
    tries_single (Tries.barred d a) (Tries.fails e b c) = absurd (both_ways _ d e)
    tries_single (Tries.leads d a) (Tries.barred e b) = absurd (both_ways _ e d)
    tries_single (Tries.leads d a) (Tries.leads e b) = leads_single a b
    tries_single (Tries.leads d a) (Tries.fails e b c) = absurd (some_none (leads_single a b))
    tries_single (Tries.fails d a c) (Tries.barred e b) = absurd (both_ways _ e d)
    tries_single (Tries.fails d a c) (Tries.leads e b) = absurd (some_none (sym (leads_single a b)))
    tries_single (Tries.fails d a c) (Tries.fails e b f) = tries_single c f

  -- So has a placing.
  pub places_single : {a b : Bool} {s t : List State} → Places rules states rank r a s → Places rules states rank r b t → (a ≡ b) × (s ≡ t)
  places_single (Places.placed p) (Places.placed q) = (refl, ap (applied states) (some_same (leads_single p q)))
  places_single (Places.placed p) (Places.refused q) = absurd (some_none (leads_single p q))
  places_single (Places.refused p) (Places.placed q) = absurd (some_none (leads_single q p))
  places_single (Places.refused p) (Places.refused q) = (refl, refl)

-- So have the pass down, adding and removing, where no two rules share a rank.
module _ (rank : ℕ → ℕ) (distinct : Distinct rank) where
  pub passes_single : {rules : List Rule} {k n : ℕ} {s t u : List State} → Passes rules rank k n s t → Passes rules rank k n s u → t ≡ u
  passes_single Passes.end Passes.end = refl
  passes_single (Passes.skip none p) (Passes.skip _ q) = passes_single p q
  passes_single (Passes.skip none p) (Passes.place {x = x} lt e w _ _) = absurd (both_ways _ (none x lt e) w)
  passes_single (Passes.place {x = x} lt e w _ _) (Passes.skip none q) = absurd (both_ways _ (none x lt e) w)
  passes_single {rules} {k} {s = s} {u = u} (Passes.place {n = n} {x = x} {o = o} {u = v} lt e w p q) (Passes.place {x = y} {o = o'} {u = v'} lt' e' w' p' q') =
      let same : y ≡ x = distinct y x lt' lt (e' ∙ sym e) in
      let states = (places_single rules s rank x p (subst (λ (z : ℕ). Places rules s rank z o' v') same p')).1 in
      passes_single q (subst (λ (a : List State). Passes rules rank (suc k) n a u) (sym states) q')

  adds_single : (rules : List Rule) (states : List State) (r : ℕ) (rule : Rule) {a b : Bool} {s t : List State} → Adds rules states rank r rule a s → Adds rules states rank r rule b t → (a ≡ b) × (s ≡ t)
  adds_single rules states r rule (Adds.waits p) (Adds.waits q) = places_single (set rules r rule) (set states r Waiting) rank r p q
  adds_single rules states r rule (Adds.waits p) (Adds.comes q _) = absurd (both_ways _ refl (places_single (set rules r rule) (set states r Waiting) rank r p q).0)
  adds_single rules states r rule (Adds.comes p _) (Adds.waits q) = absurd (both_ways _ refl (sym (places_single (set rules r rule) (set states r Waiting) rank r p q).0))
  adds_single rules states r rule {t = u} (Adds.comes {s = s} p d) (Adds.comes {s = t} q e) =
      let same = (places_single (set rules r rule) (set states r Waiting) rank r p q).1 in
      (refl, passes_single d (subst (λ (a : List State). PassesBehind (set rules r rule) rank r a u) (sym same) e))

  removes_single : (rules : List Rule) (states : List State) (r : ℕ) {s t : List State} → Removes rules states rank r s → Removes rules states rank r t → s ≡ t
  removes_single rules states r (Removes.waited w) (Removes.waited _) = refl
  removes_single rules states r (Removes.waited w) (Removes.gave f _) = absurd (not_both (state_of states r) w f)
  removes_single rules states r (Removes.gave f _) (Removes.waited w) = absurd (not_both (state_of states r) w f)
  removes_single rules states r (Removes.gave f p) (Removes.gave _ q) = passes_single p q

pub calls_are_single : CallsAreSingle
calls_are_single rules states rank r distinct = record {
  adds = λ rule a b s t p q. adds_single rank distinct rules states r rule p q;
  removes = λ s t p q. removes_single rank distinct rules states r p q;
}
