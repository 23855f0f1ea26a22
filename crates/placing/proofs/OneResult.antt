-- Two settled boards with the same rules have the same rules in force.
use Rattle.std.proofs.Common.{◌≡◌, ℕ, zero, suc, ◌<◌, Bool, true, false, List, sym, refl, ap, ◌∙◌, inl, inr, arith}
use Rattle.placing.specs.declared.rules.Rule.{Rule}
use Rattle.placing.specs.declared.rules.State.{State}
use Rattle.placing.specs.Board.{listed, state_of, is_standing, is_in_force}
use Rattle.placing.specs.Choice.{WithBetter, Settled}
use Rattle.placing.specs.Laws.{Alike, OneResult}
use Rattle.placing.proofs.States.{force_standing, in_force_or_waits}
use Rattle.placing.proofs.Settling.{choice_for}

-- Who is in force is the same on both boards before x, so it is the same of x.
module _ (rules : List Rule) (states : List State) (rank : ℕ → ℕ) (rules' : List Rule) (states' : List State) (rank' : ℕ → ℕ) (alike : Alike rules states rank rules' states' rank') (settled : Settled rules states rank) (settled' : Settled rules' states' rank') where
  stands : (x : ℕ) → is_in_force (state_of states x) ≡ true → is_standing (state_of states x) ≡ true
  stands x f = force_standing (state_of states x) f

  stands' : (x : ℕ) → is_in_force (state_of states' x) ≡ true → is_standing (state_of states x) ≡ true
  stands' x f = alike.standing x ∙ force_standing (state_of states' x) f

  module _ (x : ℕ) (before : (z : ℕ) → rank z < rank x → is_in_force (state_of states z) ≡ is_in_force (state_of states' z)) (sx : is_standing (state_of states x) ≡ true) where
    there : (z : ℕ) → WithBetter states rank x z → WithBetter states' rank' x z
    there z (inl e) = inl e
    there z (inr h) = inr (sym (before z h.1) ∙ h.0, alike.order z x (stands z h.0) sx h.1)

    back : (z : ℕ) → WithBetter states' rank' x z → WithBetter states rank x z
    back z (inl e) = inl e
    back z (inr h) = let lt = alike.order_back z x (stands' z h.0) sx h.1 in inr (before z lt ∙ h.0, lt)

    ways : (z : ℕ) → WithBetter states rank x z → listed rules z ≡ listed rules' z
    ways z (inl e) = alike.same_ways z (ap (λ (y : ℕ). is_standing (state_of states y)) e ∙ sx)
    ways z (inr h) = alike.same_ways z (stands z h.0)

    forward : is_in_force (state_of states x) ≡ true → is_in_force (state_of states' x) ≡ true
    forward f =
        in_force_or_waits (state_of states' x) (sym (alike.standing x) ∙ sx) (λ w. (settled' x).none w (choice_for rules rules' (WithBetter states rank x) (WithBetter states' rank' x) back (λ z h. ways z (back z h)) ((settled x).some f)))

    backward : is_in_force (state_of states' x) ≡ true → is_in_force (state_of states x) ≡ true
    backward f =
        in_force_or_waits (state_of states x) sx (λ w. (settled x).none w (choice_for rules' rules (WithBetter states' rank' x) (WithBetter states rank x) there (λ z h. sym (ways z h)) ((settled' x).some f)))

  both_false : (a b : Bool) → (a ≡ true → b ≡ true) → (b ≡ true → a ≡ true) → a ≡ b
  both_false true b f g = sym (f refl)
  both_false false true f g = g refl
  both_false false false f g = refl

  same_up_to : (n x : ℕ) → rank x < n → is_in_force (state_of states x) ≡ is_in_force (state_of states' x)
  same_up_to zero x lt = absurd (omega arith)
  same_up_to (suc n) x lt =
      let before = λ (z : ℕ) (h : rank z < rank x). same_up_to n z (omega arith) in
      both_false (is_in_force (state_of states x)) (is_in_force (state_of states' x)) (λ f. forward x before (stands x f) f) (λ f. backward x before (stands' x f) f)

  same : (x : ℕ) → is_in_force (state_of states x) ≡ is_in_force (state_of states' x)
  same x = same_up_to (suc (rank x)) x (omega arith)

pub one_result : OneResult
one_result rules states rank rules' states' rank' alike settled settled' x = same rules states rank rules' states' rank' alike settled settled' x
