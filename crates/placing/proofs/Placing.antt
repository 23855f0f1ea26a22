-- The laws of placing, put together.
use Rattle.std.proofs.Common.{◌≡◌, ℕ, ◌<◌, ◌≤◌, true, false, ◌⊎◌, List, [], ◌∷◌, get_or, replicate, refl, ap, ◌∙◌, inl, inr, ⊎_elim, arith}
use lib.Bits.{and_zero_l}
use lib.ListN.{get_or-replicate, length-replicate}
use Rattle.std.proofs.lemmas.List.{get_or_past}
use Rattle.std.proofs.lemmas.Bool.{cases_lt}
use Rattle.placing.specs.declared.rules.Rule.{Rule}
use Rattle.placing.specs.declared.rules.State.{State}
use Rattle.placing.specs.declared.rules.Mark.TheVariants.{PutOut, Fresh, Tried}
use Rattle.placing.specs.Board.{way_mask, gives, state_of, is_in_force, is_waiting}
use Rattle.placing.specs.Choice.{Choosable, WithBetter}
use Rattle.placing.specs.Search.{Places}
use Rattle.placing.specs.Laws.{IsBoard, Placed, PlacingIsLawful}
use Rattle.ranks.specs.Numbers.{Distinct}
use Rattle.placing.proofs.Single.{places_single}
use Rattle.placing.proofs.Complete.{leads_complete}
use Rattle.placing.proofs.Sound.{Kept, leads_kept}
use Rattle.placing.proofs.After.{in_force_small, listed_cells, force_choice, success}

-- At the start every rule is fresh.
start_mark : (x : ℕ) → (get_or (replicate 64 Fresh) x PutOut ≡ Fresh) ⊎ ((64 ≤ x) × (get_or (replicate 64 Fresh) x PutOut ≡ PutOut))
start_mark x =
    ⊎_elim (λ lt. inl (get_or-replicate 64 x Fresh PutOut lt)) (λ le. inr (le, get_or_past (replicate 64 Fresh) x PutOut (omega (arith, length-replicate 64 Fresh)))) (cases_lt x 64)

none_tried : (x i : ℕ) → get_or (replicate 64 Fresh) x PutOut ≡ Tried i → ⊥
none_tried x i t = ⊎_elim (λ e. cc) (λ e. let out = e.1 in cc) (start_mark x)

module _ (rules : List Rule) (states : List State) (rank : ℕ → ℕ) (r : ℕ) (b : IsBoard rules states) (distinct : Distinct rank) (small : r < 64) (waits : is_waiting (state_of states r) ≡ true) where
  start_kept : Kept rules states rank r (r ∷ []) (replicate 64 Fresh) 0
  start_kept = record {
    counted = length-replicate 64 Fresh;
    tried_listed = λ x i t. absurd (none_tried x i t);
    tried_taken = λ x i m t _. absurd (none_tried x i t);
    tried_apart = λ x y i j t _ _. absurd (none_tried x i t);
    tried_from = λ x i t. absurd (none_tried x i t);
    fresh_apart = λ x _ _. inl (and_zero_l (gives rules states x));
    placed_on = λ _. inl refl;
    put_out_after = λ x lt o. ⊎_elim (λ e. cc) (λ e. absurd (omega (arith, e.0))) (start_mark x);
    piled_from = (inl refl, tt);
  }

  sound : (after : List State) → Places rules states rank r true after → Placed rules states rank r after
  sound after (Places.placed {found = found} d) =
      let kept = leads_kept rules states rank r b.no_two_givers (in_force_small rules states b.states_counted) (listed_cells rules b.lawful) d start_kept found refl in
      success rules states rank r b small waits found kept.0 kept.1

  same_rank : (x : ℕ) → is_in_force (state_of states x) ≡ true → rank x ≡ rank r → x ≡ r
  same_rank x f e = distinct x r (in_force_small rules states b.states_counted x f) small e

  succeeds : (after : List State) → Places rules states rank r true after → Choosable rules (WithBetter states rank r)
  succeeds after p =
      let done = sound after p in
      force_choice rules after done.board (WithBetter states rank r) (λ x. ⊎_elim (λ e. ap (λ y. is_in_force (state_of after y)) e ∙ done.in_force) (λ h. done.before x h.1 ∙ h.0))

  fails : (after : List State) → Places rules states rank r false after → Choosable rules (WithBetter states rank r) → ⊥
  fails after (Places.refused d) choice =
      leads_complete rules states rank r same_rank choice.0 choice.1 d refl (inl refl, tt) (λ x _ _. and_zero_l (way_mask rules x (choice.0 x)))

  unchanged : (after : List State) → Places rules states rank r false after → after ≡ states
  unchanged after (Places.refused d) = refl

pub placing_is_lawful : PlacingIsLawful
placing_is_lawful rules states rank r b distinct small waits = record {
  single = λ a c s t p q. places_single rules states rank r p q;
  sound = sound rules states rank r b distinct small waits;
  succeeds = succeeds rules states rank r b distinct small waits;
  fails = fails rules states rank r b distinct small waits;
  unchanged = unchanged rules states rank r b distinct small waits;
}
