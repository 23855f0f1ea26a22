-- Rings and the rules that they feed: none of them is ever planned, and a walk upstream from a rule that is left out ends on
-- a ring.
use Rattle.std.proofs.Common.{◌≡◌, ℕ, zero, suc, ◌≤◌, true, false, List, [], ◌∷◌, set, None, Option, sym, refl, ◌∙◌, subst, inl, inr, ⊎_elim, arith}
use Rattle.std.proofs.lemmas.Bool.{both_ways, cases_Bool, cases_eq}
use Rattle.meaning.specs.Lists.{is_on}
use Rattle.planning.specs.declared.flows.Flow.{Flow}
use Rattle.planning.specs.Flows.{flow_at, rule_in_force, Feeds}
use Rattle.planning.specs.Plan.{Ready, GoesOn}
use Rattle.planning.specs.Rings.{Path, Fed, OnOrFed}
use Rattle.planning.proofs.Members.{off_both, off_cons}
use Rattle.planning.proofs.LeftOver.{set_others, count_of, count_less}
use Rattle.planning.proofs.Supplying.{reads_in_force, UnplannedFeeder}

module _ (rows : List (Option Flow)) where
  -- A path goes on by one step at its end.
  path_on : {x y z : ℕ} → Path rows x y → Feeds rows y z → Path rows x z
  path_on (Path.step first) last = Path.onward first (Path.step last)
  path_on (Path.onward first path) last = Path.onward first (path_on path last)

  -- A rule on a ring is fed from that ring.
  pub to_fed : (x : ℕ) → OnOrFed rows x → Fed rows x
  to_fed x (inl ring) = (x, ring, ring)
  to_fed x (inr fed) = fed

  -- A path from a rule that is fed from a ring ends at one with a feeder that is fed from a ring too: the one before it.
  path_feeder : {a y : ℕ} → Fed rows a → Path rows a y → (w : ℕ) × Feeds rows w y × Fed rows w
  path_feeder {a} fed (Path.step last) = (a, last, fed)
  path_feeder fed (Path.onward first path) = path_feeder (fed.0, fed.1, path_on fed.2 first) path

  -- So a rule that is fed from a ring has a feeder that is.
  fed_feeder : (y : ℕ) → Fed rows y → (w : ℕ) × Feeds rows w y × Fed rows w
  fed_feeder y fed = path_feeder (fed.0, fed.1, fed.1) fed.2

  -- A rule that is fed from a ring is in force, since it reads a cell.
  pub fed_in_force : (y : ℕ) → Fed rows y → rule_in_force rows y ≡ true
  fed_in_force y fed = let feeder = fed_feeder y fed in reads_in_force (flow_at rows y) feeder.1.0 feeder.1.2

  -- A ready rule is not fed from a ring as long as no planned rule is, since its feeders are planned.
  fed_unready : {planned : List ℕ} {y : ℕ} → ((x : ℕ) → Fed rows x → is_on x planned ≡ false) → Ready rows planned y → Fed rows y → ⊥
  fed_unready {y = y} clean ready fed =
      let feeder = fed_feeder y fed in
      both_ways _ (clean feeder.0 feeder.2) (ready.supplied feeder.0 feeder.1)

  -- So if no planned rule is fed from a ring, the plan goes on with none.
  pub fed_out : {planned rest : List ℕ} → GoesOn rows planned rest → ((x : ℕ) → Fed rows x → is_on x planned ≡ false) → (x : ℕ) → Fed rows x → is_on x rest ≡ false
  fed_out (GoesOn.ends none) clean x fed = refl
  fed_out {planned} (GoesOn.next {rest = rest} {y = y} ready lowest go) clean x fed =
      let other : (z : ℕ) → Fed rows z → z ≡ y → ⊥ = λ z fz e. fed_unready clean ready (subst (Fed rows) e fz) in
      off_cons x y rest (other x fed) (fed_out go (λ z fz. off_both z planned (y ∷ []) (clean z fz) (off_cons z y [] (other z fz) refl)) x fed)

  -- In this section each rule in force that the plan leaves out has a feeder that it leaves out too.
  module _ (plan : List ℕ) (feeder : (y : ℕ) → rule_in_force rows y ≡ true → is_on y plan ≡ false → UnplannedFeeder rows plan y) where
    -- A rule left out, with a path to every rule seen, is fed from a ring: a walk from feeder to feeder comes back to a rule
    -- seen, since each step leaves one unseen rule less.
    walk : (n : ℕ) (unseen : List (Option Flow)) (y : ℕ) → count_of unseen ≤ n → rule_in_force unseen y ≡ true → rule_in_force rows y ≡ true → is_on y plan ≡ false → ((s : ℕ) → rule_in_force rows s ≡ true → rule_in_force unseen s ≡ false → Path rows y s) → Fed rows y
    walk zero unseen y few here force out seen = absurd (omega (arith, count_less unseen y here))
    walk (suc n) unseen y few here force out seen =
        ⊎_elim (λ new. let fed = walk n (set unseen y None) x (omega (arith, count_less unseen y here)) new fx ox seen' in (fed.0, fed.1, path_on fed.2 feeds))
        (λ old. ⊎_elim (λ e. let ring = Path.step (subst (λ (z : ℕ). Feeds rows z y) e feeds) in (y, ring, ring)) (λ ne. (x, Path.onward feeds (seen x fx (sym (set_others unseen y x ne) ∙ old)), Path.step feeds)) (cases_eq x y))
        (cases_Bool (rule_in_force (set unseen y None) x))
      where
        x : ℕ
        x = (feeder y force out).0

        fx : rule_in_force rows x ≡ true
        fx = (feeder y force out).1

        ox : is_on x plan ≡ false
        ox = (feeder y force out).2

        feeds : Feeds rows x y
        feeds = (feeder y force out).3

        seen' : (s : ℕ) → rule_in_force rows s ≡ true → rule_in_force (set unseen y None) s ≡ false → Path rows x s
        seen' s fs old =
            ⊎_elim (λ e. Path.step (subst (λ (z : ℕ). Feeds rows x z) (sym e) feeds)) (λ ne. Path.onward feeds (seen s fs (sym (set_others unseen y s ne) ∙ old))) (cases_eq s y)

    -- Each rule left out is fed from a ring, since the walk from it starts with no rule seen.
    pub left_fed : (y : ℕ) → rule_in_force rows y ≡ true → is_on y plan ≡ false → Fed rows y
    left_fed y force out = walk (count_of rows) rows y (omega arith) force force out (λ s fs us. absurd (both_ways _ us fs))
