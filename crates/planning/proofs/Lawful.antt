-- Every plan is lawful, and there is one.
use Rattle.std.proofs.Common.{refl, inr}
use Rattle.planning.specs.Laws.{PlansAreLawful, PlansAreSingle}
use Rattle.planning.proofs.Supplying.{unplanned_feeder}
use Rattle.planning.proofs.InOrder.{goes_in_force, goes_once, goes_after, goes_to_end, goes_single}
use Rattle.planning.proofs.Upstream.{to_fed, fed_out, left_fed}

-- A plan is lawful, since it is what goes on behind no planned rule.
pub plans_are_lawful : PlansAreLawful
plans_are_lawful rows plan is-plan = record {
  only_in_force = goes_in_force rows is-plan;
  once = goes_once rows is-plan;
  after_givers = goes_after rows is-plan;
  left_out = λ x force out. inr (left_fed rows plan (λ y fy oy. unplanned_feeder rows plan y fy oy (goes_to_end rows is-plan y)) x force out);
  ring_out = λ x ring. fed_out rows is-plan (λ z _. refl) x (to_fed rows x ring);
}

-- There is one plan, since it goes on in one way.
pub plans_are_single : PlansAreSingle
plans_are_single rows plan plan' is-plan is-plan' = goes_single rows is-plan is-plan'
