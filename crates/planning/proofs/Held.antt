-- The held rules are those on a ring or fed from one.
use Rattle.std.proofs.Common.{◌≡◌, ℕ, ◌<◌, true, not}
use Rattle.std.proofs.lemmas.Bool.{and_parts, and_from, not-true, not_from_false}
use Rattle.meaning.specs.Lists.{is_on}
use Rattle.planning.specs.Flows.{rule_in_force}
use Rattle.planning.specs.Plan.{is_held, held_rules}
use Rattle.planning.specs.Rings.{OnOrFed}
use Rattle.planning.specs.Laws.{PlanLaws, HeldAreRings}
use Rattle.planning.proofs.Upstream.{to_fed, fed_in_force}
use Rattle.planning.proofs.Lawful.{plans_are_lawful}
use Rattle.planning.proofs.Numbers.{on_passes, passes_on, rules_rise}

-- The plan leaves out exactly the rules on a ring or fed from one, and these are in force.
pub held_are_rings : HeldAreRings
held_are_rings rows plan is-plan = record { held_ring = held_ring; ring_held = ring_held; rising = λ i j. rules_rise (is_held rows plan) i j 0 }
  where
    lawful : PlanLaws rows plan
    lawful = plans_are_lawful rows plan is-plan

    held_ring : (x : ℕ) → is_on x (held_rules rows plan) ≡ true → OnOrFed rows x
    held_ring x on =
        let parts = and_parts (rule_in_force rows x) (not (is_on x plan)) (on_passes (is_held rows plan) x on) in
        lawful.left_out x parts.0 (not-true (is_on x plan) parts.1)

    ring_held : (x : ℕ) → x < 64 → OnOrFed rows x → is_on x (held_rules rows plan) ≡ true
    ring_held x lt ring =
        passes_on (is_held rows plan) x lt (and_from (rule_in_force rows x) (not (is_on x plan)) (fed_in_force rows x (to_fed rows x ring)) (not_from_false (is_on x plan) (lawful.ring_out x ring)))
