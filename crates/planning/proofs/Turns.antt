-- The turns of planning: what holds of the plan so far and of the rules left.
use Rattle.std.proofs.Common.{◌≡◌, ℕ, ◌+◌, ◌<◌, ◌≤◌, Bool, true, false, List, [], ◌∷◌, ◌++◌, length, get_or, set, is_some, Some, None, Option, sym, refl, ap, ◌∙◌, subst, ⊎_elim, arith, length-append, length-set}
use Rattle.std.proofs.lemmas.List.{append-nil, append_assoc, get_or_past}
use Rattle.std.proofs.lemmas.Bool.{both_ways, cases_lt}
use Rattle.std.proofs.lemmas.List.Quantifiers.{position-Some}
use Rattle.std.proofs.lemmas.List.Sums.{count_by-le-length, fails_before_first}
use Rattle.std.specs.List.{position}
use Rattle.planning.specs.declared.flows.Flow.{Flow}
use Rattle.planning.specs.Flows.{flow_at, rule_in_force}
use Rattle.planning.specs.Plan.{Ready, GoesOn, IsPlan, rules_where, held_rules, is_held}
use Rattle.planning.specs.Left.{outputs_of, is_ready, first_ready}
use Rattle.planning.proofs.Numbers.{rules_agree}
use Rattle.planning.proofs.LeftOver.{Leaves, leaves_next, left_held, count_of, count_less}
use Rattle.planning.proofs.Lawful.{plans_are_lawful}
use Rattle.planning.proofs.Held.{held_are_rings}
use Rattle.planning.proofs.Supplying.{ready_parts, ready_from_test, test_from_ready}

-- The rules left are those not yet planned, whatever the plan so far goes on with makes it a plan, and there is room on it
-- for the rules left.
pub record Stands (rows : List (Option Flow)) (order : List ℕ) (left : List (Option Flow)) : Type 0 where
  pub leaves : Leaves rows order left
  pub goes : (rest : List ℕ) → GoesOn rows order rest → IsPlan rows (order ++ rest)
  pub room : length order + count_of left ≤ 64
  pub sized : length left ≡ 64

-- At the start no rule is planned and all are left.
pub stands_first : (rows : List (Option Flow)) → length rows ≡ 64 → Stands rows [] rows
stands_first rows sized = record { leaves = λ x. refl; goes = λ rest go. go; room = omega (arith, count_by-le-length is_some rows, sized); sized = sized }

-- Where the first element that passes a test has no position, each fails it.
none_passes : {X : Type 0} (test : X → Bool) (xs : List X) (z : ℕ) (d : X) → position test xs ≡ None → z < length xs → test (get_or xs z d) ≡ false
none_passes test xs z d none lt = grind (arith, none, fails_before_first test xs z d)

-- The rule that is planned next stands among those left and passes the test, and no lower one does.
first_passes : (left : List (Option Flow)) (y : ℕ) → first_ready left ≡ Some y → (y < length left) × (is_ready (flow_at left y) (outputs_of left) ≡ true) × ((z : ℕ) → z < y → is_ready (flow_at left z) (outputs_of left) ≡ false)
first_passes left y is = position-Some (λ row. is_ready row (outputs_of left)) left y None is

-- It was left, so one less is left behind it.
pub next_less : (left : List (Option Flow)) (y : ℕ) → first_ready left ≡ Some y → count_of (set left y None) + 1 ≡ count_of left
next_less left y is = count_less left y (ready_parts (flow_at left y) (outputs_of left) (first_passes left y is).1).0

module _ (rows : List (Option Flow)) (order : List ℕ) (left : List (Option Flow)) (stands : Stands rows order left) where
  -- The first rule that passes the test is the lowest that is ready, so the plan goes on with it.
  pub stands_next : (y : ℕ) → first_ready left ≡ Some y → Stands rows (order ++ y ∷ []) (set left y None)
  stands_next y is =
      record {
        leaves = leaves_next rows order left y stands.leaves;
        goes = λ rest go. subst (IsPlan rows) (sym (append_assoc order (y ∷ []) rest)) (stands.goes (y ∷ rest) (GoesOn.next (ready_from_test rows order left stands.leaves y (first_passes left y is).1) lowest go));
        room = grind (arith, length-append order (y ∷ []), next_less left y is, stands.room);
        sized = length-set left y None ∙ stands.sized;
      }
    where
      lowest : (z : ℕ) → z < y → Ready rows order z → ⊥
      lowest z lt other = both_ways _ ((first_passes left y is).2 z lt) (test_from_ready rows order left stands.leaves z other)

  -- Its number is that of a rule.
  pub stands_number : (y : ℕ) → first_ready left ≡ Some y → y < 64
  stands_number y is = omega (arith, stands.sized, (first_passes left y is).0)

  -- There is room for it on the plan.
  pub stands_room : (y : ℕ) → first_ready left ≡ Some y → length order < 64
  stands_room y is = omega (arith, stands.room, next_less left y is)

  -- If none passes it, none is ready, and the plan ends here.
  pub stands_end : first_ready left ≡ None → IsPlan rows order
  stands_end is =
      subst (IsPlan rows) (append-nil order) (stands.goes [] (GoesOn.ends (λ z ready. both_ways _ (fails z) (test_from_ready rows order left stands.leaves z ready))))
    where
      fails : (z : ℕ) → is_ready (flow_at left z) (outputs_of left) ≡ false
      fails z =
          ⊎_elim (none_passes (λ row. is_ready row (outputs_of left)) left z None is) (λ le. ap (λ row. is_ready row (outputs_of left)) (get_or_past left z None le)) (cases_lt z (length left))

  -- The rules in force that are left are held.
  pub stands_held : rules_where (rule_in_force left) ≡ held_rules rows order
  stands_held = rules_agree (rule_in_force left) (is_held rows order) (left_held rows order left stands.leaves)

-- What the check is given to close the goals of planning.
pub ruleset planning_turns = (stands_first, stands_number, stands_end, stands_held, next_less, plans_are_lawful, held_are_rings)
