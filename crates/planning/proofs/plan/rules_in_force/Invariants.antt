-- With the rules in force among the rows that are left, the list holds those of all rows.
use Rattle.std.proofs.Common.{◌≡◌, ◌≤◌, ◌+◌, ◌++◌, length}
use Rattle.planning.proofs.Found.{found_from}
use Rattle.planning.proofs.plan.rules_in_force.Given as goal

abbrev pub invariant-loop-x : goal.invariant-loop-x
invariant-loop-x l =
    (l.list ++ found_from l.x-iterator.a.start l.x-iterator.b.rest.now ≡ found_from 0 l.rows)
    × (length l.list ≤ l.x-iterator.a.start)
    × (l.x-iterator.a.end ≡ 64)
    × (l.x-iterator.a.start + length l.x-iterator.b.rest.now ≡ 64)
