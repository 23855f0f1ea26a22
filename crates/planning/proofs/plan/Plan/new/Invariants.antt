-- The plan so far and the rules left stand as they should.
use Rattle.planning.proofs.LeftOver.{count_of}
use Rattle.planning.proofs.Turns.{Stands}
use Rattle.planning.proofs.plan.Plan.new.Given as goal

abbrev pub invariant-loop-x : goal.invariant-loop-x
invariant-loop-x l = Stands l.rows l.order l.left

abbrev pub decreases-loop-x : goal.decreases-loop-x
decreases-loop-x l = count_of l.left
