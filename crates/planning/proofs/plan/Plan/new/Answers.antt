use Rattle.std.proofs.Common.{sym}
use Rattle.planning.proofs.Turns.{stands_next, stands_room}
use Rattle.planning.proofs.plan.Plan.new.Goals as goal

pub push-requires : goal.push-requires
push-requires c =
    stands_room c.args.rows.now c.loop-x.order c.loop-x.left c.loop-x.invariant c.in-Some.x (sym c.in-Some.ensures)

pub loop-x-preserved : goal.loop-x-preserved
loop-x-preserved c =
    rw c.push.ensures (stands_next c.args.rows.now c.loop-x.order c.loop-x.left c.loop-x.invariant c.in-Some.x (sym c.in-Some.ensures))
