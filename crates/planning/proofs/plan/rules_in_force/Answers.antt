use Rattle.std.proofs.Common.{rules}
use Rattle.planning.proofs.Found.{found_all}
use Rattle.planning.proofs.plan.rules_in_force.Goals as goal

pub returns : goal.returns
returns c =
    found_all c.args.rows.now c.loop-x.x-iterator.b.rest.now c.loop-x.list c.loop-x.x-iterator.a.start (search rules) (search rules) c.loop-x.invariant.0
