use Rattle.std.proofs.Common.{rules}
use Rattle.placing.proofs.After.{applied_made}
use Rattle.placing.proofs.passes.applied.Goals as goal

pub returns : goal.returns
returns c = applied_made _ _ c.args.states.now c.args.marks.now c.from_fn.result c.told-states c.told-marks c.from_fn.ensures.items (λ i y q k. search rules)
