use Rattle.std.proofs.Common.{List, Option, sym, subst}
use Rattle.std.specs.Prelude.{is_some, unwrap_or}
use Rattle.placing.specs.declared.rules.State.{State}
use Rattle.placing.specs.Calls.{Adds}
use Rattle.ranks.specs.Numbers.{rank_in}
use Rattle.placing.proofs.Steps.{adds_waits, adds_comes}
use Rattle.placing.proofs.passes.Pass.add.Goals as goal

pub returns-in_err-placed : goal.returns-in_err-placed
returns-in_err-placed c rules states rule er es =
    let K = rank_in c.args.self.ranks.now in
    subst (λ (o : Option (List State)). Adds rules states K c.args.r rule (is_some o) (unwrap_or o c.args.waiting.now)) (sym c.from_residual.ensures) (adds_waits rules states K c.args.r rule er es c.in_err-placed.ensures)

pub returns : goal.returns
returns c rules states rule er es = adds_comes rules states (rank_in c.args.self.ranks.now) c.args.r rule er es c.in_ok-placed.ensures c.behind.ensures
