-- The search from the start is the placing.
use Rattle.std.proofs.Common.{true, List, Option, sym, subst}
use Rattle.std.specs.Prelude.{is_some, unwrap_or}
use Rattle.placing.specs.declared.rules.State.{State}
use Rattle.placing.specs.Search.{Places}
use Rattle.ranks.specs.Numbers.{rank_in}
use Rattle.placing.proofs.Steps.{moved}
use Rattle.placing.proofs.passes.Pass.place.Goals as goal

pub returns : goal.returns
returns c =
    let R = c.args.self.rules.now in
    let S = c.args.states.now in
    let K = rank_in c.args.self.ranks.now in
    subst (λ (s : List State). Places R S K c.args.r true s) (sym c.applied.ensures) (Places.placed (moved R S K c.args.r c.start.ensures.pile c.start.ensures.marks c.start.ensures.taken c.in_ok-found.ensures))

pub returns-in_err-found : goal.returns-in_err-found
returns-in_err-found c =
    let R = c.args.self.rules.now in
    let S = c.args.states.now in
    let K = rank_in c.args.self.ranks.now in
    subst (λ (o : Option (List State)). Places R S K c.args.r (is_some o) (unwrap_or o S)) (sym c.from_residual.ensures) (Places.refused (moved R S K c.args.r c.start.ensures.pile c.start.ensures.marks c.start.ensures.taken c.in_err-found.ensures))
