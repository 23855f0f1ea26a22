use Rattle.std.proofs.Common.{◌+◌, ◌-◌, List, ◌∙◌, subst}
use Rattle.std.specs.Prelude.{is_some}
use Rattle.placing.specs.declared.rules.State.{State}
use Rattle.ranks.specs.Numbers.{rank_in}
use Rattle.placing.specs.Calls.{Passes}
use Rattle.placing.proofs.Steps.{pass_end, pass_skip, pass_place}
use Rattle.placing.proofs.passes.Pass.down.Goals as goal
use Rattle.placing.proofs.passes.Pass.down.Goals.{in-Some, in_default}

pub loop-rank-preserved : goal.loop-rank-preserved
loop-rank-preserved c t p =
    let R = c.args.self.rules.now in
    let K = rank_in c.args.self.ranks.now in
    let k = c.loop-rank.rank in
    let from = λ (s : List State). Passes R K (k + 1) (64 - (k + 1)) s t in
    c.loop-rank.invariant t (elim c.match-waiting_at.branch [
      | in-Some w ↦ let found = w.in-Some.ensures in pass_place R K k w.in-Some.x (is_some w.place.result) c.loop-rank.after _ t c.loop-rank-test.true found.0 found.1 found.2 w.place.ensures (subst from (w.after-is ∙ w.unwrap_or-after.ensures) p)
      | in_default w ↦ pass_skip R K k c.loop-rank.after t c.loop-rank-test.true w.in_default.ensures (subst from w.after-is p)
    ])

pub returns : goal.returns
returns c = c.loop-rank.invariant c.loop-rank.after (pass_end c.args.self.rules.now (rank_in c.args.self.ranks.now) c.loop-rank.rank c.loop-rank.after c.loop-rank-test.false)
