use Rattle.std.proofs.Common.{ℕ, sym, ap, ◌∙◌}
use Rattle.placing.specs.Board.{state_of, is_waiting}
use Rattle.ranks.specs.Numbers.{rank_in}
use Rattle.placing.proofs.Steps.{removes_waited, removes_gave}
use Rattle.placing.proofs.passes.Pass.remove.Goals as goal

pub returns-then-is_waiting : goal.returns-then-is_waiting
returns-then-is_waiting c =
    removes_waited c.args.self.rules.now c.args.states.now (rank_in c.args.self.ranks.now) c.args.r c.written-after.ensures (sym (c.if-is_waiting.ensures ∙ ap (λ (x : ℕ). is_waiting (state_of c.args.states.now x)) c.from.ensures))

pub returns : goal.returns
returns c =
    removes_gave c.args.self.rules.now c.args.states.now (rank_in c.args.self.ranks.now) c.args.r c.written-after.ensures c.requires.1 (sym (c.if-is_waiting.ensures ∙ ap (λ (x : ℕ). is_waiting (state_of c.args.states.now x)) c.from.ensures)) c.behind.ensures
