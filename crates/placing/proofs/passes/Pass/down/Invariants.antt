-- The pass from here on is the rest of the whole pass.
use Rattle.std.proofs.Common.{◌-◌, List}
use Rattle.placing.specs.declared.rules.State.{State}
use Rattle.ranks.specs.Numbers.{rank_in}
use Rattle.placing.specs.Calls.{Passes}
use Rattle.placing.proofs.passes.Pass.down.Given as goal

abbrev pub invariant-loop-rank : goal.invariant-loop-rank
invariant-loop-rank l = (t : List State) → Passes l.self.rules.now (rank_in l.self.ranks.now) l.rank (64 - l.rank) l.after t → Passes l.self.rules.now (rank_in l.self.ranks.now) l.from (64 - l.from) l.states t
