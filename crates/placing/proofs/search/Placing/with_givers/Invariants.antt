-- Piling the givers of the cells that are left gives what piling all of them does, and each cell takes one place at most.
use Rattle.std.proofs.Common.{◌≡◌, ◌+◌, ◌≤◌, length, drop}
use Rattle.placing.specs.Piles.{pile_list}
use Rattle.placing.specs.Search.{piled}
use Rattle.placing.proofs.search.Placing.with_givers.Given as goal

abbrev pub invariant-loop-cell : goal.invariant-loop-cell
invariant-loop-cell l =
    (piled l.self.rules.now l.self.states.now (drop l.cell-index l.cells) (pile_list l.higher) ≡ piled l.self.rules.now l.self.states.now l.cells (pile_list l.initial.higher)) × (l.initial.higher.top ≤ l.higher.top + l.cell-index) × (l.cell-index ≤ length l.cells)
