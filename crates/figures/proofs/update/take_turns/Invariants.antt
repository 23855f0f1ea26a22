-- The turns from here on lead to what all of them lead to, over the caller's own slice.
use Rattle.std.proofs.Common.{◌≡◌, drop}
use Rattle.figures.specs.Update.{turns}
use Rattle.figures.specs.Working.{table_of}
use Rattle.figures.proofs.update.take_turns.Given as goal

abbrev pub invariant-loop-x : goal.invariant-loop-x
invariant-loop-x g l =
    let m = g.C.Calculator.meaning l.calculator in
    (turns m l.rows l.parameters (drop l.x-index l.order) (table_of l.table) ≡ turns m l.rows l.parameters l.order (table_of l.initial.table))
    × (l.table.figures.ghost_name ≡ l.initial.table.figures.ghost_name)
