-- Asking for the outputs that are left gives what asking for all of them does.
use Rattle.std.proofs.Common.{◌≡◌, ◌≤◌, ◌+◌, length}
use Rattle.figures.specs.Update.{asked_at, asked, each_output}
use Rattle.figures.specs.Working.{table_of}
use Rattle.figures.proofs.update.Turn.ask_outputs.Given as goal

abbrev pub invariant-loop-place : goal.invariant-loop-place
invariant-loop-place g l =
    let m = g.C.Calculator.meaning l.self.calculator.now in
    let way = l.self.way in
    (each_output (asked_at m way l.self.p) way.outputs l.place-iterator.a.start l.place-iterator.b.rest.now (table_of l.table) ≡ asked m way l.self.p (table_of l.initial.table))
    × (l.table.figures.ghost_name ≡ l.initial.table.figures.ghost_name)
    × (l.place-iterator.a.end ≡ 255)
    × (l.place-iterator.a.start + length l.place-iterator.b.rest.now ≤ 255)
