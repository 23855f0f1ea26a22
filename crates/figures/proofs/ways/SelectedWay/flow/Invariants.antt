-- The flow with the places that are left is that of the way.
use Rattle.std.proofs.Common.{◌≡◌, ◌≤◌, ◌+◌, length}
use Rattle.figures.specs.Ways.{flow_from, flow_of}
use Rattle.figures.proofs.ways.SelectedWay.flow.Given as goal

abbrev pub invariant-loop-place : goal.invariant-loop-place
invariant-loop-place l =
    (flow_from l.self.outputs l.place-iterator.a.start l.place-iterator.b.rest.now l.flow ≡ flow_of l.self)
    × (l.place-iterator.a.end ≡ 255)
    × (l.place-iterator.a.start + length l.place-iterator.b.rest.now ≤ 255)
