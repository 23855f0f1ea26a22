-- Blanking the outputs that are left gives what blanking all of them does.
use Rattle.std.proofs.Common.{◌≡◌, ◌≤◌, ◌+◌, length, set, Some}
use Rattle.figures.specs.Update.{each_output, blanked}
use Rattle.figures.proofs.blanks.Blanks.blank_outputs.Given as goal

abbrev pub invariant-loop-place : goal.invariant-loop-place
invariant-loop-place l =
    (each_output (λ i c b. set b c (Some l.why)) l.way.outputs l.place-iterator.a.start l.place-iterator.b.rest.now l.self.causes ≡ blanked l.why l.way l.initial.self.causes)
    × (l.place-iterator.a.end ≡ 255)
    × (l.place-iterator.a.start + length l.place-iterator.b.rest.now ≤ 255)
