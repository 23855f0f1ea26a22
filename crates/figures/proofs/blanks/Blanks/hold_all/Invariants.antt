-- Blanking the outputs of the held rules from here on gives what blanking those of all does.
use Rattle.std.proofs.Common.{◌≡◌, drop}
use Rattle.figures.specs.Update.{holds}
use Rattle.figures.proofs.blanks.Blanks.hold_all.Given as goal

abbrev pub invariant-loop-x : goal.invariant-loop-x
invariant-loop-x l = holds l.rows (drop l.x-index l.held) l.self.causes ≡ holds l.rows l.held l.initial.self.causes
