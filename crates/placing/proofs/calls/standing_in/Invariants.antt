-- The mask so far and that of the rules from x on are the whole mask.
use Rattle.std.proofs.Common.{◌≡◌, drop}
use lib.Bits.{bit_or}
use Rattle.placing.specs.Board.{standing_from, standing_mask}
use Rattle.placing.proofs.calls.standing_in.Given as goal

abbrev pub invariant-loop-x : goal.invariant-loop-x
invariant-loop-x l = bit_or l.mask (standing_from l.x (drop l.x l.states)) ≡ standing_mask l.states
