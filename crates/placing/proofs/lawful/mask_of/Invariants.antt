-- The mask so far and that of the cells that are left are the whole mask.
use Rattle.std.proofs.Common.{◌≡◌, drop}
use lib.Bits.{bit_or}
use Rattle.placing.specs.Board.{mask_of}
use Rattle.placing.proofs.lawful.mask_of.Given as goal

abbrev pub invariant-loop-cell : goal.invariant-loop-cell
invariant-loop-cell l = bit_or l.mask (mask_of (drop l.cell-index l.cells)) ≡ mask_of l.cells
