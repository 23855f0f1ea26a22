use Rattle.std.proofs.Common.{◌+◌, get_or, drop, ap, sym, ◌∙◌, arith}
use lib.Bits.{bit_or, or_zero_r}
use Rattle.std.proofs.lemmas.Nat.{one_shl}
use Rattle.std.proofs.lemmas.List.{drop_all}
use Rattle.placing.specs.Board.{mask_of}
use Rattle.placing.proofs.Masks.{mask_more, small}
use Rattle.placing.proofs.lawful.mask_of.Goals as goal

pub loop-cell-preserved : goal.loop-cell-preserved
loop-cell-preserved c =
    let cells = c.args.cells.now in
    let i = c.loop-cell.cell-index in
    ap (λ bit. bit_or (bit_or c.loop-cell.mask bit) (mask_of (drop (i + 1) cells))) (one_shl (get_or cells i 0) 64 (small cells i c.requires c.loop-cell-test.true)) ∙ mask_more c.loop-cell.mask cells i c.loop-cell-test.true ∙ c.loop-cell.invariant

pub returns : goal.returns
returns c =
    sym (or_zero_r c.loop-cell.mask) ∙ ap (λ cells. bit_or c.loop-cell.mask (mask_of cells)) (sym (drop_all c.loop-cell.cell-index c.args.cells.now (omega (arith, c.loop-cell-test.false)))) ∙ c.loop-cell.invariant
