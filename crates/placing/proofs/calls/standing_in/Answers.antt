use Rattle.std.proofs.Common.{◌+◌, drop, sym, ap, ◌∙◌, arith}
use lib.Bits.{bit_or, or_zero_r}
use Rattle.std.proofs.lemmas.List.{drop_all}
use Rattle.placing.specs.Board.{standing_from}
use Rattle.placing.proofs.Masks.{standing_more}
use Rattle.placing.proofs.calls.standing_in.Goals as goal

pub loop-x-preserved : goal.loop-x-preserved
loop-x-preserved c =
    let states = c.args.states.now in
    let x = c.loop-x.x in
    ap (λ bit. bit_or (bit_or c.loop-x.mask bit) (standing_from (x + 1) (drop (x + 1) states))) c.standing_bit-mask.ensures ∙ standing_more c.loop-x.mask states x (omega (arith, c.told-states, c.loop-x-test.true)) ∙ c.loop-x.invariant

pub returns : goal.returns
returns c =
    sym (or_zero_r c.loop-x.mask) ∙ ap (λ states. bit_or c.loop-x.mask (standing_from c.loop-x.x states)) (sym (drop_all c.loop-x.x c.args.states.now (omega (arith, c.loop-x-test.false)))) ∙ c.loop-x.invariant
