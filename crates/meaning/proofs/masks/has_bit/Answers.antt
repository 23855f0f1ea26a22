-- A number of 64 bits has no bit from 64 on.
use Rattle.std.proofs.Common.{sym, ◌∙◌, arith}
use Rattle.std.proofs.lemmas.Bool.{le-ltb}
use Rattle.meaning.proofs.MaskBits.{no_bit}
use Rattle.meaning.proofs.masks.has_bit.Goals as goal

pub returns-else-i-lt64 : goal.returns-else-i-lt64
returns-else-i-lt64 c = le-ltb c.args.i 64 c.if-i-lt64.false ∙ sym (no_bit c.args.mask 64 c.args.i (omega arith) c.if-i-lt64.false)
