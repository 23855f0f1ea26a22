use Rattle.std.proofs.Common.{arith}
use Rattle.std.proofs.lemmas.Int.{ints}
use Rattle.calculators.proofs.quantities.remainder.Goals as goal

pub returns : goal.returns
returns c = omega (arith, ints)
