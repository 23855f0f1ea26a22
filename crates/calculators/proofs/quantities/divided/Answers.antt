use Rattle.std.proofs.Common.{arith}
use Rattle.std.proofs.lemmas.Int.{to_z-of_z}
use Rattle.std.proofs.lemmas.Bool.Decides.{nat_tests}
use Rattle.calculators.proofs.quantities.divided.Goals as goal

pub returns : goal.returns
returns c = grind (arith, to_z-of_z, nat_tests)
