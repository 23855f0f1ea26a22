use Rattle.std.proofs.Common.{rules}
use Rattle.figures.proofs.Lawful.{left_lawful}
use Rattle.figures.proofs.update.update.Goals as goal

pub returns-clause-lawful : goal.returns-clause-lawful
returns-clause-lawful g c n planned wide =
    left_lawful (g.C.Calculator.meaning c.args.calculator.now) (g.met.C.Calculator.lawful c.args.calculator.now) n _ _ _ _ _ _ (search rules) planned wide
