use Rattle.figures.proofs.Lawful.{update_is_lawful}
use Rattle.figures.proofs.laws.updates_are_lawful.Goals as goal

pub returns : goal.returns
returns g c = update_is_lawful _
