use Rattle.calculators.specs.QuantityLaws.{quantities_lawful}
use Rattle.calculators.specs.CardLaws.{cards_lawful}
use Rattle.calculators.proofs.laws.calculators_are_lawful.Goals as goal

pub returns : goal.returns
returns c = record { quantities = quantities_lawful; cards = cards_lawful }
