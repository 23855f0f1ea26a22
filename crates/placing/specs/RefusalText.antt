-- How a refusal is told: the bytes of its words.
use Rattle.std.specs.Prelude.{ℕ, List, codes}
use Rattle.placing.specs.declared.board.Refused.{Refused}
use Rattle.placing.specs.declared.board.Refused.TheVariants.{Number, Stands, Absent, Ways}

abbrev pub refusal_text : Refused → List ℕ
refusal_text Number = codes "the rule's number is over 63"
refusal_text Stands = codes "a rule of this number stands already"
refusal_text Absent = codes "no rule of this number stands"
refusal_text Ways = codes "the rule's ways are not lawful"
