-- A pile of a search as a list, the top rule first.
use Rattle.std.specs.Prelude.{ℕ, List, drop}
use Rattle.placing.specs.declared.pile.Pile.{Pile}

abbrev pub pile_list : Pile → List ℕ
pile_list pile = drop pile.top pile.at
