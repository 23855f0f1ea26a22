-- The card calculator keeps the laws: from codes within range come codes within range.
use Rattle.std.specs.Prelude.{◌≡◌, ℕ, true, List, refl}
use Rattle.std.proofs.Common.{arith}
use Rattle.std.specs.List.{AllByRecursion}
use Rattle.meaning.specs.Calc.{CalcLaws, Proper}
use Rattle.meaning.proofs.Lists.{all_read}
use Rattle.calculators.specs.declared.cards.CardFigure.{CardFigure}
use Rattle.calculators.specs.declared.cards.CardFigure.TheVariants.{Code, Card}
use Rattle.calculators.specs.Cards.{is_code, is_card_figure, code_at, unpack, pack, card_answer, card_forms, cards}
use Rattle.calculators.specs.Shapes.{formed_shaped}

-- A figure that the calculator takes.
abbrev Taken : CardFigure → Type 0
Taken x = is_card_figure x ≡ true

-- Each code of a taken card is a code.
code_taken : (furnish coat core : ℕ) → Taken (Card furnish coat core) → (place : ℕ) → is_code (code_at furnish coat core place) ≡ true
code_taken furnish coat core taken place = grind arith

-- A taken card unpacks into codes.
unpack_proper : (kind way : ℕ) (card : CardFigure) → Taken card → Proper cards kind way (unpack card)
unpack_proper kind way card taken = grind (arith, code_taken)

-- Codes pack into a card that is taken.
pack_proper : (kind way : ℕ) (furnish coat core : CardFigure) → Taken furnish → Taken coat → Taken core → Proper cards kind way (pack furnish coat core)
pack_proper kind way furnish coat core f c k = grind arith

-- From taken figures come taken figures, of either kind.
answer_proper : (kind way : ℕ) (p : CardFigure) (xs : List CardFigure) → Taken p → AllByRecursion Taken xs → Proper cards kind way (card_answer kind way p xs)
answer_proper kind way p xs tp all = grind (arith, unpack_proper, pack_proper, all_read)

-- The card calculator is lawful.
pub cards_lawful : CalcLaws cards
cards_lawful = record {
  start_taken = refl;
  shaped = formed_shaped card_forms (Code 0) is_card_figure card_answer refl;
  proper = λ kind way p xs _ _ tp all _. answer_proper kind way p xs tp all;
}
