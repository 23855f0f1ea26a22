-- How a figure of the card calculator is written: the bytes of `code 7` or `card 1 2 3`.
use Rattle.std.specs.Prelude.{ℕ, List, ◌++◌, codes, decimal}
use Rattle.calculators.specs.declared.cards.CardFigure.{CardFigure}
use Rattle.calculators.specs.declared.cards.CardFigure.TheVariants.{Code, Card}

-- A code is its word and its number; a card is its word and the numbers furnish, coat and core, with one space before each.
abbrev pub card_text : CardFigure → List ℕ
card_text (Code code) = codes "code " ++ decimal code
card_text (Card furnish coat core) =
    codes "card " ++ (decimal furnish ++ (codes " " ++ (decimal coat ++ (codes " " ++ decimal core))))
