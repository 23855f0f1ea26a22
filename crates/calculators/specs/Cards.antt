-- The card calculator: codes, and cards of three codes; entry and pack.
use Rattle.std.specs.Prelude.{ℕ, zero, suc, Bool, ◌&&◌, List, [], ◌∷◌, nat_le, slice_index_or, Result, Ok, Err}
use Rattle.meaning.specs.Calc.{Answer, gives, faults, Calc}
use Rattle.calculators.specs.declared.forms.Form.{Form}
use Rattle.calculators.specs.declared.cards.CardFigure.{CardFigure}
use Rattle.calculators.specs.declared.cards.CardFigure.TheVariants.{Code, Card}
use Rattle.calculators.specs.declared.cards.CardFault.{CardFault}
use Rattle.calculators.specs.declared.cards.CardFault.TheVariants.{Mismatch, NoSuchWay}
use Rattle.calculators.specs.declared.cards.Kind.{Kind}
use Rattle.calculators.specs.declared.cards.Kind.TheVariants.{Entry, Pack}
use Rattle.calculators.specs.Forms.{formed}

-- The kinds are numbered from 0.
abbrev pub card_kind_number : Kind → ℕ
card_kind_number Entry = 0
card_kind_number Pack = 1

-- The kind that has a number.
abbrev pub numbered_card_kind : ℕ → Result Kind CardFault
numbered_card_kind zero = Ok Entry
numbered_card_kind (suc zero) = Ok Pack
numbered_card_kind (suc (suc kind)) = Err NoSuchWay

-- From 0 to 999.
abbrev pub is_code : ℕ → Bool
is_code code = nat_le code 999

abbrev pub is_card_figure : CardFigure → Bool
is_card_figure (Code code) = is_code code
is_card_figure (Card furnish coat core) = is_code furnish && (is_code coat && is_code core)

abbrev pub card_fault_number : CardFault → ℕ
card_fault_number Mismatch = 1
card_fault_number NoSuchWay = 255

abbrev pub card_faults_by : CardFault → Answer CardFigure
card_faults_by fault = faults (card_fault_number fault)

-- Of a card's three codes the one at a place: furnish at 1, coat at 2, core at 3.
abbrev pub code_at : ℕ → ℕ → ℕ → ℕ → ℕ
code_at furnish coat core zero = core
code_at furnish coat core (suc zero) = furnish
code_at furnish coat core (suc (suc zero)) = coat
code_at furnish coat core (suc (suc (suc place))) = core

-- A card gives its three codes; a code cannot be unpacked.
abbrev pub unpack : CardFigure → Answer CardFigure
unpack (Card furnish coat core) = gives (λ place. Code (code_at furnish coat core place))
unpack (Code code) = card_faults_by Mismatch

-- Three codes give their card; a card cannot be packed.
abbrev pub pack : CardFigure → CardFigure → CardFigure → Answer CardFigure
pack (Code furnish) (Code coat) (Code core) = gives (λ _. Card furnish coat core)
pack (Code furnish) (Code coat) (Card a b c) = card_faults_by Mismatch
pack (Code furnish) (Card a b c) core = card_faults_by Mismatch
pack (Card a b c) coat core = card_faults_by Mismatch

-- Kind 0, entry, its place gets P. Kind 1, pack, places card, furnish, coat and core: way 0 gives the three codes, way 1
-- the card.
abbrev pub card_answer : ℕ → ℕ → CardFigure → List CardFigure → Answer CardFigure
card_answer zero zero p xs = gives (λ _. p)
card_answer zero (suc way) p xs = card_faults_by NoSuchWay
card_answer (suc zero) zero p xs = unpack (slice_index_or xs 0 (Code 0))
card_answer (suc zero) (suc zero) p xs = pack (slice_index_or xs 0 (Code 0)) (slice_index_or xs 1 (Code 0)) (slice_index_or xs 2 (Code 0))
card_answer (suc zero) (suc (suc way)) p xs = card_faults_by NoSuchWay
card_answer (suc (suc kind)) way p xs = card_faults_by NoSuchWay

-- Places, ways, and the mask of each way's outputs: bit 0 is the card, bits 1 to 3 are furnish, coat and core.
abbrev pub card_forms : List Form
card_forms =
    record { places = 1; ways = 1; outputs = 0b0001 ∷ 0 ∷ 0 ∷ 0 ∷ [] } ∷ record { places = 4; ways = 2; outputs = 0b1110 ∷ 0b0001 ∷ 0 ∷ 0 ∷ [] } ∷ []

-- The card calculator's meaning.
abbrev pub cards : Calc CardFigure
cards = formed card_forms (Code 0) is_card_figure card_answer
