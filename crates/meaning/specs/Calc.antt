-- What a calculator means, what it reads of a lent table, and the laws that such a meaning keeps.
use Rattle.std.specs.Prelude.{◌≡◌, ℕ, zero, suc, ◌<◌, ◌≤◌, Bool, true, List, [], ◌∷◌, map, length, Ok, Err, Result, nat_lt, slice_index, slice_index_or, if◌then◌else◌}
use Rattle.std.specs.List.{AllByRecursion}
use Rattle.meaning.specs.declared.Fault.{Fault}

-- What a way makes of its inputs: a figure for each output, by its place, or one fault for the whole way.
pub data Answer (F : Type 0) : Type 0 where
  gives : (ℕ → F) → Answer F
  faults : ℕ → Answer F

-- A calculator, as data. Kinds are numbered from 0, and so are the places and the ways of a kind.
-- An answer depends on the kind, the way, P and the figures of the inputs, in place order, and on nothing else.
pub record Calc (F : Type 0) : Type 0 where
  pub start : F
  pub takes : F → Bool
  pub kinds : ℕ
  pub places : ℕ → ℕ
  pub ways : ℕ → ℕ
  pub output : ℕ → ℕ → ℕ → Bool
  pub answer : ℕ → ℕ → F → List F → Answer F

-- Of the n places from i on, those that are no outputs.
abbrev pub inputs_from : (ℕ → Bool) → ℕ → ℕ → List ℕ
inputs_from output i zero = []
inputs_from output i (suc n) = if output i then inputs_from output (suc i) n else i ∷ inputs_from output (suc i) n

-- The input places of a way: the places of its kind that are not its outputs, in place order.
abbrev pub input_places : {F : Type 0} → Calc F → ℕ → ℕ → List ℕ
input_places m kind way = inputs_from (m.output kind way) 0 (m.places kind)

-- The figure at a place: that of the cell which the place names. Where the list of places or the table is too short
-- it is the starting figure.
abbrev pub figure_at : {F : Type 0} → F → List F → List ℕ → ℕ → F
figure_at start table places i = if nat_lt i (length places) then slice_index_or table (slice_index places i) start else start

-- The figures of a way's inputs, in place order.
abbrev pub input_figures : {F : Type 0} → Calc F → ℕ → ℕ → List F → List ℕ → List F
input_figures m kind way table places = map (figure_at m.start table places) (input_places m kind way)

-- What is told of one output.
abbrev pub told : {F : Type 0} → Answer F → ℕ → Result F Fault
told (gives figure) place = Ok (figure place)
told (faults n) place = Err (record { number = n })

-- What is told of the output at a place, over a table of figures by cell and the rule's places.
abbrev pub tells : {F : Type 0} → Calc F → ℕ → ℕ → F → List F → List ℕ → ℕ → Result F Fault
tells m kind way p table places place = told (m.answer kind way p (input_figures m kind way table places)) place

-- The figure for each output is one that is taken; a fault is numbered from 1.
abbrev pub Proper : {F : Type 0} → Calc F → ℕ → ℕ → Answer F → Type 0
Proper m kind way (gives figure) = (place : ℕ) → m.output kind way place ≡ true → m.takes (figure place) ≡ true
Proper m kind way (faults n) = 1 ≤ n

-- The shape of a kind: 1 to 6 places, 1 to 4 ways, and each way's outputs are places of the kind, at least one.
pub record KindLaws {F : Type 0} (m : Calc F) (kind : ℕ) : Type 0 where
  pub some_place : 1 ≤ m.places kind
  pub few_places : m.places kind ≤ 6
  pub some_way : 1 ≤ m.ways kind
  pub few_ways : m.ways kind ≤ 4
  pub outputs_placed : (way place : ℕ) → way < m.ways kind → m.output kind way place ≡ true → place < m.places kind
  pub some_output : (way : ℕ) → way < m.ways kind → (place : ℕ) × (m.output kind way place ≡ true)

pub record CalcLaws {F : Type 0} (m : Calc F) : Type 0 where
  pub start_taken : m.takes m.start ≡ true
  pub shaped : (kind : ℕ) → kind < m.kinds → KindLaws m kind
  pub proper : (kind way : ℕ) (p : F) (xs : List F) → kind < m.kinds → way < m.ways kind → m.takes p ≡ true → AllByRecursion (λ x. m.takes x ≡ true) xs → length xs ≡ length (input_places m kind way) → Proper m kind way (m.answer kind way p xs)
