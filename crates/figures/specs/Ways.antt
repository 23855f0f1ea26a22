-- The selected way of a rule in force: its places, its outputs, and what planning sees of it.
use Rattle.std.specs.Prelude.{◌≡◌, ℕ, suc, ◌^◌, ◌<◌, Bool, true, false, if◌then◌else◌, List, [], ◌∷◌, map, length, take, Some, None, Option, bit_or, nat_lt, slice_index_or}
use Rattle.std.specs.Option.{option_map}
use Rattle.meaning.specs.Masks.{bit}
use Rattle.planning.specs.declared.flows.Flow.{Flow}
use Rattle.figures.specs.declared.ways.SelectedWay.{SelectedWay}

-- The cells that the places name, in place order.
abbrev pub places_of : SelectedWay → List ℕ
places_of w = take w.count w.cells

-- Rule x is in force by the way w.
abbrev pub InForceBy : List (Option SelectedWay) → ℕ → SelectedWay → Type 0
InForceBy rows x w = slice_index_or rows x None ≡ Some w

-- Place i names cell c; it is an output of the way, or an input.
pub record Names (output : Bool) (w : SelectedWay) (i c : ℕ) : Type 0 where
  pub placed : i < length (places_of w)
  pub names : slice_index_or (places_of w) i 0 ≡ c
  pub direction : bit w.outputs i ≡ output

abbrev pub Output : SelectedWay → ℕ → ℕ → Type 0
Output = Names true

abbrev pub Input : SelectedWay → ℕ → ℕ → Type 0
Input = Names false

-- The set of one cell; a cell from 64 on is in no set.
abbrev pub cell_bit : ℕ → ℕ
cell_bit c = if nat_lt c 64 then 2 ^ c else 0

-- One cell more, given or read.
abbrev pub with_cell : Bool → ℕ → Flow → Flow
with_cell true c flow = record { inputs = flow.inputs; outputs = bit_or (cell_bit c) flow.outputs }
with_cell false c flow = record { inputs = bit_or (cell_bit c) flow.inputs; outputs = flow.outputs }

-- A flow with the cells read and given at the places from i on; the mask has the outputs.
abbrev pub flow_from : ℕ → ℕ → List ℕ → Flow → Flow
flow_from mask i [] flow = flow
flow_from mask i (c ∷ cs) flow = flow_from mask (suc i) cs (with_cell (bit mask i) c flow)

abbrev pub flow_of : SelectedWay → Flow
flow_of w = flow_from w.outputs 0 (places_of w) (record { inputs = 0; outputs = 0 })

-- What planning sees of the rules: the flow of each that is in force.
abbrev pub flows_of : List (Option SelectedWay) → List (Option Flow)
flows_of rows = map (option_map flow_of) rows
