-- What a board and working out see of a record.
use Rattle.std.specs.Prelude.{ℕ, suc, ◌+◌, ◌^◌, Bool, if◌then◌else◌, List, [], ◌∷◌, map, length, bit_or, nat_lt, slice_set}
use Rattle.meaning.specs.Masks.{bit}
use Rattle.meaning.specs.Calc.{Calc}
use Rattle.placing.specs.declared.rules.Way.{Way}
use Rattle.placing.specs.declared.rules.Rule.{Rule}
use Rattle.placing.specs.Board.{no_way}
use Rattle.figures.specs.Ways.{cell_bit}
use Rattle.figures.specs.declared.ways.SelectedWay.{SelectedWay}
use Rattle.records.specs.declared.record.Record.{Record}
use Rattle.records.specs.declared.row.Row.{Row}
use Rattle.records.specs.Records.{padded, places_in, ways_in, cells_in}

-- Of the cells at the places from i on, those at outputs.
abbrev pub output_cells : (ℕ → Bool) → ℕ → List ℕ → List ℕ
output_cells output i [] = []
output_cells output i (c ∷ cs) = if output i then c ∷ output_cells output (suc i) cs else output_cells output (suc i) cs

-- The set of some cells; a cell from 64 on is in no set.
abbrev pub set_of : List ℕ → ℕ
set_of [] = 0
set_of (c ∷ cs) = bit_or (cell_bit c) (set_of cs)

-- A way with these outputs, as a board lists it.
abbrev pub way_giving : ℕ → List ℕ → Way
way_giving number outputs = record { number = number; outputs = padded 6 0 outputs; count = length outputs; mask = set_of outputs }

-- A way with one output more; a seventh is left out.
abbrev pub with_output : Way → ℕ → Way
with_output way c =
    if nat_lt way.count 6 then record {
      number = way.number;
      outputs = slice_set way.outputs way.count c;
      count = way.count + 1;
      mask = bit_or way.mask (cell_bit c);
    } else way

-- A way of a kind on some cells.
abbrev pub way_on : {F : Type 0} → Calc F → ℕ → List ℕ → ℕ → Way
way_on m kind cells number = way_giving number (output_cells (m.output kind number) 0 cells)

-- The ways that a record lists, on its cells.
abbrev pub listed_ways : {S F : Type 0} → Calc F → Record S F → List Way
listed_ways m rec = map (way_on m rec.kind (places_in rec)) (ways_in rec)

-- The listed ways of a record, as a board has them.
abbrev pub rule_of : {S F : Type 0} → Calc F → Record S F → Rule
rule_of m rec = record { ways = padded 4 no_way (listed_ways m rec); count = rec.way_count }

-- The mask of the places, from i on, whose cells are in a set.
abbrev pub places_among : ℕ → ℕ → List ℕ → ℕ
places_among cells i [] = 0
places_among cells i (c ∷ cs) = bit_or (if bit cells c then 2 ^ i else 0) (places_among cells (suc i) cs)

-- The rule of a row, in force by a listed way. A place is an output if the way gives its cell.
abbrev pub selected_by : Row → Way → SelectedWay
selected_by row way = record {
  kind = row.kind;
  way = way.number;
  cells = row.cells;
  count = row.count;
  outputs = places_among way.mask 0 (cells_in row);
}
