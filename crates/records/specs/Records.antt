-- Rule records, and the rows that a sheet keeps of them.
use Rattle.std.specs.Prelude.{ℕ, min, List, [], ◌∷◌, ◌++◌, length, take, replicate}
use Rattle.records.specs.declared.record.Record.{Record}
use Rattle.records.specs.declared.row.Row.{Row}

-- The first n of a list, filled up with a value where there are fewer.
abbrev pub padded : {X : Type 0} → ℕ → X → List X → List X
padded n d xs = take n (xs ++ replicate n d)

abbrev pub recorded : {S F : Type 0} → ℕ → ℕ → List ℕ → List ℕ → S → F → Record S F
recorded number kind places ways strength parameter = record {
  number = number;
  kind = kind;
  places = padded 6 0 places;
  place_count = min (length places) 255;
  ways = padded 4 0 ways;
  way_count = min (length ways) 255;
  strength = strength;
  parameter = parameter;
}

-- The cells that the places of a record name, and the ways that it lists.
abbrev pub places_in : {S F : Type 0} → Record S F → List ℕ
places_in rec = take rec.place_count rec.places

abbrev pub ways_in : {S F : Type 0} → Record S F → List ℕ
ways_in rec = take rec.way_count rec.ways

-- The row of a record.
abbrev pub row_of : {S F : Type 0} → Record S F → Row
row_of rec = record { kind = rec.kind; cells = rec.places; count = rec.place_count }

abbrev pub cells_in : Row → List ℕ
cells_in row = take row.count row.cells

-- A row without places.
abbrev pub no_row : Row
no_row = record { kind = 0; cells = 0 ∷ 0 ∷ 0 ∷ 0 ∷ 0 ∷ 0 ∷ []; count = 0 }
