-- Rows whose places name cells of the sheet.
use Rattle.std.specs.Prelude.{ℕ, Bool, List, nat_lt, slice_index_or}
use Rattle.std.specs.List.{list_all}
use Rattle.records.specs.declared.row.Row.{Row}
use Rattle.records.specs.Records.{cells_in, no_row}

abbrev pub is_placed : ℕ → List Row → ℕ → Bool
is_placed cells rows x = list_all (λ c. nat_lt c cells) (cells_in (slice_index_or rows x no_row))
