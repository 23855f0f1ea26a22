-- The checks of a rule record, in their order.
use Rattle.std.specs.Prelude.{ℕ, Bool, true, if◌then◌else◌, not, ◌&&◌, List, [], ◌∷◌, Some, None, Option, ◌==◌, nat_le, nat_lt}
use Rattle.std.specs.List.{list_all}
use Rattle.meaning.specs.Lists.{is_on}
use Rattle.meaning.specs.Ranks.{Ranks}
use Rattle.meaning.specs.Calc.{Calc}
use Rattle.records.specs.declared.record.Record.{Record}
use Rattle.records.specs.declared.refusal.Refusal.{Refusal}
use Rattle.records.specs.declared.refusal.Refusal.TheVariants.{Kind, PlaceCount, MissingCell, RepeatedCell, Ways, Strength, Parameter}
use Rattle.records.specs.Records.{places_in, ways_in}

-- No number stands twice on the list.
abbrev pub differ : List ℕ → Bool
differ [] = true
differ (x ∷ xs) = not (is_on x xs) && differ xs

-- A list of ways of a kind that has so many: not empty, at most 4, each of the kind, none twice.
abbrev pub proper_ways : ℕ → ℕ → List ℕ → Bool
proper_ways ways count listed = (nat_lt 0 count && nat_le count 4) && (list_all (λ w. nat_lt w ways) listed && differ listed)

-- Why a record is refused on a sheet of so many cells, if it is. The first check that fails says why.
abbrev pub record_refusal : {S F : Type 0} → Ranks S → Calc F → ℕ → Record S F → Option Refusal
record_refusal r m cells rec =
    if not (nat_lt rec.kind m.kinds) then Some Kind else
    if not (rec.place_count == m.places rec.kind) then Some PlaceCount else
    if not (list_all (λ c. nat_lt c cells) (places_in rec)) then Some MissingCell else
    if not (differ (places_in rec)) then Some RepeatedCell else
    if not (proper_ways (m.ways rec.kind) rec.way_count (ways_in rec)) then Some Ways else
    if not (r.known rec.strength) then Some Strength else
    if not (m.takes rec.parameter) then Some Parameter else None
