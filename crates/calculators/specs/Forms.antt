-- The form of a kind: how many places and ways it has, and which places each way gives. A calculator's forms stand in one
-- table by kind, and a test of that table decides whether its kinds have a lawful shape.
use Rattle.std.specs.Prelude.{ℕ, ◌^◌, Bool, ◌&&◌, List, [], ◌∷◌, length, take, ◌==◌, nat_le, nat_lt, slice_index, slice_index_or}
use Rattle.std.specs.List.{list_all}
use Rattle.meaning.specs.Calc.{Answer, Calc}
use Rattle.meaning.specs.Masks.{bit}
use Rattle.calculators.specs.declared.forms.Form.{Form}

-- What a table reads as past its end: no places, no ways and no outputs.
abbrev pub no_form : Form
no_form = record { places = 0; ways = 0; outputs = 0 ∷ 0 ∷ 0 ∷ 0 ∷ [] }

abbrev pub places_of : List Form → ℕ → ℕ
places_of forms kind = (slice_index_or forms kind no_form).places

abbrev pub ways_of : List Form → ℕ → ℕ
ways_of forms kind = (slice_index_or forms kind no_form).ways

-- Whether the place is an output: the way's mask has its bit.
abbrev pub output_of : List Form → ℕ → ℕ → ℕ → Bool
output_of forms kind way place = bit (slice_index (slice_index_or forms kind no_form).outputs way) place

-- A calculator's meaning, its shape being that of the table.
abbrev pub formed : {F : Type 0} → List Form → F → (F → Bool) → (ℕ → ℕ → F → List F → Answer F) → Calc F
formed forms start takes answer = record {
  start = start;
  takes = takes;
  kinds = length forms;
  places = places_of forms;
  ways = ways_of forms;
  output = output_of forms;
  answer = answer;
}

-- A mask over so many places, with at least one of them.
abbrev pub lawful_mask : ℕ → ℕ → Bool
lawful_mask places mask = nat_lt 0 mask && nat_lt mask (2 ^ places)

-- 1 to 6 places, 1 to 4 ways, and for each way a lawful mask.
abbrev pub lawful_form : Form → Bool
lawful_form form =
    (nat_le 1 form.places && nat_le form.places 6) && ((nat_le 1 form.ways && nat_le form.ways 4) && (length form.outputs == 4 && list_all (lawful_mask form.places) (take form.ways form.outputs)))

-- The test of a whole table.
abbrev pub lawful_forms : List Form → Bool
lawful_forms = list_all lawful_form
