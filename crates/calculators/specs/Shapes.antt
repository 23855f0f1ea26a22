-- A table of forms that passes its test gives each of its kinds a lawful shape.
use Rattle.std.specs.Prelude.{◌≡◌, ℕ, ◌^◌, ◌<◌, ◌≤◌, Bool, true, List, length, take, slice_index, slice_index_or}
use Rattle.std.specs.List.{list_all}
use Rattle.std.proofs.Common.{arith, length-take, get_or-take}
use Rattle.std.proofs.lemmas.Bool.Decides.{nat_tests}
use Rattle.meaning.specs.Calc.{Answer, KindLaws}
use Rattle.meaning.proofs.Lists.{every_at}
use Rattle.meaning.proofs.MaskBits.{bit_below, some_bit}
use Rattle.calculators.specs.declared.forms.Form.{Form}
use Rattle.calculators.specs.Forms.{no_form, lawful_mask, lawful_form, lawful_forms, formed}

-- The parts of a lawful form, as facts.
record Lawful (form : Form) : Type 0 where
  some_place : 1 ≤ form.places
  few_places : form.places ≤ 6
  some_way : 1 ≤ form.ways
  few_ways : form.ways ≤ 4
  four_masks : length form.outputs ≡ 4
  masks : list_all (lawful_mask form.places) (take form.ways form.outputs) ≡ true

-- A form that passes its test has them all.
lawful_parts : (form : Form) → lawful_form form ≡ true → Lawful form
lawful_parts form passed = grind (arith, nat_tests)

-- The mask of a way that the form has: not 0, and over the form's places.
mask_lawful : (form : Form) → Lawful form → (way : ℕ) → way < form.ways → (0 < slice_index form.outputs way) × (slice_index form.outputs way < 2 ^ form.places)
mask_lawful form l way h =
    let listed = take form.ways form.outputs in
    let within : way < length listed = simp length-take (omega (arith, l.few_ways, l.four_masks)) in
    let mask : lawful_mask form.places (slice_index listed way) ≡ true = every_at (lawful_mask form.places) listed way 0 l.masks within in
    grind (arith, nat_tests, get_or-take)

-- The shape laws of every kind of the table, whatever the start, the taken figures and the answers.
pub formed_shaped : {F : Type 0} (forms : List Form) (start : F) (takes : F → Bool) (answer : ℕ → ℕ → F → List F → Answer F) → lawful_forms forms ≡ true → (kind : ℕ) → kind < length forms → KindLaws (formed forms start takes answer) kind
formed_shaped forms start takes answer passed kind h =
    let form = slice_index_or forms kind no_form in
    let l : Lawful form = lawful_parts form (every_at lawful_form forms kind no_form passed h) in
    record {
      some_place = l.some_place;
      few_places = l.few_places;
      some_way = l.some_way;
      few_ways = l.few_ways;
      outputs_placed = λ way place w is. bit_below _ _ place (mask_lawful form l way w).1 is;
      some_output = λ way w. let m = mask_lawful form l way w in some_bit form.places _ m.1 m.0;
    }
