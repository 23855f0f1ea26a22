use Rattle.std.proofs.Common.{rules, tests, ◌≡◌, ℕ, ◌*◌, ◌^◌, ◌%◌, map, refl, arith}
use Rattle.std.specs.Prelude.{bit_or}
use Rattle.std.specs.List.{fold, filter, zip, range_with_len}
use Rattle.std.proofs.lemmas.Iterator.{YieldsList-from_range, YieldsList-from_map, YieldsList-from_zip, YieldsList-from_slice}
use Rattle.std.proofs.lemmas.Iterator.Consumers.{YieldsList-at, YieldsList-from_filter, fold_from_yields_List}
use Rattle.meaning.specs.Masks.{bit}
use Rattle.records.proofs.Outputs.{gathers_places}
use Rattle.records.proofs.row.Row.places_among.Goals as goal

-- The places whose cells are in the set are taken one by one.
pub returns : goal.returns
returns c =
    let given = c.args.cells in
    let cells = c.places.result.now in
    let folded : c.fold.result ≡ fold (λ (m : ℕ) (p : ℕ × ℕ). bit_or m p.0) 0 (filter (λ (p : ℕ × ℕ). bit given p.1) (zip (map (λ (place : ℕ). 1 * 2 ^ place % 2 ^ 8) (range_with_len 0 6)) cells)) =
    fold_from_yields_List _ _ _ _ c.fold.ensures.ran
    (YieldsList-from_filter _ _
    (YieldsList-at c.filter.ensures.source (YieldsList-from_zip (YieldsList-at c.zip.ensures.first (YieldsList-from_map _ (λ (place : ℕ). 1 * 2 ^ place % 2 ^ 8) (YieldsList-from_range 0 6 6 c.map.ensures.source refl) c.map.ensures.closure (λ x r q k. search rules))) (YieldsList-from_slice cells cc)))
    c.filter.ensures.closure (λ x r q k. search (rules, tests)))
    (λ a x b q k. search rules)
    in
    let gathered = gathers_places given 0 6 0 cells c.places.ensures.few (omega arith) in
    let value = c.places.ensures.value in
    cc
