use Rattle.std.proofs.Common.{rules, tests, ◌≡◌, ℕ, [], refl, arith}
use Rattle.std.specs.List.{fold, filter, zip, range_with_len}
use Rattle.std.proofs.lemmas.Iterator.{YieldsList-from_range, YieldsList-from_zip, YieldsList-from_slice}
use Rattle.std.proofs.lemmas.Iterator.Consumers.{YieldsList-at, YieldsList-from_filter, fold_from_yields_List}
use Rattle.placing.specs.declared.rules.Way.{Way}
use Rattle.records.specs.Making.{way_giving, with_output}
use Rattle.records.proofs.Outputs.{gives_outputs}
use Rattle.records.proofs.record.Record.way.Goals as goal

-- The output places with their cells are taken one by one.
pub returns : goal.returns
returns g c =
    let output = (g.C.Calculator.meaning c.args.calculator.now).output c.args.self.now.kind c.args.number in
    let cells = c.places.result.now in
    let folded : c.fold.result ≡ fold (λ (w : Way) (p : ℕ × ℕ). with_output w p.1) (way_giving c.args.number []) (filter (λ (p : ℕ × ℕ). output p.0) (zip (range_with_len 0 6) cells)) =
    fold_from_yields_List _ _ _ _ c.fold.ensures.ran
    (YieldsList-from_filter _ _
    (YieldsList-at c.filter.ensures.source (YieldsList-from_zip (YieldsList-at c.zip.ensures.first (YieldsList-from_range 0 6 6 refl refl)) (YieldsList-from_slice cells cc)))
    c.filter.ensures.closure (λ x r q k. search (rules, tests)))
    (λ a x b q k. search rules)
    in
    let given = gives_outputs c.args.number output 0 6 [] cells c.places.ensures.few (omega (arith, c.places.ensures.few)) in
    let value = c.places.ensures.value in
    cc
