use Rattle.std.proofs.Common.{rules, get_or, None, sym, ◌∙◌, arith}
use Rattle.std.specs.Option.{option_map}
use Rattle.std.proofs.lemmas.List.{ext_get_or, get_or-map}
use lib.ListN.{length-map}
use Rattle.meaning.proofs.FromFn.{from_fn_at}
use Rattle.figures.specs.Ways.{flow_of, flows_of}
use Rattle.figures.proofs.ways.flows.Goals as goal

pub returns : goal.returns
returns c =
    let rows = c.args.rows.now in
    let made = c.from_fn.ensures.items in
    ext_get_or None c.from_fn.result (flows_of rows) (made.long ∙ sym (length-map rows (option_map flow_of) ∙ c.told-rows)) (λ k lt.
    from_fn_at _ (λ x. option_map flow_of (get_or rows x None)) _ (λ x flow f called. search rules) _ 64 made k None (omega (arith, made.long)) ∙ sym (get_or-map (option_map flow_of) rows k None None (omega (arith, made.long, c.told-rows))))
