-- Each entry is the list's, or 0 where the list is at its end.
use Rattle.std.proofs.Common.{rules}
use Rattle.std.specs.Prelude.{slice_index_or}
use Rattle.meaning.proofs.FromFn.{from_fn_at}
use Rattle.records.proofs.Padding.{padded_by}
use Rattle.records.proofs.record.kept.Goals as goal

pub returns : goal.returns
returns g c =
    let items = c.args.items.now in
    padded_by g.row.N 0 items c.from_fn.result c.from_fn.ensures.items.long (λ k lt. from_fn_at _ (λ i. slice_index_or items i 0) _ (λ i y f' called. search rules) _ _ c.from_fn.ensures.items k 0 lt)
