-- Each entry is the listed way, or no way where the list is at its end.
use Rattle.std.proofs.Common.{rules, ℕ}
use Rattle.std.specs.Prelude.{slice_index_or}
use Rattle.meaning.proofs.FromFn.{from_fn_at}
use Rattle.placing.specs.Board.{no_way}
use Rattle.records.specs.Making.{listed_ways}
use Rattle.records.proofs.Padding.{padded_by}
use Rattle.records.proofs.record.Record.four_ways.Goals as goal

pub returns : goal.returns
returns g c =
    let listed = listed_ways (g.C.Calculator.meaning c.args.calculator.now) c.args.self.now in
    padded_by 4 no_way listed c.from_fn.result c.from_fn.ensures.items.long (λ k lt. from_fn_at _ (λ (i : ℕ). slice_index_or listed i no_way) _ (λ i y f' called. search rules) _ _ c.from_fn.ensures.items k no_way lt)
