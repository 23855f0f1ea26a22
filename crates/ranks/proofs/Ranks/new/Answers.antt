-- The array is the list of the rank numbers, and these order the rules.
use Rattle.std.proofs.Common.{rules}
use Rattle.meaning.proofs.FromFn.{from_fn_list}
use Rattle.ranks.specs.RankOrder.{rank_number, rank_list}
use Rattle.ranks.proofs.RankList.{sized, below, distinct, orders}
use Rattle.ranks.proofs.Ranks.new.Goals as goal

pub returns-clause-value : goal.returns-clause-value
unfolding rank_list
returns-clause-value g c = from_fn_list _ (rank_number (g.R.Ranking.meaning c.args.ranking.now) c.args.strengths.now c.args.standing) _ (λ i y f' k. search rules) _ _ c.from_fn.ensures.items

pub returns-clause-orders : goal.returns-clause-orders
unfolding rank_list
returns-clause-orders g c = orders (g.R.Ranking.meaning c.args.ranking.now) (g.met.R.Ranking.lawful c.args.ranking.now) c.args.strengths.now c.args.standing c.from_fn.result (returns-clause-value g c)

pub invariant_of-result : goal.invariant_of-result
unfolding rank_list
invariant_of-result g c =
    let m = g.R.Ranking.meaning c.args.ranking.now in
    let laws = g.met.R.Ranking.lawful c.args.ranking.now in
    let is = from_fn_list _ (rank_number m c.args.strengths.now c.args.standing) _ (λ i y f' k. search rules) _ _ c.from_fn.ensures.items in
    record {
      sized = sized m laws c.args.strengths.now c.args.standing c.from_fn.result is;
      below = below m laws c.args.strengths.now c.args.standing c.from_fn.result is;
      distinct = distinct m laws c.args.strengths.now c.args.standing c.from_fn.result is;
    }
