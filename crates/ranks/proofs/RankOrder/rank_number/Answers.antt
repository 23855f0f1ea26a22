use Rattle.std.proofs.Common.{◌≡◌, ℕ, ◌+◌, sym, ap, ◌∙◌, arith}
use Rattle.ranks.specs.RankOrder.{ranks_before}
use Rattle.ranks.proofs.Counting.{one_if, one_byte, one_at_most, so_far, so_far_none, so_far_next, so_far_all}
use Rattle.ranks.proofs.RankOrder.rank_number.Goals as goal

pub loop-y-init : goal.loop-y-init
loop-y-init g c = (sym (so_far_none _), omega arith)

pub overflow_add-count : goal.overflow_add-count
overflow_add-count g c = record { fits = omega (arith, c.loop-y.invariant.1, c.loop-y-test.true, c.from-count.ensures, one_byte c.ranks_before.result, one_at_most c.ranks_before.result) }

pub loop-y-preserved : goal.loop-y-preserved
loop-y-preserved g c =
    let p = λ (z : ℕ). ranks_before (g.R.Ranking.meaning c.args.self.now.ranking.now) c.args.self.now.strengths.now c.args.self.now.standing z c.args.x in
    let count : c.loop-y.count ≡ so_far p c.loop-y.y = c.loop-y.invariant.0 in
    let one : c.from-count.result ≡ one_if (p c.loop-y.y) = c.from-count.ensures ∙ one_byte c.ranks_before.result ∙ ap one_if c.ranks_before.ensures in
    let more : c.loop-y.count + c.from-count.result ≡ so_far p (c.loop-y.y + 1) = omega (arith, count, one, so_far_next p c.loop-y.y c.loop-y-test.true) in
    (more, omega (arith, c.loop-y.invariant.1, c.from-count.ensures, one_byte c.ranks_before.result, one_at_most c.ranks_before.result))

pub returns : goal.returns
returns g c =
    let p = λ (z : ℕ). ranks_before (g.R.Ranking.meaning c.args.self.now.ranking.now) c.args.self.now.strengths.now c.args.self.now.standing z c.args.x in
    let count : c.loop-y.count ≡ so_far p c.loop-y.y = c.loop-y.invariant.0 in
    let all : c.loop-y.y ≡ 64 = omega (arith, c.loop-y-test.false, c.loop-y.auto.y-end) in
    count ∙ ap (so_far p) all ∙ so_far_all p
