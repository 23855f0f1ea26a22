-- The count is that of the rules so far.
use Rattle.std.proofs.Common.{◌≡◌, ◌≤◌}
use Rattle.ranks.specs.RankOrder.{ranks_before}
use Rattle.ranks.proofs.Counting.{so_far}
use Rattle.ranks.proofs.RankOrder.rank_number.Given as goal

abbrev pub invariant-loop-y : goal.invariant-loop-y
invariant-loop-y g l = (l.count ≡ so_far (λ z. ranks_before (g.R.Ranking.meaning l.self.ranking.now) l.self.strengths.now l.self.standing z l.x) l.y) × (l.count ≤ l.y)
