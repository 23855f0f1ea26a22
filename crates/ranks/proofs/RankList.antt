-- The list of the rank numbers, as ranks by rule.
use Rattle.std.proofs.Common.{◌≡◌, ℕ, ◌<◌, false, ltb, List, length, map, sym, ap, ◌∙◌, subst, arith}
use Rattle.std.specs.List.{range_with_len}
use Rattle.std.proofs.lemmas.List.FromFn.{get_or-map-range_with_len, length-map-range_with_len}
use Rattle.meaning.specs.Ranks.{Ranks, RankLaws}
use Rattle.ranks.specs.Numbers.{rank_in, share_rank}
use Rattle.ranks.specs.RankOrder.{rank_number, Orders}
use Rattle.ranks.proofs.RankNumbers.{shared_not}
use Rattle.ranks.proofs.StrictOrder.{rank_orders, rank_below, rank_distinct}

-- A list that is the one of the rank numbers reads as them, below 64 and apart, and in the rules' order.
module _ {S : Type 0} (m : Ranks S) (laws : RankLaws m) (strengths : List S) (standing : ℕ) (of : List ℕ) (is : of ≡ map (rank_number m strengths standing) (range_with_len 0 64)) where
  same : (x : ℕ) → x < 64 → rank_in of x ≡ rank_number m strengths standing x
  same x lt = ap (λ l. rank_in l x) is ∙ get_or-map-range_with_len (rank_number m strengths standing) 0 64 x x 0 lt (omega arith)

  pub sized : length of ≡ 64
  sized = ap length is ∙ length-map-range_with_len (rank_number m strengths standing) 0 64

  pub below : (x : ℕ) → x < 64 → rank_in of x < 64
  below x lt = subst (λ (n : ℕ). n < 64) (sym (same x lt)) (rank_below m laws strengths standing x lt)

  pub distinct : (x y : ℕ) → share_rank (rank_in of) x y ≡ false
  distinct = shared_not (rank_in of) (λ x y lx ly e. rank_distinct m laws strengths standing x y lx ly (sym (same x lx) ∙ e ∙ same y ly))

  pub orders : Orders m strengths standing (rank_in of)
  orders x y lx ly = ap (λ (n : ℕ). ltb n (rank_in of y)) (same x lx) ∙ ap (ltb (rank_number m strengths standing x)) (same y ly) ∙ rank_orders m laws strengths standing x y lx ly
