use Rattle.std.proofs.Common.{◌≡◌, ℕ, ◌+◌, ◌≤◌, List, ◌++◌, length, get_or, drop, ap, ◌∙◌, arith}
use Rattle.placing.specs.declared.pile.Pile.{Pile}
use Rattle.placing.specs.Piles.{pile_list}
use Rattle.placing.specs.Search.{giver, piled}
use Rattle.placing.proofs.Givers.{piled_again}
use Rattle.placing.proofs.search.Placing.with_givers.Goals as goal
use Rattle.placing.proofs.search.Placing.with_givers.Goals.{in-Some, in_default}

-- What the next turn asks: the rest of the cells onto the new pile gives the whole, and there is room.
abbrev Again : goal.Joined-giver → Type 0
Again c =
    (piled c.args.self.rules.now c.args.self.states.now (drop (c.loop-cell.cell-index + 1) c.args.cells.now) (pile_list c.match-giver.higher) ≡ piled c.args.self.rules.now c.args.self.states.now c.args.cells.now (pile_list c.args.pile))
    × (c.args.pile.top ≤ c.match-giver.higher.top + (c.loop-cell.cell-index + 1)) × (c.loop-cell.cell-index + 1 ≤ length c.args.cells.now)

again : (c : goal.Joined-giver) → pile_list c.match-giver.higher ≡ giver c.args.self.rules.now c.args.self.states.now (get_or c.args.cells.now c.loop-cell.cell-index 0) ++ pile_list c.loop-cell.higher → c.loop-cell.higher.top ≤ c.match-giver.higher.top + 1 → Again c
again c piles tops =
    (piled_again c.args.self.rules.now c.args.self.states.now c.args.cells.now (pile_list c.loop-cell.higher) (pile_list c.match-giver.higher) _ c.loop-cell.cell-index c.loop-cell-test.true piles c.loop-cell.invariant.0, omega (arith, c.loop-cell.invariant.1), omega (arith, c.loop-cell-test.true))

pub loop-cell-preserved : goal.loop-cell-preserved
loop-cell-preserved c =
    elim c.match-giver.branch [
      | in-Some w ↦ again c (ap pile_list w.higher-is ∙ w.with-higher.ensures.value ∙ ap (λ (xs : List ℕ). xs ++ pile_list c.loop-cell.higher) w.in-Some.ensures) (omega (arith, w.with-higher.ensures.top, ap (λ (p : Pile). p.top) w.higher-is))
      | in_default w ↦ again c (ap pile_list w.higher-is ∙ ap (λ (xs : List ℕ). xs ++ pile_list c.loop-cell.higher) w.in_default.ensures) (omega (arith, ap (λ (p : Pile). p.top) w.higher-is))
    ]
