-- A search falls by the rules that are not done and then by the length of the pile. Trying the ways that are left answers
-- as trying all of them does.
use Rattle.std.proofs.Common.{ℕ, ◌+◌, ◌-◌, ◌*◌, List, drop, Option}
use Rattle.placing.specs.declared.rules.Mark.{Mark}
use Rattle.placing.specs.declared.search.Search.{Search}
use Rattle.placing.specs.Board.{listed}
use Rattle.placing.specs.Piles.{pile_list}
use Rattle.placing.specs.Search.{fresh_count, Tries}
use Rattle.ranks.specs.Numbers.{rank_in}
use Rattle.placing.proofs.search.Placing.+put_out_take_off_try_ways.Given as goal

abbrev left : Search → ℕ
left s = fresh_count s.marks * 400 + (385 - s.pile.top)

abbrev pub decreases-put_out : goal.decreases-put_out
decreases-put_out l = 2 * left l.search + 1

abbrev pub decreases-take_off : goal.decreases-take_off
decreases-take_off l = 2 * left l.search

abbrev pub decreases-try_ways : goal.decreases-try_ways
decreases-try_ways l = 2 * left l.search + 1

abbrev pub invariant-try_ways-loop-i : goal.invariant-try_ways-loop-i
invariant-try_ways-loop-i l =
    (o : Option (List Mark)) → Tries l.self.rules.now l.self.states.now (rank_in l.self.ranks.now) l.self.r l.x (pile_list l.search.pile) l.search.marks l.search.taken (drop l.i (listed l.self.rules.now l.x)) l.i o → Tries l.self.rules.now l.self.states.now (rank_in l.self.ranks.now) l.self.r l.x (pile_list l.search.pile) l.search.marks l.search.taken (listed l.self.rules.now l.x) 0 o
