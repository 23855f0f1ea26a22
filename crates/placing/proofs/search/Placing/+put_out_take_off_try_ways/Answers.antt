use Rattle.std.proofs.Common.{◌≡◌, ℕ, ◌<◌, eqb, List, length, get_or, Some, None, sym, refl, ap, ◌∙◌, arith, rules}
use lib.Bits.{bit_and, bit_or}
use Rattle.placing.specs.declared.rules.Way.{Way}
use Rattle.placing.specs.declared.rules.Mark.TheVariants.{PutOut, Tried}
use Rattle.placing.specs.Board.{no_way, cells_of, listed}
use Rattle.placing.specs.Piles.{pile_list}
use Rattle.placing.specs.Search.{piled, Leads}
use Rattle.ranks.specs.Numbers.{rank_in}
use Rattle.placing.proofs.Marks.{fresh_less, marked_less}
use Rattle.placing.proofs.Steps.{moved, tries_spent, tries_barred, tries_leads, tries_fails}
use Rattle.placing.proofs.search.Placing.+put_out_take_off_try_ways.Goals as goal
use Rattle.placing.proofs.search.Placing.+put_out_take_off_try_ways.Goals.{try_ways-then-is_free+in_default, try_ways-else-is_free}

pub put_out-invariant_of-rest : goal.put_out-invariant_of-rest
put_out-invariant_of-rest t c = record { room = omega (arith, c.args.search.room, marked_less c.args.search.marks c.args.x PutOut c.written-marks.ensures refl c.requires.0) }

pub put_out-take_off-requires : goal.put_out-take_off-requires
put_out-take_off-requires t c =
    let less = marked_less c.args.search.marks c.args.x PutOut c.written-marks.ensures refl c.requires.0 in
    search rules

pub take_off-returns-in_default : goal.take_off-returns-in_default
take_off-returns-in_default t c = moved _ _ _ _ (sym c.in_default.ensures.0) refl refl Leads.empty

pub take_off-returns-then-not-is_fresh : goal.take_off-returns-then-not-is_fresh
take_off-returns-then-not-is_fresh t c =
    moved _ _ _ _ (sym c.in-Some.ensures.0) refl refl (Leads.over (sym c.if-not-is_fresh.ensures.value) c.take_off.ensures)

pub take_off-returns-then-ranks_after : goal.take_off-returns-then-ranks_after
take_off-returns-then-ranks_after t c =
    moved _ _ _ _ (sym c.in-Some.ensures.0) refl refl (Leads.out (sym c.if-not-is_fresh.ensures.value) (sym c.if-ranks_after.ensures) c.put_out.ensures)

pub take_off-returns : goal.take_off-returns
take_off-returns t c =
    moved _ _ _ _ (sym c.in-Some.ensures.0) refl refl (Leads.try (sym c.if-not-is_fresh.ensures.value) (sym c.if-ranks_after.ensures) c.try_ways.ensures)

pub try_ways-with_givers-requires : goal.try_ways-with_givers-requires
try_ways-with_givers-requires t c =
    omega (arith, c.cells.ensures.few, c.args.search.room, fresh_less c.args.search.marks c.args.x PutOut refl c.requires.0)

pub try_ways-invariant_of-tried : goal.try_ways-invariant_of-tried
try_ways-invariant_of-tried t c = record { room = omega (arith, c.args.search.room, c.with_givers.ensures.room, c.cells.ensures.few, marked_less c.args.search.marks c.args.x (Tried c.loop-i.i) c.written.ensures refl c.requires.0) }

pub try_ways-take_off-requires : goal.try_ways-take_off-requires
try_ways-take_off-requires t c =
    let less = marked_less c.args.search.marks c.args.x (Tried c.loop-i.i) c.written.ensures refl c.requires.0 in
    let room = c.with_givers.ensures.room in
    let few = c.cells.ensures.few in
    search rules

pub try_ways-returns-in-Some : goal.try_ways-returns-in-Some
try_ways-returns-in-Some t c =
    let R = c.args.self.rules.now in
    let S = c.args.self.states.now in
    let K = rank_in c.args.self.ranks.now in
    let ways = listed R c.args.x in
    let pile = pile_list c.args.search.pile in
    let taken = c.args.search.taken in
    let items : c.listed.result.now ≡ ways = c.listed.ensures.value ∙ ap (listed R) c.from.ensures in
    let lt : c.loop-i.i < length ways = omega (arith, ap length items, c.loop-i-test.true) in
    let way : c.way-way.result ≡ get_or ways c.loop-i.i no_way = c.way-way.ensures ∙ ap (λ (y : ℕ). get_or (listed R y) c.loop-i.i no_way) c.from.ensures in
    let tried = moved R S K c.args.self.r (c.with_givers.ensures.value ∙ ap (λ (cs : List ℕ). piled R S cs pile) (c.cells.ensures.value ∙ ap cells_of way)) c.written.ensures (ap (λ (w : Way). bit_or taken w.mask) way) c.in-Some.ensures in
    c.loop-i.invariant (Some c.in-Some.found) (tries_leads R S K c.args.self.r c.args.x pile c.args.search.marks taken ways c.loop-i.i c.in-Some.found lt (ap (λ (w : Way). eqb (bit_and taken w.mask) 0) (sym way) ∙ sym c.if-is_free.ensures) tried)

pub try_ways-loop-i-preserved : goal.try_ways-loop-i-preserved
try_ways-loop-i-preserved t c o rest =
    let R = c.args.self.rules.now in
    let S = c.args.self.states.now in
    let K = rank_in c.args.self.ranks.now in
    let ways = listed R c.args.x in
    let pile = pile_list c.args.search.pile in
    let taken = c.args.search.taken in
    let items : c.listed.result.now ≡ ways = c.listed.ensures.value ∙ ap (listed R) c.from.ensures in
    let lt : c.loop-i.i < length ways = omega (arith, ap length items, c.loop-i-test.true) in
    let way : c.way-way.result ≡ get_or ways c.loop-i.i no_way = c.way-way.ensures ∙ ap (λ (y : ℕ). get_or (listed R y) c.loop-i.i no_way) c.from.ensures in
    let clear = ap (λ (w : Way). eqb (bit_and taken w.mask) 0) (sym way) in
    c.loop-i.invariant o (elim c.if-is_free.branch [
      | try_ways-then-is_free+in_default w ↦ tries_fails R S K c.args.self.r c.args.x pile c.args.search.marks taken ways c.loop-i.i o lt (clear ∙ sym w.if-is_free.ensures) (moved R S K c.args.self.r (w.with_givers.ensures.value ∙ ap (λ (cs : List ℕ). piled R S cs pile) (w.cells.ensures.value ∙ ap cells_of way)) w.written.ensures (ap (λ (v : Way). bit_or taken v.mask) way) w.in_default.ensures) rest
      | try_ways-else-is_free w ↦ tries_barred R S K c.args.self.r c.args.x pile c.args.search.marks taken ways c.loop-i.i o lt (clear ∙ sym w.if-is_free.ensures) rest
    ])

pub try_ways-returns : goal.try_ways-returns
try_ways-returns t c =
    let R = c.args.self.rules.now in
    let ways = listed R c.args.x in
    let items : c.listed.result.now ≡ ways = c.listed.ensures.value ∙ ap (listed R) c.from.ensures in
    c.loop-i.invariant None (tries_spent R c.args.self.states.now (rank_in c.args.self.ranks.now) c.args.self.r c.args.x (pile_list c.args.search.pile) c.args.search.marks c.args.search.taken ways c.loop-i.i (omega (arith, ap length items, c.loop-i-test.false)))
