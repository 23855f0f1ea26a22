-- An accepted addition leaves a board.
use Rattle.std.proofs.Common.{ltb, List, Ok, sym, subst, arith, rules}
use Rattle.std.specs.Prelude.{unwrap_or}
use Rattle.std.proofs.lemmas.Bool.{and_parts}
use Rattle.placing.specs.declared.rules.Rule.{Rule}
use Rattle.placing.specs.declared.rules.State.{State}
use Rattle.placing.specs.Board.{lawful_rule}
use Rattle.ranks.specs.Numbers.{rank_in}
use Rattle.placing.specs.Answers.{AddsTo}
use Rattle.placing.specs.Laws.{IsBoard}
use Rattle.placing.proofs.Writing.{adds_board, board_of, numbers_distinct, add_settles}
use Rattle.placing.proofs.board.Board.add.Goals as goal

pub of-requires : goal.of-requires
of-requires c =
    let b = c.args.self.now in
    let K = rank_in c.numbers.result.now in
    let distinct = numbers_distinct c.args.ranks.now c.numbers.result.now c.numbers.ensures in
    let ok = (and_parts (ltb 0 c.args.rule.count) (lawful_rule c.args.rule) (sym c.if-not-is_rule.ensures)).1 in
    let adds = c.add-placed.ensures b.rules b.states c.args.rule c.written-rules.ensures c.written-waiting.ensures in
    let board = adds_board b.rules b.states K c.args.r (board_of b) distinct (omega (arith, c.if-n-ge-RULES.false, c.from-n.ensures)) c.args.rule ok adds in
    subst (λ (s : List State). IsBoard c.written-rules.result s) (sym c.unwrap_or-states.ensures) (subst (λ (n : List Rule). IsBoard n (unwrap_or c.add-placed.result c.written-waiting.result)) (sym c.written-rules.ensures) board)

pub returns : goal.returns
returns c =
    let b = c.args.self.now in
    let ranks = c.args.ranks.now in
    let answer = Ok (record { in_force = c.is_some.result; changed = c.changed-changed.result }) in
    let adds = c.add-placed.ensures b.rules b.states c.args.rule c.written-rules.ensures c.written-waiting.ensures in
    let does : AddsTo b.rules b.states (rank_in ranks.of) c.args.r c.args.rule answer c.of.result.rules c.of.result.states = search rules in
    record { does = does; settles = add_settles b ranks c.args.r c.args.rule answer c.of.result.rules c.of.result.states does }
