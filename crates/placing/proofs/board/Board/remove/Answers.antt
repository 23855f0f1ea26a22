-- An accepted removal leaves a board.
use Rattle.std.proofs.Common.{Ok, arith, rules}
use Rattle.ranks.specs.Numbers.{rank_in}
use Rattle.placing.specs.Answers.{RemovesFrom}
use Rattle.placing.proofs.Writing.{removes_board, board_of, numbers_distinct, remove_settles}
use Rattle.placing.proofs.board.Board.remove.Goals as goal

pub of-requires : goal.of-requires
of-requires c =
    let b = c.args.self.now in
    let distinct = numbers_distinct c.args.ranks.now c.numbers.result.now c.numbers.ensures in
    removes_board b.rules b.states (rank_in c.numbers.result.now) c.args.r (board_of b) distinct (omega (arith, c.if-n-ge-RULES.false, c.from-n.ensures)) c.remove-after.ensures

pub returns : goal.returns
returns c =
    let b = c.args.self.now in
    let ranks = c.args.ranks.now in
    let does : RemovesFrom b.rules b.states (rank_in ranks.of) c.args.r (Ok c.changed-changed.result) c.of.result.rules c.of.result.states = search rules in
    record { does = does; settles = remove_settles b ranks c.args.r (Ok c.changed-changed.result) c.of.result.rules c.of.result.states does }
