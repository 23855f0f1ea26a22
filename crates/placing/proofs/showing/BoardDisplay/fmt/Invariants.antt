-- The rules before x are written.
use Rattle.std.specs.Fmt.{HasWritten, IsPlainFormatter}
use Rattle.std.specs.List.{flat_map, range_with_len}
use Rattle.placing.specs.Showing.{rule_text_on}
use Rattle.placing.proofs.showing.BoardDisplay.fmt.Given as goal

abbrev pub invariant-loop-x : goal.invariant-loop-x
invariant-loop-x g l =
    IsPlainFormatter l.initial.f → HasWritten g.W.Write.write_str_gives l.initial.f (flat_map (rule_text_on l.self.rules l.self.states) (range_with_len 0 l.x)) l.f
