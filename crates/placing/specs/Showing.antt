-- How the answer to an addition and a board are shown: the bytes.
use Rattle.std.specs.Prelude.{ℕ, List, [], ◌++◌, codes, decimal, if◌then◌else◌, slice_index_or}
use Rattle.std.specs.List.{flat_map, range_with_len}
use Rattle.placing.specs.declared.rules.Rule.{Rule}
use Rattle.placing.specs.declared.rules.State.{State}
use Rattle.placing.specs.declared.rules.State.TheVariants.{Absent, Waiting, InForce}
use Rattle.placing.specs.declared.board.Added.{Added}
use Rattle.placing.specs.Board.{no_way, no_rule, ways_of, state_of}

-- Whether the rule is in force, and the number of other rules that changed.
abbrev pub added_text : Added → List ℕ
added_text added = (if added.in_force then codes "in force" else codes "waits") ++ (codes ", " ++ (decimal added.changed ++ codes " changed"))

-- A rule that stands: its number, and the number of its selected way or that it waits.
abbrev pub rule_text : Rule → ℕ → State → List ℕ
rule_text rule x Absent = []
rule_text rule x Waiting = codes "; " ++ (decimal x ++ codes " waits")
rule_text rule x (InForce i) =
    codes "; " ++ (decimal x ++ (codes " by way " ++ decimal (slice_index_or (ways_of rule) i no_way).number))

abbrev pub rule_text_on : List Rule → List State → ℕ → List ℕ
rule_text_on rules states x = rule_text (slice_index_or rules x no_rule) x (state_of states x)

-- The standing rules by rising number.
unfoldable pub board_text : List Rule → List State → List ℕ
board_text rules states = flat_map (rule_text_on rules states) (range_with_len 0 64)
