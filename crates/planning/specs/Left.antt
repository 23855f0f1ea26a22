-- The rules that are left to plan, as the code looks at them: the cells that they give, and the first rule that
-- reads none of these.
use Rattle.std.specs.Prelude.{ℕ, Bool, false, List, Some, None, Option, ◌==◌, fold, position, bit_and, bit_or}
use Rattle.planning.specs.declared.flows.Flow.{Flow}
use Rattle.planning.specs.Flows.{outputs_by}

-- The cells that the rules give, all together.
abbrev pub outputs_of : List (Option Flow) → ℕ
outputs_of rows = fold (λ outputs row. bit_or outputs (outputs_by row)) 0 rows

-- A rule is in force and reads none of the pending cells.
abbrev pub is_ready : Option Flow → ℕ → Bool
is_ready (Some flow) pending = bit_and flow.inputs pending == 0
is_ready None pending = false

-- The lowest-numbered rule that is in force and reads no cell that the rules give, if there is one.
abbrev pub first_ready : List (Option Flow) → Option ℕ
first_ready rows = position (λ row. is_ready row (outputs_of rows)) rows
