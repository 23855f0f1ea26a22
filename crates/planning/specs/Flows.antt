-- The rules in force by the cells that they read and give, and which rule feeds which.
use Rattle.std.specs.Prelude.{◌≡◌, ℕ, Bool, true, List, None, Option, is_some, slice_index_or}
use Rattle.std.specs.Option.{option_map_or}
use Rattle.meaning.specs.Masks.{bit}
use Rattle.planning.specs.declared.flows.Flow.{Flow}

-- The flow of a rule, if it is in force.
abbrev pub flow_at : List (Option Flow) → ℕ → Option Flow
flow_at rows x = slice_index_or rows x None

-- The cells that it reads; a rule that is not in force reads none.
abbrev pub inputs_by : Option Flow → ℕ
inputs_by row = option_map_or (λ flow. flow.inputs) row 0

-- The cells that it gives; a rule that is not in force gives none.
abbrev pub outputs_by : Option Flow → ℕ
outputs_by row = option_map_or (λ flow. flow.outputs) row 0

-- A rule is in force exactly if it has a flow.
abbrev pub rule_in_force : List (Option Flow) → ℕ → Bool
rule_in_force rows x = is_some (flow_at rows x)

-- Rule x gives cell c.
abbrev pub Gives : List (Option Flow) → ℕ → ℕ → Type 0
Gives rows x c = bit (outputs_by (flow_at rows x)) c ≡ true

-- Cell c is an input of rule x.
abbrev pub Reads : List (Option Flow) → ℕ → ℕ → Type 0
Reads rows x c = bit (inputs_by (flow_at rows x)) c ≡ true

-- Rule x gives an input of rule y.
abbrev pub Feeds : List (Option Flow) → ℕ → ℕ → Type 0
Feeds rows x y = (c : ℕ) × Gives rows x c × Reads rows y c

-- No cell has two givers.
abbrev pub NoTwoGivers : List (Option Flow) → Type 0
NoTwoGivers rows = (x y c : ℕ) → Gives rows x c → Gives rows y c → x ≡ y
