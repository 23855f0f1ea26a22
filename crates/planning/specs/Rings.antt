-- Rings of rules, and the rules that are fed from one.
use Rattle.std.specs.Prelude.{ℕ, ◌⊎◌, List, Option}
use Rattle.planning.specs.declared.flows.Flow.{Flow}
use Rattle.planning.specs.Flows.{Feeds}

-- From x to y, one or more steps, each rule giving an input of the next.
pub data Path (rows : List (Option Flow)) : ℕ → ℕ → Type 0 where
  step : {x y : ℕ} → Feeds rows x y → Path rows x y
  onward : {x y z : ℕ} → Feeds rows x y → Path rows y z → Path rows x z

-- A rule lies on a ring: a circle of rules in force, each giving an input of the next, goes through it.
abbrev pub Ring : List (Option Flow) → ℕ → Type 0
Ring rows x = Path rows x x

-- A rule is fed from a ring, directly or through other rules.
abbrev pub Fed : List (Option Flow) → ℕ → Type 0
Fed rows x = (z : ℕ) × Ring rows z × Path rows z x

abbrev pub OnOrFed : List (Option Flow) → ℕ → Type 0
OnOrFed rows x = Ring rows x ⊎ Fed rows x
