-- Sets of small numbers as masks: a number is in the set if the mask has its bit.
use Rattle.std.specs.Prelude.{ℕ, ◌/◌, ◌%◌, ◌^◌, Bool, ◌==◌}

-- Whether the mask has bit i, counted from the lowest.
abbrev pub bit : ℕ → ℕ → Bool
bit mask i = mask / 2 ^ i % 2 == 1
