-- How a list of rule numbers is shown: the bytes.
use Rattle.std.specs.Prelude.{ℕ, List, ◌++◌, codes, decimal}
use Rattle.std.specs.List.{flat_map}

-- A number, with one space before it.
abbrev pub number_text : ℕ → List ℕ
number_text x = codes " " ++ decimal x

-- The numbers of a list, in their order.
abbrev pub numbers_text : List ℕ → List ℕ
numbers_text list = flat_map number_text list
