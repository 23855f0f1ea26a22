-- An array that holds a list of rule numbers, with zeros behind them. The lemmas stand here since the list's model cites them.
use Rattle.std.specs.Prelude.{◌≡◌, ℕ, ◌-◌, ◌≤◌, List, ◌++◌, length, replicate, take, drop}
use Rattle.std.proofs.Common.{sym, ap, ◌∙◌, arith, take-append-drop, length-take-le}

-- The first `count` of the sixty-four numbers count, and the others are 0.
pub record IsPadded (numbers : List ℕ) (count : ℕ) : Type 0 where
  pub within : count ≤ 64
  pub sized : length numbers ≡ 64
  pub zeros : drop count numbers ≡ replicate (64 - count) 0

-- A list with zeros behind it, up to sixty-four numbers.
abbrev pub padded : List ℕ → List ℕ
padded xs = xs ++ replicate (64 - length xs) 0

-- There are as many numbers that count as were counted.
pub length-padded : (numbers : List ℕ) (count : ℕ) → IsPadded numbers count → length (take count numbers) ≡ count
length-padded numbers count is = length-take-le count numbers (omega (arith, is.within, is.sized))

-- With zeros behind them they are the array.
pub padded_again : (numbers : List ℕ) (count : ℕ) → IsPadded numbers count → padded (take count numbers) ≡ numbers
padded_again numbers count is =
    ap (λ n. take count numbers ++ replicate (64 - n) 0) (length-padded numbers count is) ∙ ap (λ zs. take count numbers ++ zs) (sym is.zeros) ∙ take-append-drop count numbers
