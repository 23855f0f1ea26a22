-- The quantity calculator keeps the laws: whatever it gives is a quantity, and its faults are numbered from 1.
use Rattle.std.specs.Prelude.{◌≡◌, ℕ, zero, suc, ◌≤◌, true, List, ℤ, pos, refl}
use Rattle.std.proofs.Common.{arith}
use Rattle.meaning.specs.Calc.{Answer, gives, faults, CalcLaws, Proper}
use Rattle.calculators.specs.Quantities.{is_quantity, result_of, quotient, entry, sum, product, limit, quantity_answer, quantity_forms, quantities}
use Rattle.calculators.specs.Shapes.{formed_shaped}

-- An answer that is quantities throughout, or a fault from 1 on.
abbrev Sound : Answer ℤ → Type 0
Sound (gives figure) = (place : ℕ) → is_quantity (figure place) ≡ true
Sound (faults n) = 1 ≤ n

-- A result is given only if it is a quantity.
result_sound : (z : ℤ) → Sound (result_of z)
result_sound z = grind arith

-- So is a quotient; its faults are numbered from 1.
quotient_sound : (x y d : ℤ) → Sound (quotient x y d)
quotient_sound x y d = grind (arith, result_sound)

-- An entry gives a result.
entry_sound : (way : ℕ) (p : ℤ) (xs : List ℤ) → Sound (entry way p xs)
entry_sound way p xs = grind (arith, result_sound)

-- A sum gives a result, whichever its way.
sum_sound : (way : ℕ) (p : ℤ) (xs : List ℤ) → Sound (sum way p xs)
sum_sound way p xs = grind (arith, result_sound)

-- A product gives a quotient, once its P is tested.
product_sound : (way : ℕ) (p : ℤ) (xs : List ℤ) → Sound (product way p xs)
product_sound way p xs = grind (arith, quotient_sound)

-- A limit gives 1 or 0.
limit_sound : (way : ℕ) (p : ℤ) (xs : List ℤ) → Sound (limit way p xs)
limit_sound way p xs = grind arith

-- Each of the four kinds gives quantities; there is a fault for any other.
answer_sound : (kind way : ℕ) (p : ℤ) (xs : List ℤ) → Sound (quantity_answer kind way p xs)
answer_sound zero way p xs = entry_sound way p xs
answer_sound (suc zero) way p xs = sum_sound way p xs
answer_sound (suc (suc zero)) way p xs = product_sound way p xs
answer_sound (suc (suc (suc zero))) way p xs = limit_sound way p xs
answer_sound (suc (suc (suc (suc kind)))) way p xs = omega arith

-- Quantities throughout are what the calculator takes.
sound_proper : (kind way : ℕ) (a : Answer ℤ) → Sound a → Proper quantities kind way a
sound_proper kind way a sound = grind arith

-- The quantity calculator is lawful.
pub quantities_lawful : CalcLaws quantities
quantities_lawful = record {
  start_taken = refl;
  shaped = formed_shaped quantity_forms (pos 0) is_quantity quantity_answer refl;
  proper = λ kind way p xs _ _ _ _ _. sound_proper kind way (quantity_answer kind way p xs) (answer_sound kind way p xs);
}
