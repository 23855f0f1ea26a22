-- The quantity calculator: whole numbers in a range; entry, sum, product and limit.
use Rattle.std.specs.Prelude.{ℕ, zero, suc, Bool, if◌then◌else◌, ◌&&◌, ◌||◌, List, [], ◌∷◌, ℤ, pos, negsuc, ◌+ℤ◌, ◌-ℤ◌, ◌*ℤ◌, ◌==◌, codes, int_div, int_le, int_lt, slice_index_or, unsigned_abs, Result, Ok, Err}
use Rattle.meaning.specs.Calc.{Answer, gives, faults, Calc}
use Rattle.calculators.specs.declared.forms.Form.{Form}
use Rattle.calculators.specs.declared.quantities.QuantityFault.{QuantityFault}
use Rattle.calculators.specs.declared.quantities.QuantityFault.TheVariants.{NoQuantity, ZeroDivisor, ParameterBelowOne, NoSuchWay}
use Rattle.calculators.specs.declared.quantities.Kind.{Kind}
use Rattle.calculators.specs.declared.quantities.Kind.TheVariants.{Entry, Sum, Product, Limit}
use Rattle.calculators.specs.Forms.{formed}

-- The kinds are numbered from 0.
abbrev pub kind_number : Kind → ℕ
kind_number Entry = 0
kind_number Sum = 1
kind_number Product = 2
kind_number Limit = 3

-- The word of each kind.
abbrev pub kind_text : Kind → List ℕ
kind_text Entry = codes "entry"
kind_text Sum = codes "sum"
kind_text Product = codes "product"
kind_text Limit = codes "limit"

-- The kind that has a number.
abbrev pub numbered_kind : ℕ → Result Kind QuantityFault
numbered_kind zero = Ok Entry
numbered_kind (suc zero) = Ok Sum
numbered_kind (suc (suc zero)) = Ok Product
numbered_kind (suc (suc (suc zero))) = Ok Limit
numbered_kind (suc (suc (suc (suc kind)))) = Err NoSuchWay

-- From -1,000,000,000 to 1,000,000,000.
abbrev pub is_quantity : ℤ → Bool
is_quantity z = int_le (negsuc 999_999_999) z && int_le z (pos 1_000_000_000)

abbrev pub fault_number : QuantityFault → ℕ
fault_number NoQuantity = 1
fault_number ZeroDivisor = 2
fault_number ParameterBelowOne = 3
fault_number NoSuchWay = 255

abbrev pub faults_by : QuantityFault → Answer ℤ
faults_by fault = faults (fault_number fault)

-- A result is given if it is a quantity.
abbrev pub result_of : ℤ → Answer ℤ
result_of z = if is_quantity z then gives (λ _. z) else faults_by NoQuantity

abbrev pub is_zero : ℤ → Bool
is_zero z = unsigned_abs z == 0

-- x × y ÷ d, cut toward zero. A divisor of 0 faults; after that a factor of 0 in the dividend gives 0.
abbrev pub quotient : ℤ → ℤ → ℤ → Answer ℤ
quotient x y d =
    if is_zero d then faults_by ZeroDivisor else if is_zero x || is_zero y then gives (λ _. pos 0) else result_of (int_div (x *ℤ y) d)

-- The inputs of a way, in place order, are handed to its formula.
abbrev pub with_one : (ℤ → Answer ℤ) → List ℤ → Answer ℤ
with_one formula xs = formula (slice_index_or xs 0 (pos 0))

abbrev pub with_two : (ℤ → ℤ → Answer ℤ) → List ℤ → Answer ℤ
with_two formula xs = formula (slice_index_or xs 0 (pos 0)) (slice_index_or xs 1 (pos 0))

-- Entry, place a: a = P.
abbrev pub entry : ℕ → ℤ → List ℤ → Answer ℤ
entry zero p xs = result_of p
entry (suc way) p xs = faults_by NoSuchWay

-- Sum, places a, b, c: c = a + b + P; a = c - b - P; b = c - a - P.
abbrev pub sum : ℕ → ℤ → List ℤ → Answer ℤ
sum zero p = with_two (λ a b. result_of (a +ℤ b +ℤ p))
sum (suc zero) p = with_two (λ b c. result_of (c -ℤ b -ℤ p))
sum (suc (suc zero)) p = with_two (λ a c. result_of (c -ℤ a -ℤ p))
sum (suc (suc (suc way))) p = λ xs. faults_by NoSuchWay

-- Product, places a, b, c, where P is not under 1: c = a × b ÷ P; a = c × P ÷ b; b = c × P ÷ a.
abbrev pub scaled : ℕ → ℤ → List ℤ → Answer ℤ
scaled zero p = with_two (λ a b. quotient a b p)
scaled (suc zero) p = with_two (λ b c. quotient c p b)
scaled (suc (suc zero)) p = with_two (λ a c. quotient c p a)
scaled (suc (suc (suc way))) p = λ xs. faults_by NoSuchWay

-- Product: a P under 1 faults before anything else.
abbrev pub product : ℕ → ℤ → List ℤ → Answer ℤ
product way p xs = if int_lt p (pos 1) then faults_by ParameterBelowOne else scaled way p xs

-- 1 if a figure is under a limit, else 0.
abbrev pub mark : ℤ → ℤ → Answer ℤ
mark a p = if int_lt a p then gives (λ _. pos 1) else gives (λ _. pos 0)

-- Limit, places a, b: b = 1 if a is under P, else 0.
abbrev pub limit : ℕ → ℤ → List ℤ → Answer ℤ
limit zero p = with_one (λ a. mark a p)
limit (suc way) p = λ xs. faults_by NoSuchWay

-- The four kinds in their order.
abbrev pub quantity_answer : ℕ → ℕ → ℤ → List ℤ → Answer ℤ
quantity_answer zero = entry
quantity_answer (suc zero) = sum
quantity_answer (suc (suc zero)) = product
quantity_answer (suc (suc (suc zero))) = limit
quantity_answer (suc (suc (suc (suc kind)))) = λ way p xs. faults_by NoSuchWay

-- Places, ways, and the mask of each way's outputs: bit 0 is place a, bit 1 place b, bit 2 place c.
abbrev pub quantity_forms : List Form
quantity_forms =
    record { places = 1; ways = 1; outputs = 0b001 ∷ 0 ∷ 0 ∷ 0 ∷ [] } ∷ record { places = 3; ways = 3; outputs = 0b100 ∷ 0b001 ∷ 0b010 ∷ 0 ∷ [] } ∷ record { places = 3; ways = 3; outputs = 0b100 ∷ 0b001 ∷ 0b010 ∷ 0 ∷ [] } ∷ record { places = 2; ways = 1; outputs = 0b010 ∷ 0 ∷ 0 ∷ 0 ∷ [] } ∷ []

-- The quantity calculator's meaning.
abbrev pub quantities : Calc ℤ
quantities = formed quantity_forms (pos 0) is_quantity quantity_answer
