-- The quantity formulas over the figures at a, b and c, as the parts of the code have them.
use Rattle.std.specs.Prelude.{ℕ, zero, suc, List, [], ◌∷◌, ℤ, Ok, Err, Result}
use Rattle.meaning.specs.Calc.{Answer, gives}
use Rattle.calculators.specs.declared.quantities.Figures.{Figures}
use Rattle.calculators.specs.declared.quantities.QuantityFault.{QuantityFault}
use Rattle.calculators.specs.declared.quantities.QuantityFault.TheVariants.{NoSuchWay}
use Rattle.calculators.specs.Quantities.{faults_by, entry, sum, product, limit}

-- A figure or a fault, as the answer of a way.
abbrev pub answer_of : Result ℤ QuantityFault → Answer ℤ
answer_of (Ok z) = gives (λ _. z)
answer_of (Err fault) = faults_by fault

-- The inputs of a way of a sum or a product: of the figures at a, b and c those that it does not give.
abbrev pub inputs_among : ℕ → Figures → List ℤ
inputs_among zero at = at.a ∷ at.b ∷ []
inputs_among (suc zero) at = at.b ∷ at.c ∷ []
inputs_among (suc (suc zero)) at = at.a ∷ at.c ∷ []
inputs_among (suc (suc (suc way))) at = at.a ∷ at.b ∷ at.c ∷ []

-- The answer of a way, over the figures at its kind's places.
abbrev pub by_places : ℕ → ℕ → ℤ → Figures → Answer ℤ
by_places zero way p at = entry way p []
by_places (suc zero) way p at = sum way p (inputs_among way at)
by_places (suc (suc zero)) way p at = product way p (inputs_among way at)
by_places (suc (suc (suc zero))) way p at = limit way p (at.a ∷ [])
by_places (suc (suc (suc (suc kind)))) way p at = faults_by NoSuchWay
