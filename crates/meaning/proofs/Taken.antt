-- Over a table of taken figures, every figure that a lawful calculator tells of an output is taken.
use Rattle.std.proofs.Common.{◌≡◌, ℕ, ◌<◌, true, ltb, List, [], ◌∷◌, length, get_or, Ok, subst, arith}
use lib.ListN.{length-map}
use Rattle.std.specs.List.{AllByRecursion}
use Rattle.std.proofs.ByRecursion.{All-map}
use Rattle.std.proofs.lemmas.Bool.{cond_both}
use Rattle.meaning.proofs.Lists.{all_read}
use Rattle.meaning.specs.Calc.{Answer, gives, faults, Calc, CalcLaws, Proper, input_places, input_figures, figure_at, told, tells}

module _ {F : Type 0} (m : Calc F) (laws : CalcLaws m) where
  abbrev Takes : F → Type 0
  Takes x = m.takes x ≡ true

  -- The figure at any place of a taken table is taken.
  figure_taken : (table : List F) (places : List ℕ) (i : ℕ) → AllByRecursion Takes table → Takes (figure_at m.start table places i)
  figure_taken table places i all =
      cond_both (ltb i (length places)) _ _ Takes (λ _. all_read Takes table (get_or places i 0) m.start all laws.start_taken) (λ _. laws.start_taken)

  -- The figures of the inputs are taken, if the figure at every place is.
  every_read_taken : (table : List F) (places is : List ℕ) → ((i : ℕ) → Takes (figure_at m.start table places i)) → AllByRecursion (λ i. Takes (figure_at m.start table places i)) is
  every_read_taken table places [] all = tt
  every_read_taken table places (i ∷ is) all = (all i, every_read_taken table places is all)

  inputs_read_taken : (kind way : ℕ) (table : List F) (places : List ℕ) → ((i : ℕ) → Takes (figure_at m.start table places i)) → AllByRecursion Takes (input_figures m kind way table places)
  inputs_read_taken kind way table places all =
      All-map Takes (figure_at m.start table places) (input_places m kind way) (every_read_taken table places (input_places m kind way) all)

  -- So they are over a table of taken figures.
  pub inputs_taken : (kind way : ℕ) (table : List F) (places : List ℕ) → AllByRecursion Takes table → AllByRecursion Takes (input_figures m kind way table places)
  inputs_taken kind way table places all = inputs_read_taken kind way table places (λ i. figure_taken table places i all)

  -- What is answered on taken inputs, with a P that is taken, is proper.
  pub answer_proper : (kind way : ℕ) (p : F) (table : List F) (places : List ℕ) → kind < m.kinds → way < m.ways kind → Takes p → ((i : ℕ) → Takes (figure_at m.start table places i)) → Proper m kind way (m.answer kind way p (input_figures m kind way table places))
  answer_proper kind way p table places k w tp all = laws.proper kind way p _ k w tp (inputs_read_taken kind way table places all) (length-map _ _)

  told_taken : (kind way place : ℕ) (x : F) (a : Answer F) → Proper m kind way a → m.output kind way place ≡ true → told a place ≡ Ok x → Takes x
  told_taken kind way place x (gives figure) proper out e = let same : figure place ≡ x = cc in subst Takes same (proper place out)
  told_taken kind way place x (faults n) proper out e = let z : ◌≡◌ {A = ℕ} 0 1 = cc in absurd (omega arith)

  -- What is told of an output is taken, if P and the table's figures are.
  pub tells_taken : (kind way place : ℕ) (p x : F) (table : List F) (places : List ℕ) → kind < m.kinds → way < m.ways kind → m.takes p ≡ true → AllByRecursion Takes table → m.output kind way place ≡ true → tells m kind way p table places place ≡ Ok x → Takes x
  tells_taken kind way place p x table places k w tp all out e =
      told_taken kind way place x _ (laws.proper kind way p _ k w tp (inputs_taken kind way table places all) (length-map _ _)) out e
