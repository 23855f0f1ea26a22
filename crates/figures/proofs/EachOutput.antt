-- What is done for each output of a way, seen at one cell: where a place does nothing but at its own cell, each output's
-- cell shows what was done for it, and every other cell what it showed before.
use Rattle.std.proofs.Common.{◌≡◌, ℕ, suc, true, cond, List, [], ◌∷◌, refl, ap, ◌∙◌, subst, arith}
use Rattle.std.proofs.lemmas.Bool.{cond-true}
use Rattle.meaning.specs.Masks.{bit}
use Rattle.figures.specs.Update.{each_output}
use Rattle.figures.proofs.Naming.{NamesFrom, here, there, from_on}

-- What is read at a cell; doing f at a place changes it at the place's cell alone.
module _ {X Y : Type 0} (read : X → ℕ → Y) (f : ℕ → ℕ → X → X) (mask : ℕ) (frame : (i c : ℕ) (x : X) (e : ℕ) → (e ≡ c → ⊥) → read (f i c x) e ≡ read x e) where
  -- A first place that does not name cell e as an output.
  first_named : (k c e : ℕ) (cs : List ℕ) → bit mask k ≡ true → c ≡ e → NamesFrom mask true k (c ∷ cs) k e
  first_named k c e cs b q = subst (λ (n : ℕ). NamesFrom mask true k (c ∷ cs) k n) q (here b)

  place_other : (k c e : ℕ) (x : X) → (bit mask k ≡ true → c ≡ e → ⊥) → read (cond (bit mask k) (f k c x) x) e ≡ read x e
  place_other k c e x differs = let same = frame k c x e in grind arith

  -- A cell that is no output shows what it showed.
  pub each_other : (k : ℕ) (cs : List ℕ) (x : X) (e : ℕ) → ((i : ℕ) → NamesFrom mask true k cs i e → ⊥) → read (each_output f mask k cs x) e ≡ read x e
  each_other k [] x e none = refl
  each_other k (c ∷ cs) x e none =
      each_other (suc k) cs (cond (bit mask k) (f k c x) x) e (λ i n. none i (there n)) ∙ place_other k c e x (λ b q. none k (first_named k c e cs b q))

  -- The cell of an output shows what is done for that output, from a state that reads at this cell and at every cell
  -- that is no output as the first one does.
  pub each_at : {k i c : ℕ} {cs : List ℕ} (x : X) → NamesFrom mask true k cs i c → ((j : ℕ) → NamesFrom mask true k cs j c → j ≡ i) → (s : X) × (read (each_output f mask k cs x) c ≡ read (f i c s) c) × (read s c ≡ read x c) × ((e : ℕ) → ((j : ℕ) → NamesFrom mask true k cs j e → ⊥) → read s e ≡ read x e)
  each_at {k} {i} {c} {cs} x (here {cs = ds} b) only =
      (x, each_other (suc k) ds (cond (bit mask k) (f k c x) x) c (λ j n. let le = from_on n in let same = only j (there n) in omega arith) ∙ ap (λ (y : X). read y c) (cond-true (bit mask k) (f k c x) x b), refl, λ e none. refl)
  each_at {k} {i} {c} {cs} x (there {d = d} {cs = ds} n) only =
      let first = cond (bit mask k) (f k d x) x in
      let rest = each_at first n (λ j n'. only j (there n')) in
      (rest.0, rest.1, rest.2 ∙ place_other k d c x (λ b q. let le = from_on n in let same = only k (first_named k d c ds b q) in omega arith), λ e none. rest.3 e (λ j n'. none j (there n')) ∙ place_other k d e x (λ b q. none k (first_named k d e ds b q)))
