-- What blanking the outputs of the held rules leaves at each cell.
use Rattle.std.proofs.Common.{◌≡◌, ℕ, ◌<◌, ◌≤◌, true, List, [], ◌∷◌, length, get_or, Some, None, Option, sym, refl, ap, ◌∙◌, ⊎_elim, arith}
use Rattle.meaning.specs.Lists.{is_on}
use Rattle.meaning.specs.Calc.{Calc}
use Rattle.planning.proofs.Members.{on_cases}
use Rattle.figures.specs.declared.ways.SelectedWay.{SelectedWay}
use Rattle.figures.specs.declared.blanks.Cause.{Cause}
use Rattle.figures.specs.declared.blanks.Cause.TheVariants.{GiverHeld}
use Rattle.figures.specs.Ways.{InForceBy, Output}
use Rattle.figures.specs.Blanks.{cause_at}
use Rattle.figures.specs.Update.{held_by, holds}
use Rattle.figures.specs.Laws.{Fits}
use Rattle.figures.proofs.Naming.{decide_output}
use Rattle.figures.proofs.Entries.{Marked, marked, blanked_other, blanked_at}

-- No rule on the list gives the cell.
abbrev pub NoneGives : List (Option SelectedWay) → List ℕ → ℕ → Type 0
NoneGives rows xs c = (x i : ℕ) (w : SelectedWay) → is_on x xs ≡ true → InForceBy rows x w → Output w i c → ⊥

-- Then neither its first rule does, nor one of the rest.
pub first_none : (rows : List (Option SelectedWay)) (x : ℕ) (xs : List ℕ) (c : ℕ) → NoneGives rows (x ∷ xs) c → (w : SelectedWay) → InForceBy rows x w → (i : ℕ) → Output w i c → ⊥
first_none rows x xs c none w by i out = none x i w (grind arith) by out

pub rest_none : (rows : List (Option SelectedWay)) (x : ℕ) (xs : List ℕ) (c : ℕ) → NoneGives rows (x ∷ xs) c → NoneGives rows xs c
rest_none rows x xs c none y i w on by out = none y i w (grind arith) by out

-- A cell that no held rule gives keeps its cause.
held_other : (row : Option SelectedWay) (b : List (Option Cause)) (c : ℕ) → ((w : SelectedWay) → row ≡ Some w → (i : ℕ) → Output w i c → ⊥) → marked (held_by row b) c ≡ marked b c
held_other (Some w) b c none = blanked_other GiverHeld w b c (none w refl)
held_other None b c none = refl

pub holds_other : (rows : List (Option SelectedWay)) (xs : List ℕ) (b : List (Option Cause)) (c : ℕ) → NoneGives rows xs c → marked (holds rows xs b) c ≡ marked b c
holds_other rows [] b c none = refl
holds_other rows (x ∷ xs) b c none =
    holds_other rows xs (held_by (get_or rows x None) b) c (rest_none rows x xs c none) ∙ held_other (get_or rows x None) b c (first_none rows x xs c none)

module _ {F : Type 0} (m : Calc F) (n : ℕ) (rows : List (Option SelectedWay)) (fit : (x : ℕ) (w : SelectedWay) → InForceBy rows x w → Fits m n w) where
  -- A rule gives no cell but the first n.
  pub output_below : (x i c : ℕ) (w : SelectedWay) → InForceBy rows x w → Output w i c → c < n
  output_below x i c w by out = let there = (fit x w by).cells_there i out.placed in omega (arith, out.names)

  pub past_none : (x i : ℕ) (w : SelectedWay) → InForceBy rows x w → Output w i n → ⊥
  past_none x i w by out = let lt = output_below x i n w by out in omega arith

  -- So the list of causes keeps its length.
  pub holds_length : (xs : List ℕ) (b : List (Option Cause)) → length (holds rows xs b) ≡ length b
  holds_length xs b = ap (λ (z : Marked). z.0) (holds_other rows xs b n (λ x i w _ by out. past_none x i w by out))

  -- A cell with this cause keeps it: a rule that gives it writes the same one.
  held_stays : (x : ℕ) (row : Option SelectedWay) → get_or rows x None ≡ row → (b : List (Option Cause)) (c : ℕ) → c < length b → cause_at b c ≡ Some GiverHeld → marked (held_by row b) c ≡ (length b, Some GiverHeld)
  held_stays x (Some w) by b c lt is =
      ⊎_elim (λ (p : (i : ℕ) × Output w i c). blanked_at m n w (fit x w by) GiverHeld b p.0 c p.1 lt) (λ none. blanked_other GiverHeld w b c none ∙ ap (λ (o : Option Cause). (length b, o)) is) (decide_output w c)
  held_stays x None by b c lt is = ap (λ (o : Option Cause). (length b, o)) is

  holds_stays : (xs : List ℕ) (b : List (Option Cause)) (c : ℕ) → c < length b → cause_at b c ≡ Some GiverHeld → cause_at (holds rows xs b) c ≡ Some GiverHeld
  holds_stays [] b c lt is = is
  holds_stays (x ∷ xs) b c lt is =
      let now' = held_stays x (get_or rows x None) refl b c lt is in holds_stays xs (held_by (get_or rows x None) b) c (grind arith) (grind arith)

  -- A cell that a held rule gives has this cause.
  pub holds_at : (xs : List ℕ) (b : List (Option Cause)) → n ≤ length b → (x i c : ℕ) (w : SelectedWay) → is_on x xs ≡ true → InForceBy rows x w → Output w i c → cause_at (holds rows xs b) c ≡ Some GiverHeld
  holds_at [] b le x i c w on by out = grind arith
  holds_at (y ∷ ys) b le x i c w on by out =
      let size : length (held_by (get_or rows y None) b) ≡ length b = holds_length (y ∷ []) b in
      ⊎_elim first (λ later. holds_at ys (held_by (get_or rows y None) b) (omega arith) x i c w later by out) (on_cases x y ys on)
    where
      first : x ≡ y → cause_at (holds rows (y ∷ ys) b) c ≡ Some GiverHeld
      first e =
          let row : get_or rows y None ≡ Some w = ap (λ (z : ℕ). get_or rows z None) (sym e) ∙ by in
          let lt = output_below x i c w by out in
          let now' : marked (held_by (get_or rows y None) b) c ≡ (length b, Some GiverHeld) = ap (λ (r : Option SelectedWay). marked (held_by r b) c) row ∙ blanked_at m n w (fit x w by) GiverHeld b i c out (omega arith) in
          holds_stays ys (held_by (get_or rows y None) b) c (grind arith) (grind arith)
