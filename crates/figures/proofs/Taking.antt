-- Every figure stays one that the calculator takes.
use Rattle.std.proofs.Common.{◌≡◌, ℕ, true, ltb, List, [], ◌∷◌, length, get_or, Option, sym, refl, subst, ⊎_elim, arith}
use Rattle.std.proofs.lemmas.Bool.{cond_both, ltb-true}
use Rattle.meaning.specs.Calc.{Answer, gives, faults, Calc, CalcLaws, Proper, figure_at, input_figures}
use Rattle.meaning.proofs.Taken.{answer_proper}
use Rattle.figures.specs.declared.ways.SelectedWay.{SelectedWay}
use Rattle.figures.specs.Ways.{places_of, InForceBy, Output}
use Rattle.figures.specs.Update.{Table, turns}
use Rattle.figures.specs.Laws.{Fits, Shown, figure, blank, answered, made, AllTaken, ParametersTaken}
use Rattle.figures.proofs.Entries.{Entry, entry, landed, worked_at}
use Rattle.figures.proofs.Turning.{Wide, behind, wide_behind, given_or_kept}

module _ {F : Type 0} (m : Calc F) (laws : CalcLaws m) where
  abbrev Takes : F → Type 0
  Takes x = m.takes x ≡ true

  -- An answer that is proper shows a figure that is taken, if it shows one.
  answered_taken : (kind way i : ℕ) (a : Answer F) → Proper m kind way a → m.output kind way i ≡ true → (x : F) → answered a i ≡ figure x → Takes x
  answered_taken kind way i (gives f) proper out x e = let taken = proper i out in grind arith
  answered_taken kind way i (faults k) proper out x e = grind arith

  -- What lands in an entry leaves a taken figure there.
  landed_taken : (v : Shown F) (e : Entry F) → ((x : F) → v ≡ figure x → Takes x) → Takes e.shown → Takes (landed v e).shown
  landed_taken (figure x) e new old = new x refl
  landed_taken (blank why) e new old = old

  module _ (n : ℕ) (w : SelectedWay) (fits : Fits m n w) (p : F) (tp : Takes p) (t : Table F) (taken : AllTaken m n t.figures) where
    place_taken : (i : ℕ) → Takes (figure_at m.start t.figures (places_of w) i)
    place_taken i =
        cond_both (ltb i (length (places_of w))) _ _ Takes (λ e. taken (get_or (places_of w) i 0) (fits.cells_there i (ltb-true i (length (places_of w)) e))) (λ _. laws.start_taken)

    -- A figure that a way makes of taken figures is taken.
    pub made_taken : (i c : ℕ) → Output w i c → (x : F) → made m w p t i ≡ figure x → Takes x
    made_taken i c out x e =
        let proper = answer_proper m laws w.kind w.way p t.figures (places_of w) fits.kind_known fits.way_known tp place_taken in
        let fixed = fits.outputs_fixed i out.placed in
        let shown = answered_taken w.kind w.way i (m.answer w.kind w.way p (input_figures m w.kind w.way t.figures (places_of w))) proper in
        grind arith

  module _ (n : ℕ) (rows : List (Option SelectedWay)) (ps : List F) (fit : (x : ℕ) (w : SelectedWay) → InForceBy rows x w → Fits m n w) where
    -- A turn with a taken parameter leaves taken figures.
    turn_taken : (x : ℕ) (t : Table F) → Wide m n rows ps fit t → Takes (get_or ps x m.start) → AllTaken m n t.figures → AllTaken m n (behind m n rows ps fit x t).figures
    turn_taken x t wide tp taken c lt =
        ⊎_elim (λ (g : (w : SelectedWay) × InForceBy rows x w × (i : ℕ) × Output w i c). given g.0 g.1 g.2 g.3) (λ same. subst (λ (e : Entry F). Takes e.shown) (sym same) (taken c lt)) (given_or_kept m n rows ps fit x t c)
      where
        p : F
        p = get_or ps x m.start

        given : (w : SelectedWay) → InForceBy rows x w → (i : ℕ) → Output w i c → Takes (get_or (behind m n rows ps fit x t).figures c m.start)
        given w by i out =
            let lands = worked_at m n w (fit x w by) p t i c out (omega (arith, wide.figures_wide)) (omega (arith, wide.blanks_wide)) in
            let shown = landed_taken (made m w p t i) (entry m.start t c) (made_taken n w (fit x w by) p tp t taken i c out) (taken c lt) in
            grind arith

    -- And so do the turns of some rules.
    pub turns_taken : (xs : List ℕ) (t : Table F) → Wide m n rows ps fit t → ParametersTaken m ps xs → AllTaken m n t.figures → AllTaken m n (turns m rows ps xs t).figures
    turns_taken [] t wide parameters taken = taken
    turns_taken (x ∷ xs) t wide parameters taken =
        turns_taken xs (behind m n rows ps fit x t) (wide_behind m n rows ps fit x t wide) (λ y on. parameters y (grind arith)) (turn_taken x t wide (parameters x (grind arith)) taken)
