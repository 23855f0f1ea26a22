-- What working a way out leaves at each cell.
use Rattle.std.proofs.Common.{◌≡◌, ℕ, zero, suc, ◌+◌, ◌<◌, Bool, true, false, List, [], ◌∷◌, map, length, get_or, set, Some, None, Ok, Err, Option, Result, refl, ap, ◌∙◌, arith}
use Rattle.std.proofs.lemmas.Grind.{common_steps, elements}
use Rattle.meaning.specs.declared.Fault.{Fault}
use Rattle.meaning.specs.Masks.{bit}
use Rattle.meaning.specs.Calc.{Answer, gives, faults, Calc, inputs_from, figure_at, input_figures, told, tells}
use Rattle.figures.specs.declared.ways.SelectedWay.{SelectedWay}
use Rattle.figures.specs.declared.blanks.Cause.{Cause}
use Rattle.figures.specs.declared.blanks.Cause.TheVariants.{InputBlank}
use Rattle.figures.specs.Ways.{places_of, Output, Input}
use Rattle.figures.specs.Blanks.{cause_at}
use Rattle.figures.specs.Update.{Table, told_to, blanked, asked_at, asked, blank_from, worked_out}
use Rattle.figures.specs.Laws.{Fits, Shown, figure, blank, answered, made}
use Rattle.figures.proofs.Naming.{NamesFrom, here, there, names_from, from_names}
use Rattle.figures.proofs.EachOutput.{each_other, each_at}

-- What stands at a cell, and how long the two lists are.
pub record Entry (F : Type 0) : Type 0 where
  pub cells : ℕ
  pub shown : F
  pub marks : ℕ
  pub cause : Option Cause

abbrev pub entry : {F : Type 0} → F → Table F → ℕ → Entry F
entry start t c = record {
  cells = length t.figures;
  shown = get_or t.figures c start;
  marks = length t.blanks;
  cause = cause_at t.blanks c;
}

-- An entry with what is shown written to it: a figure, or a blank, and then the figure stays.
abbrev pub landed : {F : Type 0} → Shown F → Entry F → Entry F
landed (figure x) e = record { cells = e.cells; shown = x; marks = e.marks; cause = None }
landed (blank why) e = record { cells = e.cells; shown = e.shown; marks = e.marks; cause = Some why }

-- Only one output names the cell that an output names, and no input does.
module _ {F : Type 0} (m : Calc F) (n : ℕ) (w : SelectedWay) (fits : Fits m n w) where
  pub one_output : (i c : ℕ) → Output w i c → (j : ℕ) → NamesFrom w.outputs true 0 (places_of w) j c → j ≡ i
  one_output i c out j named = let other = from_names w j c named in grind (arith, fits.cells_differ)

  pub input_apart : (i c : ℕ) → Input w i c → (j : ℕ) → NamesFrom w.outputs true 0 (places_of w) j c → ⊥
  input_apart i c inp j named = let other = from_names w j c named in let same = fits.cells_differ j i in grind arith

-- Blanking the outputs of a way, seen at one cell: the list's length stays, and elsewhere the cause.
abbrev pub Marked : Type 0
Marked = ℕ × Option Cause

abbrev pub marked : List (Option Cause) → ℕ → Marked
marked blanks c = (length blanks, cause_at blanks c)

mark_frame : (why : Cause) (i c : ℕ) (b : List (Option Cause)) (e : ℕ) → (e ≡ c → ⊥) → marked (set b c (Some why)) e ≡ marked b e
mark_frame why i c b e ne = grind (arith, common_steps, elements)

pub blanked_other : (why : Cause) (w : SelectedWay) (b : List (Option Cause)) (e : ℕ) → ((i : ℕ) → Output w i e → ⊥) → marked (blanked why w b) e ≡ marked b e
blanked_other why w b e none =
    each_other marked (λ i c b. set b c (Some why)) w.outputs (mark_frame why) 0 (places_of w) b e (λ i n. none i (from_names w i e n))

pub blanked_at : {F : Type 0} (m : Calc F) (n : ℕ) (w : SelectedWay) → Fits m n w → (why : Cause) (b : List (Option Cause)) (i c : ℕ) → Output w i c → c < length b → marked (blanked why w b) c ≡ (length b, Some why)
blanked_at m n w fits why b i c out lt =
    let at = each_at marked (λ i c b. set b c (Some why)) w.outputs (mark_frame why) b (names_from w i c out) (one_output m n w fits i c out) in
    grind (arith, common_steps, elements)

-- What is told of an output and written to its cell leaves every other cell as it was.
told_frame : {F : Type 0} (start : F) (r : Result F Fault) (c : ℕ) (t : Table F) (e : ℕ) → (e ≡ c → ⊥) → entry start (told_to r c t) e ≡ entry start t e
told_frame start (Ok x) c t e ne = grind (arith, common_steps, elements)
told_frame start (Err fault) c t e ne = grind (arith, common_steps, elements)

-- At the cell itself it lands as what the answer shows.
told_at : {F : Type 0} (start : F) (a : Answer F) (i c : ℕ) (t : Table F) → c < length t.figures → c < length t.blanks → entry start (told_to (told a i) c t) c ≡ landed (answered a i) (entry start t c)
told_at start (gives f) i c t lf lb = grind (arith, common_steps, elements)
told_at start (faults n) i c t lf lb = grind (arith, common_steps, elements)

-- Two functions that agree at each place that is no output make the same list of the inputs.
inputs_agree : {F : Type 0} (f g : ℕ → F) (output : ℕ → Bool) (k n : ℕ) → ((i : ℕ) → i < k + n → output i ≡ false → f i ≡ g i) → map f (inputs_from output k n) ≡ map g (inputs_from output k n)
inputs_agree f g output k zero agree = refl
inputs_agree f g output k (suc n) agree =
    let tail = inputs_agree f g output (suc k) n (λ i lt e. agree i (omega arith) e) in let head = agree k in grind arith

-- Whether an input is blank depends on the inputs' causes alone.
blank_agree : (mask k : ℕ) (cs : List ℕ) (b d : List (Option Cause)) → ((i e : ℕ) → NamesFrom mask false k cs i e → cause_at b e ≡ cause_at d e) → blank_from mask k cs b ≡ blank_from mask k cs d
blank_agree mask k [] b d agree = refl
blank_agree mask k (c ∷ cs) b d agree =
    let tail = blank_agree mask (suc k) cs b d (λ i e n. agree i e (there n)) in
    let head : bit mask k ≡ false → cause_at b c ≡ cause_at d c = λ e. agree k c (here e) in
    grind arith

module _ {F : Type 0} (m : Calc F) (n : ℕ) (w : SelectedWay) (fits : Fits m n w) (p : F) where
  abbrev at : Table F → ℕ → Entry F
  at = entry m.start

  -- Two tables agree at the inputs of the way.
  abbrev pub SameInputs : Table F → Table F → Type 0
  SameInputs s t = (i c : ℕ) → Input w i c → entry m.start s c ≡ entry m.start t c

  -- Then the inputs' figures are the same.
  figures_agree : (s t : Table F) → SameInputs s t → input_figures m w.kind w.way s.figures (places_of w) ≡ input_figures m w.kind w.way t.figures (places_of w)
  figures_agree s t same =
      inputs_agree (figure_at m.start s.figures (places_of w)) (figure_at m.start t.figures (places_of w)) (m.output w.kind w.way) 0 (m.places w.kind) (λ i lt e.
      let within : i < length (places_of w) = omega (arith, fits.all_placed) in
      let at = same i (get_or (places_of w) i 0) (record { placed = within; names = refl; direction = fits.outputs_fixed i within ∙ e }) in
      grind arith)

  -- And so is what the way makes of them.
  pub made_agree : (s t : Table F) → SameInputs s t → (i : ℕ) → made m w p s i ≡ made m w p t i
  made_agree s t same i =
      let blank = blank_agree w.outputs 0 (places_of w) s.blanks t.blanks (λ j e named. ap (λ (z : Entry F). z.cause) (same j e (from_names w j e named))) in
      let figures = figures_agree s t same in
      cc

  asked_frame : (i c : ℕ) (t : Table F) (e : ℕ) → (e ≡ c → ⊥) → at (asked_at m w p i c t) e ≡ at t e
  asked_frame i c t e ne = told_frame m.start (tells m w.kind w.way p t.figures (places_of w) i) c t e ne

  -- Asking for the outputs leaves every other cell as it was.
  asked_other : (t : Table F) (e : ℕ) → ((i : ℕ) → Output w i e → ⊥) → at (asked m w p t) e ≡ at t e
  asked_other t e none = each_other at (asked_at m w p) w.outputs asked_frame 0 (places_of w) t e (λ i named. none i (from_names w i e named))

  -- At an output's cell lands what the calculator answers on the inputs as they were before: no output's cell is an input's.
  asked_at_lem : (t : Table F) (i c : ℕ) → Output w i c → c < length t.figures → c < length t.blanks → at (asked m w p t) c ≡ landed (answered (m.answer w.kind w.way p (input_figures m w.kind w.way t.figures (places_of w))) i) (at t c)
  asked_at_lem t i c out lf lb =
      let it = each_at at (asked_at m w p) w.outputs asked_frame t (names_from w i c out) (one_output m n w fits i c out) in
      let s = it.0 in
      let same : SameInputs s t = λ j e inp. it.3 e (input_apart m n w fits j e inp) in
      let lands = told_at m.start (m.answer w.kind w.way p (input_figures m w.kind w.way s.figures (places_of w))) i c s in
      let figures = figures_agree s t same in
      grind arith

  -- A way that is worked out leaves every cell but its outputs as it was.
  pub worked_other : (t : Table F) (e : ℕ) → ((i : ℕ) → Output w i e → ⊥) → at (worked_out m w p t) e ≡ at t e
  worked_other t e none =
      let blanked = blanked_other InputBlank w t.blanks e none in let asked = asked_other t e none in grind arith

  -- At an output's cell lands what the way makes of the table.
  pub worked_at : (t : Table F) (i c : ℕ) → Output w i c → c < length t.figures → c < length t.blanks → at (worked_out m w p t) c ≡ landed (made m w p t i) (at t c)
  worked_at t i c out lf lb =
      let blanked = blanked_at m n w fits InputBlank t.blanks i c out lb in let asked = asked_at_lem t i c out lf lb in grind arith
