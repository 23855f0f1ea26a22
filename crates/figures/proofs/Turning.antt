-- What the rules' turns leave at each cell, where the rules come in an order in which no later one disturbs an earlier one.
use Rattle.std.proofs.Common.{◌≡◌, ℕ, ◌≤◌, Bool, true, false, ◌⊎◌, List, [], ◌∷◌, length, get_or, Some, None, Option, sym, refl, ap, ◌∙◌, subst, inl, inr, ⊎_elim, arith}
use Rattle.std.proofs.lemmas.Bool.{both_ways}
use Rattle.meaning.specs.Lists.{is_on}
use Rattle.meaning.specs.Calc.{Calc}
use Rattle.planning.proofs.Members.{on_cases}
use Rattle.figures.specs.declared.ways.SelectedWay.{SelectedWay}
use Rattle.figures.specs.Ways.{InForceBy, Names, Output}
use Rattle.std.specs.Option.{is_some}
use Rattle.figures.specs.Blanks.{is_blank}
use Rattle.figures.specs.Update.{Table, worked_out, turn, turns}
use Rattle.figures.specs.Laws.{Fits, Shown, figure, blank, shown_by, shows, made}
use Rattle.figures.proofs.Naming.{names_from, decide_output}
use Rattle.figures.proofs.Entries.{Entry, entry, landed, input_apart, made_agree, worked_other, worked_at}
use Rattle.figures.proofs.Holding.{NoneGives, first_none, rest_none, output_below, past_none}

-- No rule on the list gives a cell that a place of rule x names.
abbrev pub Undisturbed : List (Option SelectedWay) → ℕ → List ℕ → Type 0
Undisturbed rows x xs = (w : SelectedWay) → InForceBy rows x w → (output : Bool) (i c : ℕ) → Names output w i c → NoneGives rows xs c

-- No rule is disturbed by one behind it.
abbrev pub InOrder : List (Option SelectedWay) → List ℕ → Type 0
InOrder rows [] = Unit {0}
InOrder rows (x ∷ xs) = Undisturbed rows x xs × InOrder rows xs

-- An entry shows what has landed in it.
shown_landed : {F : Type 0} (v : Shown F) (e : Entry F) → shown_by (landed v e).cause (landed v e).shown ≡ v
shown_landed (figure x) e = refl
shown_landed (blank why) e = refl

-- If that is a blank, the figure is the one before.
blank_landed : {F : Type 0} (v : Shown F) (e : Entry F) → is_some (landed v e).cause ≡ true → (landed v e).shown ≡ e.shown
blank_landed (figure x) e h = grind arith
blank_landed (blank why) e h = refl

module _ {F : Type 0} (m : Calc F) (n : ℕ) (rows : List (Option SelectedWay)) (ps : List F) (fit : (x : ℕ) (w : SelectedWay) → InForceBy rows x w → Fits m n w) where
  abbrev at : Table F → ℕ → Entry F
  at = entry m.start

  -- The table has the first n cells.
  pub record Wide (t : Table F) : Type 0 where
    pub figures_wide : n ≤ length t.figures
    pub blanks_wide : n ≤ length t.blanks

  -- The table behind the turn of rule x.
  abbrev pub behind : ℕ → Table F → Table F
  behind x t = turn m (get_or ps x m.start) (get_or rows x None) t

  -- A turn leaves every cell but the outputs as it was.
  turn_other : (x : ℕ) (p : F) (row : Option SelectedWay) → get_or rows x None ≡ row → (t : Table F) (c : ℕ) → ((w : SelectedWay) → InForceBy rows x w → (i : ℕ) → Output w i c → ⊥) → at (turn m p row t) c ≡ at t c
  turn_other x p (Some w) by t c none = worked_other m n w (fit x w by) p t c (none w by)
  turn_other x p None by t c none = refl

  -- And so do the turns of some rules.
  pub turns_other : (xs : List ℕ) (t : Table F) (c : ℕ) → NoneGives rows xs c → at (turns m rows ps xs t) c ≡ at t c
  turns_other [] t c none = refl
  turns_other (x ∷ xs) t c none =
      turns_other xs (behind x t) c (rest_none rows x xs c none) ∙ turn_other x (get_or ps x m.start) (get_or rows x None) refl t c (first_none rows x xs c none)

  -- The lists keep their lengths, as the cell behind the first n shows, which no rule gives.
  pub turns_sizes : (xs : List ℕ) (t : Table F) → (length (turns m rows ps xs t).figures ≡ length t.figures) × (length (turns m rows ps xs t).blanks ≡ length t.blanks)
  turns_sizes xs t =
      let same = turns_other xs t n (λ x i w _ by out. past_none m n rows fit x i w by out) in
      (grind arith, grind arith)

  pub wide_behind : (x : ℕ) (t : Table F) → Wide t → Wide (behind x t)
  wide_behind x t wide =
      let sizes = turns_sizes (x ∷ []) t in
      record { figures_wide = omega (arith, sizes.0, wide.figures_wide); blanks_wide = omega (arith, sizes.1, wide.blanks_wide) }

  -- At an output of the first rule there stands, behind all turns, what its way made of the table before them.
  module _ (x : ℕ) (xs : List ℕ) (t : Table F) (wide : Wide t) (calm : Undisturbed rows x xs) (w : SelectedWay) (by : InForceBy rows x w) where
    abbrev after : Table F
    after = turns m rows ps xs (worked_out m w (get_or ps x m.start) t)

    pub first_turn : turns m rows ps (x ∷ xs) t ≡ after
    first_turn = ap (λ (row : Option SelectedWay). turns m rows ps xs (turn m (get_or ps x m.start) row t)) by

    pub first_at : (i c : ℕ) → Output w i c → at after c ≡ landed (made m w (get_or ps x m.start) t i) (at t c)
    first_at i c out =
        let lt = output_below m n rows fit x i c w by out in
        turns_other xs (worked_out m w (get_or ps x m.start) t) c (calm w by true i c out)
        ∙ worked_at m n w (fit x w by) (get_or ps x m.start) t i c out (omega (arith, wide.figures_wide)) (omega (arith, wide.blanks_wide))

    -- Its inputs are as they were, so that its way makes the same of the table behind all turns.
    first_made : (i : ℕ) → made m w (get_or ps x m.start) t i ≡ made m w (get_or ps x m.start) after i
    first_made i =
        made_agree m n w (fit x w by) (get_or ps x m.start) t after
        (λ j c inp. sym (turns_other xs (worked_out m w (get_or ps x m.start) t) c (calm w by false j c inp) ∙ worked_other m n w (fit x w by) (get_or ps x m.start) t c (λ k out. input_apart m n w (fit x w by) j c inp k (names_from w k c out)))) i

    first_shows : (i c : ℕ) → Output w i c → shows m.start after c ≡ made m w (get_or ps x m.start) after i
    first_shows i c out =
        let lands = first_at i c out in let shown = shown_landed (made m w (get_or ps x m.start) t i) (at t c) in let same = first_made i in grind arith

  -- Behind all turns, a cell that one of the rules gives shows what its way makes of the table as it then is.
  pub turns_planned : (xs : List ℕ) (t : Table F) → Wide t → InOrder rows xs → (x i c : ℕ) (w : SelectedWay) → is_on x xs ≡ true → InForceBy rows x w → Output w i c → shows m.start (turns m rows ps xs t) c ≡ made m w (get_or ps x m.start) (turns m rows ps xs t) i
  turns_planned [] t wide order x i c w on by out = absurd (both_ways _ refl on)
  turns_planned (y ∷ ys) t wide order x i c w on by out =
      ⊎_elim first (λ later. turns_planned ys (behind y t) (wide_behind y t wide) order.1 x i c w later by out) (on_cases x y ys on)
    where
      first : x ≡ y → shows m.start (turns m rows ps (y ∷ ys) t) c ≡ made m w (get_or ps x m.start) (turns m rows ps (y ∷ ys) t) i
      first e =
          let by-y : InForceBy rows y w = ap (λ (z : ℕ). get_or rows z None) (sym e) ∙ by in
          subst (λ (s : Table F). shows m.start s c ≡ made m w (get_or ps x m.start) s i) (sym (first_turn y ys t wide order.0 w by-y)) (first_shows y ys t wide order.0 w by-y i c out ∙ ap (λ (z : ℕ). made m w (get_or ps z m.start) (after y ys t wide order.0 w by-y) i) (sym e))

  -- A rule gives a cell, or its turn leaves the cell as it was.
  pub given_or_kept : (x : ℕ) (t : Table F) (c : ℕ) → ((w : SelectedWay) × InForceBy rows x w × (i : ℕ) × Output w i c) ⊎ (at (behind x t) c ≡ at t c)
  given_or_kept x t c = by_row (get_or rows x None) refl
    where
      by_row : (row : Option SelectedWay) → get_or rows x None ≡ row → ((w : SelectedWay) × InForceBy rows x w × (i : ℕ) × Output w i c) ⊎ (at (turn m (get_or ps x m.start) row t) c ≡ at t c)
      by_row (Some w) by =
          ⊎_elim (λ (p : (i : ℕ) × Output w i c). inl (w, by, p.0, p.1)) (λ none. inr (worked_other m n w (fit x w by) (get_or ps x m.start) t c none)) (decide_output w c)
      by_row None by = inr refl

  -- The figure of a blank cell is the one before.
  pub turns_blank : (xs : List ℕ) (t : Table F) → Wide t → InOrder rows xs → (c : ℕ) → is_blank (turns m rows ps xs t).blanks c ≡ true → (at (turns m rows ps xs t) c).shown ≡ (at t c).shown
  turns_blank [] t wide order c h = refl
  turns_blank (x ∷ xs) t wide order c h =
      ⊎_elim (λ (g : (w : SelectedWay) × InForceBy rows x w × (i : ℕ) × Output w i c). given g.0 g.1 g.2 g.3) (λ same. turns_blank xs (behind x t) (wide_behind x t wide) order.1 c h ∙ ap (λ (e : Entry F). e.shown) same) (given_or_kept x t c)
    where
      given : (w : SelectedWay) → InForceBy rows x w → (i : ℕ) → Output w i c → (at (turns m rows ps (x ∷ xs) t) c).shown ≡ (at t c).shown
      given w by i out =
          let turned = first_turn x xs t wide order.0 w by in
          let lands = first_at x xs t wide order.0 w by i c out in
          let kept = blank_landed (made m w (get_or ps x m.start) t i) (at t c) in
          grind arith
