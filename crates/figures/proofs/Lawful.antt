-- Every update over a plan leaves the figures up to date.
use Rattle.std.proofs.Common.{◌≡◌, ℕ, zero, suc, ◌<◌, ◌≤◌, true, false, List, length, get_or, replicate, Some, None, Option, sym, refl, ap, ◌∙◌, subst, arith}
use Rattle.std.proofs.lemmas.Grind.{common_steps, elements}
use Rattle.std.proofs.lemmas.Bool.{both_ways}
use Rattle.meaning.specs.Lists.{is_on}
use Rattle.meaning.specs.Calc.{Calc, CalcLaws}
use Rattle.planning.proofs.Lawful.{plans_are_lawful}
use Rattle.planning.proofs.Held.{held_are_rings}
use Rattle.figures.specs.declared.ways.SelectedWay.{SelectedWay}
use Rattle.figures.specs.declared.blanks.Cause.{Cause}
use Rattle.figures.specs.declared.blanks.Cause.TheVariants.{GiverHeld}
use Rattle.figures.specs.Ways.{InForceBy, Output, flows_of}
use Rattle.figures.specs.Blanks.{cause_at}
use Rattle.figures.specs.Update.{Table, table, holds, updated}
use Rattle.figures.specs.Laws.{Planned, Free, UpdateLaws, UpdateIsLawful}
use Rattle.figures.proofs.Naming.{gives_output}
use Rattle.figures.proofs.Entries.{Entry, entry}
use Rattle.figures.proofs.Holding.{NoneGives, output_below, holds_other, holds_length, holds_at}
use Rattle.figures.proofs.Turning.{InOrder, Wide, turns_other, turns_sizes, turns_planned, turns_blank}
use Rattle.figures.proofs.Taking.{turns_taken}
use Rattle.figures.proofs.InOrder.{plan_in_order}

-- Two lists of one length that read alike at an index with one default do so with any.
any_default : {F : Type 0} (xs ys : List F) (c : ℕ) (d e : F) → length xs ≡ length ys → get_or xs c d ≡ get_or ys c d → get_or xs c e ≡ get_or ys c e
any_default xs ys c d e sizes same = grind (arith, common_steps, elements)

-- At first none of the sixty-four cells is blank.
abbrev none_yet : List (Option Cause)
none_yet = replicate 64 None

none_length : length none_yet ≡ 64
none_length = refl

none_blank : (n c : ℕ) → cause_at (replicate n None) c ≡ None
none_blank zero c = refl
none_blank (suc n) zero = refl
none_blank (suc n) (suc c) = none_blank n c

module _ {F : Type 0} (m : Calc F) (laws : CalcLaws m) (n : ℕ) (rows : List (Option SelectedWay)) (ps : List F) (order held : List ℕ) (before : List F) (planned : Planned m n rows order held) (wide : n ≤ length before) where
  -- The table as the turns find it.
  abbrev first : Table F
  first = table before (holds rows held none_yet)

  abbrev after : Table F
  after = updated m rows ps order held before

  marks : length (holds rows held none_yet) ≡ 64
  marks = holds_length m n rows planned.fit held none_yet ∙ none_length

  first_wide : Wide m n rows ps planned.fit first
  first_wide = record { figures_wide = wide; blanks_wide = omega (arith, marks, planned.few_cells) }

  in_order : InOrder rows order
  in_order = plan_in_order m n planned.few_cells rows planned.fit planned.no_two_givers planned.plan

  -- A held rule is not planned, since it lies on a ring or is fed from one.
  held_off : (x : ℕ) → is_on x held ≡ true → is_on x order ≡ false
  held_off x on =
      (plans_are_lawful (flows_of rows) order planned.plan).ring_out x ((held_are_rings (flows_of rows) order planned.plan).held_ring x (subst (λ (xs : List ℕ). is_on x xs ≡ true) planned.held_listed on))

  -- So no planned rule gives a cell that a held one gives, since no cell has two givers.
  held_alone : (x i c : ℕ) (w : SelectedWay) → is_on x held ≡ true → InForceBy rows x w → Output w i c → NoneGives rows order c
  held_alone x i c w on by out y j v on-y by-y out-y =
      let lt = output_below m n rows planned.fit x i c w by out in
      let below : c < 64 = omega (arith, planned.few_cells) in
      let same = planned.no_two_givers x y c (gives_output rows x w by i c below out) (gives_output rows y v by-y j c below out-y) in
      both_ways _ (held_off x on) (ap (λ (z : ℕ). is_on z order) same ∙ on-y)

  held_blank : (x i c : ℕ) (w : SelectedWay) → is_on x held ≡ true → InForceBy rows x w → Output w i c → cause_at after.blanks c ≡ Some GiverHeld
  held_blank x i c w on by out =
      ap (λ (e : Entry F). e.cause) (turns_other m n rows ps planned.fit order first c (held_alone x i c w on by out))
      ∙ holds_at m n rows planned.fit held none_yet (omega (arith, planned.few_cells, none_length)) x i c w on by out

  free_same : (c : ℕ) → Free rows c → entry m.start after c ≡ entry m.start first c
  free_same c free = turns_other m n rows ps planned.fit order first c (λ x i w _ by out. free x i w by out)

  free_shown : (c : ℕ) → Free rows c → cause_at after.blanks c ≡ None
  free_shown c free =
      let same = free_same c free in let held = holds_other rows held none_yet c (λ x i w _ by out. free x i w by out) in let none = none_blank 64 c in grind arith

  same_length : length after.figures ≡ length before
  same_length = (turns_sizes m n rows ps planned.fit order first).0

  pub update_laws : UpdateLaws m n rows ps order held before after
  update_laws = record {
    up_to_date = record {
      planned = turns_planned m n rows ps planned.fit order first first_wide in_order;
      held_blank = held_blank;
      free_shown = free_shown;
    };
    kept = record {
      free_kept = λ c d free. any_default after.figures before c m.start d same_length (ap (λ (e : Entry F). e.shown) (free_same c free));
      blank_kept = λ c d is. any_default after.figures before c m.start d same_length (turns_blank m n rows ps planned.fit order first first_wide in_order c is);
      same_length = same_length;
    };
    taken = turns_taken m laws n rows ps planned.fit order first first_wide;
  }

pub update_is_lawful : (F : Type 0) → UpdateIsLawful F
update_is_lawful F m laws n rows ps order held before planned wide = update_laws m laws n rows ps order held before planned wide

-- So the table that an update leaves keeps the laws.
pub left_lawful : {F : Type 0} (m : Calc F) → CalcLaws m → (n : ℕ) (rows : List (Option SelectedWay)) (ps : List F) (order held : List ℕ) (before : List F) (left : Table F) → left ≡ updated m rows ps order held before → Planned m n rows order held → n ≤ length before → UpdateLaws m n rows ps order held before left
left_lawful {F} m laws n rows ps order held before left value planned wide =
    subst (UpdateLaws m n rows ps order held before) (sym value) (update_is_lawful F m laws n rows ps order held before planned wide)
