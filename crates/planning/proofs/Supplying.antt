-- A rule is ready exactly if it reads no cell that the rules left over give.
use Rattle.std.proofs.Common.{◌≡◌, ℕ, zero, suc, true, false, List, [], ◌∷◌, ◌||◌, is_some, Some, None, Option, sym, refl, ap, ◌∙◌, inl, inr, ⊎_elim, arith}
use Rattle.std.specs.List.{fold}
use lib.Bits.{bit_and, bit_or}
use Rattle.std.proofs.lemmas.Bool.{cases_Bool, both_ways, or_cases, eq-eqb, eqb-true, false_from_ne_true, true_from_ne_false}
use Rattle.meaning.specs.Lists.{is_on}
use Rattle.meaning.specs.Masks.{bit}
use Rattle.meaning.proofs.MaskBits.{no_bit_of_0, bit_of_or, apart_bits, common_bit, bits_apart}
use Rattle.planning.specs.declared.flows.Flow.{Flow}
use Rattle.planning.specs.Flows.{flow_at, inputs_by, outputs_by, rule_in_force, Gives, Feeds, NoTwoGivers}
use Rattle.planning.specs.Plan.{Ready}
use Rattle.planning.specs.Left.{outputs_of, is_ready}
use Rattle.planning.specs.Laws.{ReadyByCells, ReadyIsByCells}
use Rattle.planning.proofs.LeftOver.{Leaves, without, without_leaves, left_same, left_off}

-- A rule that gives a cell is in force, since the others give none.
gives_in_force : (row : Option Flow) (c : ℕ) → bit (outputs_by row) c ≡ true → is_some row ≡ true
gives_in_force (Some flow) c h = refl
gives_in_force None c h = absurd (no_bit_of_0 c h)

-- A rule that reads a cell is in force, since the others read none.
pub reads_in_force : (row : Option Flow) (c : ℕ) → bit (inputs_by row) c ≡ true → is_some row ≡ true
reads_in_force (Some flow) c h = refl
reads_in_force None c h = absurd (no_bit_of_0 c h)

-- A cell is among some others and those that the rules give if it is among these others or a rule gives it.
bit_beside : (others : ℕ) (rows : List (Option Flow)) (c : ℕ) → bit (fold (λ outputs row. bit_or outputs (outputs_by row)) others rows) c ≡ (bit others c || bit (outputs_of rows) c)
bit_beside others [] c =
    grind (arith, false_from_ne_true (bit 0 c) (no_bit_of_0 c))
bit_beside others (row ∷ rows) c =
    grind (arith, bit_beside (bit_or others (outputs_by row)) rows c, bit_beside (outputs_by row) rows c, bit_of_or others (outputs_by row) c)

-- A cell that the rules give all together has a giver: the first rule or a later one.
giver_of : (rows : List (Option Flow)) (c : ℕ) → bit (outputs_of rows) c ≡ true → (x : ℕ) × Gives rows x c
giver_of [] c h = absurd (no_bit_of_0 c h)
giver_of (row ∷ rows) c h =
    ⊎_elim (λ first. (0, first)) (λ later. let g = giver_of rows c later in (suc g.0, g.1)) (or_cases (bit (outputs_by row) c) (bit (outputs_of rows) c) (sym (bit_beside (outputs_by row) rows c) ∙ h))

-- A cell that a rule gives is among those that the rules give all together.
given : (rows : List (Option Flow)) (x c : ℕ) → Gives rows x c → bit (outputs_of rows) c ≡ true
given [] x c h = absurd (no_bit_of_0 c h)
given (row ∷ rows) zero c h = grind (arith, bit_beside (outputs_by row) rows c, h)
given (row ∷ rows) (suc x) c h = grind (arith, bit_beside (outputs_by row) rows c, given rows x c h)

-- A rule that passes the test is in force and reads no pending cell.
pub ready_parts : (row : Option Flow) (pending : ℕ) → is_ready row pending ≡ true → (is_some row ≡ true) × (bit_and (inputs_by row) pending ≡ 0)
ready_parts (Some flow) pending h = (refl, eqb-true (bit_and flow.inputs pending) 0 h)
ready_parts None pending h = absurd (both_ways _ refl h)

-- A rule that is in force and reads no pending cell passes the test.
ready_made : (row : Option Flow) (pending : ℕ) → is_some row ≡ true → bit_and (inputs_by row) pending ≡ 0 → is_ready row pending ≡ true
ready_made (Some flow) pending force apart = eq-eqb (bit_and flow.inputs pending) 0 apart
ready_made None pending force apart = force

-- A rule has a feeder in force that is not planned.
abbrev pub UnplannedFeeder : List (Option Flow) → List ℕ → ℕ → Type 0
UnplannedFeeder rows planned y = (x : ℕ) × (rule_in_force rows x ≡ true) × (is_on x planned ≡ false) × Feeds rows x y

module _ (rows : List (Option Flow)) (planned : List ℕ) (left : List (Option Flow)) (leaves : Leaves rows planned left) where
  -- A rule that gives a cell among those left is in force and not planned, so that it gives the cell among all rules too.
  gives_left : (x c : ℕ) → Gives left x c → (rule_in_force rows x ≡ true) × (is_on x planned ≡ false) × Gives rows x c
  gives_left x c gives =
      let force = gives_in_force (flow_at left x) c gives in
      let off = left_off rows planned left leaves x force in
      let same = left_same rows planned left leaves x off in
      (ap is_some (sym same) ∙ force, off, ap (λ row. bit (outputs_by row) c) (sym same) ∙ gives)

  -- A rule left that reads no cell which those left give is ready, since an unplanned giver would be left.
  pub ready_from_test : (y : ℕ) → is_ready (flow_at left y) (outputs_of left) ≡ true → Ready rows planned y
  ready_from_test y h =
      let parts = ready_parts (flow_at left y) (outputs_of left) h in
      let off = left_off rows planned left leaves y parts.0 in
      let same = left_same rows planned left leaves y off in
      record {
        in_force = ap is_some (sym same) ∙ parts.0;
        unplanned = off;
        supplied = λ x feeds. true_from_ne_false (is_on x planned) (λ out. apart_bits (inputs_by (flow_at left y)) (outputs_of left) feeds.0 parts.1 (ap (λ row. bit (inputs_by row) feeds.0) same ∙ feeds.2) (given left x feeds.0 (ap (λ row. bit (outputs_by row) feeds.0) (left_same rows planned left leaves x out) ∙ feeds.1)));
      }

  -- A ready rule passes the test, since a cell that it reads and those left give would have an unplanned giver.
  pub test_from_ready : (y : ℕ) → Ready rows planned y → is_ready (flow_at left y) (outputs_of left) ≡ true
  test_from_ready y ready =
      let same = left_same rows planned left leaves y ready.unplanned in
      ready_made (flow_at left y) (outputs_of left) (ap is_some same ∙ ready.in_force)
      (bits_apart (inputs_by (flow_at left y)) (outputs_of left) (λ c reads pending. let g = giver_of left c pending in let from = gives_left g.0 c g.1 in both_ways _ from.1 (ready.supplied g.0 (c, from.2, ap (λ row. bit (inputs_by row) c) (sym same) ∙ reads))))

  -- A rule in force, neither planned nor ready, has such a feeder: it fails the test, and so reads a cell that one left gives.
  feeder_left : (y : ℕ) → rule_in_force rows y ≡ true → is_on y planned ≡ false → (Ready rows planned y → ⊥) → UnplannedFeeder rows planned y
  feeder_left y force off unready =
      let same = left_same rows planned left leaves y off in
      let shared = common_bit (inputs_by (flow_at left y)) (outputs_of left) (λ apart. unready (ready_from_test y (ready_made (flow_at left y) (outputs_of left) (ap is_some same ∙ force) apart))) in
      let c = shared.0 in
      let g = giver_of left c shared.2 in
      let from = gives_left g.0 c g.1 in
      (g.0, from.0, from.1, (c, from.2, ap (λ row. bit (inputs_by row) c) (sym same) ∙ shared.1))

-- So it has one whatever is planned, since there are rows left behind any list of rules.
pub unplanned_feeder : (rows : List (Option Flow)) (planned : List ℕ) (y : ℕ) → rule_in_force rows y ≡ true → is_on y planned ≡ false → (Ready rows planned y → ⊥) → UnplannedFeeder rows planned y
unplanned_feeder rows planned = feeder_left rows planned (without rows planned) (without_leaves rows planned)

-- Each input of a ready rule has a planned giver or no giver; where no cell has two givers, that makes a rule ready.
pub ready_is_by_cells : ReadyIsByCells
ready_is_by_cells rows planned y = record { by_cells = by_cells; by_rules = by_rules }
  where
    by_cells : Ready rows planned y → ReadyByCells rows planned y
    by_cells ready = record {
      in_force = ready.in_force;
      unplanned = ready.unplanned;
      supplied = λ c reads. ⊎_elim (λ h. let g = giver_of rows c h in inl (g.0, ready.supplied g.0 (c, g.1, reads), g.1)) (λ h. inr (λ x gives. both_ways _ h (given rows x c gives))) (cases_Bool (bit (outputs_of rows) c));
    }

    by_rules : NoTwoGivers rows → ReadyByCells rows planned y → Ready rows planned y
    by_rules one ready = record {
      in_force = ready.in_force;
      unplanned = ready.unplanned;
      supplied = λ x feeds. ⊎_elim (λ g. ap (λ z. is_on z planned) (one x g.0 feeds.0 feeds.1 g.2) ∙ g.1) (λ none. absurd (none x feeds.1)) (ready.supplied feeds.0 feeds.2);
    }
