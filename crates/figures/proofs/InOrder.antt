-- A plan is an order in which no later rule disturbs an earlier one.
use Rattle.std.proofs.Common.{◌≡◌, ℕ, ◌<◌, ◌≤◌, Bool, true, false, List, [], ◌∷◌, ◌++◌, Option, sym, subst, arith}
use Rattle.std.proofs.lemmas.Bool.{both_ways}
use Rattle.meaning.specs.Lists.{is_on}
use Rattle.meaning.specs.Calc.{Calc}
use Rattle.planning.specs.Flows.{NoTwoGivers}
use Rattle.planning.specs.Plan.{Ready, GoesOn}
use Rattle.planning.proofs.Members.{on_left, on_last}
use Rattle.planning.proofs.InOrder.{goes_new}
use Rattle.figures.specs.declared.ways.SelectedWay.{SelectedWay}
use Rattle.figures.specs.Ways.{InForceBy, Names, Output, flows_of}
use Rattle.figures.specs.Laws.{Fits}
use Rattle.figures.proofs.Naming.{gives_output, reads_input}
use Rattle.figures.proofs.Holding.{output_below}
use Rattle.figures.proofs.Turning.{InOrder}

module _ {F : Type 0} (m : Calc F) (n : ℕ) (few : n ≤ 64) (rows : List (Option SelectedWay)) (fit : (x : ℕ) (w : SelectedWay) → InForceBy rows x w → Fits m n w) (one : NoTwoGivers (flows_of rows)) where
  -- A rule that gives a cell of a ready rule is planned or is that rule: it gives an input, or the cell would have two givers.
  giver_planned : (planned : List ℕ) (y z : ℕ) (v w : SelectedWay) → Ready (flows_of rows) planned y → InForceBy rows y w → InForceBy rows z v → (output : Bool) (i j c : ℕ) → Names output w i c → Output v j c → is_on z (planned ++ y ∷ []) ≡ true
  giver_planned planned y z v w ready by bv true i j c named out =
      let lt = output_below m n rows fit z j c v bv out in
      let below : c < 64 = omega arith in
      let same = one z y c (gives_output rows z v bv j c below out) (gives_output rows y w by i c below named) in
      subst (λ (x : ℕ). is_on x (planned ++ y ∷ []) ≡ true) (sym same) (on_last y planned)
  giver_planned planned y z v w ready by bv false i j c named out =
      let lt = output_below m n rows fit z j c v bv out in
      let below : c < 64 = omega arith in
      on_left z planned (y ∷ []) (ready.supplied z (c, gives_output rows z v bv j c below out, reads_input rows y w by i c below named))

  -- So none that is planned later gives one.
  pub plan_in_order : {planned rest : List ℕ} → GoesOn (flows_of rows) planned rest → InOrder rows rest
  plan_in_order (GoesOn.ends none) = tt
  plan_in_order {planned} (GoesOn.next {y = y} ready lowest go) =
      (λ w by output i c named z j v on bv out. both_ways _ (goes_new (flows_of rows) go z on) (giver_planned planned y z v w ready by bv output i j c named out), plan_in_order go)
