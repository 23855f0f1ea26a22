-- What the plan goes on with: rules in force, each once, after the givers of its inputs, until none is ready; and in one way
-- only.
use Rattle.std.proofs.Common.{◌≡◌, ℕ, zero, suc, ◌<◌, true, false, List, [], ◌∷◌, ◌++◌, length, get_or, take, Option, sym, refl, ap, ◌∙◌, subst, ⊎_elim, arith}
use Rattle.std.proofs.lemmas.List.{append-nil, append_assoc}
use Rattle.std.proofs.lemmas.Bool.{both_ways, cases_order}
use Rattle.meaning.specs.Lists.{is_on}
use Rattle.planning.specs.declared.flows.Flow.{Flow}
use Rattle.planning.specs.Flows.{rule_in_force, Feeds}
use Rattle.planning.specs.Plan.{Ready, GoesOn}
use Rattle.planning.proofs.Members.{on_left, off_left, on_last, on_cases, on_at}

module _ (rows : List (Option Flow)) where
  -- Each rule that the plan goes on with is in force.
  pub goes_in_force : {planned rest : List ℕ} → GoesOn rows planned rest → (x : ℕ) → is_on x rest ≡ true → rule_in_force rows x ≡ true
  goes_in_force (GoesOn.ends none) x on = absurd (both_ways _ refl on)
  goes_in_force (GoesOn.next {rest = rest} {y = y} ready lowest go) x on =
      ⊎_elim (λ e. ap (rule_in_force rows) e ∙ ready.in_force) (λ later. goes_in_force go x later) (on_cases x y rest on)

  -- No rule that the plan goes on with was planned before.
  pub goes_new : {planned rest : List ℕ} → GoesOn rows planned rest → (x : ℕ) → is_on x rest ≡ true → is_on x planned ≡ false
  goes_new (GoesOn.ends none) x on = absurd (both_ways _ refl on)
  goes_new {planned} (GoesOn.next {rest = rest} {y = y} ready lowest go) x on =
      ⊎_elim (λ e. ap (λ z. is_on z planned) e ∙ ready.unplanned) (λ later. off_left x planned (y ∷ []) (goes_new go x later)) (on_cases x y rest on)

  -- So none comes twice, since the first time leaves it planned.
  pub goes_once : {planned rest : List ℕ} → GoesOn rows planned rest → (i j : ℕ) → i < j → j < length rest → get_or rest i 0 ≡ get_or rest j 0 → ⊥
  goes_once (GoesOn.ends none) i j lt within same = omega arith
  goes_once (GoesOn.next ready lowest go) i zero lt within same = omega arith
  goes_once {planned} (GoesOn.next {rest = rest} {y = y} ready lowest go) zero (suc j) lt within same =
      both_ways _ (goes_new go (get_or rest j 0) (on_at rest j (omega arith))) (ap (λ z. is_on z (planned ++ y ∷ [])) (sym same) ∙ on_last y planned)
  goes_once (GoesOn.next ready lowest go) (suc i) (suc j) lt within same = goes_once go i j (omega arith) (omega arith) same

  -- Each rule that feeds one of them is planned before it.
  pub goes_after : {planned rest : List ℕ} → GoesOn rows planned rest → (i x : ℕ) → i < length rest → Feeds rows x (get_or rest i 0) → is_on x (planned ++ take i rest) ≡ true
  goes_after (GoesOn.ends none) i x within feeds = absurd (omega arith)
  goes_after {planned} (GoesOn.next ready lowest go) zero x within feeds = on_left x planned [] (ready.supplied x feeds)
  goes_after {planned} (GoesOn.next {rest = rest} {y = y} ready lowest go) (suc i) x within feeds =
      ap (is_on x) (sym (append_assoc planned (y ∷ []) (take i rest))) ∙ goes_after go i x (omega arith) feeds

  -- At the end no rule is ready.
  pub goes_to_end : {planned rest : List ℕ} → GoesOn rows planned rest → (y : ℕ) → Ready rows (planned ++ rest) y → ⊥
  goes_to_end {planned} (GoesOn.ends none) x ready = none x (subst (λ (ps : List ℕ). Ready rows ps x) (append-nil planned) ready)
  goes_to_end {planned} (GoesOn.next {rest = rest} {y = y} first lowest go) x ready =
      goes_to_end go x (subst (λ (ps : List ℕ). Ready rows ps x) (sym (append_assoc planned (y ∷ []) rest)) ready)

  -- Two rules that are ready, each with no lower one, are the same.
  one_lowest : {planned : List ℕ} (x y : ℕ) → Ready rows planned x → ((z : ℕ) → z < x → Ready rows planned z → ⊥) → Ready rows planned y → ((z : ℕ) → z < y → Ready rows planned z → ⊥) → x ≡ y
  one_lowest x y rx lx ry ly =
      ⊎_elim (λ e. e) (λ apart. ⊎_elim (λ lt. absurd (ly x lt rx)) (λ lt. absurd (lx y lt ry)) apart) (cases_order x y)

  -- So the plan goes on in one way.
  pub goes_single : {planned rest rest' : List ℕ} → GoesOn rows planned rest → GoesOn rows planned rest' → rest ≡ rest'
  goes_single (GoesOn.ends none) (GoesOn.ends none') = refl
  goes_single (GoesOn.ends none) (GoesOn.next {y = y} ready lowest go) = absurd (none y ready)
  goes_single (GoesOn.next {y = y} ready lowest go) (GoesOn.ends none) = absurd (none y ready)
  goes_single {planned} (GoesOn.next {rest = rest} {y = y} ready lowest go) (GoesOn.next {rest = rest'} {y = y'} ready' lowest' go') =
      let same = one_lowest y y' ready lowest ready' lowest' in
      let tail : rest ≡ rest' = goes_single go (subst (λ (z : ℕ). GoesOn rows (planned ++ z ∷ []) rest') (sym same) go') in
      ap (λ (z : ℕ). z ∷ rest) same ∙ ap (λ (zs : List ℕ). y' ∷ zs) tail
