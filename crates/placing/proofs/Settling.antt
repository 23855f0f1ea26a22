-- The pass down settles every rule that it comes by, so adding and removing keep a board settled.
use Rattle.std.proofs.Common.{◌≡◌, ℕ, suc, ◌+◌, ◌<◌, ◌≤◌, Bool, true, false, List, length, get_or, sym, refl, ap, ◌∙◌, subst, inl, inr, ⊎_elim, arith}
use Rattle.std.proofs.lemmas.List.{get_or_past}
use Rattle.std.proofs.lemmas.Bool.{both_ways, cases_lt, cases_eq, cases_Bool}
use Rattle.placing.specs.declared.rules.Way.{Way}
use Rattle.placing.specs.declared.rules.Rule.{Rule}
use Rattle.placing.specs.declared.rules.State.{State}
use Rattle.placing.specs.declared.rules.State.TheVariants.{Absent, Waiting, InForce}
use Rattle.placing.specs.Board.{no_way, listed, way_mask, state_of, is_standing, is_waiting, is_in_force}
use Rattle.placing.specs.Choice.{Choosable, WithBetter, SettledAt}
use Rattle.placing.specs.Search.{Places}
use Rattle.placing.specs.Calls.{Passes}
use Rattle.placing.specs.Laws.{IsBoard, EmptyIsSettled}
use Rattle.ranks.specs.Numbers.{Distinct}
use Rattle.placing.proofs.States.{force_standing, waiting_standing, neither_stands, not_both}
use Rattle.placing.proofs.After.{force_choice}
use Rattle.placing.proofs.Placing.{placing_is_lawful}

-- A choice for a set serves every smaller set of rules that list the same ways.
pub choice_for : (rules rules' : List Rule) (InSet InSet' : ℕ → Type 0) → ((x : ℕ) → InSet' x → InSet x) → ((x : ℕ) → InSet' x → listed rules x ≡ listed rules' x) → Choosable rules InSet → Choosable rules' InSet'
choice_for rules rules' InSet InSet' smaller same (pick, choice) =
    let mask : (x : ℕ) → InSet' x → way_mask rules x (pick x) ≡ way_mask rules' x (pick x) = λ x s. ap (λ (ways : List Way). (get_or ways (pick x) no_way).mask) (same x s) in (
      pick,
      record {
        on_list = λ x s. subst (λ (ways : List Way). pick x < length ways) (same x s) (choice.on_list x (smaller x s));
        no_shared = λ x y s t ne. let apart = choice.no_shared x y (smaller x s) (smaller y t) ne in rw (mask x s, mask y t) at apart;
      },
    )

-- States that agree on standing and on being in force agree on waiting.
pub waiting_from : (s t : State) → is_standing s ≡ is_standing t → is_in_force s ≡ is_in_force t → is_waiting t ≡ true → is_waiting s ≡ true
waiting_from Absent t e f w = absurd (both_ways _ (sym e) (waiting_standing t w))
waiting_from Waiting t e f w = refl
waiting_from (InForce i) t e f w = absurd (not_both t w (sym f))

-- Whether a rule is settled hangs on itself, on who is in force before it, and on the ways of these.
module _ (rank : ℕ → ℕ) (rules rules' : List Rule) (s t : List State) (x : ℕ) (standing : is_standing (state_of s x) ≡ is_standing (state_of t x)) (itself : is_in_force (state_of s x) ≡ is_in_force (state_of t x)) (force : (z : ℕ) → rank z < rank x → is_in_force (state_of s z) ≡ is_in_force (state_of t z)) (ways : (z : ℕ) → WithBetter s rank x z → listed rules z ≡ listed rules' z) where
  with_there : (z : ℕ) → WithBetter s rank x z → WithBetter t rank x z
  with_there z (inl e) = inl e
  with_there z (inr h) = inr (sym (force z h.1) ∙ h.0, h.1)

  with_back : (z : ℕ) → WithBetter t rank x z → WithBetter s rank x z
  with_back z (inl e) = inl e
  with_back z (inr h) = inr (force z h.1 ∙ h.0, h.1)

  pub settled_same : SettledAt rules s rank x → SettledAt rules' t rank x
  settled_same old = record {
    none = λ w c. old.none (waiting_from (state_of s x) (state_of t x) standing itself w) (choice_for rules' rules (WithBetter t rank x) (WithBetter s rank x) with_there (λ z h. sym (ways z h)) c);
    some = λ f. choice_for rules rules' (WithBetter s rank x) (WithBetter t rank x) with_back (λ z h. ways z (with_back z h)) (old.some (itself ∙ f));
  }

-- A rule that does not stand is settled, and one in force is: the ways in force are a choice.
pub settled_absent : (rules : List Rule) (s : List State) (rank : ℕ → ℕ) (x : ℕ) → is_standing (state_of s x) ≡ false → SettledAt rules s rank x
settled_absent rules s rank x n = record {
  none = λ w _. both_ways _ n (waiting_standing (state_of s x) w);
  some = λ f. absurd (both_ways _ n (force_standing (state_of s x) f));
}

-- So a board without standing rules is settled.
pub empty_settled : EmptyIsSettled
empty_settled rules states rank none x = settled_absent rules states rank x (none x)

settled_in_force : (rules : List Rule) (s : List State) (rank : ℕ → ℕ) (x : ℕ) → IsBoard rules s → is_in_force (state_of s x) ≡ true → SettledAt rules s rank x
settled_in_force rules s rank x b f = record {
  none = λ w _. not_both (state_of s x) w f;
  some = λ _. force_choice rules s b (WithBetter s rank x) (λ z. ⊎_elim (λ e. ap (λ (y : ℕ). is_in_force (state_of s y)) e ∙ f) (λ h. h.0));
}

-- Numbers from 64 on do not stand.
pub past_absent : (rules : List Rule) (s : List State) → IsBoard rules s → (x : ℕ) → 64 ≤ x → is_standing (state_of s x) ≡ false
past_absent rules s b x le = ap is_standing (get_or_past s x Absent (omega (arith, b.states_counted)))

-- What placing one waiting rule leaves, with success or without.
pub record Stepped (rules : List Rule) (s u : List State) (rank : ℕ → ℕ) (x : ℕ) : Type 0 where
  pub board : IsBoard rules u
  pub force : (z : ℕ) → rank z < rank x → is_in_force (state_of s z) ≡ is_in_force (state_of u z)
  pub standing : (z : ℕ) → is_standing (state_of s z) ≡ is_standing (state_of u z)
  pub settled : SettledAt rules u rank x

module _ (rank : ℕ → ℕ) (distinct : Distinct rank) where
  pub stepped : (rules : List Rule) (s u : List State) (x : ℕ) (o : Bool) → IsBoard rules s → x < 64 → is_waiting (state_of s x) ≡ true → Places rules s rank x o u → Stepped rules s u rank x
  stepped rules s u x true b lt w p =
      let done = (placing_is_lawful rules s rank x b distinct lt w).sound u p in
      record {
        board = done.board;
        force = λ z h. sym (done.before z h);
        standing = λ z. sym (done.standing z);
        settled = settled_in_force rules u rank x done.board done.in_force;
      }
  stepped rules s u x false b lt w p =
      let laws = placing_is_lawful rules s rank x b distinct lt w in
      subst (λ (v : List State). Stepped rules s v rank x) (sym (laws.unchanged u p)) (record {
        board = b;
        force = λ z h. refl;
        standing = λ z. refl;
        settled = record { none = λ _ c. laws.fails u p c; some = λ f. absurd (not_both (state_of s x) w f) };
      })

  -- A pass leaves a board.
  pub pass_board : {rules : List Rule} {k n : ℕ} {s t : List State} → Passes rules rank k n s t → IsBoard rules s → IsBoard rules t
  pass_board Passes.end b = b
  pass_board (Passes.skip none p) b = pass_board p b
  pass_board {rules} {s = s} (Passes.place {x = x} {o = o} {u = u} lt e w p q) b = pass_board q (stepped rules s u x o b lt w p).board

  -- If every rule before it was settled, every rule up to it is.
  pub step_settles : (rules : List Rule) (s u : List State) (x : ℕ) → x < 64 → Stepped rules s u rank x → ((z : ℕ) → rank z < rank x → SettledAt rules s rank z) → (z : ℕ) → rank z < suc (rank x) → SettledAt rules u rank z
  step_settles rules s u x lt step settled z h =
      ⊎_elim (λ small. ⊎_elim (λ e. subst (SettledAt rules u rank) (sym (distinct z x small lt e)) step.settled) (λ ne. before (omega arith)) (cases_eq (rank z) (rank x)))
      (λ le. settled_absent rules u rank z (past_absent rules u step.board z le)) (cases_lt z 64)
    where
      before : rank z < rank x → SettledAt rules u rank z
      before k = settled_same rank rules rules s u z (step.standing z) (step.force z k) (λ w j. step.force w (omega arith)) (λ _ _. refl) (settled z k)

  -- If no rule of rank k waits and every rule before it was settled, every rule up to that rank is.
  skip_settles : (rules : List Rule) (s : List State) (k : ℕ) → IsBoard rules s → ((x : ℕ) → x < 64 → rank x ≡ k → is_waiting (state_of s x) ≡ false) → ((x : ℕ) → rank x < k → SettledAt rules s rank x) → (x : ℕ) → rank x < suc k → SettledAt rules s rank x
  skip_settles rules s k b none settled x h =
      ⊎_elim (λ small. ⊎_elim (λ e. ⊎_elim (settled_in_force rules s rank x b) (λ f. settled_absent rules s rank x (neither_stands (state_of s x) (none x small e) f)) (cases_Bool (is_in_force (state_of s x)))) (λ ne. settled x (omega arith)) (cases_eq (rank x) k))
      (λ le. settled_absent rules s rank x (past_absent rules s b x le)) (cases_lt x 64)

  -- What the pass down leaves.
  pub record Passed (rules : List Rule) (s t : List State) (bound : ℕ) : Type 0 where
    pub board : IsBoard rules t
    pub standing : (x : ℕ) → is_standing (state_of s x) ≡ is_standing (state_of t x)
    pub settled : (x : ℕ) → rank x < bound → SettledAt rules t rank x

  pub pass_settles : {rules : List Rule} {k n : ℕ} {s t : List State} → Passes rules rank k n s t → IsBoard rules s → ((x : ℕ) → rank x < k → SettledAt rules s rank x) → Passed rules s t (k + n)
  pass_settles {rules} {k} {s = s} Passes.end b settled = record { board = b; standing = λ x. refl; settled = λ x h. settled x (omega arith) }
  pass_settles {rules} {k} {s = s} (Passes.skip {n = n} none p) b settled =
      let here = skip_settles rules s k b none settled in
      let rest = pass_settles p b here in
      record { board = rest.board; standing = rest.standing; settled = λ x h. rest.settled x (omega arith) }
  pass_settles {rules} {k} {s = s} (Passes.place {n = n} {x = x} {o = o} {u = u} lt e w p q) b settled =
      let step = stepped rules s u x o b lt w p in
      let here = step_settles rules s u x lt step (λ z h. settled z (omega arith)) in
      let rest = pass_settles q step.board (λ z h. here z (omega arith)) in
      record { board = rest.board; standing = λ z. step.standing z ∙ rest.standing z; settled = λ z h. rest.settled z (omega arith) }
