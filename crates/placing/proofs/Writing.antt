-- A board on which one rule is written anew, out of force; and so adding and removing.
use Rattle.std.proofs.Common.{◌≡◌, ℕ, suc, ◌-◌, ◌<◌, Bool, true, false, cond, ltb, leb, List, length, get_or, take, set, Some, None, Ok, Err, Option, Result, sym, refl, ap, ◌∙◌, subst, inl, inr, ⊎_elim, arith, length-set, get_or-set_other, get_or-set_same}
use lib.Bits.{and_zero_l, and_zero_r}
use Rattle.std.proofs.lemmas.Bool.{false_from_ne_true, both_ways, cases_lt, cases_eq, leb-false, and_parts}
use Rattle.placing.specs.declared.rules.Way.{Way}
use Rattle.placing.specs.declared.rules.Rule.{Rule}
use Rattle.placing.specs.declared.rules.State.{State}
use Rattle.placing.specs.declared.rules.State.TheVariants.{Absent, Waiting, InForce}
use Rattle.ranks.specs.declared.Ranks.{Ranks as RankTable}
use Rattle.placing.specs.declared.board.Board.{Board}
use Rattle.placing.specs.declared.board.Added.{Added}
use Rattle.placing.specs.declared.board.Refused.{Refused}
use Rattle.placing.specs.declared.board.Refused.TheVariants.{Number, Stands, Ways}
use Rattle.placing.specs.Board.{no_way, no_rule, listed, state_of, is_standing, is_waiting, is_in_force, given_by, gives, listed_by, Apart, NoTwoGivers, lawful_rule, LawfulRules}
use Rattle.placing.specs.Choice.{WithBetter, SettledAt, Settled}
use Rattle.ranks.specs.Numbers.{rank_in}
use Rattle.placing.specs.Calls.{Passes, Adds, Removes}
use Rattle.placing.specs.Answers.{is_rule, add_refusal, remove_refusal, AddsTo, RemovesFrom}
use Rattle.placing.specs.Laws.{IsBoard, CallsSettle}
use Rattle.ranks.specs.Numbers.{Distinct, Below64}
use Rattle.placing.proofs.Single.{some_none}
use Rattle.ranks.proofs.RankNumbers.{not_shared}
use Rattle.placing.proofs.After.{gives_nothing}
use Rattle.placing.proofs.Placing.{placing_is_lawful}
use Rattle.placing.proofs.States.{force_standing, not_both}
use Rattle.placing.proofs.Settling.{settled_same, settled_absent, past_absent, stepped, step_settles, pass_settles, pass_board}

-- A rule that is not in force has no way that would have to be listed.
listed_by_off : (rules : List Rule) (x : ℕ) (s : State) → is_in_force s ≡ false → listed_by rules x s ≡ true
listed_by_off rules x Absent h = refl
listed_by_off rules x Waiting h = refl
listed_by_off rules x (InForce i) h = absurd (both_ways _ h refl)

-- Where the lists agree, so does what a rule gives, and whether its way is listed.
given_same : (rules rules' : List Rule) (x : ℕ) (s : State) → listed rules x ≡ listed rules' x → given_by rules x s ≡ given_by rules' x s
given_same rules rules' x Absent e = refl
given_same rules rules' x Waiting e = refl
given_same rules rules' x (InForce i) e = ap (λ (ways : List Way). (get_or ways i no_way).mask) e

listed_by_same : (rules rules' : List Rule) (x : ℕ) (s : State) → listed rules x ≡ listed rules' x → listed_by rules x s ≡ true → listed_by rules' x s ≡ true
listed_by_same rules rules' x Absent e h = refl
listed_by_same rules rules' x Waiting e h = refl
listed_by_same rules rules' x (InForce i) e h = subst (λ (ways : List Way). lib.Dec.ltb i (length ways) ≡ true) e h

module _ (rules rules' : List Rule) (states : List State) (r : ℕ) (s : State) (b : IsBoard rules states) (small : r < 64) (off : is_in_force s ≡ false) (counted : length rules' ≡ 64) (lawful : LawfulRules rules') (same : (x : ℕ) → (x ≡ r → ⊥) → listed rules x ≡ listed rules' x) where
  abbrev written : List State
  written = set states r s

  at_written : state_of written r ≡ s
  at_written = get_or-set_same states r s Absent (omega (arith, b.states_counted))

  at_other : (x : ℕ) → (x ≡ r → ⊥) → state_of written x ≡ state_of states x
  at_other x ne = get_or-set_other states r x s Absent ne

  gives_other : (x : ℕ) → (x ≡ r → ⊥) → gives rules' written x ≡ gives rules states x
  gives_other x ne = ap (given_by rules' x) (at_other x ne) ∙ sym (given_same rules rules' x (state_of states x) (same x ne))

  gives_written : gives rules' written r ≡ 0
  gives_written = ap (given_by rules' r) at_written ∙ gives_nothing rules' r s off

  -- The written rule gives nothing, and the others give what they gave.
  written_apart : NoTwoGivers rules' written
  written_apart x y ne =
      ⊎_elim (λ e. subst (λ (z : ℕ). Apart (gives rules' written z) (gives rules' written y)) (sym e) (rw gives_written (and_zero_l (gives rules' written y))))
      (λ nx. ⊎_elim (λ e. subst (λ (z : ℕ). Apart (gives rules' written x) (gives rules' written z)) (sym e) (rw gives_written (and_zero_r (gives rules' written x))))
      (λ ny. rw (gives_other x nx, gives_other y ny) (b.no_two_givers x y ne)) (cases_eq y r)) (cases_eq x r)

  pub written_board : IsBoard rules' written
  written_board = record {
    rules_counted = counted;
    states_counted = simp length-set b.states_counted;
    lawful = lawful;
    no_two_givers = written_apart;
    selected_listed = λ x. ⊎_elim (λ e. subst (λ (z : ℕ). listed_by rules' z (state_of written z) ≡ true) (sym e) (rw at_written (listed_by_off rules' r s off))) (λ ne. rw (at_other x ne) (listed_by_same rules rules' x (state_of states x) (same x ne) (b.selected_listed x))) (cases_eq x r);
  }

  -- Another rule stays settled, if the written one was not in force before it.
  pub written_settled : (rank : ℕ → ℕ) (x : ℕ) → (x ≡ r → ⊥) → (rank r < rank x → is_in_force (state_of states r) ≡ false) → SettledAt rules states rank x → SettledAt rules' written rank x
  written_settled rank x ne quiet old =
      settled_same rank rules rules' states written x (sym (ap is_standing (at_other x ne))) (sym (ap is_in_force (at_other x ne))) force ways old
    where
      force : (z : ℕ) → rank z < rank x → is_in_force (state_of states z) ≡ is_in_force (state_of written z)
      force z lt =
          ⊎_elim (λ e. subst (λ (y : ℕ). is_in_force (state_of states y) ≡ is_in_force (state_of written y)) (sym e) (quiet (subst (λ (y : ℕ). rank y < rank x) e lt) ∙ sym (ap is_in_force at_written ∙ off))) (λ nz. sym (ap is_in_force (at_other z nz))) (cases_eq z r)

      ways : (z : ℕ) → WithBetter states rank x z → listed rules z ≡ listed rules' z
      ways z (inl e) = same z (λ q. ne (sym e ∙ q))
      ways z (inr h) = same z (λ q. both_ways _ (quiet (subst (λ (y : ℕ). rank y < rank x) q h.1)) (subst (λ (y : ℕ). is_in_force (state_of states y) ≡ true) q h.0))

-- The rules with one written anew.
set_listed : (rules : List Rule) (r x : ℕ) (rule : Rule) → (x ≡ r → ⊥) → listed rules x ≡ listed (set rules r rule) x
set_listed rules r x rule ne = ap (λ (q : Rule). take q.count q.ways) (sym (get_or-set_other rules r x rule no_rule ne))

set_lawful : (rules : List Rule) (r : ℕ) (rule : Rule) → r < length rules → lawful_rule rule ≡ true → LawfulRules rules → LawfulRules (set rules r rule)
set_lawful rules r rule lt ok lawful x =
    ⊎_elim (λ e. subst (λ (y : ℕ). lawful_rule (get_or (set rules r rule) y no_rule) ≡ true) (sym e) (ap lawful_rule (get_or-set_same rules r rule no_rule lt) ∙ ok)) (λ ne. ap lawful_rule (get_or-set_other rules r x rule no_rule ne) ∙ lawful x) (cases_eq x r)

-- What every board keeps.
pub board_of : (b : Board) → IsBoard b.rules b.states
board_of b = record {
  rules_counted = b.sized;
  states_counted = b.stated;
  lawful = b.lawful;
  no_two_givers = b.apart;
  selected_listed = b.chosen;
}

-- The numbers of a table of ranks are distinct.
pub numbers_distinct : (ranks : RankTable) (numbers : List ℕ) → numbers ≡ ranks.of → Distinct (rank_in numbers)
numbers_distinct ranks numbers e = subst (λ (of : List ℕ). Distinct (rank_in of)) (sym e) (not_shared (rank_in ranks.of) ranks.distinct)

-- Adding and removing leave a board, settled or not.
module _ (rules : List Rule) (states : List State) (rank : ℕ → ℕ) (r : ℕ) (b : IsBoard rules states) (distinct : Distinct rank) (small : r < 64) where
  pub waiting_board : (rule : Rule) → lawful_rule rule ≡ true → IsBoard (set rules r rule) (set states r Waiting)
  waiting_board rule ok = written_board rules (set rules r rule) states r Waiting b small refl (simp length-set b.rules_counted) (set_lawful rules r rule (omega (arith, b.rules_counted)) ok b.lawful) (λ x ne. set_listed rules r x rule ne)

  pub waiting_there : is_waiting (state_of (set states r Waiting) r) ≡ true
  waiting_there = ap is_waiting (get_or-set_same states r Waiting Absent (omega (arith, b.states_counted)))

  pub absent_board : IsBoard rules (set states r Absent)
  absent_board = written_board rules rules states r Absent b small refl b.rules_counted b.lawful (λ _ _. refl)

  pub adds_board : (rule : Rule) → lawful_rule rule ≡ true → {f : Bool} {t : List State} → Adds rules states rank r rule f t → IsBoard (set rules r rule) t
  adds_board rule ok (Adds.waits {s = s} p) = (stepped rank distinct (set rules r rule) (set states r Waiting) s r false (waiting_board rule ok) small waiting_there p).board
  adds_board rule ok (Adds.comes {s = s} p q) = pass_board rank distinct q (stepped rank distinct (set rules r rule) (set states r Waiting) s r true (waiting_board rule ok) small waiting_there p).board

  pub removes_board : {t : List State} → Removes rules states rank r t → IsBoard rules t
  removes_board (Removes.waited w) = absent_board
  removes_board (Removes.gave f p) = pass_board rank distinct p absent_board

module _ (rules : List Rule) (states : List State) (rank : ℕ → ℕ) (r : ℕ) (b : IsBoard rules states) (distinct : Distinct rank) (below : Below64 rank) (small : r < 64) (settled : Settled rules states rank) where
  -- A pass behind r settles all, once all up to r are settled.
  whole : (rules' : List Rule) (s t : List State) → IsBoard rules' s → ((x : ℕ) → rank x < suc (rank r) → SettledAt rules' s rank x) → Passes rules' rank (suc (rank r)) (63 - rank r) s t → IsBoard rules' t × Settled rules' t rank
  whole rules' s t board up_to_lem p =
      let done = pass_settles rank distinct p board up_to_lem in
      (done.board, λ x. ⊎_elim (λ lt. done.settled x (omega (arith, below x lt, below r small))) (λ le. settled_absent rules' t rank x (past_absent rules' t done.board x le)) (cases_lt x 64))

  adding : (rule : Rule) (in_force : Bool) (after : List State) → lawful_rule rule ≡ true → is_standing (state_of states r) ≡ false → Adds rules states rank r rule in_force after → IsBoard (set rules r rule) after × Settled (set rules r rule) after rank
  adding rule f after ok gone adds = by adds
    where
      not_in_force : is_in_force (state_of states r) ≡ false
      not_in_force = false_from_ne_true _ (λ h. both_ways _ gone (force_standing (state_of states r) h))

      board : IsBoard (set rules r rule) (set states r Waiting)
      board = waiting_board rules states rank r b distinct small rule ok

      others : (x : ℕ) → (x ≡ r → ⊥) → SettledAt (set rules r rule) (set states r Waiting) rank x
      others x ne = written_settled rules (set rules r rule) states r Waiting b small refl (simp length-set b.rules_counted) (set_lawful rules r rule (omega (arith, b.rules_counted)) ok b.lawful) (λ y n. set_listed rules r y rule n) rank x ne (λ _. not_in_force) (settled x)

      waits : is_waiting (state_of (set states r Waiting) r) ≡ true
      waits = waiting_there rules states rank r b distinct small

      by : {g : Bool} {t : List State} → Adds rules states rank r rule g t → IsBoard (set rules r rule) t × Settled (set rules r rule) t rank
      by (Adds.waits {s = s} p) =
          let step = stepped rank distinct (set rules r rule) (set states r Waiting) s r false board small waits p in
          let same = (placing_is_lawful (set rules r rule) (set states r Waiting) rank r board distinct small waits).unchanged s p in
          (step.board, λ x. ⊎_elim (λ e. subst (SettledAt (set rules r rule) s rank) (sym e) step.settled) (λ ne. subst (λ (v : List State). SettledAt (set rules r rule) v rank x) (sym same) (others x ne)) (cases_eq x r))
      by (Adds.comes {s = s} {t = t} p q) =
          let step = stepped rank distinct (set rules r rule) (set states r Waiting) s r true board small waits p in
          whole (set rules r rule) s t step.board (step_settles rank distinct (set rules r rule) (set states r Waiting) s r small step (λ z h. others z (λ e. omega (arith, ap rank e)))) q

  removing : (after : List State) → Removes rules states rank r after → IsBoard rules after × Settled rules after rank
  removing after removes = by removes
    where
      board : IsBoard rules (set states r Absent)
      board = absent_board rules states rank r b distinct small

      others : (x : ℕ) → (x ≡ r → ⊥) → (rank r < rank x → is_in_force (state_of states r) ≡ false) → SettledAt rules (set states r Absent) rank x
      others x ne quiet = written_settled rules rules states r Absent b small refl b.rules_counted b.lawful (λ _ _. refl) rank x ne quiet (settled x)

      itself : (x : ℕ) → x ≡ r → SettledAt rules (set states r Absent) rank x
      itself x e = subst (SettledAt rules (set states r Absent) rank) (sym e) (settled_absent rules (set states r Absent) rank r (ap is_standing (get_or-set_same states r Absent Absent (omega (arith, b.states_counted)))))

      by : {t : List State} → Removes rules states rank r t → IsBoard rules t × Settled rules t rank
      by (Removes.waited w) = (board, λ x. ⊎_elim (itself x) (λ ne. others x ne (λ _. false_from_ne_true _ (not_both (state_of states r) w))) (cases_eq x r))
      by (Removes.gave {t = t} f p) =
          whole rules (set states r Absent) t board (λ x h. ⊎_elim (itself x) (λ ne. ⊎_elim (λ lt. others x ne (λ k. absurd (ne (distinct x r lt small (omega arith))))) (λ le. settled_absent rules (set states r Absent) rank x (past_absent rules (set states r Absent) board x le)) (cases_lt x 64)) (cases_eq x r)) p

-- Where there is no refusal, a check did not hit and the checks behind it gave none.
not_refused : (hit : Bool) (why : Refused) (rest : Option Refused) → cond hit (Some why) rest ≡ None → (hit ≡ false) × (rest ≡ None)
not_refused true why rest e = absurd (some_none e)
not_refused false why rest e = (refl, e)

let_through : (passed : Bool) (why : Refused) → cond passed None (Some why) ≡ None → passed ≡ true
let_through true why e = refl
let_through false why e = absurd (some_none e)

-- What an accepted call passed.
accepted : (states : List State) (r : ℕ) (rule : Rule) → add_refusal states r rule ≡ None → (r < 64) × (is_standing (state_of states r) ≡ false) × (lawful_rule rule ≡ true)
accepted states r rule e =
    let number = not_refused (leb 64 r) Number _ e in
    let stands = not_refused (is_standing (state_of states r)) Stands _ number.1 in
    let ways = let_through (is_rule rule) Ways stands.1 in
    (leb-false 64 r number.0, stands.0, (and_parts (ltb 0 rule.count) (lawful_rule rule) ways).1)

removed_small : (states : List State) (r : ℕ) → remove_refusal states r ≡ None → r < 64
removed_small states r e = leb-false 64 r (not_refused (leb 64 r) Number _ e).0

pub calls_settle : CallsSettle
calls_settle rules states rank r b distinct below small settled = record {
  adding = adding rules states rank r b distinct below small settled;
  removing = removing rules states rank r b distinct below small settled;
}

-- So whatever a call on a settled board answers, it leaves one; a refused call leaves the same one.
pub add_settles : (b : Board) (ranks : RankTable) (r : ℕ) (rule : Rule) (o : Result Added Refused) (rules' : List Rule) (states' : List State) → AddsTo b.rules b.states (rank_in ranks.of) r rule o rules' states' → Settled b.rules b.states (rank_in ranks.of) → Settled rules' states' (rank_in ranks.of)
add_settles b ranks r rule (Err why) rules' states' d settled = subst (λ (n : List Rule). Settled n states' (rank_in ranks.of)) (sym d.1) (subst (λ (t : List State). Settled b.rules t (rank_in ranks.of)) (sym d.2) settled)
add_settles b ranks r rule (Ok added) rules' states' d settled =
    let rank = rank_in ranks.of in
    let ok = accepted b.states r rule d.0 in
    subst (λ (n : List Rule). Settled n states' rank) (sym d.1) ((calls_settle b.rules b.states rank r (board_of b) (not_shared rank ranks.distinct) ranks.below ok.0 settled).adding rule added.in_force states' ok.2 ok.1 d.2).1

pub remove_settles : (b : Board) (ranks : RankTable) (r : ℕ) (o : Result ℕ Refused) (rules' : List Rule) (states' : List State) → RemovesFrom b.rules b.states (rank_in ranks.of) r o rules' states' → Settled b.rules b.states (rank_in ranks.of) → Settled rules' states' (rank_in ranks.of)
remove_settles b ranks r (Err why) rules' states' d settled = subst (λ (n : List Rule). Settled n states' (rank_in ranks.of)) (sym d.1) (subst (λ (t : List State). Settled b.rules t (rank_in ranks.of)) (sym d.2) settled)
remove_settles b ranks r (Ok count) rules' states' d settled =
    let rank = rank_in ranks.of in
    subst (λ (n : List Rule). Settled n states' rank) (sym d.1) ((calls_settle b.rules b.states rank r (board_of b) (not_shared rank ranks.distinct) ranks.below (removed_small b.states r d.0) settled).removing states' d.2).1
