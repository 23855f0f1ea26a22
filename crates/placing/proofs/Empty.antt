-- Sixty-four empty rules, all absent, are a board.
use Rattle.std.proofs.Common.{◌≡◌, ℕ, true, get_or, replicate, ap, ⊎_elim, arith}
use lib.Bits.{and_zero_l}
use lib.ListN.{get_or-replicate, length-replicate}
use Rattle.std.proofs.lemmas.List.{get_or_past}
use Rattle.std.proofs.lemmas.Bool.{cases_lt}
use Rattle.placing.specs.declared.rules.State.TheVariants.{Absent}
use Rattle.placing.specs.Board.{no_rule, empty_rule, state_of, gives, listed_by, lawful_rule}
use Rattle.placing.specs.Laws.{IsBoard}

all_absent : (x : ℕ) → state_of (replicate 64 Absent) x ≡ Absent
all_absent x =
    ⊎_elim (λ lt. get_or-replicate 64 x Absent Absent lt) (λ le. get_or_past (replicate 64 Absent) x Absent (omega (arith, length-replicate 64 Absent))) (cases_lt x 64)

all_lawful : (x : ℕ) → lawful_rule (get_or (replicate 64 empty_rule) x no_rule) ≡ true
all_lawful x =
    ⊎_elim (λ lt. ap lawful_rule (get_or-replicate 64 x empty_rule no_rule lt)) (λ le. ap lawful_rule (get_or_past (replicate 64 empty_rule) x no_rule (omega (arith, length-replicate 64 empty_rule)))) (cases_lt x 64)

pub empty_board : IsBoard (replicate 64 empty_rule) (replicate 64 Absent)
empty_board = record {
  rules_counted = length-replicate 64 empty_rule;
  states_counted = length-replicate 64 Absent;
  lawful = all_lawful;
  no_two_givers = λ x y _. rw (all_absent x) (and_zero_l (gives (replicate 64 empty_rule) (replicate 64 Absent) y));
  selected_listed = λ x. ap (listed_by (replicate 64 empty_rule) x) (all_absent x);
}
