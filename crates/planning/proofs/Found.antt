-- The rules in force, found row by row.
use Rattle.std.proofs.Common.{◌≡◌, ℕ, suc, ◌+◌, Bool, if◌then◌else◌, List, [], ◌∷◌, ◌++◌, length, is_some, Option, sym, refl, ap, ◌∙◌, add-one, arith}
use Rattle.std.specs.List.{filter, range_with_len}
use Rattle.std.proofs.lemmas.List.{append-nil}
use Rattle.planning.specs.declared.flows.Flow.{Flow}
use Rattle.planning.specs.Flows.{rule_in_force}
use Rattle.planning.specs.Plan.{rules_where}

-- The numbers of the rows that are in force, the first of which has the number k.
abbrev pub found_from : ℕ → List (Option Flow) → List ℕ
found_from k [] = []
found_from k (row ∷ rows) = if is_some row then k ∷ found_from (suc k) rows else found_from (suc k) rows

-- They are those numbers from k on that pass a test which tells of each row whether it is in force.
found_filter : (test : ℕ → Bool) (k : ℕ) (rows : List (Option Flow)) → ((i : ℕ) → test (k + i) ≡ rule_in_force rows i) → filter test (range_with_len k (length rows)) ≡ found_from k rows
found_filter test k [] tells = refl
found_filter test k (row ∷ rows) tells =
    let rest = found_filter test (suc k) rows (λ i. ap test (omega arith) ∙ tells (suc i)) in
    let first : test k ≡ is_some row = ap test (omega arith) ∙ tells 0 in
    grind (arith, rest, first, add-one k)

-- So a list that holds those of all rows, with none left, holds the rules in force.
pub found_all : (rows rest : List (Option Flow)) (list : List ℕ) (k : ℕ) → length rows ≡ 64 → length rest ≡ 0 → list ++ found_from k rest ≡ found_from 0 rows → list ≡ rules_where (rule_in_force rows)
unfolding rules_where
found_all rows [] list k sized none found =
    sym (append-nil list) ∙ found ∙ sym (found_filter (rule_in_force rows) 0 rows (λ i. ap (rule_in_force rows) (omega arith))) ∙ ap (λ n. filter (rule_in_force rows) (range_with_len 0 n)) sized
found_all rows (row ∷ rest) list k sized none found = absurd (omega (arith, none))
