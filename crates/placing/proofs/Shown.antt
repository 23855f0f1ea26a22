-- A board is written rule by rule.
use Rattle.std.proofs.Common.{◌≡◌, ℕ, ◌+◌, ◌≤◌, List, [], ◌∷◌, ◌++◌, map, sym, ap, ◌∙◌, subst, arith}
use Rattle.std.specs.Fmt.{HasWritten}
use Rattle.std.specs.declared.fmt.Formatter.{Formatter}
use Rattle.std.specs.List.{flat_map, range_with_len}
use Rattle.std.proofs.Output.{has_written_of_eq, has_written_append}
use Rattle.std.proofs.lemmas.List.{append-nil}
use Rattle.std.proofs.lemmas.List.Concat.{flat_map-append}
use Rattle.std.proofs.lemmas.List.Folds.{flat_map-map}
use Rattle.std.proofs.lemmas.List.FromFn.{map-range_with_len_more}
use Rattle.placing.specs.declared.rules.Rule.{Rule}
use Rattle.placing.specs.declared.rules.State.{State}
use Rattle.placing.specs.Showing.{rule_text_on, board_text}

-- The texts of the numbers up to n are those before n, and that of n.
one_more : (text : ℕ → List ℕ) (n : ℕ) → flat_map text (range_with_len 0 n) ++ text n ≡ flat_map text (range_with_len 0 (n + 1))
one_more text n =
    sym (sym (flat_map-map text (λ j. j) (range_with_len 0 (n + 1))) ∙ ap (flat_map text) (map-range_with_len_more (λ j. j) 0 n n (omega arith)) ∙ flat_map-append text (map (λ j. j) (range_with_len 0 n)) (n ∷ []) ∙ ap (λ bs. bs ++ flat_map text (n ∷ [])) (flat_map-map text (λ j. j) (range_with_len 0 n)) ∙ ap (λ bs. flat_map text (range_with_len 0 n) ++ bs) (append-nil (text n)))

module _ {W : Type 0} (took : W → List ℕ → W → Type 0) where
  -- One rule more is written.
  pub more_written : (text : ℕ → List ℕ) (n : ℕ) (f g h : Formatter W) → HasWritten took f (flat_map text (range_with_len 0 n)) g → HasWritten took g (text n) h → HasWritten took f (flat_map text (range_with_len 0 (n + 1))) h
  more_written text n f g h before one = has_written_of_eq took f _ _ h (one_more text n) (has_written_append took f _ g _ h before one)

  -- With sixty-four rules the board is written.
  pub board_written : (rules : List Rule) (states : List State) (n : ℕ) (f g : Formatter W) → n ≤ 64 → 64 ≤ n → HasWritten took f (flat_map (rule_text_on rules states) (range_with_len 0 n)) g → HasWritten took f (board_text rules states) g
  unfolding board_text
  board_written rules states n f g below above written =
      let all : n ≡ 64 = omega (arith, below, above) in
      subst (λ (k : ℕ). HasWritten took f (flat_map (rule_text_on rules states) (range_with_len 0 k)) g) all written
