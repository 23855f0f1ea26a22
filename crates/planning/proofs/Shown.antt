-- A list is written number by number.
use Rattle.std.proofs.Common.{ℕ, ◌+◌, ◌<◌, ◌≤◌, List, [], length, take, get_or, sym, ap, ◌∙◌, subst, take_all}
use Rattle.std.specs.Fmt.{HasWritten}
use Rattle.std.specs.declared.fmt.Formatter.{Formatter}
use Rattle.std.proofs.Output.{has_written_of_eq, has_written_append}
use Rattle.std.proofs.lemmas.List.{take_more, flat_map_more}
use Rattle.planning.specs.Showing.{number_text, numbers_text}

module _ {W : Type 0} (took : W → List ℕ → W → Type 0) where
  -- One number more is written.
  pub more_written : (xs : List ℕ) (i : ℕ) (f g h : Formatter W) → i < length xs → HasWritten took f (numbers_text (take i xs)) g → HasWritten took g (number_text (get_or xs i 0)) h → HasWritten took f (numbers_text (take (i + 1) xs)) h
  more_written xs i f g h lt before one =
      has_written_of_eq took f _ _ h (flat_map_more number_text [] (take i xs) (get_or xs i 0) ∙ ap numbers_text (sym (take_more xs i 0 lt))) (has_written_append took f _ g _ h before one)

  -- With its last number the list is written.
  pub all_written : (xs : List ℕ) (i : ℕ) (f g : Formatter W) → length xs ≤ i → HasWritten took f (numbers_text (take i xs)) g → HasWritten took f (numbers_text xs) g
  all_written xs i f g past written = subst (λ ys. HasWritten took f (numbers_text ys) g) (take_all i xs past) written
