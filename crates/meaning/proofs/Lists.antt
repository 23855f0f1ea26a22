-- Reads of a list with a default, and a test of every element.
use Rattle.std.proofs.Common.{◌≡◌, ℕ, zero, suc, ◌<◌, Bool, true, List, [], ◌∷◌, length, get_or, sym, subst, ⊎_elim, le_of_suc-le-suc, not-suc-le-zero}
use Rattle.std.specs.List.{AllByRecursion, list_all}
use Rattle.std.proofs.lemmas.List.{get_or_past}
use Rattle.std.proofs.ByRecursion.{All-get_or}
use Rattle.std.proofs.lemmas.Bool.{cases_lt, and_parts}

-- What holds of each element and of the default holds of what is read, past the end too.
pub all_read : {X : Type 0} (P : X → Type 0) (xs : List X) (i : ℕ) (d : X) → AllByRecursion P xs → P d → P (get_or xs i d)
all_read P xs i d all default =
    ⊎_elim (λ h. All-get_or P xs i d h all) (λ h. subst P (sym (get_or_past xs i d h)) default) (cases_lt i (length xs))

-- What passes at each element passes at the one that is read.
pub every_at : {X : Type 0} (f : X → Bool) (xs : List X) (i : ℕ) (d : X) → list_all f xs ≡ true → i < length xs → f (get_or xs i d) ≡ true
every_at f [] i d passed within = absurd (not-suc-le-zero within)
every_at f (x ∷ xs) zero d passed within = (and_parts (f x) (list_all f xs) passed).0
every_at f (x ∷ xs) (suc i) d passed within = every_at f xs i d (and_parts (f x) (list_all f xs) passed).1 (le_of_suc-le-suc within)
