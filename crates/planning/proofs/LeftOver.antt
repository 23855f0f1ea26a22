-- The rules that are left over behind the planned ones, and their number.
use Rattle.std.proofs.Common.{◌≡◌, ℕ, ◌+◌, ◌<◌, true, false, if◌then◌else◌, not, ◌&&◌, eqb, List, [], ◌∷◌, ◌++◌, length, set, is_some, None, Option, refl, ap, ⊎_elim, arith, length-set, get_or-set_other, get_or-set_same}
use Rattle.std.specs.List.{count_by}
use Rattle.std.proofs.lemmas.List.{get_or_past}
use Rattle.std.proofs.lemmas.List.Sums.{sum_by-set}
use Rattle.std.proofs.lemmas.Bool.{cases_eq, cases_lt, cases_Bool, both_ways, eq-eqb, ne_eqb, false_from_ne_true}
use Rattle.meaning.specs.Lists.{is_on}
use Rattle.planning.specs.declared.flows.Flow.{Flow}
use Rattle.planning.specs.Flows.{flow_at, rule_in_force}
use Rattle.planning.proofs.Members.{on_append}

-- A rule that is taken out has no flow, and the others keep theirs; past the end none has one.
set_none : (rows : List (Option Flow)) (x z : ℕ) → flow_at (set rows x None) z ≡ (if eqb z x then None else flow_at rows z)
set_none rows x z =
    ⊎_elim (λ e. ⊎_elim (λ lt. grind (arith, eq-eqb z x e, get_or-set_same rows x None None lt)) (λ past. grind (arith, eq-eqb z x e, length-set rows x None, get_or_past (set rows x None) x None)) (cases_lt x (length rows)))
    (λ ne. grind (arith, ne_eqb z x ne, get_or-set_other rows x z None None ne)) (cases_eq z x)

-- A rule other than the one taken out is in force if it was.
pub set_others : (rows : List (Option Flow)) (x z : ℕ) → (z ≡ x → ⊥) → rule_in_force (set rows x None) z ≡ rule_in_force rows z
set_others rows x z ne = ap is_some (get_or-set_other rows x z None None ne)

-- The rows left have the flows of the rules that are not planned, and no others.
abbrev pub Leaves : List (Option Flow) → List ℕ → List (Option Flow) → Type 0
Leaves rows planned left = (x : ℕ) → flow_at left x ≡ (if is_on x planned then None else flow_at rows x)

-- The rows without some rules.
abbrev pub without : List (Option Flow) → List ℕ → List (Option Flow)
without rows [] = rows
without rows (x ∷ xs) = set (without rows xs) x None

-- The rows without the planned rules leave the others.
pub without_leaves : (rows : List (Option Flow)) (planned : List ℕ) → Leaves rows planned (without rows planned)
without_leaves rows [] z = refl
without_leaves rows (x ∷ xs) z = grind (arith, set_none (without rows xs) x z, without_leaves rows xs z)

-- To plan one rule more is to take it out of the rows left.
pub leaves_next : (rows : List (Option Flow)) (planned : List ℕ) (left : List (Option Flow)) (y : ℕ) → Leaves rows planned left → Leaves rows (planned ++ y ∷ []) (set left y None)
leaves_next rows planned left y leaves z = grind (arith, set_none left y z, leaves z, on_append z planned (y ∷ []))

module _ (rows : List (Option Flow)) (planned : List ℕ) (left : List (Option Flow)) (leaves : Leaves rows planned left) where
  -- A rule that is not planned keeps its flow.
  pub left_same : (x : ℕ) → is_on x planned ≡ false → flow_at left x ≡ flow_at rows x
  left_same x off = grind (arith, leaves x, off)

  -- A rule that is in force among those left is not planned, since a planned one has no flow there.
  pub left_off : (x : ℕ) → rule_in_force left x ≡ true → is_on x planned ≡ false
  left_off x force = false_from_ne_true (is_on x planned) (λ on. grind (arith, leaves x, on, force))

  -- A rule is in force among those left exactly if it is in force and not planned.
  pub left_held : (x : ℕ) → rule_in_force left x ≡ (rule_in_force rows x && not (is_on x planned))
  left_held x = ⊎_elim (λ on. grind (arith, leaves x, on)) (λ off. grind (arith, leaves x, off)) (cases_Bool (is_on x planned))

-- The number of rules in force.
abbrev pub count_of : List (Option Flow) → ℕ
count_of rows = count_by is_some rows

-- A rule in force that is taken out leaves one less.
pub count_less : (rows : List (Option Flow)) (x : ℕ) → rule_in_force rows x ≡ true → count_of (set rows x None) + 1 ≡ count_of rows
count_less rows x force =
    let within : x < length rows = ⊎_elim (λ lt. lt) (λ past. absurd (both_ways _ (ap is_some (get_or_past rows x None past)) force)) (cases_lt x (length rows)) in
    grind (arith, sum_by-set (λ row. if is_some row then 1 else 0) rows x None None within, force)
