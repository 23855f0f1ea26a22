-- Masks that are put together bit by bit, from the front.
use Rattle.std.proofs.Common.{◌≡◌, ℕ, zero, suc, ◌+◌, ◌/◌, ◌%◌, ◌^◌, ◌<◌, true, cond, ltb, List, length, get_or, drop, sym, refl, ap, ◌∙◌, add-one, arith}
use Rattle.std.specs.List.{list_all}
use lib.Arith.{bin_ind}
use lib.Bits.{bit_or, or_shr, or_mod}
use Rattle.std.proofs.lemmas.Nat.{mod_below}
use Rattle.std.proofs.lemmas.List.{drop_more}
use Rattle.std.proofs.lemmas.Bool.{ltb-true}
use Rattle.meaning.proofs.Lists.{every_at}
use Rattle.placing.specs.declared.rules.State.{State}
use Rattle.placing.specs.declared.rules.State.TheVariants.{Absent}
use Rattle.placing.specs.Board.{mask_of, state_of, is_standing, standing_from}

-- Bits put together in two steps.
digit_assoc : (x y z : ℕ) → x < 2 → y < 2 → z < 2 → bit_or (bit_or x y) z ≡ bit_or x (bit_or y z)
digit_assoc zero y z hx hy hz = refl
digit_assoc (suc zero) zero z hx hy hz = refl
digit_assoc (suc zero) (suc zero) zero hx hy hz = refl
digit_assoc (suc zero) (suc zero) (suc zero) hx hy hz = refl
digit_assoc (suc zero) (suc zero) (suc (suc z)) hx hy hz = absurd (omega arith)
digit_assoc (suc zero) (suc (suc y)) z hx hy hz = absurd (omega arith)
digit_assoc (suc (suc x)) y z hx hy hz = absurd (omega arith)

same_digits : (a b : ℕ) → a / 2 ≡ b / 2 → a % 2 ≡ b % 2 → a ≡ b
same_digits a b high low = omega (arith, high, low)

-- In which order three masks are put together makes no difference.
pub or_assoc : (a b c : ℕ) → bit_or (bit_or a b) c ≡ bit_or a (bit_or b c)
or_assoc =
    bin_ind (λ (n : ℕ). (b c : ℕ) → bit_or (bit_or n b) c ≡ bit_or n (bit_or b c)) (λ b c. refl)
    (λ n more b c. same_digits (bit_or (bit_or n b) c) (bit_or n (bit_or b c))
    (or_shr (bit_or n b) c 1 ∙ ap (λ (x : ℕ). bit_or x (c / 2)) (or_shr n b 1) ∙ more (b / 2) (c / 2) ∙ sym (or_shr n (bit_or b c) 1 ∙ ap (bit_or (n / 2)) (or_shr b c 1)))
    (or_mod (bit_or n b) c 1 ∙ ap (λ (x : ℕ). bit_or x (c % 2)) (or_mod n b 1) ∙ digit_assoc (n % 2) (b % 2) (c % 2) (mod_below n 2 (omega arith)) (mod_below b 2 (omega arith)) (mod_below c 2 (omega arith)) ∙ sym (or_mod n (bit_or b c) 1 ∙ ap (bit_or (n % 2)) (or_mod b c 1))))

-- One cell more: the mask with it and the cells behind it are the mask and the cells from it on.
pub mask_more : (mask : ℕ) (cells : List ℕ) (i : ℕ) → i < length cells → bit_or (bit_or mask (2 ^ get_or cells i 0)) (mask_of (drop (i + 1) cells)) ≡ bit_or mask (mask_of (drop i cells))
mask_more mask cells i lt = or_assoc mask (2 ^ get_or cells i 0) (mask_of (drop (i + 1) cells)) ∙ ap (λ (cs : List ℕ). bit_or mask (mask_of cs)) (sym (drop_more cells i 0 lt))

-- The same of one state more.
pub standing_more : (mask : ℕ) (states : List State) (x : ℕ) → x < length states → bit_or (bit_or mask (cond (is_standing (state_of states x)) (2 ^ x) 0)) (standing_from (x + 1) (drop (x + 1) states)) ≡ bit_or mask (standing_from x (drop x states))
standing_more mask states x lt =
    let one = cond (is_standing (state_of states x)) (2 ^ x) 0 in
    or_assoc mask one (standing_from (x + 1) (drop (x + 1) states)) ∙ ap (λ (k : ℕ). bit_or mask (bit_or one (standing_from k (drop (x + 1) states)))) (add-one x) ∙ ap (λ (ss : List State). bit_or mask (standing_from x ss)) (sym (drop_more states x Absent lt))

-- Of cells that are all below 64, each is.
pub small : (cells : List ℕ) (i : ℕ) → list_all (λ n. ltb n 64) cells ≡ true → i < length cells → get_or cells i 0 < 64
small cells i within lt = ltb-true (get_or cells i 0) 64 (every_at (λ n. ltb n 64) cells i 0 within lt)
