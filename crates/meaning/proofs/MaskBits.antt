-- Bits of masks: below which place they lie, and that a mask which is not 0 has one.
use Rattle.std.proofs.Common.{◌≡◌, ℕ, zero, suc, ◌/◌, ◌%◌, ◌^◌, ◌<◌, ◌≤◌, true, false, ◌&&◌, ◌||◌, eqb, ◌⊎◌, sym, refl, ap, ◌∙◌, inl, inr, ⊎_elim, pow-suc, add-one, arith, pow_mono}
use native.Mathlib.Nat.{div-eq_of_lt}
use lib.Bits.{bit_and, bit_or}
use Rattle.std.proofs.lemmas.Nat.{shr-shr, shr_below, mod_below, and_shr, or_shr, and_mod, or_mod}
use Rattle.std.proofs.lemmas.Bool.{cases_lt, cases_eq, eq-eqb, eqb-true, and_parts, and_from, or_cases, or_left, or_right}
use Rattle.meaning.specs.Masks.{bit}

-- A mask has no bit from the first power of two above it on.
pub no_bit : (mask n place : ℕ) → mask < 2 ^ n → n ≤ place → bit mask place ≡ false
no_bit mask n place below over =
    let less : 2 ^ n ≤ 2 ^ place = pow_mono over in
    let none : mask / 2 ^ place ≡ 0 = div-eq_of_lt (omega arith) in
    rw none refl

-- So a bit of it lies below that power's place.
pub bit_below : (mask n place : ℕ) → mask < 2 ^ n → bit mask place ≡ true → place < n
bit_below mask n place below is =
    ⊎_elim (λ h. h) (λ h. let no : bit mask place ≡ false = no_bit mask n place below h in let z : ◌≡◌ {A = ℕ} 0 1 = cc in absurd (omega arith)) (cases_lt place n)

-- Bit `place` of the half is bit `place + 1` of the whole.
bit_half : (mask place : ℕ) → bit (mask / 2) place ≡ bit mask (suc place)
bit_half mask place = ap (λ n. eqb (n % 2) 1) (shr-shr mask 1 place ∙ ap (λ k. mask / 2 ^ k) (omega arith))

odd_even : (n : ℕ) → (n % 2 ≡ 1) ⊎ (n % 2 ≡ 0)
odd_even n = ⊎_elim (λ h. inr (omega arith)) (λ h. inl (omega arith)) (cases_lt (n % 2) 1)

-- A mask that is not 0 has a bit: it is odd, or its half has one.
pub some_bit : (n mask : ℕ) → mask < 2 ^ n → 0 < mask → (place : ℕ) × (bit mask place ≡ true)
some_bit zero mask below above = absurd (omega arith)
some_bit (suc n) mask below above =
    ⊎_elim (λ odd. (0, eq-eqb (mask / 1 % 2) 1 (omega arith))) (λ even. let half = some_bit n (mask / 2) (shr_below mask n 1 (rw add-one below)) (omega arith) in (suc half.0, sym (bit_half mask half.0) ∙ half.1)) (odd_even mask)

-- A number below 2 is 0 or 1, so a property of two of them has four cases.
two_by_two : (P : ℕ → ℕ → Type 0) → P 0 0 → P 0 1 → P 1 0 → P 1 1 → (u v : ℕ) → u < 2 → v < 2 → P u v
two_by_two P a b c d zero zero hu hv = a
two_by_two P a b c d zero (suc zero) hu hv = b
two_by_two P a b c d (suc zero) zero hu hv = c
two_by_two P a b c d (suc zero) (suc zero) hu hv = d
two_by_two P a b c d zero (suc (suc v)) hu hv = absurd (omega arith)
two_by_two P a b c d (suc zero) (suc (suc v)) hu hv = absurd (omega arith)
two_by_two P a b c d (suc (suc u)) v hu hv = absurd (omega arith)

-- The bits of what two masks share, and of both together.
pub bit_of_and : (a b i : ℕ) → bit (bit_and a b) i ≡ (bit a i && bit b i)
bit_of_and a b i =
    ap (λ n. eqb (n % 2) 1) (and_shr a b i) ∙ ap (λ n. eqb n 1) (and_mod (a / 2 ^ i) (b / 2 ^ i) 1)
    ∙ two_by_two (λ u v. eqb (bit_and u v) 1 ≡ (eqb u 1 && eqb v 1)) refl refl refl refl (a / 2 ^ i % 2) (b / 2 ^ i % 2) (mod_below _ 2 (omega arith)) (mod_below _ 2 (omega arith))

pub bit_of_or : (a b i : ℕ) → bit (bit_or a b) i ≡ (bit a i || bit b i)
bit_of_or a b i =
    ap (λ n. eqb (n % 2) 1) (or_shr a b i) ∙ ap (λ n. eqb n 1) (or_mod (a / 2 ^ i) (b / 2 ^ i) 1)
    ∙ two_by_two (λ u v. eqb (bit_or u v) 1 ≡ (eqb u 1 || eqb v 1)) refl refl refl refl (a / 2 ^ i % 2) (b / 2 ^ i % 2) (mod_below _ 2 (omega arith)) (mod_below _ 2 (omega arith))

zero_or : (n : ℕ) → (n ≡ 0) ⊎ (0 < n)
zero_or zero = inl refl
zero_or (suc n) = inr (omega arith)

below_power : (n : ℕ) → n < 2 ^ n
below_power zero = omega arith
below_power (suc n) = omega (arith, below_power n, pow-suc 2 n)

pub no_bit_of_0 : (i : ℕ) → bit 0 i ≡ true → ⊥
no_bit_of_0 i is = let lt : i < 0 = bit_below 0 0 i (omega arith) is in omega arith

-- Masks that share nothing have no bit in common, and the reverse.
pub apart_bits : (a b i : ℕ) → bit_and a b ≡ 0 → bit a i ≡ true → bit b i ≡ true → ⊥
apart_bits a b i apart ha hb = no_bit_of_0 i (ap (λ m. bit m i) (sym apart) ∙ bit_of_and a b i ∙ and_from (bit a i) (bit b i) ha hb)

pub common_bit : (a b : ℕ) → (bit_and a b ≡ 0 → ⊥) → (i : ℕ) × (bit a i ≡ true) × (bit b i ≡ true)
common_bit a b shared =
    let m = bit_and a b in
    let some = some_bit m m (below_power m) (⊎_elim (λ e. absurd (shared e)) (λ h. h) (zero_or m)) in
    let parts = and_parts (bit a some.0) (bit b some.0) (sym (bit_of_and a b some.0) ∙ some.1) in
    (some.0, parts.0, parts.1)

pub bits_apart : (a b : ℕ) → ((i : ℕ) → bit a i ≡ true → bit b i ≡ true → ⊥) → bit_and a b ≡ 0
bits_apart a b none = ⊎_elim (λ e. e) (λ shared. let c = common_bit a b shared in absurd (none c.0 c.1 c.2)) (cases_eq (bit_and a b) 0)

-- What is apart from two masks is apart from both together, and what is apart from both together from each.
pub apart_or : (a b m : ℕ) → bit_and a m ≡ 0 → bit_and b m ≡ 0 → bit_and (bit_or a b) m ≡ 0
apart_or a b m ha hb =
    bits_apart (bit_or a b) m (λ i hab hm. ⊎_elim (λ h. apart_bits a m i ha h hm) (λ h. apart_bits b m i hb h hm) (or_cases (bit a i) (bit b i) (sym (bit_of_or a b i) ∙ hab)))

pub apart_left : (a b m : ℕ) → bit_and (bit_or a b) m ≡ 0 → bit_and a m ≡ 0
apart_left a b m h = bits_apart a m (λ i ha hm. apart_bits (bit_or a b) m i h (bit_of_or a b i ∙ or_left (bit a i) (bit b i) ha) hm)

pub apart_right : (a b m : ℕ) → bit_and (bit_or a b) m ≡ 0 → bit_and b m ≡ 0
apart_right a b m h = bits_apart b m (λ i hb hm. apart_bits (bit_or a b) m i h (bit_of_or a b i ∙ or_right (bit a i) (bit b i) hb) hm)

-- A power of two has one bit.
pub power_bit : (c d : ℕ) → bit (2 ^ c) d ≡ true → d ≡ c
power_bit zero zero is = refl
power_bit zero (suc d) is = let lt : suc d < 1 = bit_below 1 1 (suc d) (omega arith) is in absurd (omega arith)
power_bit (suc c) zero is = absurd (omega (arith, eqb-true (2 ^ suc c / 1 % 2) 1 is, pow-suc 2 c))
power_bit (suc c) (suc d) is =
    let half : 2 ^ suc c / 2 ≡ 2 ^ c = omega (arith, pow-suc 2 c) in
    ap suc (power_bit c d (ap (λ m. bit m d) (sym half) ∙ bit_half (2 ^ suc c) d ∙ is))

pub bit_of_power : (c : ℕ) → bit (2 ^ c) c ≡ true
bit_of_power zero = refl
bit_of_power (suc c) =
    let half : 2 ^ suc c / 2 ≡ 2 ^ c = omega (arith, pow-suc 2 c) in
    sym (bit_half (2 ^ suc c) c) ∙ ap (λ m. bit m c) half ∙ bit_of_power c
