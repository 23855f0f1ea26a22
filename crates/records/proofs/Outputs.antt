-- What the folds over a record's places make.
use Rattle.std.proofs.Common.{◌≡◌, ℕ, zero, suc, ◌+◌, ◌*◌, ◌^◌, ◌%◌, ◌<◌, ◌≤◌, Bool, true, false, cond, List, [], ◌∷◌, ◌++◌, map, length, sym, ap, ◌∙◌, add-one, append_assoc, arith}
use Rattle.std.specs.Prelude.{bit_or}
use Rattle.std.specs.List.{fold, filter, zip, range_with_len}
use Rattle.std.proofs.lemmas.Bool.{lt-ltb}
use Rattle.std.proofs.lemmas.List.{append-nil, length_push}
use Rattle.std.proofs.lemmas.Nat.{or_comm, one_shl}
use Rattle.std.proofs.lemmas.Nat.Bits.{same_from_bits, bit_at_or}
use Rattle.meaning.specs.Masks.{bit}
use Rattle.figures.specs.Ways.{cell_bit}
use Rattle.placing.specs.declared.rules.Way.{Way}
use Rattle.records.specs.Making.{output_cells, set_of, way_giving, with_output, places_among}
use Rattle.records.proofs.Padding.{padded_push}

-- Sets may be joined in any grouping.
or_assoc : (a b c : ℕ) → bit_or (bit_or a b) c ≡ bit_or a (bit_or b c)
or_assoc a b c = same_from_bits _ _ (λ i. omega (arith, bit_at_or a b i, bit_at_or b c i, bit_at_or (bit_or a b) c i, bit_at_or a (bit_or b c) i))

-- The set of some cells and one more.
set_of_push : (cells : List ℕ) (c : ℕ) → bit_or (set_of cells) (cell_bit c) ≡ set_of (cells ++ c ∷ [])
set_of_push [] c = or_comm 0 (cell_bit c)
set_of_push (x ∷ xs) c = or_assoc (cell_bit x) (set_of xs) (cell_bit c) ∙ ap (bit_or (cell_bit x)) (set_of_push xs c)

-- A way that gives fewer than six cells, and one output more.
gives_more : (number : ℕ) (outputs : List ℕ) (c : ℕ) → length outputs < 6 → with_output (way_giving number outputs) c ≡ way_giving number (outputs ++ c ∷ [])
gives_more number outputs c lt =
    let within = lt-ltb (length outputs) 6 lt in
    let cells = padded_push 6 outputs c lt in
    let count = length_push outputs c in
    let mask = set_of_push outputs c in
    rw within cc

-- The outputs at the places from i on, added one by one.
pub gives_outputs : (number : ℕ) (output : ℕ → Bool) (i k : ℕ) (before cells : List ℕ) → length cells ≤ k → length before + length cells ≤ 6 → fold (λ (w : Way) (p : ℕ × ℕ). with_output w p.1) (way_giving number before) (filter (λ (p : ℕ × ℕ). output p.0) (zip (range_with_len i k) cells)) ≡ way_giving number (before ++ output_cells output i cells)
gives_outputs number output i zero before [] long few = ap (way_giving number) (sym (append-nil before))
gives_outputs number output i (suc k) before [] long few = ap (way_giving number) (sym (append-nil before))
gives_outputs number output i zero before (c ∷ cs) long few = absurd (omega arith)
gives_outputs number output i (suc k) before (c ∷ cs) long few =
    let next : i + 1 ≡ suc i = add-one i in
    let rest = filter (λ (p : ℕ × ℕ). output p.0) (zip (range_with_len (i + 1) k) cs) in
    let more = output_cells output (suc i) cs in
    let here = gives_more number before c (omega arith) in
    let taken = gives_outputs number output (i + 1) k (before ++ c ∷ []) cs (omega arith) (omega (arith, length_push before c)) in
    let left = gives_outputs number output (i + 1) k before cs (omega arith) (omega arith) in
    let joined = append_assoc before (c ∷ []) more in
    elim (output i) as (λ (b : Bool). fold (λ (w : Way) (p : ℕ × ℕ). with_output w p.1) (way_giving number before) (cond b ((i, c) ∷ rest) rest) ≡ way_giving number (before ++ cond b (c ∷ more) more)) [ true ↦ cc | false ↦ cc ]

-- The places from i on whose cells are in a set, added one by one.
pub gathers_places : (cells i k gathered : ℕ) (places : List ℕ) → length places ≤ k → i + k ≤ 8 → fold (λ (m : ℕ) (p : ℕ × ℕ). bit_or m p.0) gathered (filter (λ (p : ℕ × ℕ). bit cells p.1) (zip (map (λ (place : ℕ). 1 * 2 ^ place % 2 ^ 8) (range_with_len i k)) places)) ≡ bit_or gathered (places_among cells i places)
gathers_places cells i zero gathered [] long few = or_comm 0 gathered
gathers_places cells i (suc k) gathered [] long few = or_comm 0 gathered
gathers_places cells i zero gathered (c ∷ cs) long few = absurd (omega arith)
gathers_places cells i (suc k) gathered (c ∷ cs) long few =
    let next : i + 1 ≡ suc i = add-one i in
    let rest = filter (λ (p : ℕ × ℕ). bit cells p.1) (zip (map (λ (place : ℕ). 1 * 2 ^ place % 2 ^ 8) (range_with_len (i + 1) k)) cs) in
    let more = places_among cells (suc i) cs in
    let power : 1 * 2 ^ i % 2 ^ 8 ≡ 2 ^ i = one_shl i 8 (omega arith) in
    let taken = gathers_places cells (i + 1) k (bit_or gathered (1 * 2 ^ i % 2 ^ 8)) cs (omega arith) (omega arith) in
    let left = gathers_places cells (i + 1) k gathered cs (omega arith) (omega arith) in
    let joined = or_assoc gathered (2 ^ i) more in
    elim (bit cells c) as (λ (b : Bool). fold (λ (m : ℕ) (p : ℕ × ℕ). bit_or m p.0) gathered (cond b ((1 * 2 ^ i % 2 ^ 8, c) ∷ rest) rest) ≡ bit_or gathered (bit_or (cond b (2 ^ i) 0) more)) [ true ↦ cc | false ↦ cc ]
