-- Which cells the places of a way name, place by place, and what planning sees of them.
use Rattle.std.proofs.Common.{◌≡◌, ℕ, zero, suc, ◌+◌, ◌<◌, ◌≤◌, Bool, true, false, if◌then◌else◌, ◌⊎◌, List, [], ◌∷◌, length, get_or, Some, None, Option, sym, refl, ap, ◌∙◌, subst, inl, inr, ⊎_elim, add-zero, arith}
use Rattle.std.proofs.lemmas.Bool.{cond-true, lt-ltb, or_left, or_right}
use Rattle.std.specs.Option.{option_map}
use Rattle.meaning.specs.Masks.{bit}
use Rattle.meaning.proofs.MaskBits.{bit_of_or, bit_of_power}
use Rattle.planning.specs.declared.flows.Flow.{Flow}
use Rattle.planning.specs.Flows.{flow_at, inputs_by, outputs_by, Gives, Reads}
use Rattle.figures.specs.declared.ways.SelectedWay.{SelectedWay}
use Rattle.figures.specs.Ways.{places_of, InForceBy, Names, Output, Input, cell_bit, with_cell, flow_from, flow_of, flows_of}

-- Among the places from k on, place i names cell c, in a direction.
pub data NamesFrom (mask : ℕ) (output : Bool) : ℕ → List ℕ → ℕ → ℕ → Type 0 where
  here : {k c : ℕ} {cs : List ℕ} → bit mask k ≡ output → NamesFrom mask output k (c ∷ cs) k c
  there : {k i c d : ℕ} {cs : List ℕ} → NamesFrom mask output (suc k) cs i c → NamesFrom mask output k (d ∷ cs) i c

module _ {mask : ℕ} {output : Bool} where
  -- The place is not before the first one.
  pub from_on : {k i c : ℕ} {cs : List ℕ} → NamesFrom mask output k cs i c → k ≤ i
  from_on (here e) = omega arith
  from_on (there n) = let le = from_on n in omega arith

  place_at : (k : ℕ) (cs : List ℕ) (i c : ℕ) → i < length cs → get_or cs i 0 ≡ c → bit mask (k + i) ≡ output → NamesFrom mask output k cs (k + i) c
  place_at k [] i c lt e d = absurd (omega arith)
  place_at k (b ∷ cs) zero c lt e d =
      subst (λ (n : ℕ). NamesFrom mask output k (b ∷ cs) n c) (sym (add-zero k)) (subst (λ (n : ℕ). NamesFrom mask output k (b ∷ cs) k n) e (here (ap (bit mask) (sym (add-zero k)) ∙ d)))
  place_at k (b ∷ cs) (suc i) c lt e d =
      let next : suc k + i ≡ k + suc i = omega arith in
      subst (λ (n : ℕ). NamesFrom mask output k (b ∷ cs) n c) next (there (place_at (suc k) cs i c (omega arith) e (ap (bit mask) next ∙ d)))

  at_place : {k i c : ℕ} {cs : List ℕ} → NamesFrom mask output k cs i c → (j : ℕ) × (k + j ≡ i) × (j < length cs) × (get_or cs j 0 ≡ c) × (bit mask i ≡ output)
  at_place (here e) = (0, add-zero _, omega arith, refl, e)
  at_place (there n) = let p = at_place n in (suc p.0, omega (arith, p.1), omega (arith, p.2), p.3, p.4)

-- The places of a way, both ways round.
pub names_from : {output : Bool} (w : SelectedWay) (i c : ℕ) → Names output w i c → NamesFrom w.outputs output 0 (places_of w) i c
names_from {output} w i c n =
    let zero-add : 0 + i ≡ i = omega arith in
    subst (λ (j : ℕ). NamesFrom w.outputs output 0 (places_of w) j c) zero-add (place_at 0 (places_of w) i c n.placed n.names (ap (bit w.outputs) zero-add ∙ n.direction))

pub from_names : {output : Bool} (w : SelectedWay) (i c : ℕ) → NamesFrom w.outputs output 0 (places_of w) i c → Names output w i c
from_names w i c n =
    let p = at_place n in
    record { placed = grind arith; names = grind arith; direction = p.4 }

-- A cell that no place behind the first names, and that the first one does not name as an output, is no output.
none_more : {mask k i c d : ℕ} {cs : List ℕ} → ((j : ℕ) → NamesFrom mask true (suc k) cs j c → ⊥) → (bit mask k ≡ true → d ≡ c → ⊥) → NamesFrom mask true k (d ∷ cs) i c → ⊥
none_more none not_first (here e) = not_first e refl
none_more none not_first (there n) = none _ n

-- Whether a cell is an output can be told.
decide_from : (mask k c : ℕ) (cs : List ℕ) → ((i : ℕ) × NamesFrom mask true k cs i c) ⊎ ((i : ℕ) → NamesFrom mask true k cs i c → ⊥)
decide_from mask k c [] = inr (λ i n. elim n [ ])
decide_from mask k c (d ∷ cs) =
    ⊎_elim (λ (p : (i : ℕ) × NamesFrom mask true (suc k) cs i c). inl (p.0, there p.1)) (λ none. ⊎_elim (λ (e : (d ≡ c) × (bit mask k ≡ true)). inl (k, subst (λ (n : ℕ). NamesFrom mask true k (d ∷ cs) k n) e.0 (here e.1))) (λ no. inr (λ i n. none_more none (λ b e. no (e, b)) n)) first) (decide_from mask (suc k) c cs)
  where
    first : ((d ≡ c) × (bit mask k ≡ true)) ⊎ ((d ≡ c) × (bit mask k ≡ true) → ⊥)
    first = grind arith

pub decide_output : (w : SelectedWay) (c : ℕ) → ((i : ℕ) × Output w i c) ⊎ ((i : ℕ) → Output w i c → ⊥)
decide_output w c =
    ⊎_elim (λ (p : (i : ℕ) × NamesFrom w.outputs true 0 (places_of w) i c). inl (p.0, from_names w p.0 c p.1)) (λ none. inr (λ i n. none i (names_from w i c n))) (decide_from w.outputs 0 c (places_of w))

-- A cell below 64 is in the set of itself.
in_cell_bit : (c : ℕ) → c < 64 → bit (cell_bit c) c ≡ true
in_cell_bit c lt = ap (λ (m : ℕ). bit m c) (cond-true _ _ _ (lt-ltb c 64 lt)) ∙ bit_of_power c

-- The cells of a flow in a direction: those given, or those read.
abbrev cells_in : Bool → Flow → ℕ
cells_in output flow = if output then flow.outputs else flow.inputs

-- One cell more is in its direction, and what was there before stays.
with_there : (output : Bool) (c : ℕ) (flow : Flow) → c < 64 → bit (cells_in output (with_cell output c flow)) c ≡ true
with_there true c flow lt = bit_of_or (cell_bit c) flow.outputs c ∙ or_left _ _ (in_cell_bit c lt)
with_there false c flow lt = bit_of_or (cell_bit c) flow.inputs c ∙ or_left _ _ (in_cell_bit c lt)

with_stays : (output b : Bool) (c d : ℕ) (flow : Flow) → bit (cells_in output flow) c ≡ true → bit (cells_in output (with_cell b d flow)) c ≡ true
with_stays true true c d flow h = bit_of_or (cell_bit d) flow.outputs c ∙ or_right _ _ h
with_stays true false c d flow h = h
with_stays false true c d flow h = h
with_stays false false c d flow h = bit_of_or (cell_bit d) flow.inputs c ∙ or_right _ _ h

-- So it does with the cells of any places more, and a cell that one of them names is in its direction.
rest_stays : (output : Bool) (mask k c : ℕ) (cs : List ℕ) (flow : Flow) → bit (cells_in output flow) c ≡ true → bit (cells_in output (flow_from mask k cs flow)) c ≡ true
rest_stays output mask k c [] flow h = h
rest_stays output mask k c (d ∷ cs) flow h = rest_stays output mask (suc k) c cs (with_cell (bit mask k) d flow) (with_stays output (bit mask k) c d flow h)

named_there : (output : Bool) (mask : ℕ) {k i c : ℕ} {cs : List ℕ} (flow : Flow) → NamesFrom mask output k cs i c → c < 64 → bit (cells_in output (flow_from mask k cs flow)) c ≡ true
named_there output mask {k} {i} {c} flow (here {cs = ds} e) lt =
    rest_stays output mask (suc k) c ds _ (subst (λ (b : Bool). bit (cells_in output (with_cell b c flow)) c ≡ true) (sym e) (with_there output c flow lt))
named_there output mask flow (there n) lt = named_there output mask _ n lt

-- What planning sees of a rule is the flow of its way.
flow_at_lem : (rows : List (Option SelectedWay)) (x : ℕ) → flow_at (flows_of rows) x ≡ option_map flow_of (get_or rows x None)
flow_at_lem [] x = refl
flow_at_lem (row ∷ rows) zero = refl
flow_at_lem (row ∷ rows) (suc x) = flow_at_lem rows x

-- A rule gives its outputs and reads its inputs.
module _ (rows : List (Option SelectedWay)) (x : ℕ) (w : SelectedWay) (by : InForceBy rows x w) (i c : ℕ) (lt : c < 64) where
  flow_of_lem : flow_at (flows_of rows) x ≡ Some (flow_of w)
  flow_of_lem = flow_at_lem rows x ∙ ap (option_map flow_of) by

  pub gives_output : Output w i c → Gives (flows_of rows) x c
  gives_output n = ap (λ row. bit (outputs_by row) c) flow_of_lem ∙ named_there true w.outputs _ (names_from w i c n) lt

  pub reads_input : Input w i c → Reads (flows_of rows) x c
  reads_input n = ap (λ row. bit (inputs_by row) c) flow_of_lem ∙ named_there false w.outputs _ (names_from w i c n) lt
