-- The steps of a search over ways by their index.
use Rattle.std.proofs.Common.{◌≡◌, ℕ, zero, suc, ◌+◌, ◌-◌, ◌<◌, ◌≤◌, Bool, true, false, cond, ◌&&◌, ◌||◌, eqb, List, [], ◌∷◌, length, get_or, drop, set, Some, None, Option, sym, refl, ap, ◌∙◌, subst, add-one, arith}
use lib.Bits.{bit_and, bit_or}
use Rattle.std.specs.Prelude.{not, count_by}
use Rattle.std.specs.List.{range_with_len, zip}
use Rattle.std.proofs.lemmas.List.Sums.{sum_by-cons}
use Rattle.std.proofs.lemmas.List.{drop_more, drop_all}
use Rattle.std.proofs.lemmas.Bool.{both_ways}
use Rattle.placing.specs.declared.rules.Way.{Way}
use Rattle.placing.specs.declared.rules.Rule.{Rule}
use Rattle.placing.specs.declared.rules.State.{State}
use Rattle.placing.specs.declared.rules.State.TheVariants.{Absent, Waiting}
use Rattle.placing.specs.declared.rules.Mark.{Mark}
use Rattle.placing.specs.declared.rules.Mark.TheVariants.{Tried}
use Rattle.placing.specs.Board.{no_way, cells_of, state_of, is_standing, is_waiting}
use Rattle.placing.specs.Search.{piled, Leads, Tries, Places}
use Rattle.placing.proofs.States.{in_force_or_waits}
use Rattle.placing.specs.Calls.{Passes, PassesBehind, Adds, Removes, same_state, changed_from}

module _ (rules : List Rule) (states : List State) (rank : ℕ → ℕ) (r : ℕ) where
  -- The same search by other names.
  pub moved : {pile pile' : List ℕ} {marks marks' : List Mark} {taken taken' : ℕ} {o : Option (List Mark)} → pile ≡ pile' → marks ≡ marks' → taken ≡ taken' → Leads rules states rank r pile marks taken o → Leads rules states rank r pile' marks' taken' o
  moved {pile} {pile'} {marks} {marks'} {taken} {taken'} {o} p m t d =
      subst (λ (k : ℕ). Leads rules states rank r pile' marks' k o) t (subst (λ (n : List Mark). Leads rules states rank r pile' n taken o) m (subst (λ (q : List ℕ). Leads rules states rank r q marks taken o) p d))

  module _ (x : ℕ) (pile : List ℕ) (marks : List Mark) (taken : ℕ) (ways : List Way) (i : ℕ) where
    abbrev TriesFrom : ℕ → Option (List Mark) → Type 0
    TriesFrom k o = Tries rules states rank r x pile marks taken (drop k ways) k o

    abbrev way : Way
    way = get_or ways i no_way

    pub tries_spent : length ways ≤ i → TriesFrom i None
    tries_spent le = subst (λ (ws : List Way). Tries rules states rank r x pile marks taken ws i None) (sym (drop_all i ways le)) Tries.spent

    at_way : (o : Option (List Mark)) → i < length ways → Tries rules states rank r x pile marks taken (way ∷ drop (i + 1) ways) i o → TriesFrom i o
    at_way o lt t = subst (λ (ws : List Way). Tries rules states rank r x pile marks taken ws i o) (sym (drop_more ways i no_way lt)) t

    next : (o : Option (List Mark)) → TriesFrom (i + 1) o → Tries rules states rank r x pile marks taken (drop (i + 1) ways) (suc i) o
    next o t = subst (λ (k : ℕ). Tries rules states rank r x pile marks taken (drop (i + 1) ways) k o) (add-one i) t

    pub tries_barred : (o : Option (List Mark)) → i < length ways → eqb (bit_and taken way.mask) 0 ≡ false → TriesFrom (i + 1) o → TriesFrom i o
    tries_barred o lt b t = at_way o lt (Tries.barred b (next o t))

    abbrev Try : Option (List Mark) → Type 0
    Try o = Leads rules states rank r (piled rules states (cells_of way) pile) (set marks x (Tried i)) (bit_or taken way.mask) o

    pub tries_leads : (found : List Mark) → i < length ways → eqb (bit_and taken way.mask) 0 ≡ true → Try (Some found) → TriesFrom i (Some found)
    tries_leads found lt b d = at_way (Some found) lt (Tries.leads b d)

    pub tries_fails : (o : Option (List Mark)) → i < length ways → eqb (bit_and taken way.mask) 0 ≡ true → Try None → TriesFrom (i + 1) o → TriesFrom i o
    tries_fails o lt b d t = at_way o lt (Tries.fails b d (next o t))

-- The pass by ranks below 64.
module _ (rules : List Rule) (rank : ℕ → ℕ) where
  abbrev PassesFrom : ℕ → List State → List State → Type 0
  PassesFrom k s t = Passes rules rank k (64 - k) s t

  pub pass_end : (k : ℕ) (s : List State) → 64 ≤ k → PassesFrom k s s
  pass_end k s le = subst (λ (n : ℕ). Passes rules rank k n s s) (zero_left k le) Passes.end
    where
      zero_left : (k : ℕ) → 64 ≤ k → 0 ≡ 64 - k
      zero_left k le = omega arith

  one_more : (k : ℕ) (s t : List State) → k < 64 → Passes rules rank k (suc (64 - suc k)) s t → PassesFrom k s t
  one_more k s t lt p = subst (λ (n : ℕ). Passes rules rank k n s t) (count k lt) p
    where
      count : (k : ℕ) → k < 64 → suc (64 - suc k) ≡ 64 - k
      count k lt = omega arith

  further : (k : ℕ) (s t : List State) → PassesFrom (k + 1) s t → PassesFrom (suc k) s t
  further k s t p = subst (λ (n : ℕ). PassesFrom n s t) (add-one k) p

  pub pass_skip : (k : ℕ) (s t : List State) → k < 64 → ((x : ℕ) → x < 64 → rank x ≡ k → is_waiting (state_of s x) ≡ false) → PassesFrom (k + 1) s t → PassesFrom k s t
  pass_skip k s t lt none p = one_more k s t lt (Passes.skip none (further k s t p))

  pub pass_place : (k x : ℕ) (o : Bool) (s u t : List State) → k < 64 → x < 64 → rank x ≡ k → is_waiting (state_of s x) ≡ true → Places rules s rank x o u → PassesFrom (k + 1) u t → PassesFrom k s t
  pass_place k x o s u t lt small e w p q = one_more k s t lt (Passes.place small e w p (further k u t q))

-- Whether a rule is another than r, and is not what it was.
abbrev pub is_changed : ℕ → ℕ × (State × State) → Bool
is_changed r p = not (eqb p.0 r) && not (same_state p.1.0 p.1.1)

-- The changed rules are counted over the rules' numbers beside both tables.
pub changed_counted : (r x n : ℕ) (ss ts : List State) → length ss ≤ n → count_by (is_changed r) (zip (range_with_len x n) (zip ss ts)) ≡ changed_from x r ss ts
changed_counted r x zero [] ts le = refl
changed_counted r x zero (s ∷ ss) ts le = absurd (omega arith)
changed_counted r x (suc n) [] ts le = refl
changed_counted r x (suc n) (s ∷ ss) [] le = refl
changed_counted r x (suc n) (s ∷ ss) (t ∷ ts) le =
    sum_by-cons (λ p. cond (is_changed r p) 1 0) (x, (s, t)) (zip (range_with_len (x + 1) n) (zip ss ts)) ∙ one (eqb x r) (same_state s t) (changed_counted r (x + 1) n ss ts (omega arith) ∙ ap (λ (k : ℕ). changed_from k r ss ts) (add-one x))
  where
    one : (a b : Bool) {m k : ℕ} → m ≡ k → cond (not a && not b) 1 0 + m ≡ cond (a || b) 0 1 + k
    one true b e = omega (arith, e)
    one false true e = omega (arith, e)
    one false false e = omega (arith, e)

-- The calls, from the tables that the code writes.
module _ (rules : List Rule) (states : List State) (rank : ℕ → ℕ) (r : ℕ) where
  places_at : (rule : Rule) {rules' : List Rule} {states' s : List State} {o : Bool} → rules' ≡ set rules r rule → states' ≡ set states r Waiting → Places rules' states' rank r o s → Places (set rules r rule) (set states r Waiting) rank r o s
  places_at rule {rules'} {states'} {s} {o} er es q =
      subst (λ (t : List State). Places (set rules r rule) t rank r o s) es (subst (λ (n : List Rule). Places n states' rank r o s) er q)

  pub adds_waits : (rule : Rule) {rules' : List Rule} {states' s : List State} → rules' ≡ set rules r rule → states' ≡ set states r Waiting → Places rules' states' rank r false s → Adds rules states rank r rule false s
  adds_waits rule er es q = Adds.waits (places_at rule er es q)

  pub adds_comes : (rule : Rule) {rules' : List Rule} {states' s t : List State} → rules' ≡ set rules r rule → states' ≡ set states r Waiting → Places rules' states' rank r true s → PassesBehind rules' rank r s t → Adds rules states rank r rule true t
  adds_comes rule {s = s} {t = t} er es q pass = Adds.comes (places_at rule er es q) (subst (λ (n : List Rule). PassesBehind n rank r s t) er pass)

  pub removes_waited : {s : List State} → s ≡ set states r Absent → is_waiting (state_of states r) ≡ true → Removes rules states rank r s
  removes_waited e w = subst (Removes rules states rank r) (sym e) (Removes.waited w)

  pub removes_gave : {s t : List State} → s ≡ set states r Absent → is_standing (state_of states r) ≡ true → is_waiting (state_of states r) ≡ false → PassesBehind rules rank r s t → Removes rules states rank r t
  removes_gave {s} {t} e standing w pass =
      Removes.gave (in_force_or_waits (state_of states r) standing (both_ways _ w)) (subst (λ (u : List State). PassesBehind rules rank r u t) e pass)
