-- A success leaves a board on which the placed rule is in force, and a choice.
use Rattle.std.proofs.Common.{◌≡◌, ℕ, zero, suc, ◌<◌, ◌≤◌, true, false, ◌&&◌, eqb, ltb, leb, ◌⊎◌, List, [], ◌∷◌, length, get_or, sym, refl, ap, ◌∙◌, subst, inl, inr, ⊎_elim, arith}
use Rattle.std.specs.List.{list_all}
use lib.Bits.{and_zero_l, and_zero_r, and_comm}
use Rattle.std.proofs.lemmas.List.{get_or_past, get_or_default, ext_get_or}
use Rattle.std.specs.Array.{IsFromFnResult}
use Rattle.std.specs.Fn.{Called}
use denote.Param.Members.{Mut}
use Rattle.std.proofs.lemmas.Bool.{both_ways, cases_lt, cases_Bool, and_parts, eqb-true, ltb-true, lt-ltb}
use Rattle.meaning.specs.Masks.{bit}
use Rattle.meaning.proofs.FromFn.{from_fn_at}
use Rattle.meaning.proofs.Lists.{every_at}
use Rattle.placing.specs.declared.rules.Rule.{Rule}
use Rattle.placing.specs.declared.rules.State.{State}
use Rattle.placing.specs.declared.rules.State.TheVariants.{Absent, Waiting, InForce}
use Rattle.placing.specs.declared.rules.Mark.{Mark}
use Rattle.placing.specs.declared.rules.Mark.TheVariants.{PutOut, Fresh, Tried}
use Rattle.placing.specs.Board.{no_way, no_rule, cells_of, mask_of, lawful_way, lawful_rule, listed, way_mask, state_of, is_standing, is_in_force, is_waiting, given_by, gives, listed_by, Apart}
use Rattle.placing.specs.Choice.{Choosable}
use Rattle.placing.specs.Search.{is_fresh, fresh_at, marked, applied}
use Rattle.placing.specs.Laws.{IsBoard, Placed}
use Rattle.placing.proofs.States.{force_standing, waiting_standing}
use Rattle.placing.proofs.Givers.{InForceAt, On, mask_cell}
use Rattle.placing.proofs.Sound.{Kept}

-- Each state as its mark says.
pub applied_at : (states : List State) (marks : List Mark) (x : ℕ) → length states ≡ length marks → get_or (applied states marks) x Absent ≡ marked (get_or states x Absent) (get_or marks x Fresh)
applied_at [] [] x e = refl
applied_at [] (m ∷ marks) x e = absurd (omega arith)
applied_at (s ∷ states) [] x e = refl
applied_at (s ∷ states) (m ∷ marks) zero e = refl
applied_at (s ∷ states) (m ∷ marks) (suc x) e = applied_at states marks x (omega arith)

pub applied_length : (states : List State) (marks : List Mark) → length (applied states marks) ≡ length states
applied_length [] marks = refl
applied_length (s ∷ states) [] = refl
applied_length (s ∷ states) (m ∷ marks) = omega (arith, applied_length states marks)

-- The table of the states as their marks make them.
pub applied_made : {F : Type 0} (g : Mut F (ℕ × Unit {0}) State) (f : F) (states : List State) (marks : List Mark) (after : List State) → length states ≡ 64 → length marks ≡ 64 → IsFromFnResult g f after 64 → ((i : ℕ) (y : State) (q : F) → Called g f (i, tt) y q → (y ≡ marked (get_or states i Absent) (get_or marks i PutOut)) × (q ≡ f)) → after ≡ applied states marks
applied_made g f states marks after es em made each =
    ext_get_or Absent after (applied states marks) (made.long ∙ sym (applied_length states marks ∙ es)) (λ i lt. from_fn_at g (λ x. marked (get_or states x Absent) (get_or marks x PutOut)) f each after 64 made i Absent (omega (arith, made.long)) ∙ ap (marked (get_or states i Absent)) (get_or_default marks i PutOut Fresh (omega (arith, made.long, em))) ∙ sym (applied_at states marks i (es ∙ sym em)))

-- A rule in force has a number below 64.
pub in_force_small : (rules : List Rule) (states : List State) → length states ≡ 64 → (x : ℕ) → InForceAt rules states x → x < 64
in_force_small rules states e x h =
    ⊎_elim (λ k. omega arith) (λ k. absurd (both_ways _ (ap is_in_force (get_or_past states x Absent k)) h)) (cases_lt x (length states))

-- Each bit of a listed way's mask is one of its outputs.
pub listed_cells : (rules : List Rule) → ((x : ℕ) → lawful_rule (get_or rules x no_rule) ≡ true) → (x i c : ℕ) → i < length (listed rules x) → bit (way_mask rules x i) c ≡ true → On c (cells_of (get_or (listed rules x) i no_way))
listed_cells rules lawful x i c lt h =
    let ways = (and_parts _ _ (lawful x)).1 in
    let way = get_or (listed rules x) i no_way in
    let ok : lawful_way way ≡ true = every_at lawful_way (listed rules x) i no_way ways lt in
    let rest = (and_parts (leb way.count 6) (list_all (λ c. ltb c 64) (cells_of way) && eqb way.mask (mask_of (cells_of way))) ok).1 in
    let mask = eqb-true way.mask (mask_of (cells_of way)) (and_parts (list_all (λ c. ltb c 64) (cells_of way)) (eqb way.mask (mask_of (cells_of way))) rest).1 in
    mask_cell (cells_of way) c (subst (λ (m : ℕ). bit m c ≡ true) mask h)

-- The index of the way by which a rule is in force.
abbrev pub index_of : State → ℕ
index_of Absent = 0
index_of Waiting = 0
index_of (InForce i) = i

force_mask : (rules : List Rule) (x : ℕ) (s : State) → is_in_force s ≡ true → given_by rules x s ≡ way_mask rules x (index_of s)
force_mask rules x Absent h = absurd (both_ways _ refl h)
force_mask rules x Waiting h = absurd (both_ways _ refl h)
force_mask rules x (InForce i) h = refl

force_listed : (rules : List Rule) (x : ℕ) (s : State) → is_in_force s ≡ true → listed_by rules x s ≡ true → index_of s < length (listed rules x)
force_listed rules x Absent h l = absurd (both_ways _ refl h)
force_listed rules x Waiting h l = absurd (both_ways _ refl h)
force_listed rules x (InForce i) h l = ltb-true i (length (listed rules x)) l

-- Rules in force together are a choice: the ways by which they are.
pub force_choice : (rules : List Rule) (states : List State) → IsBoard rules states → (InSet : ℕ → Type 0) → ((x : ℕ) → InSet x → InForceAt rules states x) → Choosable rules InSet
force_choice rules states b InSet forced =
    let pick = λ (x : ℕ). index_of (state_of states x) in (
      pick,
      record {
        on_list = λ x s. force_listed rules x (state_of states x) (forced x s) (b.selected_listed x);
        no_shared = λ x y s t ne. let apart = b.no_two_givers x y ne in rw (force_mask rules x (state_of states x) (forced x s), force_mask rules y (state_of states y) (forced y t)) at apart;
      },
    )

by_mark : {G : Type 0} (m : Mark) → (m ≡ PutOut → G) → (m ≡ Fresh → G) → ((i : ℕ) → m ≡ Tried i → G) → G
by_mark PutOut out fresh tried = out refl
by_mark Fresh out fresh tried = fresh refl
by_mark (Tried i) out fresh tried = tried i refl

pub gives_nothing : (rules : List Rule) (x : ℕ) (s : State) → is_in_force s ≡ false → given_by rules x s ≡ 0
gives_nothing rules x Absent h = refl
gives_nothing rules x Waiting h = refl
gives_nothing rules x (InForce i) h = absurd (both_ways _ h refl)

module _ (rules : List Rule) (states : List State) (rank : ℕ → ℕ) (r : ℕ) (b : IsBoard rules states) (small : r < 64) (waits : is_waiting (state_of states r) ≡ true) (found : List Mark) (end : ℕ) (k : Kept rules states rank r [] found end) where
  abbrev after : List State
  after = applied states found

  -- A rule after the placing is what its mark makes of it; past the board there is none.
  state_within : (x : ℕ) → x < 64 → state_of after x ≡ marked (state_of states x) (get_or found x PutOut)
  state_within x lt =
      applied_at states found x (b.states_counted ∙ sym k.counted) ∙ ap (marked (state_of states x)) (get_or_default found x Fresh PutOut (omega (arith, k.counted)))

  state_beyond : (x : ℕ) → 64 ≤ x → state_of after x ≡ Absent
  state_beyond x le = let counted : length after ≡ 64 = applied_length states found ∙ b.states_counted in get_or_past after x Absent (omega arith)

  at_mark : (x : ℕ) (P : State → Type 0) (m : Mark) → x < 64 → get_or found x PutOut ≡ m → P (marked (state_of states x) m) → P (state_of after x)
  at_mark x P m lt e p = subst P (sym (state_within x lt ∙ ap (marked (state_of states x)) e)) p

  cases_after : (x : ℕ) (P : State → Type 0) → (64 ≤ x → P Absent) → (x < 64 → get_or found x PutOut ≡ PutOut → P Waiting) → (fresh_at found x ≡ true → P (state_of states x)) → ((i : ℕ) → get_or found x PutOut ≡ Tried i → P (InForce i)) → P (state_of after x)
  cases_after x P past out fresh tried =
      ⊎_elim (λ lt. by_mark (get_or found x PutOut) (λ m. at_mark x P PutOut lt m (out lt m)) (λ m. at_mark x P Fresh lt m (fresh (ap is_fresh m))) (λ i m. at_mark x P (Tried i) lt m (tried i m)))
      (λ le. subst P (sym (state_beyond x le)) (past le)) (cases_lt x 64)

  absent_past : (x : ℕ) → 64 ≤ x → state_of states x ≡ Absent
  absent_past x le = get_or_past states x Absent (omega (arith, b.states_counted))

  -- What a rule gives after it: nothing; what it gave before, which is apart from the taken cells; or a tried way.
  Giving : ℕ → ℕ → Type 0
  Giving x m = (m ≡ 0) ⊎ (((m ≡ gives rules states x) × Apart end m) ⊎ ((i : ℕ) × (m ≡ way_mask rules x i) × (get_or found x PutOut ≡ Tried i)))

  giving : (x : ℕ) → Giving x (gives rules after x)
  unfolding Giving
  giving x =
      cases_after x (λ s. Giving x (given_by rules x s)) (λ _. inl refl) (λ _ _. inl refl) (λ f. ⊎_elim (λ g. inr (inl (refl, ⊎_elim (λ a. a) (λ on. absurd on) (k.fresh_apart x f g)))) (λ g. inl (gives_nothing rules x (state_of states x) g)) (cases_Bool (is_in_force (state_of states x)))) (λ i t. inr (inr (i, refl, t)))

  giving_apart : (x y m n : ℕ) → (x ≡ y → ⊥) → Giving x m → Giving y n → Apart m n
  unfolding Giving
  giving_apart x y m n ne (inl e) h = rw e (and_zero_l n)
  giving_apart x y m n ne (inr (inl g)) (inl e) = rw e (and_zero_r m)
  giving_apart x y m n ne (inr (inl g)) (inr (inl h)) = rw (g.0, h.0) (b.no_two_givers x y ne)
  giving_apart x y m n ne (inr (inl g)) (inr (inr h)) = rw h.1 (and_comm m (way_mask rules y h.0) ∙ k.tried_taken y h.0 m h.2 g.1)
  giving_apart x y m n ne (inr (inr g)) (inl e) = rw e (and_zero_r m)
  giving_apart x y m n ne (inr (inr g)) (inr (inl h)) = rw g.1 (k.tried_taken x g.0 n g.2 h.1)
  giving_apart x y m n ne (inr (inr g)) (inr (inr h)) = rw (g.1, h.1) (k.tried_apart x y g.0 h.0 g.2 h.2 ne)

  pub success : Placed rules states rank r after
  success = record {
    board = record {
      rules_counted = b.rules_counted;
      states_counted = applied_length states found ∙ b.states_counted;
      lawful = b.lawful;
      no_two_givers = λ x y ne. giving_apart x y (gives rules after x) (gives rules after y) ne (giving x) (giving y);
      selected_listed = λ x. cases_after x (λ s. listed_by rules x s ≡ true) (λ _. refl) (λ _ _. refl) (λ _. b.selected_listed x) (λ i t. lt-ltb i (length (listed rules x)) (k.tried_listed x i t));
    };
    in_force = cases_after r (λ s. is_in_force s ≡ true) (λ le. absurd (omega arith)) (λ lt o. absurd (omega (arith, (k.put_out_after r lt o).0))) (λ f. absurd (k.placed_on f)) (λ i t. refl);
    before = λ x lt. cases_after x (λ s. is_in_force s ≡ is_in_force (state_of states x)) (λ le. sym (ap is_in_force (absent_past x le))) (λ h o. absurd (omega (arith, (k.put_out_after x h o).0))) (λ _. refl) (λ i t. sym (⊎_elim (λ e. absurd (omega (arith, ap rank e))) (λ f. f) (k.tried_from x i t)));
    none_came = λ x ne. cases_after x (λ s. is_in_force s ≡ true → is_in_force (state_of states x) ≡ true) (λ _ h. absurd (both_ways _ refl h)) (λ _ _ h. absurd (both_ways _ refl h)) (λ _ h. h) (λ i t _. ⊎_elim (λ e. absurd (ne e)) (λ f. f) (k.tried_from x i t));
    standing = λ x. cases_after x (λ s. is_standing s ≡ is_standing (state_of states x)) (λ le. sym (ap is_standing (absent_past x le))) (λ h o. sym (force_standing (state_of states x) (k.put_out_after x h o).1)) (λ _. refl) (λ i t. sym (⊎_elim (λ e. subst (λ (y : ℕ). is_standing (state_of states y) ≡ true) (sym e) (waiting_standing (state_of states r) waits)) (λ f. force_standing (state_of states x) f) (k.tried_from x i t)));
  }
