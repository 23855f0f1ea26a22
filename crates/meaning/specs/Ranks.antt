-- What a ranking of strengths means, and the laws that such a meaning keeps.
use Rattle.std.specs.Prelude.{◌≡◌, Bool, true}
use Rattle.std.specs.declared.cmp.Ordering.{Ordering}
use Rattle.std.specs.Ordering.{ordering_reverse, is_le}

-- A ranking, as data: which strengths it knows, and how the first of two ranks beside the second: less is before it, equal is
-- level with it, greater is after it.
pub record Ranks (S : Type 0) : Type 0 where
  pub known : S → Bool
  pub order : S → S → Ordering

-- Among the strengths that it knows, exchanging the two exchanges before and after, and not being after is transitive.
pub record RankLaws {S : Type 0} (r : Ranks S) : Type 0 where
  pub exchange : (a b : S) → r.known a ≡ true → r.known b ≡ true → r.order b a ≡ ordering_reverse (r.order a b)
  pub transitive : (a b c : S) → r.known a ≡ true → r.known b ≡ true → r.known c ≡ true → is_le (r.order a b) ≡ true → is_le (r.order b c) ≡ true → is_le (r.order a c) ≡ true
