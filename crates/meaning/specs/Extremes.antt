-- A ranking and a calculator at the edge of the laws: they keep every one, and say as little as can be said.
use Rattle.std.specs.Prelude.{ℕ, true, ◌==◌}
use Rattle.std.specs.declared.cmp.Ordering.TheVariants.{Equal}
use Rattle.meaning.specs.Ranks.{Ranks}
use Rattle.meaning.specs.Calc.{Calc, faults}

-- All strengths are known and level.
abbrev pub all_level : Ranks ℕ
all_level = record { known = λ _. true; order = λ _ _. Equal }

-- One kind of one place and one way, which faults whatever it is given; 7 is the only figure.
abbrev pub always_faulting : Calc ℕ
always_faulting = record {
  start = 7;
  takes = λ x. (x == 7);
  kinds = 1;
  places = λ _. 1;
  ways = λ _. 1;
  output = λ _ _ place. (place == 0);
  answer = λ _ _ _ _. faults 1;
}
