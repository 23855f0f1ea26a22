-- The classes, and the two rankings: by class, and by day and then class.
use Rattle.std.specs.Prelude.{◌≡◌, ℕ, ◌<◌, Bool, Ok, Err, Result, nat_le}
use Rattle.std.specs.Ordering.{nat_cmp, ordering_then}
use Rattle.meaning.specs.Ranks.{Ranks}
use Rattle.rankings.specs.declared.Class.{Class}
use Rattle.rankings.specs.declared.Class.TheVariants.{Required, Strong, Medium, Weak}
use Rattle.rankings.specs.declared.UnknownClass.{UnknownClass}
use Rattle.rankings.specs.declared.DatedStrength.{DatedStrength}

-- The byte of each class.
abbrev pub class_byte : Class → ℕ
class_byte Required = 0
class_byte Strong = 1
class_byte Medium = 2
class_byte Weak = 3

-- A byte is read as the class whose byte it is; any other is handed back.
abbrev pub Reads : ℕ → Result Class UnknownClass → Type 0
Reads byte (Ok class) = byte ≡ class_byte class
Reads byte (Err unknown) = (3 < byte) × (unknown.0 ≡ byte)

-- A class is 0 required, 1 strong, 2 medium or 3 weak.
abbrev pub is_class : ℕ → Bool
is_class class = nat_le class 3

-- The class ranking: the lower class is before.
abbrev pub class_ranks : Ranks ℕ
class_ranks = record { known = is_class; order = nat_cmp }

-- The dated ranking: the earlier day is before, and on one day the lower class.
abbrev pub dated_ranks : Ranks DatedStrength
dated_ranks = record {
  known = λ a. is_class a.class;
  order = λ a b. ordering_then (nat_cmp a.day b.day) (nat_cmp a.class b.class);
}
