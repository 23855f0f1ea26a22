-- What a rule in a state is: it stands if it waits or is in force, and is not both.
use Rattle.std.proofs.Common.{◌≡◌, true, false, refl}
use Rattle.std.proofs.lemmas.Bool.{both_ways}
use Rattle.placing.specs.declared.rules.State.{State}
use Rattle.placing.specs.declared.rules.State.TheVariants.{Absent, Waiting, InForce}
use Rattle.placing.specs.Board.{is_standing, is_waiting, is_in_force}

-- A rule in force stands, and so does one that waits.
pub force_standing : (s : State) → is_in_force s ≡ true → is_standing s ≡ true
force_standing Absent h = h
force_standing Waiting h = refl
force_standing (InForce i) h = refl

pub waiting_standing : (s : State) → is_waiting s ≡ true → is_standing s ≡ true
waiting_standing Absent h = h
waiting_standing Waiting h = refl
waiting_standing (InForce i) h = refl

-- A rule that stands and does not wait is in force.
pub in_force_or_waits : (s : State) → is_standing s ≡ true → (is_waiting s ≡ true → ⊥) → is_in_force s ≡ true
in_force_or_waits Absent h never = h
in_force_or_waits Waiting h never = absurd (never refl)
in_force_or_waits (InForce i) h never = refl

pub neither_stands : (s : State) → is_waiting s ≡ false → is_in_force s ≡ false → is_standing s ≡ false
neither_stands Absent w f = refl
neither_stands Waiting w f = w
neither_stands (InForce i) w f = f

-- No rule waits and is in force.
pub not_both : (s : State) → is_waiting s ≡ true → is_in_force s ≡ true → ⊥
not_both Absent w f = both_ways _ refl w
not_both Waiting w f = both_ways _ refl f
not_both (InForce i) w f = both_ways _ refl w
