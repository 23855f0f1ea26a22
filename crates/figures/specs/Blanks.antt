-- Blank cells and their causes.
use Rattle.std.specs.Prelude.{ℕ, Bool, List, ◌++◌, None, Option, codes, decimal, slice_index_or}
use Rattle.std.specs.Option.{is_some}
use Rattle.figures.specs.declared.blanks.Cause.{Cause}
use Rattle.figures.specs.declared.blanks.Cause.TheVariants.{GiverHeld, Faulted, InputBlank}

-- The number of a cause.
abbrev pub cause_number : Cause → ℕ
cause_number GiverHeld = 1
cause_number (Faulted fault) = 2
cause_number InputBlank = 3

-- The fault that is told with a cause, or 0.
abbrev pub cause_fault : Cause → ℕ
cause_fault GiverHeld = 0
cause_fault (Faulted fault) = fault.number
cause_fault InputBlank = 0

-- How a cause is shown: its number, and the fault or 0.
abbrev pub cause_text : Cause → List ℕ
cause_text cause = decimal (cause_number cause) ++ (codes " " ++ decimal (cause_fault cause))

-- Why a cell is blank, if it is.
abbrev pub cause_at : List (Option Cause) → ℕ → Option Cause
cause_at blanks c = slice_index_or blanks c None

-- Whether a cell is blank.
abbrev pub is_blank : List (Option Cause) → ℕ → Bool
is_blank blanks c = is_some (cause_at blanks c)
