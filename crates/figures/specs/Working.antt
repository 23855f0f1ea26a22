-- The table that an update works on.
use Rattle.std.specs.Prelude.{◌≡◌}
use Rattle.figures.specs.declared.update.Working.{Working}
use Rattle.figures.specs.Update.{Table, table}

-- The figures behind the lent slice, with the blanks beside them.
abbrev pub table_of : {F : Type 0} → Working F → Table F
table_of w = table w.figures.now w.blanks.causes

-- The table goes on by a step, and the figures stay the caller's own slice.
pub record StepsBy {F : Type 0} (step : Table F → Table F) (old new : Working F) : Type 0 where
  pub table : table_of new ≡ step (table_of old)
  pub same_slice : new.figures.ghost_name ≡ old.figures.ghost_name
