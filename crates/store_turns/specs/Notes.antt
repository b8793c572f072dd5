-- What stays of a session's work while a change is noted.
use Rattle.std.specs.Prelude.{◌≡◌}
use Rattle.store_turns.specs.declared.session.Work.{Work}

-- all but the changes and their spelling
pub record KeepsNotes (old new : Work) : Type 0 where
  pub tid : new.tid ≡ old.tid
  pub read : new.read ≡ old.read
  pub row : new.row ≡ old.row
  pub stage : new.stage ≡ old.stage
  pub drawn : new.drawn ≡ old.drawn
  pub left : new.left ≡ old.left
  pub touched : new.touched ≡ old.touched
  pub settled : new.settled ≡ old.settled
