use Rattle.std.proofs.Common.{◌≡◌, ◌∙◌, List, Result, Ok, Err, ap}
use Rattle.std.specs.Prelude.{OnOk, OnErr}
use Rattle.reader_table.specs.declared.row.Row.{Row}
use Rattle.reader_table.specs.Rows.{opened}
use Rattle.epoch_clock.specs.ActiveRows.{actives_of}
use Rattle.epoch_clock.specs.EpochStates.{EpochState}
use Rattle.epoch_clock.proofs.Rows.{row_opened}
use Rattle.epoch_clock.proofs.Keeping.{same_rows_kept, same_rows_clock}
use Rattle.epoch_clock.proofs.Events.{opens_is}
use Rattle.epoch_clock.proofs.epoch_part.EpochPart.open_row.Goals as goal

-- whether a row was opened or not, the same transactions run
still : {T E : Type 0} (r : Result T E) (old new : List Row) → OnOk r (new ≡ opened old) → OnErr r (new ≡ old) → actives_of new ≡ actives_of old
still (Ok x) old new ok err = ap actives_of ok ∙ row_opened old
still (Err e) old new ok err = ap actives_of err

pub invariant_of-self : goal.invariant_of-self
invariant_of-self c =
    same_rows_kept c.self.inside c.open_row.new.self (still c.open_row.result c.self.inside.readers c.open_row.new.self c.open_row.ensures.opened c.open_row.ensures.unchanged) c.self.invariant

pub returns-clause-keeps : goal.returns-clause-keeps
returns-clause-keeps c =
    same_rows_clock c.self.inside c.open_row.new.self (still c.open_row.result c.self.inside.readers c.open_row.new.self c.open_row.ensures.opened c.open_row.ensures.unchanged)
    ∙ ap (λ (s : EpochState). s.clock) c.self.view_is

at_ok : {T E : Type 0} (r : Result T E) (P : Type 0) → P → OnOk r P
at_ok (Ok x) P h = h
at_ok (Err e) P h = tt

pub returns-clause-event : goal.returns-clause-event
returns-clause-event c = at_ok c.open_row.result _ (opens_is c.args.self.now.clock _ (returns-clause-keeps c))
