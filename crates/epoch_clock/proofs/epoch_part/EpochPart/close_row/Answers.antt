use Rattle.std.proofs.Common.{◌≡◌, ◌∙◌, Some, slice_get, sym, ap, subst}
use Rattle.reader_table.specs.declared.row.Row.TheVariants.{Idle}
use Rattle.epoch_clock.specs.ActiveRows.{actives_of}
use Rattle.epoch_clock.specs.EpochStates.{EpochState}
use Rattle.epoch_clock.proofs.Rows.{closed}
use Rattle.epoch_clock.proofs.Keeping.{same_rows_kept, same_rows_clock}
use Rattle.epoch_clock.proofs.Events.{closes_is}
use Rattle.epoch_clock.proofs.epoch_part.EpochPart.close_row.Goals as goal

pub invariant_of-self : goal.invariant_of-self
invariant_of-self c =
    let idle = subst (λ (s : EpochState). slice_get s.readers c.args.row ≡ Some Idle) (sym c.self.view_is) c.requires in
    same_rows_kept c.self.inside c.close_row.new.self (ap actives_of c.close_row.ensures ∙ closed c.self.inside.readers c.args.row idle) c.self.invariant

pub returns-clause-keeps : goal.returns-clause-keeps
returns-clause-keeps c =
    let idle = subst (λ (s : EpochState). slice_get s.readers c.args.row ≡ Some Idle) (sym c.self.view_is) c.requires in
    same_rows_clock c.self.inside c.close_row.new.self (ap actives_of c.close_row.ensures ∙ closed c.self.inside.readers c.args.row idle)
    ∙ ap (λ (s : EpochState). s.clock) c.self.view_is

pub returns-clause-event : goal.returns-clause-event
returns-clause-event c = closes_is c.args.self.now.clock _ (returns-clause-keeps c)
