use Rattle.std.proofs.Common.{◌≡◌, ◌∙◌, true, slice_get, ap, sym}
use Rattle.reader_table.specs.Rows.{is_active}
use Rattle.epoch_clock.specs.ActiveRows.{is_running, tid_in}
use Rattle.epoch_clock.specs.EpochStates.{EpochState}
use Rattle.epoch_clock.proofs.Rows.{in_row, runs_in}
use Rattle.epoch_clock.proofs.epoch_part.EpochPart.row.Goals as goal

pub returns-clause-row : goal.returns-clause-row
returns-clause-row c = c.row.ensures.row ∙ ap (λ (s : EpochState). slice_get s.readers c.args.row) c.self.view_is

pub returns-clause-runs : goal.returns-clause-runs
returns-clause-runs c active =
    let a = c.self.inside in
    let here : is_active (slice_get a.readers c.args.row) ≡ true = ap is_active (sym c.row.ensures.row) ∙ active in
    let runs = in_row a.readers c.args.row here in
    ap (λ o. is_running (tid_in o) c.args.self.now.clock.rows) c.row.ensures.row
    ∙ ap (λ (s : EpochState). is_running (tid_in (slice_get a.readers c.args.row)) s.clock.rows) (sym c.self.view_is)
    ∙ runs_in a.readers c.args.row (tid_in (slice_get a.readers c.args.row)) runs.0 runs.1
