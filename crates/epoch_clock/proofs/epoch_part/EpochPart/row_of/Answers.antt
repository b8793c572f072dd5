use Rattle.std.proofs.Common.{◌≡◌, ◌<◌, ◌≤◌, ◌^◌, ℕ, None, length, slice_get, sym, ap, ◌∙◌, subst, arith, ◌⊎◌, inl, inr}
use Rattle.reader_table.specs.declared.row.Row.{Row}
use Rattle.epoch_clock.specs.ActiveRows.{RunsIn, is_running}
use Rattle.epoch_clock.specs.EpochStates.{EpochState}
use Rattle.epoch_clock.proofs.Rows.{found_in, past_all}
use Rattle.epoch_clock.proofs.epoch_part.EpochPart.row_of.Goals as goal

pub unreachable-requires : goal.unreachable-requires
unreachable-requires c =
    let a = c.self.inside in
    let found = found_in a.readers c.args.tid (ap (λ (s : EpochState). is_running c.args.tid s.clock.rows) c.self.view_is ∙ c.requires) in
    let past : length a.readers ≤ c.loop-row.row = past_all a.readers c.loop-row.row (sym c.row-in-loop-row.ensures.row ∙ c.in_default.is) in
    let low = found.1 in
    c.loop-row.invariant found.0 (omega (arith, low, past)) (subst (λ (s : EpochState). RunsIn (slice_get s.readers found.0) c.args.tid) c.self.view_is found.2)

pub unreachable-requires-2 : goal.unreachable-requires-2
unreachable-requires-2 c =
    let a = c.self.inside in
    let found = found_in a.readers c.args.tid (ap (λ (s : EpochState). is_running c.args.tid s.clock.rows) c.self.view_is ∙ c.requires) in
    let few : length a.readers < 2 ^ 32 = c.row.ensures.few in
    let over = c.loop-row-test.false in
    let low = found.1 in
    c.loop-row.invariant found.0 (omega (arith, low, few, over)) (subst (λ (s : EpochState). RunsIn (slice_get s.readers found.0) c.args.tid) c.self.view_is found.2)
