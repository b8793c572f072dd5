use Rattle.std.proofs.Common.{sym, ap, ◌∙◌, arith, slice_get, slice_set}
use Rattle.core_states.specs.Numbers.{has_record, outcome_of}
use Rattle.epoch_clock.specs.Decided.{is_lost}
use Rattle.epoch_clock.specs.ClockCalls.{ended_clock}
use Rattle.reader_table.specs.declared.row.Row.TheVariants.{Closed}
use Rattle.store_turns.specs.IdleRows.{has_idle}
use Rattle.store_calls.proofs.Answering.{runs_active, set_idle, close_left}
use Rattle.store_calls.proofs.Records.{runs_in, lost_in, waits_not}
use Rattle.store_calls.proofs.ClockMoves.{does_end}
use Rattle.store_calls.proofs.clock_calls.EndClockCall.call.Goals as goal

pub row_of-row-requires : goal.row_of-row-requires
row_of-row-requires c = runs_in c.args.home.now.part.clock c.args.session.now c.in_ok-work.work.now c.requires.known (sym c.in_ok-work.ensures.value)

pub end-requires-clause-lost : goal.end-requires-clause-lost
end-requires-clause-lost c =
    let runs = runs_active (slice_get c.args.home.now.part.readers c.row_of-row.result) c.in_ok-work.work.now.tid c.row_of-row.ensures in
    ap (λ n. is_lost (outcome_of n c.args.home.now.part.clock.outcomes)) runs.1
    ∙ lost_in c.args.home.now.part.clock c.args.session.now c.in_ok-work.work.now c.requires.known (sym c.in_ok-work.ensures.value) (sym c.if-not-is_lost.ensures)

pub end-requires-clause-not_queued : goal.end-requires-clause-not_queued
end-requires-clause-not_queued c =
    let runs = runs_active (slice_get c.args.home.now.part.readers c.row_of-row.result) c.in_ok-work.work.now.tid c.row_of-row.ensures in
    ap (λ n. has_record n c.args.home.now.part.clock.queue) runs.1
    ∙ waits_not c.args.home.now.part.clock c.args.session.now c.in_ok-work.work.now c.requires.known (sym c.in_ok-work.ensures.value) (sym c.if-not-is_lost.ensures)

pub close_row-requires : goal.close_row-requires
close_row-requires c =
    ap (λ rows. slice_get rows c.row_of-row.result) c.end.ensures.row ∙ set_idle c.args.home.now.part.readers c.row_of-row.result c.in_ok-work.work.now.tid c.row_of-row.ensures

pub returns-clause-does : goal.returns-clause-does
returns-clause-does c =
    let runs = runs_active (slice_get c.args.home.now.part.readers c.row_of-row.result) c.in_ok-work.work.now.tid c.row_of-row.ensures in
    does_end c.args.home.now.part.clock c.close_row.new.self.clock c.args.session.now c.in_ok-work.work.now (sym c.in_ok-work.ensures.value) (sym c.if-not-is_lost.ensures) (let few = c.len.ensures in let low = c.if-work-len.false in omega (arith, few, low))
    (c.close_row.ensures.keeps ∙ c.end.ensures.ended ∙ ap (λ n. ended_clock n c.args.home.now.part.clock) runs.1)

pub invariant_of-home : goal.invariant_of-home
invariant_of-home c =
    let at = c.row_of-row.result in
    record { busy = ap has_idle (c.close_row.ensures.closed ∙ ap (λ rows. slice_set rows at Closed) c.end.ensures.row) ∙ close_left c.args.home.now.part.readers at c.args.home.now.busy }
