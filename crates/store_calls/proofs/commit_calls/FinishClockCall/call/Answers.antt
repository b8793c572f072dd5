use Rattle.std.proofs.Common.{refl, sym, ap, ◌∙◌, arith, slice_get, slice_set}
use Rattle.reader_table.specs.declared.row.Row.TheVariants.{Closed}
use Rattle.store_turns.specs.IdleRows.{has_idle}
use Rattle.store_turns.specs.Moves.{Won}
use Rattle.store_calls.proofs.Answering.{set_idle, close_left, stage_won}
use Rattle.store_calls.proofs.Records.{runs_in, undone_in}
use Rattle.store_calls.proofs.CommitMoves.{does_finish}
use Rattle.store_calls.proofs.commit_calls.FinishClockCall.call.Goals as goal
use Rattle.store_calls.proofs.commit_calls.FinishClockCall.call.Goals.{In_ok-epoch}

-- the record is committed
won : (c : In_ok-epoch) → Won c.args.session.now c.in_ok-work.work.now c.in_ok-epoch.epoch
won c = record { is = sym c.in_ok-work.ensures.value; stage = stage_won c.in_ok-work.work.now.stage c.in_ok-epoch.epoch (sym c.in_ok-epoch.ensures) }

pub row_of-row-requires : goal.row_of-row-requires
row_of-row-requires c = runs_in c.args.home.now.part.clock c.args.session.now c.in_ok-work.work.now c.requires.known (sym c.in_ok-work.ensures.value)

pub done-requires-clause-undone : goal.done-requires-clause-undone
done-requires-clause-undone c = undone_in c.args.home.now.part.clock c.args.session.now c.in_ok-work.work.now c.requires.known (sym c.in_ok-work.ensures.value) c.in_ok-epoch.epoch (won (goal.at.done-requires-clause-undone c).In_ok-epoch)

pub close_row-requires : goal.close_row-requires
close_row-requires c =
    ap (λ rows. slice_get rows c.row_of-row.result) c.done.ensures.row ∙ set_idle c.args.home.now.part.readers c.row_of-row.result c.in_ok-work.work.now.tid c.row_of-row.ensures

pub invariant_of-home : goal.invariant_of-home
invariant_of-home c =
    let at = c.row_of-row.result in
    record { busy = ap has_idle (c.close_row.ensures.closed ∙ ap (λ rows. slice_set rows at Closed) c.done.ensures.row) ∙ close_left c.args.home.now.part.readers at c.args.home.now.busy }

pub returns-clause-does : goal.returns-clause-does
returns-clause-does c =
    does_finish c.args.home.now.part.clock c.close_row.new.self.clock c.args.session.now c.in_ok-work.work.now c.in_ok-epoch.epoch (won (goal.at.returns-clause-does c).In_ok-epoch) (let few = c.len.ensures in let low = c.if-work-len.false in omega (arith, few, low))
    (c.close_row.ensures.keeps ∙ c.done.ensures.finished)

pub returns-clause-leaves : goal.returns-clause-leaves
returns-clause-leaves c = (refl, c.in_ok-work.work.now, c.in_ok-epoch.epoch, won (goal.at.returns-clause-leaves c).In_ok-epoch, refl)
