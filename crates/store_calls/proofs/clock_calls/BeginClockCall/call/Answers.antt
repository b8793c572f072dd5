use Rattle.std.proofs.Common.{◌≡◌, sym, ap, ◌∙◌, refl, Some, slice_get, slice_set}
use Rattle.std.specs.Prelude.{Err}
use Rattle.reader_table.specs.declared.row.Row.TheVariants.{Idle, Closed, Active}
use Rattle.reader_table.specs.Rows.{opened, first_closed}
use Rattle.core_states.specs.declared.clock.Clock.{Clock}
use Rattle.epoch_clock.specs.ClockCalls.{begun_clock}
use Rattle.epoch_clock.specs.EpochStates.{EpochState}
use Rattle.epoch_clock.specs.declared.drawn.Drawn.{Drawn}
use Rattle.epoch_clock.specs.declared.drawn.BeginRefusal.TheVariants as refusal
use Rattle.store_turns.specs.IdleRows.{has_idle}
use Rattle.store_calls.proofs.Answering.{none_is, opened_idle, set_opened, if_ok, on_ok, ok_not_err}
use Rattle.store_calls.proofs.ClockMoves.{does_begin, does_begin_spent}
use Rattle.store_calls.proofs.clock_calls.BeginClockCall.call.Goals as goal
use Rattle.store_calls.proofs.clock_calls.BeginClockCall.call.Goals.{After-open_row, In_ok-row}

-- the rows with the one that was opened
opened_at : (c : In_ok-row) → (c.in_ok-row.row ≡ first_closed c.args.home.now.part.readers) × (c.open_row.new.self.readers ≡ opened c.args.home.now.part.readers)
opened_at c =
    let old = c.args.home.now.part in
    let was = sym c.ok.ensures.value ∙ c.in_ok-row.was in (
      if_ok c.open_row.result c.in_ok-row.row (λ row. row ≡ first_closed old.readers) was c.open_row.ensures.row,
      on_ok c.open_row.result c.in_ok-row.row (c.open_row.new.self.readers ≡ opened old.readers) was c.open_row.ensures.opened,
    )

-- that one is idle
idle : (c : In_ok-row) → slice_get c.open_row.new.self.readers c.in_ok-row.row ≡ Some Idle
idle c = let at = opened_at c in (λ i. slice_get (at.1 i) (at.0 i)) ∙ opened_idle c.args.home.now.part.readers

pub begin-requires : goal.begin-requires
begin-requires c = idle (goal.at.begin-requires c).In_ok-row

pub close_row-requires : goal.close_row-requires
close_row-requires c = ap (λ (s : EpochState). slice_get s.readers c.in_ok-row.row) c.in-Err.ensures.unchanged ∙ idle (goal.at.close_row-requires c).In_ok-row

pub returns-in-Ok-clause-does : goal.returns-in-Ok-clause-does
returns-in-Ok-clause-does c =
    let k = c.args.home.now.part.clock in
    let same : c.open_row.new.self.clock ≡ k = c.open_row.ensures.keeps in
    let drawn : c.in-Ok.drawn ≡ record { tid = k.next_tid; read = k.visible } = c.in-Ok.ensures.drawn ∙ (λ i. record { tid = (same i).next_tid; read = (same i).visible }) in
    let new = c.new.ensures in
    does_begin k c.begin.new.self.clock c.args.session.now c.new.result c.in-Ok.drawn.tid c.in-Ok.drawn.read c.if-not-session.false (none_is c.args.session.now.work (sym c.is_some.ensures ∙ c.if-is_some.false))
    (λ over. ok_not_err c.begin.result c.in-Ok.drawn refusal.Spent c.in-Ok.is (c.begin.ensures.spent.1 (ap (λ (z : Clock). z.next_tid) same ∙ over)))
    (record { tid = new.0 ∙ ap (λ (d : Drawn). d.tid) drawn; read = new.1 ∙ ap (λ (d : Drawn). d.read) drawn; stage = new.7; drawn = new.8; changes = new.3; touched = new.4; settled = new.5; left = new.6 })
    new.0 new.1 (c.in-Ok.ensures.begun ∙ ap begun_clock same)

pub returns-in-Spent-clause-does : goal.returns-in-Spent-clause-does
returns-in-Spent-clause-does c =
    let k = c.args.home.now.part.clock in
    let same : c.open_row.new.self.clock ≡ k = c.open_row.ensures.keeps in
    does_begin_spent k c.close_row.new.self.clock c.args.session.now c.if-not-session.false (none_is c.args.session.now.work (sym c.is_some.ensures ∙ c.if-is_some.false))
    (sym (ap (λ (z : Clock). z.next_tid) same) ∙ c.begin.ensures.spent.0 (c.in-Err.is ∙ ap Err c.in-Spent.is))
    (c.close_row.ensures.keeps ∙ ap (λ (s : EpochState). s.clock) c.in-Err.ensures.unchanged ∙ same)

pub returns-in-Ok-clause-leaves : goal.returns-in-Ok-clause-leaves
returns-in-Ok-clause-leaves c =
    let new = c.new.ensures in
    (c.new.result, refl, record { tid = new.0; read = new.1; stage = new.7; changes = new.3; touched = new.4; settled = new.5 })

pub invariant_of-home-in-Ok-1 : goal.invariant_of-home-in-Ok-1
invariant_of-home-in-Ok-1 c =
    let at = opened_at (goal.at.invariant_of-home-in-Ok-1 c).In_ok-row in
    let row = Active c.open_row.new.self.clock.next_tid c.open_row.new.self.clock.visible in
    record { busy = ap has_idle (c.in-Ok.ensures.row ∙ (λ i. slice_set (at.1 i) (at.0 i) row)) ∙ set_opened c.args.home.now.part.readers row refl c.args.home.now.busy }

pub invariant_of-home-in-Err : goal.invariant_of-home-in-Err
invariant_of-home-in-Err c =
    let at = opened_at (goal.at.invariant_of-home-in-Err c).In_ok-row in
    let rows = ap (λ (s : EpochState). s.readers) c.in-Err.ensures.unchanged in
    record { busy = ap has_idle (c.close_row.ensures.closed ∙ (λ i. slice_set (rows i) c.in_ok-row.row Closed) ∙ (λ i. slice_set (at.1 i) (at.0 i) Closed)) ∙ set_opened c.args.home.now.part.readers Closed refl c.args.home.now.busy }
