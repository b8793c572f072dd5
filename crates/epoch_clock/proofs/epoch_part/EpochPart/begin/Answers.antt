use Rattle.std.proofs.Common.{ℕ, ◌≡◌, ◌∙◌, ◌+◌, false, None, Some, slice_get, refl, sym, ap, subst, arith, rules}
use Rattle.group_commit.specs.Members.{records_at}
use Rattle.reader_table.specs.declared.row.Row.TheVariants.{Idle}
use Rattle.core_states.specs.Numbers.{outcome_of, has_record}
use Rattle.epoch_clock.specs.ActiveRows.{actives_of}
use Rattle.epoch_clock.specs.Decided.{outcomes_of, undone_of}
use Rattle.core_states.specs.declared.event.CoreAnswer.TheVariants as answer
use Rattle.epoch_clock.specs.Events.{BeginsTransaction}
use Rattle.epoch_clock.specs.CommitRooms.{HasRoomFor}
use Rattle.epoch_clock.specs.ClockCalls.{begun_clock}
use Rattle.epoch_clock.specs.EpochStates.{EpochState}
use Rattle.epoch_clock.specs.EpochKept.{rows_in, outcomes_in, clock_in}
use Rattle.epoch_clock.proofs.Rows.{entered}
use Rattle.epoch_clock.proofs.Outcomes.{undone_begun}
use Rattle.epoch_clock.proofs.Keeping.{fresh, facts_of, kept_of, facts_same, begun_facts, clock_is, same_commits, no_error}
use Rattle.epoch_clock.proofs.Events.{begins_is}
use Rattle.epoch_clock.proofs.epoch_part.EpochPart.begin.Goals as goal

pub invariant_of-self : goal.invariant_of-self
invariant_of-self c =
    same_commits c.self.inside c.reserve-room.new.self c.reserve-room.ensures.queue c.reserve-room.ensures.outcomes c.reserve-room.ensures.undone
    (c.reserve-room.ensures.keeps c.self.inside.undecided c.self.invariant.room) c.self.invariant

pub invariant_of-self-2 : goal.invariant_of-self-2
invariant_of-self-2 c =
    let a = c.self.inside in
    let h = c.self.invariant in
    let idle = subst (λ (s : EpochState). slice_get s.readers c.args.row ≡ Some Idle) (sym c.self.view_is) c.requires in
    let room = no_error c.reserve-room.result (HasRoomFor (a.undecided + 1) c.reserve-room.new.self) (search rules) c.reserve-room.ensures.room in
    let low = h.next_tid in
    kept_of (record { next_tid = a.next_tid + 1; next_vertex = a.next_vertex; last = a.last; visible = a.visible; undecided = a.undecided + 1; readers = c.enter.new.self; commits = c.reserve-room.new.self })
    (omega arith) h.next_vertex room
    (facts_same (a.next_tid + 1) a.last a.visible (a.undecided + 1) _ (actives_of c.enter.new.self) (outcomes_in a) (outcomes_of c.reserve-room.new.self.outcomes.kept)
    (records_at 0 a.commits.queue.members) (records_at 0 c.reserve-room.new.self.queue.members) a.commits.undone.items c.reserve-room.new.self.undone.items
    (ap actives_of c.enter.ensures ∙ entered a.readers c.args.row a.next_tid a.visible idle h.rows)
    (ap outcomes_of c.reserve-room.ensures.outcomes) (ap (records_at 0) c.reserve-room.ensures.queue) c.reserve-room.ensures.undone
    (begun_facts a.next_tid a.last a.visible a.undecided (rows_in a) (outcomes_in a) (records_at 0 a.commits.queue.members) a.commits.undone.items (facts_of a h)))

pub returns-clause-begun : goal.returns-clause-begun
returns-clause-begun c =
    let a = c.self.inside in
    let h = c.self.invariant in
    let idle = subst (λ (s : EpochState). slice_get s.readers c.args.row ≡ Some Idle) (sym c.self.view_is) c.requires in
    let rows = ap actives_of c.enter.ensures ∙ entered a.readers c.args.row a.next_tid a.visible idle h.rows in
    let outcomes = ap outcomes_of c.reserve-room.ensures.outcomes in
    clock_is _ (begun_clock (clock_in a)) refl refl refl refl rows (ap (records_at 0) c.reserve-room.ensures.queue)
    ((λ i. undone_of (outcomes i) (rows i)) ∙ undone_begun (record { tid = a.next_tid; epoch = a.visible }) (outcomes_in a) (rows_in a) (h.drawn a.next_tid (omega arith)))
    outcomes c.reserve-room.ensures.records c.reserve-room.ensures.moments
    ∙ ap (λ (s : EpochState). begun_clock s.clock) c.self.view_is

pub returns-clause-event : goal.returns-clause-event
returns-clause-event c =
    begins_is c.args.self.now.clock _ c.self.inside.next_tid c.self.inside.visible (ap (λ (s : EpochState). s.clock.next_tid) c.self.view_is) (ap (λ (s : EpochState). s.clock.visible) c.self.view_is)
    (λ over. (let next = ap (λ (s : EpochState). s.clock.next_tid) c.self.view_is in c.if-self-eq-NUMBER_END.false (next ∙ over))) (returns-clause-begun c)

pub returns-then-self-eq-NUMBER_END-clause-fresh : goal.returns-then-self-eq-NUMBER_END-clause-fresh
returns-then-self-eq-NUMBER_END-clause-fresh c =
    subst (λ (s : EpochState). (outcome_of s.clock.next_tid s.clock.outcomes ≡ None) × (has_record s.clock.next_tid s.clock.queue ≡ false)) c.self.view_is (fresh c.self.inside c.self.invariant)

pub returns-then-is_err-clause-fresh : goal.returns-then-is_err-clause-fresh
returns-then-is_err-clause-fresh c =
    subst (λ (s : EpochState). (outcome_of s.clock.next_tid s.clock.outcomes ≡ None) × (has_record s.clock.next_tid s.clock.queue ≡ false)) c.self.view_is (fresh c.self.inside c.self.invariant)

pub returns-clause-fresh : goal.returns-clause-fresh
returns-clause-fresh c =
    subst (λ (s : EpochState). (outcome_of s.clock.next_tid s.clock.outcomes ≡ None) × (has_record s.clock.next_tid s.clock.queue ≡ false)) c.self.view_is (fresh c.self.inside c.self.invariant)
