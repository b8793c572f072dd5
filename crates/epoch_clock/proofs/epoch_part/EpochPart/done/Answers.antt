use Rattle.std.proofs.Common.{ℕ, ◌≡◌, ◌∙◌, ◌+◌, ◌-◌, length, false, true, None, slice_get, get_or, is_some, refl, sym, ap, subst, arith}
use Rattle.std.proofs.Math.ListN.{set, length-set}
use Rattle.std.proofs.lemmas.List.{get_or_read}
use Rattle.reader_table.specs.Rows.{is_active}
use Rattle.core_states.specs.Numbers.{outcome_of}
use Rattle.epoch_clock.specs.ActiveRows.{is_running, tid_in}
use Rattle.epoch_clock.specs.Decided.{epoch_in, risen}
use Rattle.epoch_clock.specs.ClockCalls.{finished_clock}
use Rattle.epoch_clock.specs.EpochStates.{EpochState}
use Rattle.epoch_clock.specs.EpochKept.{outcomes_in, pending_in, clock_in}
use Rattle.epoch_clock.proofs.Keeping.{done_of, done_kept, done_clock}
use Rattle.epoch_clock.proofs.Events.{finishes_is}
use Rattle.epoch_clock.proofs.epoch_part.EpochPart.done.Goals as goal

pub overflow_sub-epoch : goal.overflow_sub-epoch
overflow_sub-epoch c =
    let a = c.self.inside in
    let undone_yet = subst (λ (s : EpochState). is_running c.args.tid s.clock.pending ≡ true) (sym c.self.view_is) c.requires.undone in
    let epoch : c.epoch_of-epoch.result ≡ epoch_in (outcome_of c.args.tid (outcomes_in a)) =
    c.epoch_of-epoch.ensures ∙ ap epoch_in c.outcome.ensures.kept ∙ ap (λ (s : EpochState). epoch_in (outcome_of c.args.tid s.clock.outcomes)) (sym c.self.view_is) in
    let d = done_of a c.args.tid c.epoch_of-epoch.result c.self.invariant undone_yet epoch in
    let low = d.above in omega arith

pub overflow_sub-epoch-2 : goal.overflow_sub-epoch-2
overflow_sub-epoch-2 c =
    let a = c.self.inside in
    let undone_yet = subst (λ (s : EpochState). is_running c.args.tid s.clock.pending ≡ true) (sym c.self.view_is) c.requires.undone in
    let epoch : c.epoch_of-epoch.result ≡ epoch_in (outcome_of c.args.tid (outcomes_in a)) =
    c.epoch_of-epoch.ensures ∙ ap epoch_in c.outcome.ensures.kept ∙ ap (λ (s : EpochState). epoch_in (outcome_of c.args.tid s.clock.outcomes)) (sym c.self.view_is) in
    let d = done_of a c.args.tid c.epoch_of-epoch.result c.self.invariant undone_yet epoch in
    let low = d.above in omega arith

pub index_mut-requires : goal.index_mut-requires
index_mut-requires c =
    let a = c.self.inside in
    let undone_yet = subst (λ (s : EpochState). is_running c.args.tid s.clock.pending ≡ true) (sym c.self.view_is) c.requires.undone in
    let epoch : c.epoch_of-epoch.result ≡ epoch_in (outcome_of c.args.tid (outcomes_in a)) =
    c.epoch_of-epoch.ensures ∙ ap epoch_in c.outcome.ensures.kept ∙ ap (λ (s : EpochState). epoch_in (outcome_of c.args.tid s.clock.outcomes)) (sym c.self.view_is) in
    let d = done_of a c.args.tid c.epoch_of-epoch.result c.self.invariant undone_yet epoch in
    let within = d.within in
    let ok = a.commits.undone.ok in omega arith

pub overflow_sub-index_mut : goal.overflow_sub-index_mut
overflow_sub-index_mut c =
    let a = c.self.inside in
    let undone_yet = subst (λ (s : EpochState). is_running c.args.tid s.clock.pending ≡ true) (sym c.self.view_is) c.requires.undone in
    let epoch : c.epoch_of-epoch.result ≡ epoch_in (outcome_of c.args.tid (outcomes_in a)) =
    c.epoch_of-epoch.ensures ∙ ap epoch_in c.outcome.ensures.kept ∙ ap (λ (s : EpochState). epoch_in (outcome_of c.args.tid s.clock.outcomes)) (sym c.self.view_is) in
    let d = done_of a c.args.tid c.epoch_of-epoch.result c.self.invariant undone_yet epoch in
    let some = d.some in
    let read = get_or_read a.commits.undone.items (c.epoch_of-epoch.result - a.visible - 1) c.index_mut.result.now d.within c.index_mut.ensures.value 0 in
    omega arith

pub invariant_of-self : goal.invariant_of-self
invariant_of-self c =
    let a = c.self.inside in
    let active = subst (λ (s : EpochState). is_active (slice_get s.readers c.args.row) ≡ true) (sym c.self.view_is) c.requires.active in
    let own = subst (λ (s : EpochState). tid_in (slice_get s.readers c.args.row) ≡ c.args.tid) (sym c.self.view_is) c.requires.own in
    let undone_yet = subst (λ (s : EpochState). is_running c.args.tid s.clock.pending ≡ true) (sym c.self.view_is) c.requires.undone in
    let epoch : c.epoch_of-epoch.result ≡ epoch_in (outcome_of c.args.tid (outcomes_in a)) =
    c.epoch_of-epoch.ensures ∙ ap epoch_in c.outcome.ensures.kept ∙ ap (λ (s : EpochState). epoch_in (outcome_of c.args.tid s.clock.outcomes)) (sym c.self.view_is) in
    let d = done_of a c.args.tid c.epoch_of-epoch.result c.self.invariant undone_yet epoch in
    let read = get_or_read a.commits.undone.items (c.epoch_of-epoch.result - a.visible - 1) c.index_mut.result.now d.within c.index_mut.ensures.value 0 in
    done_kept a c.args.row c.epoch_of-epoch.result c.rise-self-inside.result c.leave.new.self c.rise-self-inside.new.undone c.self.invariant active c.leave.ensures
    (subst (λ (t : ℕ). is_running t (pending_in a) ≡ true) (sym own) undone_yet)
    (epoch ∙ ap (λ (t : ℕ). epoch_in (outcome_of t (outcomes_in a))) (sym own))
    (c.rise-self-inside.ensures.undone ∙ ap (λ (n : ℕ). risen (set a.commits.undone.items (c.epoch_of-epoch.result - a.visible - 1) (n - 1))) read)
    (c.rise-self-inside.ensures.visible ∙ ap (λ (n : ℕ). a.visible + n) (length-set a.commits.undone.items (c.epoch_of-epoch.result - a.visible - 1) (c.index_mut.result.now - 1)))
    c.rise-self-inside.ensures.keeps

pub returns-clause-finished : goal.returns-clause-finished
returns-clause-finished c =
    let a = c.self.inside in
    let active = subst (λ (s : EpochState). is_active (slice_get s.readers c.args.row) ≡ true) (sym c.self.view_is) c.requires.active in
    let own = subst (λ (s : EpochState). tid_in (slice_get s.readers c.args.row) ≡ c.args.tid) (sym c.self.view_is) c.requires.own in
    let undone_yet = subst (λ (s : EpochState). is_running c.args.tid s.clock.pending ≡ true) (sym c.self.view_is) c.requires.undone in
    let epoch : c.epoch_of-epoch.result ≡ epoch_in (outcome_of c.args.tid (outcomes_in a)) =
    c.epoch_of-epoch.ensures ∙ ap epoch_in c.outcome.ensures.kept ∙ ap (λ (s : EpochState). epoch_in (outcome_of c.args.tid s.clock.outcomes)) (sym c.self.view_is) in
    let d = done_of a c.args.tid c.epoch_of-epoch.result c.self.invariant undone_yet epoch in
    let read = get_or_read a.commits.undone.items (c.epoch_of-epoch.result - a.visible - 1) c.index_mut.result.now d.within c.index_mut.ensures.value 0 in
    done_clock a c.args.row c.epoch_of-epoch.result c.rise-self-inside.result c.leave.new.self c.rise-self-inside.new.undone c.self.invariant active c.leave.ensures
    (subst (λ (t : ℕ). is_running t (pending_in a) ≡ true) (sym own) undone_yet)
    (epoch ∙ ap (λ (t : ℕ). epoch_in (outcome_of t (outcomes_in a))) (sym own))
    (c.rise-self-inside.ensures.undone ∙ ap (λ (n : ℕ). risen (set a.commits.undone.items (c.epoch_of-epoch.result - a.visible - 1) (n - 1))) read)
    (c.rise-self-inside.ensures.visible ∙ ap (λ (n : ℕ). a.visible + n) (length-set a.commits.undone.items (c.epoch_of-epoch.result - a.visible - 1) (c.index_mut.result.now - 1)))
    c.rise-self-inside.ensures.keeps
    ∙ (λ i. finished_clock (own i) (clock_in a))
    ∙ ap (λ (s : EpochState). finished_clock c.args.tid s.clock) c.self.view_is

pub returns-clause-event : goal.returns-clause-event
returns-clause-event c = finishes_is c.args.self.now.clock _ c.args.tid (returns-clause-finished c)
