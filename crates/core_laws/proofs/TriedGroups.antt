-- What was tried on the disk in vain is of failed transactions: in the opening state, and after every event.
use Rattle.std.proofs.Common.{◌≡◌, ℕ, ◌+◌, Bool, true, false, ◌&&◌, not, List, [], ◌∷◌, length, refl, sym, ap, ◌∙◌, subst, Option, Some, None, is_some, inl, inr, nat_lt, nat_le}
use Rattle.std.proofs.lemmas.Bool.{true≢false, false≢true}
use Rattle.std.specs.Prelude.{◌⊎◌, ◌==◌}
use Rattle.graph_model.specs.declared.graph.Base.{Base}
use Rattle.graph_model.specs.declared.record.Record.{Record}
use Rattle.core_kept.specs.Bounds.{Kept}
use Rattle.core_kept.proofs.GroupSteps.{if_log, if_group}
use Rattle.core_states.specs.declared.actor.Actor.{Actor}
use Rattle.core_states.specs.declared.clock.Clock.{Clock}
use Rattle.core_states.specs.declared.disk_records.DiskRecords.{DiskRecords}
use Rattle.core_states.specs.declared.event.Act.{Act}
use Rattle.core_states.specs.declared.event.Act.TheVariants as act
use Rattle.core_states.specs.declared.event.Reach.{Reach}
use Rattle.core_states.specs.declared.event.Reach.TheVariants as reach
use Rattle.core_states.specs.ClockEvents.{ClockMove}
use Rattle.core_states.specs.Enabled.{is_enabled}
use Rattle.core_states.specs.Faults.{RunsWith, FaultedWith, FailedAs, AllFailed, tried_on, TriedHaveFailed}
use Rattle.core_states.specs.LogEvents.{LogMove, GroupMove, writes, mends, collects, publishes}
use Rattle.core_states.specs.LogParts.{LogPart, Found, found_records, is_held_by, may_take, with_durable, with_attempt, without_attempt, more_tried}
use Rattle.core_states.specs.Names.{Name}
use Rattle.core_states.specs.Numbers.{numbered}
use Rattle.core_states.specs.Openings.{opening}
use Rattle.core_states.specs.Records.{In}
use Rattle.core_states.specs.RowEvents.{RowMove, Limits}
use Rattle.core_states.specs.States.{State, clock_event, row_event, log_event, group_event, reach_of, after_clock, after_row, after_log, after_group, after_at, after}
use Rattle.core_states.proofs.Enabled.{tells_enabled}
use Rattle.core_laws.proofs.FailedRecords.{fail_fails, failed_stays}

-- ---- a record with another epoch

-- it is that of the same transaction
with_epoch : (s : State) (b a n : ℕ) (r : Record) → FailedAs s b a r → FailedAs s b a (record r { epoch = n })
with_epoch s b a n r (kept, inl h) = (kept, inl (record { actor = h.actor; txn = h.txn; runs = h.runs; queued = h.queued; number = h.number; read = h.read; changes = h.changes }))
with_epoch s b a n r (kept, inr h) = (kept, inr (record { actor = h.actor; receipt = h.receipt; among = h.among; number = h.number; read = h.read; changes = h.changes; ends = h.ends }))

-- so where each record of a group has failed, so has each that got an epoch
numbered_failed : (s : State) (b a n : ℕ) (rs : List Record) → ((r : Record) → In r rs → FailedAs s b a r) → (r : Record) → In r (numbered n rs) → FailedAs s b a r
numbered_failed s b a n [] all r m = absurd m
numbered_failed s b a n (x ∷ rs) all r (inl is) = subst (FailedAs s b a) (sym is) (with_epoch s b a n x (all x (inl refl)))
numbered_failed s b a n (x ∷ rs) all r (inr m) = numbered_failed s b a n rs (λ y k. all y (inr k)) r m

-- ---- what was tried before

-- a failed record stays failed, and so do all
all_stay : (base : Base) (most : Limits) (s : State) (i : Name) (action : Act) (groups : List (List Record)) → Kept base most s → AllFailed s groups → AllFailed (after most s i action) groups
all_stay base most s i action [] kept all = tt
all_stay base most s i action (g ∷ groups) kept all =
    (λ r m. let h = all.0 r m in (h.0, h.1, failed_stays base most s i action h.0 h.1 r kept h.2), all_stay base most s i action groups kept all.1)

-- ---- the events that try nothing

same_tried : (m : ℕ) (rs : List Record) (o : Option DiskRecords) → (tried_on (with_durable m rs o) ≡ tried_on o) × (tried_on (without_attempt o) ≡ tried_on o)
same_tried m rs None = (refl, refl)
same_tried m rs (Some d) = (refl, refl)

abbrev LogTries : LogPart → Option LogMove → Type 0
LogTries log None = Unit {0}
LogTries log (Some m) = tried_on m.log.disk ≡ tried_on log.disk

log_tries : (action : Act) (i : Name) (log : LogPart) (a : Actor) → LogTries log (log_event action i log a)
log_tries act.Open i log a = tt
log_tries act.Close i log a = tt
log_tries act.Begin i log a = tt
log_tries act.Draw i log a = tt
log_tries act.Enqueue i log a = tt
log_tries act.Collect i log a = tt
log_tries act.Publish i log a = tt
log_tries (act.Fail f c) i log a = tt
log_tries act.Outcome i log a = tt
log_tries act.Done i log a = tt
log_tries act.Seen i log a = tt
log_tries act.End i log a = tt
log_tries act.Horizon i log a = tt
log_tries (act.Look v) i log a = tt
log_tries (act.Put v l d p) i log a = tt
log_tries (act.Del v l d) i log a = tt
log_tries (act.Set v p) i log a = tt
log_tries (act.Drop v) i log a = tt
log_tries (act.New v p) i log a = tt
log_tries (act.Read q) i log a = tt
log_tries (act.Apply v) i log a = tt
log_tries (act.Undo v) i log a = tt
log_tries (act.WriteGroup m) i log a = if_log (LogTries log) (not (is_held_by i log.holder)) None _ (λ _. tt) (λ _. if_log (LogTries log) a.written None _ (λ _. tt) (λ _. if_log (LogTries log) (not log.mended) None _ (λ _. tt)
    (λ _. if_log (LogTries log) (nat_lt m log.moment) None _ (λ _. tt) (λ _. (same_tried m (numbered (log.durable + 1) a.group) log.disk).0))))
log_tries act.Mend i log a = if_log (LogTries log) log.mended None _ (λ _. tt) (λ _. if_log (LogTries log) (not (may_take i log.holder)) None _ (λ _. tt) (λ _. (same_tried 0 [] log.disk).1))

abbrev GroupTries : LogPart → Option GroupMove → Type 0
GroupTries log None = Unit {0}
GroupTries log (Some m) = tried_on m.log.disk ≡ tried_on log.disk

collect_tries : (i : Name) (log : LogPart) (k : Clock) (a : Actor) → GroupTries log (collects i log k a)
collect_tries i log k a = if_group (GroupTries log) (is_some log.holder) None _ (λ _. tt) (λ _. if_group (GroupTries log) (length k.queue == 0) None _ (λ _. tt) (λ _. refl))

publish_tries : (i : Name) (log : LogPart) (k : Clock) (a : Actor) → GroupTries log (publishes i log k a)
publish_tries i log k a = if_group (GroupTries log) (not (is_held_by i log.holder)) None _ (λ _. tt) (λ _. if_group (GroupTries log) (not a.written) None _ (λ _. tt) (λ _. refl))

-- ---- a fail

-- what was tried after a fail that could be done
fail_tries : (most : Limits) (s : State) (i : Name) (f c : ℕ) → is_enabled most s i (act.Fail f c) ≡ true
    → tried_on (after most s i (act.Fail f c)).log.disk ≡ tried_on (with_attempt (numbered (s.log.durable + 1) (s.actor i).group) s.log.disk)
fail_tries most s i f c enabled = by_move (is_held_by i s.log.holder) refl (s.actor i).written refl (nat_lt f c && nat_le s.log.greatest f) refl
  where
    by_move : (x : Bool) → is_held_by i s.log.holder ≡ x → (y : Bool) → (s.actor i).written ≡ y → (z : Bool) → (nat_lt f c && nat_le s.log.greatest f) ≡ z
        → tried_on (after most s i (act.Fail f c)).log.disk ≡ tried_on (with_attempt (numbered (s.log.durable + 1) (s.actor i).group) s.log.disk)
    by_move false a y b z d = absurd (false≢true (sym (rw a refl) ∙ enabled))
    by_move true a true b z d = absurd (false≢true (sym (rw (a, b) refl) ∙ enabled))
    by_move true a false b false d = absurd (false≢true (sym (rw (a, b, d) refl) ∙ enabled))
    by_move true a false b true d = rw (a, b, d) refl

-- the group is tried, where no attempt stands
one_more : (s : State) (b a : ℕ) (rs : List Record) (o : Option DiskRecords) → ((r : Record) → In r rs → FailedAs s b a r) → AllFailed s (tried_on o) → AllFailed s (tried_on (with_attempt rs o))
one_more s b a rs None new all = tt
one_more s b a rs (Some d) new all = by_attempt d.attempt
  where
    by_attempt : (o : Option (List Record)) → AllFailed s (more_tried o rs d.tried)
    by_attempt None = (λ r m. (b, a, new r m), all)
    by_attempt (Some qs) = all

-- ---- all events

-- where what was tried is the same
on_same : (base : Base) (most : Limits) (s : State) (i : Name) (action : Act) → Kept base most s → TriedHaveFailed s → tried_on (after most s i action).log.disk ≡ tried_on s.log.disk → TriedHaveFailed (after most s i action)
on_same base most s i action kept all same = subst (AllFailed (after most s i action)) (sym same) (all_stay base most s i action (tried_on s.log.disk) kept all)

on_fail : (base : Base) (most : Limits) (s : State) (i : Name) (f c : ℕ) → Kept base most s → TriedHaveFailed s → TriedHaveFailed (after most s i (act.Fail f c))
on_fail base most s i f c kept all = by_test (is_enabled most s i (act.Fail f c)) refl
  where
    z : State
    z = after most s i (act.Fail f c)

    group : List Record
    group = (s.actor i).group

    by_test : (b : Bool) → is_enabled most s i (act.Fail f c) ≡ b → TriedHaveFailed z
    by_test false e = subst TriedHaveFailed (sym ((tells_enabled most s i (act.Fail f c)).unchanged e)) all
    by_test true e =
        let new : (r : Record) → In r (numbered (s.log.durable + 1) group) → FailedAs z f c r = numbered_failed z f c (s.log.durable + 1) group (λ r m. fail_fails base most s i f c r kept e m) in
        subst (AllFailed z) (sym (fail_tries most s i f c e))
        (one_more z f c (numbered (s.log.durable + 1) group) s.log.disk new (all_stay base most s i (act.Fail f c) (tried_on s.log.disk) kept all))

group_same : (s : State) (i : Name) (m : Option GroupMove) → GroupTries s.log m → tried_on (after_group s i m).log.disk ≡ tried_on s.log.disk
group_same s i None h = refl
group_same s i (Some m) h = h

on_group : (base : Base) (most : Limits) (s : State) (i : Name) (action : Act) → Kept base most s → TriedHaveFailed s → TriedHaveFailed (after_group s i (group_event action i s.log s.clock (s.actor i)))
on_group base most s i act.Open kept all = all
on_group base most s i act.Close kept all = all
on_group base most s i act.Begin kept all = all
on_group base most s i act.Draw kept all = all
on_group base most s i act.Enqueue kept all = all
on_group base most s i act.Collect kept all = on_same base most s i act.Collect kept all (group_same s i (collects i s.log s.clock (s.actor i)) (collect_tries i s.log s.clock (s.actor i)))
on_group base most s i act.Publish kept all = on_same base most s i act.Publish kept all (group_same s i (publishes i s.log s.clock (s.actor i)) (publish_tries i s.log s.clock (s.actor i)))
on_group base most s i (act.Fail f c) kept all = on_fail base most s i f c kept all
on_group base most s i act.Outcome kept all = all
on_group base most s i act.Done kept all = all
on_group base most s i act.Seen kept all = all
on_group base most s i act.End kept all = all
on_group base most s i act.Horizon kept all = all
on_group base most s i (act.Look v) kept all = all
on_group base most s i (act.Put v l d p) kept all = all
on_group base most s i (act.Del v l d) kept all = all
on_group base most s i (act.Set v p) kept all = all
on_group base most s i (act.Drop v) kept all = all
on_group base most s i (act.New v p) kept all = all
on_group base most s i (act.Read q) kept all = all
on_group base most s i (act.Apply v) kept all = all
on_group base most s i (act.Undo v) kept all = all
on_group base most s i (act.WriteGroup m) kept all = all
on_group base most s i act.Mend kept all = all

pub tried_stay : (base : Base) (most : Limits) (s : State) (i : Name) (action : Act) → Kept base most s → TriedHaveFailed s → TriedHaveFailed (after most s i action)
tried_stay base most s i action kept all = by_reach (reach_of action) refl
  where
    same : tried_on (after most s i action).log.disk ≡ tried_on s.log.disk → TriedHaveFailed (after most s i action)
    same = on_same base most s i action kept all

    clock_same : (m : Option ClockMove) → tried_on (after_clock s i m).log.disk ≡ tried_on s.log.disk
    clock_same None = refl
    clock_same (Some m) = refl

    row_same : (v : ℕ) (m : Option RowMove) → tried_on (after_row s i v m).log.disk ≡ tried_on s.log.disk
    row_same v None = refl
    row_same v (Some m) = refl

    log_same : (m : Option LogMove) → LogTries s.log m → tried_on (after_log s i m).log.disk ≡ tried_on s.log.disk
    log_same None h = refl
    log_same (Some m) h = h

    now : Reach → State
    now r = after_at r most s i action

    by_reach : (r : Reach) → reach_of action ≡ r → TriedHaveFailed (after most s i action)
    by_reach reach.Clock is = same (ap (λ r. tried_on (now r).log.disk) is ∙ clock_same (clock_event action s.clock (s.actor i)))
    by_reach (reach.Row v) is = same (ap (λ r. tried_on (now r).log.disk) is ∙ row_same v (row_event most action (s.row v) (s.actor i)))
    by_reach reach.Log is = same (ap (λ r. tried_on (now r).log.disk) is ∙ log_same (log_event action i s.log (s.actor i)) (log_tries action i s.log (s.actor i)))
    by_reach reach.LogAndClock is = subst TriedHaveFailed (ap now (sym is)) (on_group base most s i action kept all)

-- It holds in the opening state.
pub opening_tried : (base : Base) (found : Found) → TriedHaveFailed (opening base found)
opening_tried base found = by_records found.records
  where
    by_records : (o : Option (List Record)) → AllFailed (opening base found) (tried_on (found_records o))
    by_records None = tt
    by_records (Some rs) = tt
