-- How the group of a leader ends, and what the leader's session knows of it.
use Rattle.std.specs.Prelude.{◌≡◌, ℕ, ◌+◌, ◌<◌, Bool, true, false, List, [], ◌∷◌, ◌++◌, map, Option, Some, None, Result, Ok, Err}
use Rattle.graph_model.specs.declared.record.Outcome.{Outcome}
use Rattle.graph_model.specs.declared.record.Outcome.TheVariants.{Committed, Failed}
use Rattle.graph_model.specs.declared.record.Record.{Record}
use Rattle.graph_wal.specs.declared.disk_fault.DiskFault.{DiskFault}
use Rattle.core_calls.specs.Events.{Told, told}
use Rattle.core_states.specs.declared.clock.Clock.{Clock}
use Rattle.core_states.specs.declared.event.Act.TheVariants as act
use Rattle.core_states.specs.declared.event.CoreAnswer.TheVariants as answer
use Rattle.core_states.specs.declared.transaction.Stage.TheVariants.{Decided}
use Rattle.core_states.specs.Names.{Name}
use Rattle.core_states.specs.Numbers.{has_record}
use Rattle.epoch_clock.specs.ClockCalls.{published_clock, failed_clock}
use Rattle.turn_board.specs.Views.{Done}
use Rattle.store_turns.specs.declared.session.Session.{Session}
use Rattle.store_turns.specs.declared.session.Work.{Work}
use Rattle.store_turns.specs.Grows.{done_by}
use Rattle.store_leads.specs.declared.appending.Tried.{Tried}
use Rattle.store_leads.specs.declared.ending.End.{End}
use Rattle.store_leads.specs.declared.ending.End.TheVariants as ending
use Rattle.store_leads.specs.declared.ending.Ended.{Ended}

-- ---- its events

abbrev pub mend_told : Bool → List Told
mend_told true = told act.Mend answer.Done ∷ []
mend_told false = []

abbrev pub end_told : End → List Told
end_told (ending.Published moment epoch) = told (act.WriteGroup moment) answer.Done ∷ told act.Publish (answer.Published epoch) ∷ []
end_told (ending.Failed before after) = told (act.Fail before after) answer.Done ∷ []

-- the log was mended, or was not, and the group was written and published, or given up
abbrev pub ending_told : Bool → End → List Told
ending_told mended end = mend_told mended ++ end_told end

abbrev pub dones : Name → List Told → List Done
dones n ts = map (λ t. done_by n t) ts

-- ---- the end

-- the end is that of this answer
abbrev pub IsEndOf : Result ℕ DiskFault → Clock → End → Type 0
IsEndOf (Ok m) k (ending.Published moment epoch) = (moment ≡ m) × (epoch ≡ k.last + 1)
IsEndOf (Ok m) k (ending.Failed before after) = ⊥
IsEndOf (Err e) k (ending.Published moment epoch) = ⊥
IsEndOf (Err e) k (ending.Failed before after) = (before ≡ e.before) × (after ≡ e.after)

abbrev pub outcome_by : End → Outcome
outcome_by (ending.Published moment epoch) = Committed epoch
outcome_by (ending.Failed before after) = Failed before after

abbrev pub clock_by : End → List Record → Clock → Clock
clock_by (ending.Published moment epoch) rs k = published_clock moment rs k
clock_by (ending.Failed before after) rs k = failed_clock before after rs k

-- the record of a session's transaction is of the group
abbrev pub own_in : List Record → Option Work → Bool
own_in rs None = false
own_in rs (Some t) = has_record t.tid rs

-- and the session then knows the outcome
abbrev pub told_if : Bool → Outcome → Option Work → Option Work
told_if own o None = None
told_if true o (Some t) = Some (record t { stage = Decided o })
told_if false o (Some t) = Some t

-- a fault's count rose
abbrev pub RoseIf : Result ℕ DiskFault → Type 0
RoseIf (Ok m) = Unit {0}
RoseIf (Err e) = e.before < e.after

-- The group has ended on the clock, and for the session.
pub record EndsGroup (rs : List Record) (tried : Tried) (k : Clock) (s : Session) (x : Ended) (k' : Clock) (s' : Session) : Type 0 where
  pub index : x.index ≡ s.index
  pub mended : x.mended ≡ tried.mended
  pub end : IsEndOf tried.answer k x.end
  pub clock : k' ≡ clock_by x.end rs k
  pub session : s' ≡ record s { work = told_if (own_in rs s.work) (outcome_by x.end) s.work }
