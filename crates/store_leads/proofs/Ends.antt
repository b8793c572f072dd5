-- The end of a leader's group as events of the core.
use Rattle.std.proofs.Common.{◌≡◌, ℕ, ◌+◌, Bool, true, false, List, [], ◌∷◌, refl, sym, ap, ◌∙◌, subst, None, Some, Result, Ok, Err}
use Rattle.graph_model.specs.declared.record.Outcome.TheVariants.{Committed, Failed}
use Rattle.graph_model.specs.declared.record.Record.{Record}
use Rattle.graph_wal.specs.declared.disk_fault.DiskFault.{DiskFault}
use Rattle.group_commit.specs.Encoded.{Encoded}
use Rattle.group_commit.specs.Members.{records_at}
use Rattle.core_calls.specs.Events.{told}
use Rattle.core_states.specs.declared.actor.Actor.{Actor}
use Rattle.core_states.specs.declared.clock.Clock.{Clock}
use Rattle.core_states.specs.declared.event.Act.TheVariants as act
use Rattle.core_states.specs.declared.event.CoreAnswer.TheVariants as answer
use Rattle.core_states.specs.LogEvents.{LogMove, publishes, without_group}
use Rattle.core_states.specs.LogParts.{LogPart}
use Rattle.core_states.specs.Names.{Name}
use Rattle.core_states.specs.Numbers.{numbered}
use Rattle.core_states.specs.Parts.{actor_of}
use Rattle.core_laws.proofs.Actors.{actor_here}
use Rattle.epoch_clock.specs.ClockCalls.{published_clock, failed_clock}
use Rattle.turn_board.specs.Ones.{going_on_log}
use Rattle.turn_board.specs.Views.{View}
use Rattle.store_turns.specs.Grows.{done_by}
use Rattle.store_log.specs.LogChanges.{in_hands, with_group, with_fault, without_fault}
use Rattle.store_log.proofs.Leaders.{append-event, fault-event, mend-event, numbered-members, own-hands}
use Rattle.store_leads.specs.declared.appending.Tried.{Tried}
use Rattle.store_leads.specs.declared.ending.End.{End}
use Rattle.store_leads.specs.declared.ending.End.TheVariants as ending
use Rattle.store_leads.specs.Appends.{Answers, Mends, mended_if, HasTried}
use Rattle.store_leads.specs.Endings.{end_told, ending_told, IsEndOf, outcome_by, clock_by}
use Rattle.store_leads.specs.Leads.{log_held, both_held}
use Rattle.store_leads.proofs.Doing.{Does, does_group, does_log}

-- what a publish of a written group answers and leaves
publishes_so : (n : Name) (log : LogPart) (k : Clock) (a : Actor) → log.holder ≡ None → a.written ≡ true
    → publishes n (in_hands n log) k a ≡ Some (record { answer = answer.Published (k.last + 1); log = log; clock = published_clock log.moment a.group k; actor = without_group (Committed (k.last + 1)) a })
publishes_so n log k a free written =
    rw (own-hands n, written) (λ i. Some (record { answer = answer.Published (k.last + 1); log = record log { holder = sym free i }; clock = published_clock log.moment a.group k; actor = without_group (Committed (k.last + 1)) a }))

module _ (shards : ℕ) (n : Name) (group : List Encoded) where
  -- the records of the group, as the actor has them
  abbrev rs : List Record
  rs = records_at 0 group

  -- a log on which no attempt stands, or an append that met a fault
  end_does : (v : View) (log log' : LogPart) (k : Clock) (a : Actor) (r : Result ℕ DiskFault) (end : End) → n.pass ≡ v.number → v.held ≡ both_held shards k (in_hands n log) → actor_of v.base v.actors n ≡ a → log.holder ≡ None → a.written ≡ false → a.group ≡ rs
      → Answers (records_at (log.durable + 1) group) log r log' → IsEndOf r k end → Does shards v n (end_told end) (clock_by end rs k) (log_held shards log') (without_group (outcome_by end) a)
  end_does v log log' k a (Ok m) (ending.Published moment epoch) own front actor free unwritten gathered tried is =
      subst (λ (z : ℕ × ℕ × LogPart). Does shards v n (end_told (ending.Published z.0 z.1)) (published_clock z.0 rs k) (log_held shards z.2) (without_group (Committed z.1) a)) (λ i. (sym is.0 i, sym is.1 i, sym tried.2 i))
      (does_log shards n v (told (act.WriteGroup m) answer.Done) k (published_clock m rs k) (in_hands n log) a wrote (told act.Publish (answer.Published (k.last + 1)) ∷ []) (log_held shards (with_group m (records_at (log.durable + 1) group) log)) (without_group (Committed (k.last + 1)) a)
      own front actor refl (append-event n log a m unwritten tried.0 tried.1) refl published)
    where
      wrote : LogMove
      wrote = record { answer = answer.Done; log = in_hands n (with_group m (numbered (log.durable + 1) a.group) log); actor = record a { written = true; looked = None } }

      same_records : numbered (log.durable + 1) a.group ≡ records_at (log.durable + 1) group
      same_records = ap (λ z. numbered (log.durable + 1) z) gathered ∙ numbered-members (log.durable + 1) 0 group

      mid : View
      mid = going_on_log shards k wrote (done_by n (told (act.WriteGroup m) answer.Done)) v

      published : Does shards mid n (told act.Publish (answer.Published (k.last + 1)) ∷ []) (published_clock m rs k) (log_held shards (with_group m (records_at (log.durable + 1) group) log)) (without_group (Committed (k.last + 1)) a)
      published = subst (λ (z : List Record × List Record). Does shards mid n (told act.Publish (answer.Published (k.last + 1)) ∷ []) (published_clock m z.0 k) (log_held shards (with_group m z.1 log)) (without_group (Committed (k.last + 1)) a)) (λ i. (gathered i, same_records i))
          (does_group shards n mid (told act.Publish (answer.Published (k.last + 1))) k wrote.log wrote.actor _ own refl (actor_here v.base (record { name = n; actor = wrote.actor }) v.actors n refl) refl
          (publishes_so n (with_group m (numbered (log.durable + 1) a.group) log) k wrote.actor free refl) refl)
  end_does v log log' k a (Ok m) (ending.Failed before after) own front actor free unwritten gathered tried is = absurd is
  end_does v log log' k a (Err e) (ending.Published moment epoch) own front actor free unwritten gathered tried is = absurd is
  end_does v log log' k a (Err e) (ending.Failed before after) own front actor free unwritten gathered tried is =
      subst (λ (z : ℕ × ℕ × LogPart). Does shards v n (end_told (ending.Failed z.0 z.1)) (failed_clock z.0 z.1 rs k) (log_held shards z.2) (without_group (Failed z.0 z.1) a)) (λ i. (sym is.0 i, sym is.1 i, sym tried.2 i))
      (subst (λ (z : List Record × List Record). Does shards v n (told (act.Fail e.before e.after) answer.Done ∷ []) (failed_clock e.before e.after z.0 k) (log_held shards (with_fault e.after z.1 log)) (without_group (Failed e.before e.after) a)) (λ i. (gathered i, same_records i))
      (does_group shards n v (told (act.Fail e.before e.after) answer.Done) k (in_hands n log) a _ own front actor refl (fault-event n log k a e.before e.after free unwritten tried.0 tried.1) refl))
    where
      same_records : numbered (log.durable + 1) a.group ≡ records_at (log.durable + 1) group
      same_records = ap (λ z. numbered (log.durable + 1) z) gathered ∙ numbered-members (log.durable + 1) 0 group

  -- and where the log is mended first
  tried_does : (v : View) (log log' : LogPart) (k : Clock) (a : Actor) (mended : Bool) (r : Result ℕ DiskFault) (end : End) → n.pass ≡ v.number → v.held ≡ both_held shards k (in_hands n log) → actor_of v.base v.actors n ≡ a → log.holder ≡ None → a.written ≡ false → a.group ≡ rs
      → Mends mended log → Answers (records_at (log.durable + 1) group) (mended_if mended log) r log' → IsEndOf r k end → Does shards v n (ending_told mended end) (clock_by end rs k) (log_held shards log') (without_group (outcome_by end) a)
  tried_does v log log' k a false r end own front actor free unwritten gathered stands tried is = end_does v log log' k a r end own front actor free unwritten gathered tried is
  tried_does v log log' k a true r end own front actor free unwritten gathered stands tried is =
      does_log shards n v (told act.Mend answer.Done) k (clock_by end rs k) (in_hands n log) a move (end_told end) (log_held shards log') (without_group (outcome_by end) a) own front actor refl (mend-event n log a stands) refl
      (end_does (going_on_log shards k move (done_by n (told act.Mend answer.Done)) v) (without_fault log) log' k move.actor r end own refl (actor_here v.base (record { name = n; actor = move.actor }) v.actors n refl) free unwritten gathered tried is)
    where
      move : LogMove
      move = record { answer = answer.Done; log = in_hands n (without_fault log); actor = record a { looked = None } }

  pub ends : (v : View) (log log' : LogPart) (k : Clock) (a : Actor) (tried : Tried) (end : End) → n.pass ≡ v.number → v.held ≡ both_held shards k (in_hands n log) → actor_of v.base v.actors n ≡ a → log.holder ≡ None → a.written ≡ false → a.group ≡ rs
      → HasTried (records_at (log.durable + 1) group) log tried log' → IsEndOf tried.answer k end → Does shards v n (ending_told tried.mended end) (clock_by end rs k) (log_held shards log') (without_group (outcome_by end) a)
  ends v log log' k a tried end own front actor free unwritten gathered has is = tried_does v log log' k a tried.mended tried.answer end own front actor free unwritten gathered has.0 has.1 is
