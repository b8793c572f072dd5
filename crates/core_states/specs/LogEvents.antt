-- The events that work on the log part, alone or with the clock: what each answers, and what it leaves of them and of its actor; none where its condition does not hold.
use Rattle.std.specs.Prelude.{ℕ, ◌+◌, ◌&&◌, not, if◌then◌else◌, ◌==◌, nat_le, nat_lt, List, [], ◌∷◌, ◌++◌, length, take, drop, true, false, Option, Some, None, is_some}
use Rattle.graph_model.specs.declared.record.Record.{Record}
use Rattle.graph_model.specs.declared.record.Outcome.{Outcome}
use Rattle.graph_model.specs.declared.record.Outcome.TheVariants.{Committed, Failed}
use Rattle.graph_model.specs.Records.{group_most}
use Rattle.core_states.specs.declared.transaction.Stage.TheVariants.{Decided}
use Rattle.core_states.specs.declared.transaction.Transaction.{Transaction}
use Rattle.core_states.specs.declared.actor.Actor.{Actor}
use Rattle.core_states.specs.declared.clock.Clock.{Clock}
use Rattle.core_states.specs.declared.event.CoreAnswer.{CoreAnswer}
use Rattle.core_states.specs.declared.event.CoreAnswer.TheVariants as answer
use Rattle.core_states.specs.LogParts.{LogPart, is_held_by, may_take, with_durable, with_attempt, without_attempt}
use Rattle.core_states.specs.Names.{Name}
use Rattle.core_states.specs.Numbers.{has_record, numbered, settled_as, pending_of}
use Rattle.core_states.specs.Transactions.{with_stage}

pub record LogMove : Type 0 where
  pub answer : CoreAnswer
  pub log : LogPart
  pub actor : Actor

pub record GroupMove : Type 0 where
  pub answer : CoreAnswer
  pub log : LogPart
  pub clock : Clock
  pub actor : Actor

-- write group: the group that the actor collected is durable, and its append answered at this moment
abbrev pub writes : ℕ → Name → LogPart → Actor → Option LogMove
writes moment i log a =
    if not (is_held_by i log.holder) then None else
    if a.written then None else
    if not log.mended then None else
    if nat_lt moment log.moment then None else
    Some (record {
      answer = answer.Done;
      log = record log { durable = log.durable + 1; moment = moment; disk = with_durable moment (numbered (log.durable + 1) a.group) log.disk };
      actor = record a { written = true; looked = None };
    })

-- mend: the failed attempt is gone
abbrev pub mends : Name → LogPart → Actor → Option LogMove
mends i log a =
    if log.mended then None else
    if not (may_take i log.holder) then None else
    Some (record {
      answer = answer.Done;
      log = record log { mended = true; disk = without_attempt log.disk };
      actor = record a { looked = None };
    })

-- collect: the actor takes the log turn and the first queued records, 64 at most
abbrev pub collects : Name → LogPart → Clock → Actor → Option GroupMove
collects i log k a =
    if is_some log.holder then None else
    if length k.queue == 0 then None else
    Some (record {
      answer = answer.Collected (length (take group_most k.queue));
      log = record log { holder = Some i };
      clock = record k { queue = drop group_most k.queue };
      actor = record a { group = take group_most k.queue; looked = None };
    })

-- an actor that publishes or fails its own record knows the outcome
abbrev pub told : Outcome → List Record → Option Transaction → Option Transaction
told o rs None = None
told o rs (Some x) = if has_record x.tid rs then Some (with_stage x (Decided o)) else Some x

-- the actor without the group, whose records had this outcome
abbrev pub without_group : Outcome → Actor → Actor
without_group o a = record a { txn = told o a.group a.txn; group = []; written = false; looked = None }

-- publish: the written group gets the epoch after the last, with the moment of its append, and the log turn is free; the epoch is visible only once all of the group is done
abbrev pub publishes : Name → LogPart → Clock → Actor → Option GroupMove
publishes i log k a =
    if not (is_held_by i log.holder) then None else
    if not a.written then None else
    Some (record {
      answer = answer.Published (k.last + 1);
      log = record log { holder = None };
      clock = record k {
        last = k.last + 1;
        moments = k.moments ++ log.moment ∷ [];
        pending = k.pending ++ pending_of (k.last + 1) a.group;
        outcomes = k.outcomes ++ settled_as (Committed (k.last + 1)) a.group;
        records = k.records ++ numbered (k.last + 1) a.group;
      };
      actor = without_group (Committed (k.last + 1)) a;
    })

-- fail: the append of the group met a fault of the disk, whose count rose between these two; the log turn is free
abbrev pub fails : ℕ → ℕ → Name → LogPart → Clock → Actor → Option GroupMove
fails before after i log k a =
    if not (is_held_by i log.holder) then None else
    if a.written then None else
    if not (nat_lt before after && nat_le log.greatest before) then None else
    Some (record {
      answer = answer.Done;
      log = record log { holder = None; mended = false; greatest = after; disk = with_attempt (numbered (log.durable + 1) a.group) log.disk };
      clock = record k { outcomes = k.outcomes ++ settled_as (Failed before after) a.group };
      actor = without_group (Failed before after) a;
    })
