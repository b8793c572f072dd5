-- The clock after each call.
use Rattle.std.specs.Prelude.{ℕ, ◌+◌, List, [], ◌∷◌, ◌++◌, drop}
use Rattle.graph_model.specs.declared.record.Record.{Record}
use Rattle.graph_model.specs.declared.record.Outcome.TheVariants.{Committed, Failed}
use Rattle.graph_model.specs.Records.{group_most}
use Rattle.group_commit.specs.Encoded.{Encoded}
use Rattle.core_states.specs.declared.clock.Clock.{Clock}
use Rattle.core_states.specs.Numbers.{without_active, visible_of, numbered, settled_as, pending_of}

-- the record of a member, which has no epoch yet
abbrev pub waiting_record : Encoded → Record
waiting_record m = let r = m.draft in record r { epoch = 0 }

-- the next number is drawn, and its transaction runs from the visible epoch on
abbrev pub begun_clock : Clock → Clock
begun_clock k = record k { next_tid = k.next_tid + 1; rows = record { tid = k.next_tid; epoch = k.visible } ∷ k.rows }

-- the next vertex number is drawn
abbrev pub drawn_clock : Clock → Clock
drawn_clock k = record k { next_vertex = k.next_vertex + 1 }

-- a record waits behind the others
abbrev pub queued_clock : Record → Clock → Clock
queued_clock r k = record k { queue = k.queue ++ r ∷ [] }

-- the first records wait no more, 64 at most
abbrev pub collected_clock : Clock → Clock
collected_clock k = record k { queue = drop group_most k.queue }

-- the records of a group have the epoch after the last one, with the moment of their append, and none of them is done
abbrev pub published_clock : ℕ → List Record → Clock → Clock
published_clock moment group k = record k {
  last = k.last + 1;
  moments = k.moments ++ moment ∷ [];
  pending = k.pending ++ pending_of (k.last + 1) group;
  outcomes = k.outcomes ++ settled_as (Committed (k.last + 1)) group;
  records = k.records ++ numbered (k.last + 1) group;
}

-- the records of a group have failed, with these counts of the disk's faults
abbrev pub failed_clock : ℕ → ℕ → List Record → Clock → Clock
failed_clock before after group k = record k { outcomes = k.outcomes ++ settled_as (Failed before after) group }

-- a transaction is over, whose record is done, and the visible epoch rises as far as all records allow
abbrev pub finished_clock : ℕ → Clock → Clock
finished_clock t k = record k { visible = visible_of k.last (without_active t k.pending); rows = without_active t k.rows; pending = without_active t k.pending }

-- a transaction is over that has no record
abbrev pub ended_clock : ℕ → Clock → Clock
ended_clock t k = record k { rows = without_active t k.rows }
