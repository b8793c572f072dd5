-- What the clock's part keeps of its fields.
use Rattle.std.specs.Prelude.{◌≡◌, ℕ, ◌+◌, ◌<◌, ◌≤◌, List, length, None}
use Rattle.graph_model.specs.Records.{number_end}
use Rattle.group_commit.specs.Members.{records_at}
use Rattle.core_states.specs.declared.clock.Active.{Active}
use Rattle.core_states.specs.declared.clock.Clock.{Clock}
use Rattle.core_states.specs.declared.clock.KeptOutcome.{KeptOutcome}
use Rattle.core_states.specs.Numbers.{outcome_of}
use Rattle.epoch_clock.specs.ActiveRows.{actives_of, Falling}
use Rattle.epoch_clock.specs.Decided.{outcomes_of, undone_of, undecided, KeptOnce, Awaited, Counts, EpochsWithin, BeginsAbove}
use Rattle.epoch_clock.specs.CommitRooms.{HasRoomFor}
use Rattle.epoch_clock.specs.EpochStates.{EpochState}
use Rattle.epoch_clock.specs.declared.epoch_part.EpochPart.TheInside.{Inside}

-- the transactions that run, the outcomes, and the published records that are not done
abbrev pub rows_in : Inside → List Active
rows_in a = actives_of a.readers

abbrev pub outcomes_in : Inside → List KeptOutcome
outcomes_in a = outcomes_of a.commits.outcomes.kept

abbrev pub pending_in : Inside → List Active
pending_in a = undone_of (outcomes_in a) (rows_in a)

abbrev pub clock_in : Inside → Clock
clock_in a = record {
  next_tid = a.next_tid;
  next_vertex = a.next_vertex;
  last = a.last;
  visible = a.visible;
  rows = rows_in a;
  queue = records_at 0 a.commits.queue.members;
  pending = pending_in a;
  outcomes = outcomes_in a;
  records = a.commits.records.items;
  moments = a.commits.moments.items;
}

abbrev pub epoch_state : Inside → EpochState
epoch_state a = record { clock = clock_in a; readers = a.readers }

-- The numbers are drawn in order, an outcome is kept once and for a number that was drawn, the members that wait have
-- none, and for each transaction that runs and has none there is room.
pub record IsKept (a : Inside) : Type 0 where
  pub next_tid : a.next_tid ≤ number_end
  pub next_vertex : a.next_vertex ≤ number_end
  pub rows : Falling a.next_tid (rows_in a)
  pub once : KeptOnce (outcomes_in a)
  pub drawn : (t : ℕ) → a.next_tid ≤ t → outcome_of t (outcomes_in a) ≡ None
  pub queue : Awaited (rows_in a) (outcomes_in a) (records_at 0 a.commits.queue.members)
  pub undecided : a.undecided ≡ undecided (outcomes_in a) (rows_in a)
  pub room : HasRoomFor a.undecided a.commits
  -- each epoch that is left has a transaction of its own
  pub epochs : a.last + a.undecided < a.next_tid
  -- the counts are those of the epochs above the visible one, the first of which is not done
  pub last : a.visible + length a.commits.undone.items ≡ a.last
  pub pending : EpochsWithin a.visible a.last (pending_in a)
  pub counts : Counts (a.visible + 1) a.commits.undone.items (pending_in a)
  pub front : BeginsAbove a.commits.undone.items
