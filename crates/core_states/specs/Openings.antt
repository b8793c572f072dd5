-- The state that a run starts from: each list of the base stands in a log, all of it at the base's epoch.
pub use Rattle.core_rows.specs.Openings.{opened_entries, opened_log, opened_logs, opened_row}
use Rattle.std.specs.Prelude.{ℕ, ◌≤◌, Bool, false, nat_le, IsTrue, List, [], Some, None}
use Rattle.std.specs.List.{list_all}
use Rattle.graph_model.specs.Vertex.{Vertex}
use Rattle.graph_model.specs.declared.graph.Base.{Base}
use Rattle.graph_model.specs.Graph.{vertex_at}
use Rattle.core_states.specs.declared.actor.Actor.{Actor}
use Rattle.core_states.specs.declared.clock.Clock.{Clock}
use Rattle.core_states.specs.RowEvents.{Limits}
use Rattle.graph_model.specs.Records.{transaction_most, list_most, list_size, IsGood}
use Rattle.core_states.specs.LogParts.{Found, all_firm, opened_part}
use Rattle.core_states.specs.States.{State}

-- an actor that has done nothing
abbrev pub fresh_actor : Base → Actor
fresh_actor base = record { row = false; txn = None; group = []; written = false; learnt = record { horizon = base.epoch; oldest = base.next_tid }; looked = None; finished = None; receipts = []; drew = [] }

abbrev pub opened_clock : Base → Clock
opened_clock base = record { next_tid = base.next_tid; next_vertex = base.next_vertex; last = base.epoch; visible = base.epoch; rows = []; queue = []; pending = []; outcomes = []; records = []; moments = [] }

abbrev pub opening : Base → Found → State
opening base found = record {
  clock = opened_clock base;
  log = opened_part base.epoch found;
  actor = λ i. fresh_actor base;
  row = λ v. opened_row base.epoch (vertex_at v base.graph);
}

-- A run without a log of its own: no fault, and nothing on the disk.
abbrev pub no_disk : Found
no_disk = record { count = 0; firm = all_firm; records = Some [] }

-- the limits of a run: 16,777,216 bytes of changes, and logs of 2^30 bytes
abbrev pub run_limits : Limits
run_limits = record { txn = transaction_most; log = list_most }

-- Limits that a store may have: at most those of a run.
pub record IsAllowed (most : Limits) : Type 0 where
  pub txn : most.txn ≤ run_limits.txn
  pub log : most.log ≤ run_limits.log

-- no list of a graph is above a limit
abbrev pub lists_within : ℕ → List Vertex → Bool
lists_within most graph = list_all (λ x. list_all (λ y. nat_le (list_size y.pairs) most) x.lists) graph

-- A run with these limits may start from the base: it is good, and each of its lists has room in a log.
pub record MayOpen (base : Base) (most : Limits) : Type 0 where
  pub good : IsGood base
  pub lists : IsTrue (lists_within most.log base.graph)
