-- Worked dialogues of refusals: a vertex that is not there, limits that are passed, numbers that are used up, and
-- a log that failed. Each refusal is legal where its cause holds, and not legal where it does not.
use Rattle.std.proofs.Common.{arith, rules}
use Rattle.std.specs.Prelude.{ℕ, ◌+◌, ◌<◌, ◌≤◌, List, [], ◌∷◌, ◌++◌, length, refl}
use Rattle.graph_model.specs.declared.record.Record.{Record}
use Rattle.graph_model.specs.declared.change.Change.TheVariants as c
use Rattle.request_text.specs.declared.request.Request.TheVariants as q
use Rattle.request_text.specs.declared.reply.Reply.{Reply}
use Rattle.request_text.specs.declared.reply.Reply.TheVariants as r
use Rattle.graph_legal.proofs.Dialogues.{by_parts, Said, says, IsLegal, IsLegalFrom, edge, byte, committed, made_an_edge, made_an_edge_record}
use Rattle.graph_model.specs.declared.graph.Base.{Base}
use Rattle.graph_model.specs.Records.{number_end, transaction_most, list_most}

-- ---- `no-vertex`

abbrev drop_and_look : Reply → List Said
drop_and_look put = made_an_edge ++ (
    says 2 q.Begin (r.Begun 2 1)
    ∷ says 1 q.Begin (r.Begun 3 1)
    ∷ says 1 (q.Drop 1) r.Dropped
    ∷ says 1 (q.Get 1) r.Lacking
    ∷ says 1 (q.Scan 1 5) r.NoVertex
    ∷ says 1 (q.Put 1 5 8 []) put
    ∷ says 1 q.Commit (r.Committed 2)
    ∷ says 2 (q.Scan 1 5) (r.Edges (edge 9 (byte 255) ∷ []))
    ∷ []
    )

abbrev drop_and_look_records : List Record
drop_and_look_records = made_an_edge_record ∷ committed 3 1 2 (c.Drop 1 ∷ []) ∷ []

pub dropped_vertex : IsLegal (drop_and_look r.NoVertex) drop_and_look_records
dropped_vertex = search (rules, by_parts)

pub added_to_a_dropped_vertex : IsLegal (drop_and_look r.Added) drop_and_look_records → ⊥
added_to_a_dropped_vertex h = let wrong = h.traces_hold.1.1.0 in grind arith

abbrev put_at : ℕ → Reply → List Said
put_at v put = made_an_edge ++ (
    says 1 q.Begin (r.Begun 2 1)
    ∷ says 1 (q.Put v 5 8 []) put
    ∷ []
    )

pub no_vertex : IsLegal (put_at 2 r.NoVertex) (made_an_edge_record ∷ [])
no_vertex = search (rules, by_parts)

pub no_vertex_at_a_vertex : IsLegal (put_at 1 r.NoVertex) (made_an_edge_record ∷ []) → ⊥
no_vertex_at_a_vertex h = let wrong = h.traces_hold.0 in grind arith

abbrev scan_at : ℕ → List Said
scan_at v = made_an_edge ++ (
    says 1 q.Begin (r.Begun 2 1)
    ∷ says 1 (q.Scan v 5) r.NoVertex
    ∷ []
    )

pub no_vertex_to_read : IsLegal (scan_at 2) (made_an_edge_record ∷ [])
no_vertex_to_read = search (rules, by_parts)

pub no_vertex_to_read_at_a_vertex : IsLegal (scan_at 1) (made_an_edge_record ∷ []) → ⊥
no_vertex_to_read_at_a_vertex h = let wrong = h.traces_hold.0 in grind arith

-- ---- `txn-full`: the changes with this one are longer than a transaction may be

abbrev make_and_set : List ℕ → Reply → List Said
make_and_set p set =
    says 1 q.Begin (r.Begun 1 0)
    ∷ says 1 (q.Vertex []) (r.Vertex 1)
    ∷ says 1 (q.Set 1 p) set
    ∷ []

pub txn_full : (p : List ℕ) → transaction_most < 11 + (11 + length p) → IsLegal (make_and_set p r.TxnFull) []
txn_full p long = search (rules, by_parts)

pub txn_full_too_soon : (p : List ℕ) → 11 + (11 + length p) ≤ transaction_most → IsLegal (make_and_set p r.TxnFull) [] → ⊥
txn_full_too_soon p short h = let wrong = h.traces_hold.0.2 in omega (arith, wrong, short)

pub txn_full_too_late : (p : List ℕ) → transaction_most < 11 + (11 + length p) → IsLegal (make_and_set p r.SetDone) [] → ⊥
txn_full_too_late p long h = let wrong = h.traces_hold.0.room in omega (arith, wrong, long)

-- ---- `log-full`: all that was put under the label, with this edge, is longer than a list may be

abbrev base_with_edge : List ℕ → Base
base_with_edge p = record {
  graph = record { number = 1; payload = []; lists = record { label = 5; pairs = edge 9 p ∷ [] } ∷ [] } ∷ [];
  epoch = 1;
  next_tid = 2;
  next_vertex = 2;
}

abbrev put_behind : Reply → List Said
put_behind put =
    says 1 q.Begin (r.Begun 2 1)
    ∷ says 1 (q.Put 1 5 7 []) put
    ∷ []

pub log_full : (p : List ℕ) → list_most < 28 + length p + 28 → IsLegalFrom (base_with_edge p) (put_behind r.LogFull) []
log_full p long = search (rules, by_parts)

pub log_full_too_soon : (p : List ℕ) → 28 + length p + 28 ≤ list_most → IsLegalFrom (base_with_edge p) (put_behind r.LogFull) [] → ⊥
log_full_too_soon p short h = let wrong = h.traces_hold.0.2 in omega (arith, wrong, short)

-- ---- `spent`: the numbers are used up

abbrev base_from : ℕ → ℕ → Base
base_from next_tid next_vertex = record { graph = []; epoch = 0; next_tid = next_tid; next_vertex = next_vertex }

abbrev begin_spent : List Said
begin_spent =
    says 1 q.Begin r.Spent
    ∷ []

pub spent_transactions : IsLegalFrom (base_from number_end 1) begin_spent []
spent_transactions = search (rules, by_parts)

pub spent_transactions_too_soon : IsLegalFrom (base_from 1 1) begin_spent [] → ⊥
spent_transactions_too_soon h = let wrong = h.spent_at_limit.0 in grind arith

abbrev vertex_spent : List Said
vertex_spent =
    says 1 q.Begin (r.Begun 1 0)
    ∷ says 1 (q.Vertex []) r.Spent
    ∷ []

pub spent_vertices : IsLegalFrom (base_from 1 number_end) vertex_spent []
spent_vertices = search (rules, by_parts)

pub spent_vertices_too_soon : IsLegalFrom (base_from 1 1) vertex_spent [] → ⊥
spent_vertices_too_soon h = let wrong = h.spent_at_limit.0 in grind arith

-- ---- `log-fault`: the record was not made durable, and the disk counted a fault

abbrev commit_fails : ℕ → ℕ → List Said
commit_fails before after =
    says 1 q.Begin (r.Begun 1 0)
    ∷ says 1 (q.Vertex []) (r.Vertex 1)
    ∷ says 1 q.Commit (r.LogFault before after)
    ∷ says 1 q.Begin (r.Begun 2 0)
    ∷ says 1 (q.Get 1) r.Lacking
    ∷ []

pub log_fault : IsLegal (commit_fails 0 1) []
log_fault = search (rules, by_parts)

pub log_fault_without_a_fault : IsLegal (commit_fails 1 1) [] → ⊥
log_fault_without_a_fault h = let wrong = h.traces_hold.1.1.0.1 in grind arith

pub log_fault_with_a_record : IsLegal (commit_fails 0 1) (committed 1 0 1 (c.New 1 [] ∷ []) ∷ []) → ⊥
log_fault_with_a_record h = let wrong = h.records_of_traces.committed in grind arith

abbrev nothing_fails : List Said
nothing_fails =
    says 1 q.Begin (r.Begun 1 0)
    ∷ says 1 q.Commit (r.LogFault 0 1)
    ∷ []

pub log_fault_without_a_change : IsLegal nothing_fails [] → ⊥
log_fault_without_a_change h = let wrong = h.traces_hold.0.0 in grind arith
