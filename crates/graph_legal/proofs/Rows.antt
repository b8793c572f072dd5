-- Worked dialogues of one worker: what a read shows, which numbers and epochs are told, who holds a vertex, and
-- what conflicts. Each is legal as it stands, and not legal with the wrong reply beside it.
use Rattle.std.proofs.Common.{arith, rules}
use Rattle.std.specs.Prelude.{ℕ, List, [], ◌∷◌, ◌++◌, refl}
use Rattle.graph_model.specs.declared.record.Record.{Record}
use Rattle.graph_model.specs.declared.change.Change.TheVariants as c
use Rattle.request_text.specs.declared.request.Request.TheVariants as q
use Rattle.request_text.specs.declared.reply.Reply.{Reply}
use Rattle.request_text.specs.declared.reply.Reply.TheVariants as r
use Rattle.graph_legal.proofs.Dialogues.{by_parts, Said, says, IsLegal, edge, byte, committed, made_an_edge, made_an_edge_record}

-- ---- a scan

abbrev two_edges : Reply → List Said
two_edges scanned =
    says 1 q.Begin (r.Begun 1 0)
    ∷ says 1 (q.Vertex (byte 97)) (r.Vertex 1)
    ∷ says 1 (q.Put 1 5 9 (byte 255)) r.Added
    ∷ says 1 (q.Put 1 5 7 []) r.Added
    ∷ says 1 (q.Scan 1 5) scanned
    ∷ says 1 q.Commit (r.Committed 1)
    ∷ []

abbrev two_edges_records : List Record
two_edges_records = committed 1 0 1 (c.New 1 (byte 97) ∷ c.Put 1 5 9 (byte 255) ∷ c.Put 1 5 7 [] ∷ []) ∷ []

pub newest_first : IsLegal (two_edges (r.Edges (edge 7 [] ∷ edge 9 (byte 255) ∷ []))) two_edges_records
newest_first = search (rules, by_parts)

pub oldest_first : IsLegal (two_edges (r.Edges (edge 9 (byte 255) ∷ edge 7 [] ∷ []))) two_edges_records → ⊥
oldest_first h = let wrong = h.traces_hold.1.0 in grind arith

abbrev replaced_edge : Reply → List Said
replaced_edge scanned =
    says 1 q.Begin (r.Begun 1 0)
    ∷ says 1 (q.Vertex (byte 97)) (r.Vertex 1)
    ∷ says 1 (q.Put 1 5 9 (byte 255)) r.Added
    ∷ says 1 (q.Put 1 5 7 []) r.Added
    ∷ says 1 (q.Put 1 5 9 (byte 0)) r.Replaced
    ∷ says 1 (q.Scan 1 5) scanned
    ∷ says 1 q.Commit (r.Committed 1)
    ∷ []

abbrev replaced_edge_records : List Record
replaced_edge_records =
    committed 1 0 1 (c.New 1 (byte 97) ∷ c.Put 1 5 9 (byte 255) ∷ c.Put 1 5 7 [] ∷ c.Put 1 5 9 (byte 0) ∷ []) ∷ []

pub moved_to_the_front : IsLegal (replaced_edge (r.Edges (edge 9 (byte 0) ∷ edge 7 [] ∷ []))) replaced_edge_records
moved_to_the_front = search (rules, by_parts)

pub shown_twice : IsLegal (replaced_edge (r.Edges (edge 9 (byte 0) ∷ edge 7 [] ∷ edge 9 (byte 255) ∷ []))) replaced_edge_records → ⊥
shown_twice h = let wrong = h.traces_hold.1.0 in grind arith

-- ---- a snapshot

abbrev put_beside_a_reader : Reply → List Said
put_beside_a_reader scanned = made_an_edge ++ (
    says 2 q.Begin (r.Begun 2 1)
    ∷ says 1 q.Begin (r.Begun 3 1)
    ∷ says 1 (q.Put 1 5 7 []) r.Added
    ∷ says 1 q.Commit (r.Committed 2)
    ∷ says 2 (q.Scan 1 5) scanned
    ∷ says 2 q.Commit r.Ended
    ∷ says 2 q.Begin (r.Begun 4 2)
    ∷ says 2 (q.Scan 1 5) (r.Edges (edge 7 [] ∷ edge 9 (byte 255) ∷ []))
    ∷ []
    )

abbrev put_beside_a_reader_records : List Record
put_beside_a_reader_records = made_an_edge_record ∷ committed 3 1 2 (c.Put 1 5 7 [] ∷ []) ∷ []

pub same_snapshot : IsLegal (put_beside_a_reader (r.Edges (edge 9 (byte 255) ∷ []))) put_beside_a_reader_records
same_snapshot = search (rules, by_parts)

pub drifting_snapshot : IsLegal (put_beside_a_reader (r.Edges (edge 7 [] ∷ edge 9 (byte 255) ∷ []))) put_beside_a_reader_records → ⊥
drifting_snapshot h = let wrong = h.traces_hold.1.1.1.0 in grind arith

-- ---- who holds a vertex

abbrev put_at_a_held_vertex : ℕ → List Said
put_at_a_held_vertex holder = made_an_edge ++ (
    says 1 q.Begin (r.Begun 2 1)
    ∷ says 1 (q.Put 1 5 7 []) r.Added
    ∷ says 2 q.Begin (r.Begun 3 1)
    ∷ says 2 (q.Put 1 5 8 []) (r.Held 1 holder)
    ∷ says 2 q.Commit r.NoTxn
    ∷ says 1 q.Commit (r.Committed 2)
    ∷ []
    )

abbrev put_at_a_held_vertex_records : List Record
put_at_a_held_vertex_records = made_an_edge_record ∷ committed 2 1 2 (c.Put 1 5 7 [] ∷ []) ∷ []

pub held : IsLegal (put_at_a_held_vertex 2) put_at_a_held_vertex_records
held = search (rules, by_parts)

pub held_by_none : IsLegal (put_at_a_held_vertex 7) put_at_a_held_vertex_records → ⊥
held_by_none h = let wrong = h.traces_hold.1.1.0.2.takes in grind arith

pub held_by_itself : IsLegal (put_at_a_held_vertex 3) put_at_a_held_vertex_records → ⊥
held_by_itself h = let wrong = h.traces_hold.1.1.0.2.other in grind arith

pub held_by_the_past : IsLegal (put_at_a_held_vertex 1) put_at_a_held_vertex_records → ⊥
held_by_the_past h = let wrong = h.traces_hold.1.1.0.2.takes in grind arith

-- ---- a conflict

abbrev put_after_a_commit : ℕ → List Said
put_after_a_commit epoch = made_an_edge ++ (
    says 2 q.Begin (r.Begun 2 1)
    ∷ says 1 q.Begin (r.Begun 3 1)
    ∷ says 1 (q.Put 1 5 7 []) r.Added
    ∷ says 1 q.Commit (r.Committed 2)
    ∷ says 2 (q.Put 1 5 8 []) (r.Conflict 1 epoch)
    ∷ says 2 (q.Get 1) r.NoTxn
    ∷ []
    )

abbrev put_after_a_commit_records : List Record
put_after_a_commit_records = made_an_edge_record ∷ committed 3 1 2 (c.Put 1 5 7 [] ∷ []) ∷ []

pub conflict : IsLegal (put_after_a_commit 2) put_after_a_commit_records
conflict = search (rules, by_parts)

-- the epoch of the snapshot, which has no conflict
pub conflict_at_the_snapshot : IsLegal (put_after_a_commit 1) put_after_a_commit_records → ⊥
conflict_at_the_snapshot h = let wrong = h.traces_hold.1.0.2.later in grind arith

-- an epoch at which nothing was committed
pub conflict_at_no_epoch : IsLegal (put_after_a_commit 3) put_after_a_commit_records → ⊥
conflict_at_no_epoch h = let wrong = h.traces_hold.1.0.2.changed in grind arith

-- the epoch of a record that did not change the vertex
abbrev put_after_another_vertex : List Said
put_after_another_vertex = made_an_edge ++ (
    says 2 q.Begin (r.Begun 2 1)
    ∷ says 1 q.Begin (r.Begun 3 1)
    ∷ says 1 (q.Vertex []) (r.Vertex 2)
    ∷ says 1 q.Commit (r.Committed 2)
    ∷ says 2 (q.Put 1 5 8 []) (r.Conflict 1 2)
    ∷ []
    )

pub conflict_with_a_stranger : IsLegal put_after_another_vertex (made_an_edge_record ∷ committed 3 1 2 (c.New 2 [] ∷ []) ∷ []) → ⊥
conflict_with_a_stranger h = let wrong = h.traces_hold.0.2.changed in grind arith

abbrev both_commit : List Said
both_commit = made_an_edge ++ (
    says 2 q.Begin (r.Begun 2 1)
    ∷ says 1 q.Begin (r.Begun 3 1)
    ∷ says 1 (q.Put 1 5 7 []) r.Added
    ∷ says 1 q.Commit (r.Committed 2)
    ∷ says 2 (q.Put 1 5 8 []) r.Added
    ∷ says 2 q.Commit (r.Committed 3)
    ∷ []
    )

pub overlapping_commit : IsLegal both_commit (made_an_edge_record ∷ committed 3 1 2 (c.Put 1 5 7 [] ∷ []) ∷ committed 2 1 3 (c.Put 1 5 8 [] ∷ []) ∷ []) → ⊥
overlapping_commit h = let wrong = h.records_of_traces.continues.no_overlap in grind arith

-- two that read what the other writes do not conflict
abbrev skew : List Said
skew =
    says 1 q.Begin (r.Begun 1 0)
    ∷ says 1 (q.Vertex []) (r.Vertex 1)
    ∷ says 1 (q.Vertex []) (r.Vertex 2)
    ∷ says 1 q.Commit (r.Committed 1)
    ∷ says 1 q.Begin (r.Begun 2 1)
    ∷ says 2 q.Begin (r.Begun 3 1)
    ∷ says 1 (q.Get 2) (r.Value [])
    ∷ says 2 (q.Get 1) (r.Value [])
    ∷ says 1 (q.Set 1 (byte 1)) r.SetDone
    ∷ says 2 (q.Set 2 (byte 2)) r.SetDone
    ∷ says 1 q.Commit (r.Committed 2)
    ∷ says 2 q.Commit (r.Committed 3)
    ∷ []

pub write_skew : IsLegal skew (committed 1 0 1 (c.New 1 [] ∷ c.New 2 [] ∷ []) ∷ committed 2 1 2 (c.Set 1 (byte 1) ∷ []) ∷ committed 3 1 3 (c.Set 2 (byte 2) ∷ []) ∷ [])
write_skew = search (rules, by_parts)

-- ---- how a transaction ends

abbrev abort_and_look : List Said
abort_and_look = made_an_edge ++ (
    says 1 q.Begin (r.Begun 2 1)
    ∷ says 1 q.Begin r.TxnOpen
    ∷ says 1 (q.Put 1 5 9 (byte 170)) r.Replaced
    ∷ says 1 (q.Put 1 6 3 []) r.Added
    ∷ says 1 (q.Set 1 (byte 98)) r.SetDone
    ∷ says 1 (q.Labels 1) (r.Labels (5 ∷ 6 ∷ []))
    ∷ says 1 q.Abort r.Aborted
    ∷ says 1 q.Begin (r.Begun 3 1)
    ∷ says 1 (q.Scan 1 5) (r.Edges (edge 9 (byte 255) ∷ []))
    ∷ says 1 (q.Labels 1) (r.Labels (5 ∷ []))
    ∷ says 1 (q.Get 1) (r.Value (byte 97))
    ∷ says 1 (q.Edge 1 5 9) (r.Edge (byte 255))
    ∷ []
    )

pub aborted_changes : IsLegal abort_and_look (made_an_edge_record ∷ [])
aborted_changes = search (rules, by_parts)

abbrev del_and_look : List Said
del_and_look = made_an_edge ++ (
    says 1 q.Begin (r.Begun 2 1)
    ∷ says 1 (q.Del 1 5 77) r.Absent
    ∷ says 1 (q.Edge 1 5 77) r.Absent
    ∷ says 1 q.Commit r.Ended
    ∷ says 1 q.Begin (r.Begun 3 1)
    ∷ says 1 (q.Del 1 5 9) r.Gone
    ∷ says 1 (q.Scan 1 5) (r.Edges [])
    ∷ says 1 q.Commit (r.Committed 2)
    ∷ says 1 (q.Compact 1 5) r.Compacted
    ∷ []
    )

pub absent_edge : IsLegal del_and_look (made_an_edge_record ∷ committed 3 1 2 (c.Del 1 5 9 ∷ []) ∷ [])
absent_edge = search (rules, by_parts)

-- ---- numbers and epochs that are told

abbrev begin_again : ℕ → ℕ → List Said
begin_again number epoch = made_an_edge ++ (
    says 2 q.Begin (r.Begun number epoch)
    ∷ []
    )

pub begun_again : IsLegal (begin_again 2 1) (made_an_edge_record ∷ [])
begun_again = search (rules, by_parts)

pub skipped_number : IsLegal (begin_again 3 1) (made_an_edge_record ∷ []) → ⊥
skipped_number h = let wrong = h.numbers_drawn.transactions in grind arith

pub number_drawn_twice : IsLegal (begin_again 1 1) (made_an_edge_record ∷ []) → ⊥
number_drawn_twice h = let wrong = h.numbers_drawn.transactions in grind arith

pub stale_begin : IsLegal (begin_again 2 0) (made_an_edge_record ∷ []) → ⊥
stale_begin h = let wrong = h.epoch_order.0.1 in grind arith

-- a record that no line committed
abbrev made_only : List Said
made_only =
    says 1 q.Begin (r.Begun 1 0)
    ∷ says 1 (q.Vertex (byte 97)) (r.Vertex 1)
    ∷ []

pub uncommitted_record : IsLegal made_only (committed 1 0 1 (c.New 1 (byte 97) ∷ []) ∷ []) → ⊥
uncommitted_record h = let wrong = h.records_of_traces.committed in grind arith
