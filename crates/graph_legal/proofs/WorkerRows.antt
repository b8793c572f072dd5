-- Worked dialogues of several workers and of two phases: numbers that come in another order, locks and conflicts
-- that a line of another worker sees, and what an earlier phase leaves.
use Rattle.std.proofs.Common.{arith, rules}
use Rattle.std.specs.Prelude.{ℕ, List, [], ◌∷◌, refl}
use Rattle.graph_model.specs.declared.record.Record.{Record}
use Rattle.graph_model.specs.declared.change.Change.TheVariants as c
use Rattle.request_text.specs.declared.request.Request.TheVariants as q
use Rattle.request_text.specs.declared.reply.Reply.{Reply}
use Rattle.request_text.specs.declared.reply.Reply.TheVariants as r
use Rattle.graph_legal.proofs.Dialogues.{by_parts, Said, Talk, says, by_workers, IsLegalIn, byte, committed, made_two_vertices, made_two_vertices_record}
use Rattle.graph_model.specs.Records.{empty_base}

-- ---- two that begin

abbrev two_begin : List Said
two_begin =
    says 0 q.Begin (r.Begun 2 0)
    ∷ says 1 q.Begin (r.Begun 1 0)
    ∷ says 0 q.Commit r.Ended
    ∷ says 1 q.Commit r.Ended
    ∷ []

pub two_workers : IsLegalIn empty_base (by_workers 2 two_begin ∷ []) []
two_workers = search (rules, by_parts)

pub one_worker_back : IsLegalIn empty_base (by_workers 1 two_begin ∷ []) [] → ⊥
one_worker_back h = let wrong = h.numbers_drawn.transactions_rise.1.1.0 in grind arith

-- ---- a second phase

abbrev after_two_vertices : List Said → List Talk
after_two_vertices said = by_workers 1 made_two_vertices ∷ by_workers 2 said ∷ []

abbrev two_put : ℕ → ℕ → List Said
two_put first second =
    says 0 q.Begin (r.Begun 3 1)
    ∷ says 1 q.Begin (r.Begun 2 1)
    ∷ says 0 (q.Put 1 1 1 (byte 170)) r.Added
    ∷ says 1 (q.Put 2 1 1 (byte 187)) r.Added
    ∷ says 0 q.Commit (r.Committed first)
    ∷ says 1 q.Commit (r.Committed second)
    ∷ []

pub committed_in_another_order : IsLegalIn empty_base (after_two_vertices (two_put 3 2))
    (made_two_vertices_record ∷ committed 2 1 2 (c.Put 2 1 1 (byte 187) ∷ []) ∷ committed 3 1 3 (c.Put 1 1 1 (byte 170) ∷ []) ∷ [])
committed_in_another_order = search (rules, by_parts)

pub one_group : IsLegalIn empty_base (after_two_vertices (two_put 2 2))
    (made_two_vertices_record ∷ committed 3 1 2 (c.Put 1 1 1 (byte 170) ∷ []) ∷ committed 2 1 2 (c.Put 2 1 1 (byte 187) ∷ []) ∷ [])
one_group = search (rules, by_parts)

abbrev begin_on : ℕ → List Said
begin_on epoch =
    says 0 q.Begin (r.Begun 2 epoch)
    ∷ []

pub newest_phase : IsLegalIn empty_base (after_two_vertices (begin_on 1)) (made_two_vertices_record ∷ [])
newest_phase = search (rules, by_parts)

pub stale_phase : IsLegalIn empty_base (after_two_vertices (begin_on 0)) (made_two_vertices_record ∷ []) → ⊥
stale_phase h = let wrong = h.epoch_order.0.1 in grind arith

-- ---- a line of another worker, which stands below and may have run before

abbrev put_at_one_vertex : Reply → List Said
put_at_one_vertex put =
    says 0 q.Begin (r.Begun 2 1)
    ∷ says 0 (q.Put 1 1 1 (byte 170)) put
    ∷ says 1 q.Begin (r.Begun 3 1)
    ∷ says 1 (q.Put 1 1 2 (byte 187)) r.Added
    ∷ says 1 q.Commit (r.Committed 2)
    ∷ []

abbrev put_at_one_vertex_records : List Record
put_at_one_vertex_records = made_two_vertices_record ∷ committed 3 1 2 (c.Put 1 1 2 (byte 187) ∷ []) ∷ []

pub held_by_later : IsLegalIn empty_base (after_two_vertices (put_at_one_vertex (r.Held 1 3))) put_at_one_vertex_records
held_by_later = search (rules, by_parts)

pub conflict_with_later : IsLegalIn empty_base (after_two_vertices (put_at_one_vertex (r.Conflict 1 2))) put_at_one_vertex_records
conflict_with_later = search (rules, by_parts)

-- transaction 1 is of the phase before, and has ended
pub held_by_an_earlier_phase : IsLegalIn empty_base (after_two_vertices (put_at_one_vertex (r.Held 1 1))) put_at_one_vertex_records → ⊥
held_by_an_earlier_phase h = let wrong = h.traces_hold.1.1.1.0.2.takes in grind arith

abbrev both_put : List Said
both_put =
    says 0 q.Begin (r.Begun 2 1)
    ∷ says 0 (q.Put 1 1 1 (byte 170)) r.Added
    ∷ says 0 q.Commit (r.Committed 2)
    ∷ says 1 q.Begin (r.Begun 3 1)
    ∷ says 1 (q.Put 1 1 2 (byte 187)) r.Added
    ∷ says 1 q.Commit (r.Committed 3)
    ∷ []

pub both_commit : IsLegalIn empty_base (after_two_vertices both_put)
    (made_two_vertices_record ∷ committed 2 1 2 (c.Put 1 1 1 (byte 170) ∷ []) ∷ committed 3 1 3 (c.Put 1 1 2 (byte 187) ∷ []) ∷ []) → ⊥
both_commit h = let wrong = h.records_of_traces.continues.no_overlap in grind arith
