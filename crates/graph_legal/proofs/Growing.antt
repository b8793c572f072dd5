-- What held when a reply was given holds in the end: later records change nothing that it speaks of.
use Rattle.std.proofs.Common.{◌≡◌, ℕ, ◌≤◌, Bool, true, false, not, ◌&&◌, ◌||◌, List, [], ◌∷◌, ◌++◌, refl, sym, ap, ◌∙◌, arith, append-nil}
use Rattle.std.specs.Prelude.{◌==◌, nat_lt, nat_le, filter, flat_map, Option, Some, None}
use Rattle.std.specs.List.{list_any, list_all}
use Rattle.std.proofs.lemmas.Bool.{ltb-true, lt-leb, and_parts, or_from, and_right, not-true}
use Rattle.std.proofs.lemmas.List.Folds.{list_any-append}
use Rattle.std.proofs.lemmas.List.Elements.{filter-append}
use Rattle.graph_model.specs.declared.record.Record.{Record}
use Rattle.graph_model.specs.Vertex.{Vertex}
use Rattle.graph_model.specs.Graph.{at, after}
use Rattle.request_text.specs.declared.reply.Reply.{Reply}
use Rattle.request_text.specs.declared.reply.Reply.TheVariants as reply
use Rattle.graph_legal.specs.Lines.{Replied}
use Rattle.graph_legal.specs.Traces.{Trace, trace_of, has_committed, is_committed, is_trace}
use Rattle.graph_legal.specs.OneWorker.{record_at}
use Rattle.graph_legal.proofs.Owing.{committed_records}

or_none : (b : Bool) → (b || false) ≡ b
or_none true = refl
or_none false = refl

-- ---- which transactions committed: by the lines and by the records

same_number : (n : ℕ) (r : Reply) (t : Option Trace) → (is_committed r && is_trace n t) ≡ list_any (λ s. s.tid == n) (record_at r t)
same_number n (reply.Committed e) None = refl
same_number n (reply.Committed e) (Some t) = sym (or_none (t.number == n))
same_number n r t = refl

or_comm : (a b : Bool) → (a || b) ≡ (b || a)
or_comm true true = refl
or_comm true false = refl
or_comm false true = refl
or_comm false false = refl

pub has_committed-records_of : (n : ℕ) (lines : List Replied) → has_committed n lines ≡ list_any (λ r. r.tid == n) (committed_records lines)
has_committed-records_of n [] = refl
has_committed-records_of n (a ∷ above) =
    or_comm (is_committed a.reply && is_trace n (trace_of a above)) (has_committed n above)
    ∙ ap (λ b. b || (is_committed a.reply && is_trace n (trace_of a above))) (has_committed-records_of n above)
    ∙ ap (λ b. list_any (λ r. r.tid == n) (committed_records above) || b) (same_number n a.reply (trace_of a above))
    ∙ sym (list_any-append (λ r. r.tid == n) (committed_records above) (record_at a.reply (trace_of a above)))

-- ---- the snapshot

none_until : (e last : ℕ) (later : List Record) → e ≤ last → list_all (λ r. nat_lt last r.epoch) later ≡ true → filter (λ r. nat_le r.epoch e) later ≡ []
none_until e last [] le h = refl
none_until e last (r ∷ later) le h =
    let parts = and_parts (nat_lt last r.epoch) (list_all (λ s. nat_lt last s.epoch) later) h in
    let lt = ltb-true last r.epoch parts.0 in
    let out : nat_le r.epoch e ≡ false = lt-leb r.epoch e (omega (arith, lt, le)) in
    rw out (none_until e last later le parts.1)

pub at-later : (g : List Vertex) (records later : List Record) (e last : ℕ) → e ≤ last → list_all (λ r. nat_lt last r.epoch) later ≡ true → at g (records ++ later) e ≡ at g records e
at-later g records later e last le h =
    ap (λ rs. after (flat_map (λ r. r.changes) rs) g) (filter-append (λ r. nat_le r.epoch e) records later
    ∙ ap (λ rs. filter (λ r. nat_le r.epoch e) records ++ rs) (none_until e last later le h) ∙ append-nil (filter (λ r. nat_le r.epoch e) records))

-- ---- what lines and later records have to do with each other

-- none of these records is of a transaction that the lines committed
abbrev pub are_new : List Replied → List Record → Bool
are_new lines later = list_all (λ r. not (has_committed r.tid lines)) later

none_known : (p : Record → Bool) (lines : List Replied) (later : List Record) → are_new lines later ≡ true → list_any (λ r. p r && has_committed r.tid lines) later ≡ false
none_known p lines [] h = refl
none_known p lines (r ∷ later) h =
    let parts = and_parts (not (has_committed r.tid lines)) (are_new lines later) h in
    or_from _ _ (and_right (p r) _ (not-true _ parts.0)) (none_known p lines later parts.1)

-- a test of committed records answers as before
pub known-later : (p : Record → Bool) (lines : List Replied) (records later : List Record) → are_new lines later ≡ true →
    list_any (λ r. p r && has_committed r.tid lines) (records ++ later) ≡ list_any (λ r. p r && has_committed r.tid lines) records
known-later p lines records later h =
    list_any-append (λ r. p r && has_committed r.tid lines) records later
    ∙ ap (λ b. list_any (λ r. p r && has_committed r.tid lines) records || b) (none_known p lines later h)
    ∙ or_none _
