-- The law of graph_workers: at close the replies of all workers are legal for the records.
use Rattle.std.proofs.Common.{◌≡◌, ℕ, ◌+◌, ◌≤◌, Bool, true, false, arith, ◌&&◌, List, [], ◌∷◌, ◌++◌, length, refl, sym, ap, ◌∙◌, subst, inl, inr, ⊎_elim}
use Rattle.std.specs.Prelude.{◌==◌, ◌%◌, if◌then◌else◌, map, Some}
use Rattle.std.specs.List.{list_all}
use Rattle.std.proofs.lemmas.Bool.{and_parts, and_from, eq-eqb, ne_eqb}
use Rattle.graph_model.specs.declared.record.Record.{Record}
use Rattle.graph_model.specs.declared.graph.Base.{Base}
use Rattle.request_text.specs.declared.reply.Reply.{Reply}
use Rattle.graph_legal.specs.Lines.{Phase, Asked, Replied, asked_in, asked_from, answered, history_onto, history, any_line}
use Rattle.request_text.specs.declared.request.Line.{Line}
use Rattle.graph_workers.proofs.Merging.{merge}
use Rattle.graph_legal.specs.Traces.{trace_of, has_committed, is_committed, is_trace}
use Rattle.graph_legal.specs.Legal.{Legal}
use Rattle.graph_workers.proofs.Sights.{Txn, Committed_at, Without, Receipt}
use Rattle.graph_workers.specs.Lines.{Seated, LinesLegal}
use Rattle.graph_workers.proofs.Closing.{In, InRecords, Ran, AllRan}
use Rattle.graph_workers.proofs.Befores.{any_more}
use Rattle.graph_workers.proofs.Receipted.{at_worker, commits_at, receipt_commits}
use Rattle.graph_workers.proofs.Knowing.{transactions_rise, vertices_rise, epochs}
use Rattle.graph_workers.proofs.Holding.{kinds, traces_hold}
use Rattle.graph_workers.proofs.Counting.{lasts, transactions_drawn, vertices_drawn, spent}

all_in : (p : Record → Bool) (xs : List Record) → ((r : Record) → InRecords r xs → p r ≡ true) → list_all p xs ≡ true
all_in p [] f = refl
all_in p (x ∷ xs) f = and_from _ _ (f x (inl refl)) (all_in p xs (λ r m. f r (inr m)))

not_end : {e : ℕ} → Without ≡ Committed_at e → ⊥
not_end {e} h = (cc)

-- each record is that of a transaction that was told so
recorded : (base : Base) (records : List Record) (all : List Replied) (R : Ran base records all) → list_all (λ r. has_committed r.tid all) records ≡ true
recorded base records all R = all_in (λ r. has_committed r.tid all) records (λ r among.
    let c = R.closes.recorded r among in
    let u = c.2 in
    let commits : any_line (λ b above. commits_at c.0 c.1 u.txn.number b (trace_of b above)) all ≡ true = ⊎_elim
    (λ (was : In u (R.now c.0 c.1).receipts). receipt_commits base R.seat R.first R.now all R.starts R.seated R.worked c.0 c.1 u r.epoch was c.5)
    (λ (end : (k : ℕ) × (x : Txn) × ((R.now c.0 c.1).sessions k ≡ Some x) × (u ≡ record { txn = x; ends = Without })).
    absurd (not_end (sym (ap (λ (y : Receipt). y.ends) end.3) ∙ c.5)))
    ((R.wound_up c.0 c.1).only u c.3) in
    any_more (λ b above. commits_at c.0 c.1 r.tid b (trace_of b above)) (λ b above. is_committed b.reply && is_trace r.tid (trace_of b above)) all
    (λ b above t. (and_parts (at_worker c.0 c.1 b) (is_committed b.reply && is_trace r.tid (trace_of b above)) t).1)
    (subst (λ n. any_line (λ b above. commits_at c.0 c.1 n b (trace_of b above)) all ≡ true) c.4 commits))

-- Of any lines: at close the replies of all workers are legal.
pub lines-legal : (base : Base) (records : List Record) (all : List Replied) → Ran base records all → LinesLegal base records all
lines-legal base records all R =
    let ends = lasts base records all R in
    record {
      kinds = kinds base records all R R.now all R.worked R.seated;
      traces_hold = traces_hold base records all R R.now all R.worked R.seated ends R.earlier;
      numbers_drawn = record {
        transactions = transactions_drawn base records all R;
        transactions_rise = transactions_rise base R.first R.last R.starts R.split R.now all R.worked ends;
        vertices = vertices_drawn base records all R;
        vertices_rise = vertices_rise base R.first R.last R.starts R.split R.now all R.worked ends;
      };
      epoch_order = epochs base R.first R.last R.starts R.split records R.now all R.worked ends R.closes.grown;
      records_of_traces = record { continues = R.closes.continues; committed = recorded base records all R };
      spent_at_limit = spent base records all R R.now all R.worked ends;
    }

-- ---- the lines of scripts

-- the worker of a session, in the phases from n on
abbrev pub seat_from : ℕ → List Phase → ℕ → ℕ → ℕ
seat_from n [] ph s = 0
seat_from n (p ∷ phases) ph s = if ph == n then s % p.workers else seat_from (n + 1) phases ph s

abbrev Sits : (ℕ → ℕ → ℕ) → ℕ → List Asked → Type 0
Sits seat n [] = Unit {0}
Sits seat n (a ∷ asked) = (a.worker ≡ seat a.phase a.session) × (n ≤ a.phase) × Sits seat n asked

sits-append : (seat : ℕ → ℕ → ℕ) (n : ℕ) (xs ys : List Asked) → Sits seat n xs → Sits seat n ys → Sits seat n (xs ++ ys)
sits-append seat n [] ys h g = g
sits-append seat n (x ∷ xs) ys h g = (h.0, h.1, sits-append seat n xs ys h.2 g)

sits_here : (n : ℕ) (p : Phase) (phases : List Phase) (script : List Line) → Sits (seat_from n (p ∷ phases)) n (map (asked_in n p.workers) script)
sits_here n p phases [] = tt
sits_here n p phases (line ∷ script) = (rw (eq-eqb n n refl) refl, omega arith, sits_here n p phases script)

sits_later : (n : ℕ) (p : Phase) (phases : List Phase) (xs : List Asked) → Sits (seat_from (n + 1) phases) (n + 1) xs → Sits (seat_from n (p ∷ phases)) n xs
sits_later n p phases [] h = tt
sits_later n p phases (a ∷ xs) h =
    let low = h.1 in
    let other : (a.phase == n) ≡ false = ne_eqb a.phase n (λ e. omega (arith, e, low)) in
    (rw other h.0, omega (arith, low), sits_later n p phases xs h.2)

sits_all : (n : ℕ) (phases : List Phase) → Sits (seat_from n phases) n (asked_from n phases)
sits_all n [] = tt
sits_all n (p ∷ phases) = sits-append (seat_from n (p ∷ phases)) n (map (asked_in n p.workers) p.script) (asked_from (n + 1) phases) (sits_here n p phases p.script) (sits_later n p phases (asked_from (n + 1) phases) (sits_all (n + 1) phases))

seated_onto : (seat : ℕ → ℕ → ℕ) (n : ℕ) (past : List Replied) (asked : List Asked) (replies : List Reply) → Seated seat past → Sits seat n asked → Seated seat (history_onto past asked replies)
seated_onto seat n past [] replies h g = h
seated_onto seat n past (a ∷ asked) [] h g = h
seated_onto seat n past (a ∷ asked) (r ∷ replies) h g = seated_onto seat n (answered a r ∷ past) asked replies (g.0, h) g.2

-- Of lines whose sessions have their workers.
pub seated-legal : (base : Base) (records : List Record) (all : List Replied) (seat : ℕ → ℕ → ℕ) → Seated seat all → AllRan base records all → LinesLegal base records all
seated-legal base records all seat seated A = lines-legal base records all (record {
  first = A.first;
  now = A.now;
  last = A.last;
  seat = seat;
  seated = seated;
  starts = A.starts;
  worked = merge base A.first A.now all A.served;
  wound_up = A.wound_up;
  split = A.split;
  closes = A.closes;
  earlier = A.earlier;
})

-- The lines of scripts have.
pub scripts_seated : (phases : List Phase) (replies : List Reply) → Seated (seat_from 0 phases) (history phases replies)
scripts_seated phases replies = seated_onto (seat_from 0 phases) 0 [] (asked_from 0 phases) replies tt (sits_all 0 phases)

-- Legal is that of the lines of scripts, with a reply for each.
pub legal_of : (base : Base) (phases : List Phase) (replies : List Reply) (records : List Record) → length (asked_from 0 phases) ≡ length replies → LinesLegal base records (history phases replies) → Legal phases base records replies
legal_of base phases replies records one l = record {
  replies_in_kind = record { one_each = one; kinds = l.kinds };
  traces_hold = l.traces_hold;
  numbers_drawn = l.numbers_drawn;
  epoch_order = l.epoch_order;
  records_of_traces = l.records_of_traces;
  spent_at_limit = l.spent_at_limit;
}
