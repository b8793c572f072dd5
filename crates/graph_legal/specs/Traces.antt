-- Traces: what the lines of a session make of its transaction.
use Rattle.std.specs.Prelude.{ℕ, Bool, true, false, not, ◌&&◌, ◌||◌, ◌==◌, if◌then◌else◌, List, [], ◌∷◌, ◌++◌, Option, Some, None}
use Rattle.std.specs.List.{list_any}
use Rattle.graph_model.specs.declared.change.Change.{Change}
use Rattle.graph_model.specs.declared.change.Change.TheVariants as change
use Rattle.request_text.specs.declared.request.Request.{Request}
use Rattle.request_text.specs.declared.request.Request.TheVariants as request
use Rattle.request_text.specs.declared.reply.Reply.{Reply}
use Rattle.request_text.specs.declared.reply.Reply.TheVariants as reply
use Rattle.graph_legal.specs.Lines.{Replied, same_worker, any_line}

-- A transaction as its lines so far make it.
pub record Trace : Type 0 where
  pub number : ℕ
  pub read : ℕ
  pub own : List Change
  -- the vertices that it took, and those at which want of memory hides whether it did
  pub took : List ℕ
  pub unsure : List ℕ

-- the change that a line noted
abbrev pub noted_at : Request → Reply → List Change
noted_at (request.Vertex p) (reply.Vertex v) = change.New v p ∷ []
noted_at (request.Set v p) reply.SetDone = change.Set v p ∷ []
noted_at (request.Drop v) reply.Dropped = change.Drop v ∷ []
noted_at (request.Put v l d p) reply.Added = change.Put v l d p ∷ []
noted_at (request.Put v l d p) reply.Replaced = change.Put v l d p ∷ []
noted_at (request.Del v l d) reply.Gone = change.Del v l d ∷ []
noted_at q r = []

-- the vertex that a line names for change
abbrev pub named_for_change : Request → List ℕ
named_for_change (request.Set v p) = v ∷ []
named_for_change (request.Drop v) = v ∷ []
named_for_change (request.Put v l d p) = v ∷ []
named_for_change (request.Del v l d) = v ∷ []
named_for_change q = []

-- the replies by which a transaction took the vertex that its line names for change
abbrev pub is_taking : Reply → Bool
is_taking reply.SetDone = true
is_taking reply.Dropped = true
is_taking reply.Added = true
is_taking reply.Replaced = true
is_taking reply.Gone = true
is_taking reply.Absent = true
is_taking reply.TxnFull = true
is_taking reply.LogFull = true
is_taking r = false

abbrev pub is_no_memory : Reply → Bool
is_no_memory reply.NoMemory = true
is_no_memory r = false

-- the vertices that a transaction took at a line
abbrev pub taken_at : Request → Reply → List ℕ
taken_at (request.Vertex p) (reply.Vertex v) = v ∷ []
taken_at q r = if is_taking r then named_for_change q else []

-- the vertices that it may have taken there, besides
abbrev pub unsure_at : Request → Reply → List ℕ
unsure_at q r = if is_no_memory r then named_for_change q else []

-- the replies that end a transaction
abbrev pub is_ending : Reply → Bool
is_ending (reply.Committed e) = true
is_ending reply.Ended = true
is_ending reply.Aborted = true
is_ending (reply.Conflict v e) = true
is_ending (reply.Held v n) = true
is_ending (reply.LogFault m n) = true
is_ending r = false

-- a transaction after one more of its lines
abbrev pub grown : Request → Reply → Trace → Trace
grown q r t = record t { own = t.own ++ noted_at q r; took = t.took ++ taken_at q r; unsure = t.unsure ++ unsure_at q r }

-- the transaction that a `begun` reply starts
abbrev pub fresh : ℕ → ℕ → Trace
fresh number read = record { number = number; read = read; own = []; took = []; unsure = [] }

-- what a session's line makes of its transaction, where it has one
abbrev pub trace_after : Request → Reply → Option Trace → Option Trace
trace_after q (reply.Begun number read) t = Some (fresh number read)
trace_after q r None = None
trace_after q r (Some t) = if is_ending r then None else Some (grown q r t)

-- the transaction that a session has open in a phase after these lines
abbrev pub open_trace : ℕ → ℕ → List Replied → Option Trace
open_trace phase session [] = None
open_trace phase session (a ∷ above) =
    let t = open_trace phase session above in
    if a.phase == phase && a.session == session then trace_after a.request a.reply t else t

-- the transaction that a line stands in
abbrev pub trace_of : Replied → List Replied → Option Trace
trace_of a above = open_trace a.phase a.session above

abbrev pub is_trace : ℕ → Option Trace → Bool
is_trace number None = false
is_trace number (Some t) = t.number == number

abbrev pub is_committed : Reply → Bool
is_committed (reply.Committed e) = true
is_committed r = false

-- whether the transaction of this number has its commit line among these
abbrev pub has_committed : ℕ → List Replied → Bool
has_committed number lines = any_line (λ b above. is_committed b.reply && is_trace number (trace_of b above)) lines

-- the same, among those that the worker of a ran in its phase
abbrev pub has_committed_beside : Replied → ℕ → List Replied → Bool
has_committed_beside a number lines = any_line (λ b above. same_worker b a && is_committed b.reply && is_trace number (trace_of b above)) lines

-- whether a number is among these
abbrev pub is_among : ℕ → List ℕ → Bool
is_among v vs = list_any (λ x. x == v) vs

-- whether another transaction than t took the vertex
abbrev pub is_taken_by_other : ℕ → Trace → Option Trace → Bool
is_taken_by_other v t None = false
is_taken_by_other v t (Some u) = not (u.number == t.number) && is_among v u.took

-- Whether line a of t is blocked on a vertex: another transaction of its worker and phase, open after the lines before a, took it.
abbrev pub is_blocked : Trace → Replied → List Replied → ℕ → Bool
is_blocked t a before v = list_any (λ b. same_worker b a && is_taken_by_other v t (open_trace b.phase b.session before)) before

-- whether the transaction of this number is this one, and may have taken the vertex
abbrev pub may_hold : ℕ → ℕ → Option Trace → Bool
may_hold v number None = false
may_hold v number (Some u) = u.number == number && (is_among v u.took || is_among v u.unsure)

-- a transaction of a's worker and phase that is open after the lines before a, and may have taken the vertex there
abbrev pub is_held_beside : Replied → List Replied → ℕ → ℕ → Bool
is_held_beside a before v number = list_any (λ b. same_worker b a && may_hold v number (open_trace b.phase b.session before)) before

-- a transaction of another worker of a's phase that may have taken the vertex at any of its lines
abbrev pub is_held_elsewhere : Replied → List Replied → ℕ → ℕ → Bool
is_held_elsewhere a all v number =
    any_line (λ b above. b.phase == a.phase && not (b.worker == a.worker) && is_trace number (trace_of b above) && (is_among v (taken_at b.request b.reply) || is_among v (unsure_at b.request b.reply))) all
