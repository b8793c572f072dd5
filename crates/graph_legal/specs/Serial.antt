-- The plain machine that one worker follows: the records so far, and what each session has open.
use Rattle.std.specs.Prelude.{◌≡◌, ℕ, ◌+◌, ◌<◌, ◌≤◌, Bool, false, ◌&&◌, ◌==◌, nat_lt, IsTrue, IsFalse, ⊤, if◌then◌else◌, List, [], ◌∷◌, ◌++◌, length, Option, Some, None}
use Rattle.std.specs.List.{list_any, AllByRecursion}
use Rattle.graph_model.specs.declared.record.Record.{Record}
use Rattle.graph_model.specs.declared.graph.Base.{Base}
use Rattle.graph_model.specs.Records.{changes_vertex, last_epoch, number_end}
use Rattle.request_text.specs.declared.request.Request.{Request}
use Rattle.request_text.specs.declared.request.Request.TheVariants as request
use Rattle.request_text.specs.declared.reply.Reply.{Reply}
use Rattle.request_text.specs.declared.reply.Reply.TheVariants as reply
use Rattle.graph_legal.specs.Lines.{Asked, alone, asked_from}
use Rattle.request_text.specs.declared.request.Line.{Line}
use Rattle.graph_legal.specs.Traces.{Trace, trace_after, is_among, may_hold}
use Rattle.graph_legal.specs.Kinds.{is_in_kind}
use Rattle.io_edges.specs.Faults.{Rose}
use Rattle.graph_legal.specs.TraceOk.{Run, ReplyHolds}
use Rattle.graph_legal.specs.Legal.{begun_number}
use Rattle.graph_legal.specs.OneWorker.{record_at, has_fit_destination, keeps_within}

pub record State : Type 0 where
  pub records : List Record
  pub sessions : ℕ → Option Trace
  pub next_tid : ℕ
  pub next_vertex : ℕ

-- the machine before its first line
abbrev pub start : Base → State
start base = record { records = []; sessions = λ s. None; next_tid = base.next_tid; next_vertex = base.next_vertex }

abbrev pub is_taken : ℕ → Option Trace → Bool
is_taken v None = false
is_taken v (Some t) = is_among v t.took

-- no other session has taken the vertex
abbrev pub IsUntaken : State → ℕ → ℕ → Type 0
IsUntaken state session v = (s : ℕ) → (s == session) ≡ false → is_taken v (state.sessions s) ≡ false

-- The session may take the vertex: it has no other owner, and no record since its snapshot changed it.
pub record IsFree (state : State) (session : ℕ) (t : Trace) (v : ℕ) : Type 0 where
  pub untaken : IsUntaken state session v
  pub current : IsFalse (list_any (λ r. nat_lt t.read r.epoch && changes_vertex v r) state.records)

-- Another session's transaction, of number n, may have taken the vertex.
pub record IsHolder (state : State) (session v n : ℕ) : Type 0 where
  pub other : ℕ
  pub differs : (other == session) ≡ false
  pub holds : IsTrue (may_hold v n (state.sessions other))

-- The newest record that changed the vertex has this epoch, which the transaction does not see.
pub record IsNewestChange (state : State) (session : ℕ) (t : Trace) (v epoch : ℕ) : Type 0 where
  pub unseen : t.read < epoch
  pub changed : IsTrue (list_any (λ r. r.epoch == epoch && changes_vertex v r) state.records)
  pub newest : IsFalse (list_any (λ r. nat_lt epoch r.epoch && changes_vertex v r) state.records)
  pub untaken : IsUntaken state session v

-- the records with the one that a reply tells of
abbrev pub run_with : Base → State → Reply → Option Trace → Run
run_with base state r t = record { graph = base.graph; records = state.records ++ record_at r t; lines = [] }

-- how a transaction ends at `commit`
abbrev pub CommitEnds : Trace → Reply → Type 0
CommitEnds t (reply.Committed epoch) = 0 < length t.own
CommitEnds t reply.Ended = t.own ≡ []
CommitEnds t (reply.LogFault m n) = (0 < length t.own) × Rose m n
CommitEnds t r = ⊤

-- what the machine's reply says
abbrev pub AnswerHolds : Base → State → ℕ → Option Trace → Request → Reply → Type 0
AnswerHolds base state session None q r = ⊤
AnswerHolds base state session (Some t) request.Commit r = CommitEnds t r
AnswerHolds base state session (Some t) q r =
    ReplyHolds (IsFree state session t) (IsHolder state session) (IsNewestChange state session t) (run_with base state r (Some t)) t q r

abbrev pub SpentHere : State → Request → Type 0
SpentHere state request.Begin = state.next_tid ≡ number_end
SpentHere state (request.Vertex p) = number_end ≤ state.next_vertex
SpentHere state q = ⊤

-- numbers are given in order, and each record makes the next epoch
abbrev pub NumberFits : Base → State → Request → Reply → Type 0
NumberFits base state q (reply.Begun n epoch) = (n ≡ state.next_tid) × (n < number_end) × (epoch ≡ last_epoch base.epoch state.records)
NumberFits base state q (reply.Vertex v) = (v ≡ state.next_vertex) × (v < number_end)
NumberFits base state q (reply.Committed epoch) = epoch ≡ last_epoch base.epoch state.records + 1
NumberFits base state q reply.Spent = SpentHere state q
NumberFits base state q r = ⊤

-- a vertex number is used up with the vertex; want of memory may use one up
abbrev pub NextVertex : Request → Reply → ℕ → ℕ → Type 0
NextVertex (request.Vertex p) (reply.Vertex v) old new = new ≡ old + 1
NextVertex (request.Vertex p) reply.NoMemory old new = (old ≤ new) × (new ≤ old + 1)
NextVertex q r old new = new ≡ old

-- From old, the machine may give this reply to the session's request, and go on to new.
pub record Step (base : Base) (old : State) (session : ℕ) (q : Request) (r : Reply) (new : State) : Type 0 where
  pub kind : IsTrue (is_in_kind (old.sessions session) q r)
  pub holds : AnswerHolds base old session (old.sessions session) q r
  pub number : NumberFits base old q r
  pub within : IsTrue (keeps_within (run_with base old r (old.sessions session)) (old.sessions session) q r)
  pub records : new.records ≡ old.records ++ record_at r (old.sessions session)
  pub sessions : (s : ℕ) → new.sessions s ≡ (if session == s then trace_after q r (old.sessions s) else old.sessions s)
  pub next_tid : new.next_tid ≡ old.next_tid + length (begun_number r)
  pub next_vertex : NextVertex q r old.next_vertex new.next_vertex

-- The machine may give these replies to these lines, and ends with these records.
abbrev pub MachineRuns : Base → State → List Asked → List Reply → List Record → Type 0
MachineRuns base state [] [] records = records ≡ state.records
MachineRuns base state (a ∷ asked) (r ∷ replies) records = (mid : State) × Step base state a.session a.request r mid × MachineRuns base mid asked replies records
MachineRuns base state [] (r ∷ replies) records = ⊥
MachineRuns base state (a ∷ asked) [] records = ⊥

-- the lines of a script that one worker runs
abbrev pub asked_alone : List Line → List Asked
asked_alone script = asked_from 0 (alone script)

-- the destinations are those that a text can spell
abbrev pub AreSpellable : List Line → Type 0
AreSpellable script = AllByRecursion (λ line. IsTrue (has_fit_destination line.request)) script
