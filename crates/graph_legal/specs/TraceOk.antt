-- What each reply in a transaction says of the records and of the lines before it.
use Rattle.std.specs.Prelude.{◌≡◌, ◌≢◌, ℕ, ◌+◌, ◌<◌, ◌≤◌, Bool, true, not, ◌&&◌, ◌||◌, ◌==◌, nat_lt, nat_le, IsTrue, IsFalse, ⊤, List, [], ◌∷◌, length, filter, Option, Some, None, is_some, is_none}
use Rattle.std.specs.List.{list_any}
use Rattle.io_edges.specs.Faults.{Rose}
use Rattle.graph_model.specs.declared.change.Change.{Change}
use Rattle.graph_model.specs.declared.change.Change.TheVariants as change
use Rattle.graph_model.specs.declared.query.Query.{Query}
use Rattle.graph_model.specs.declared.query.Query.TheVariants as query
use Rattle.graph_model.specs.declared.query.Answer.{Answer}
use Rattle.graph_model.specs.declared.query.Answer.TheVariants as answer
use Rattle.graph_model.specs.declared.record.Record.{Record}
use Rattle.graph_model.specs.Vertex.{Vertex}
use Rattle.graph_model.specs.Change.{vertex_of, encoded_len, encoded_lens, put_sizes, edge_size}
use Rattle.graph_model.specs.Graph.{vertex_at, after, at, see, has_edge}
use Rattle.graph_model.specs.Records.{changes_vertex, all_changes, size_of_list, list_most, transaction_most}
use Rattle.request_text.specs.declared.request.Request.{Request}
use Rattle.request_text.specs.declared.request.Request.TheVariants as request
use Rattle.request_text.specs.declared.reply.Reply.{Reply}
use Rattle.request_text.specs.declared.reply.Reply.TheVariants as reply
use Rattle.graph_legal.specs.Lines.{Replied, before}
use Rattle.graph_legal.specs.Traces.{Trace, trace_of, has_committed, has_committed_beside, is_blocked, is_held_beside, is_held_elsewhere}

-- What the replies are judged by: the base graph, all records, and all lines.
pub record Run : Type 0 where
  pub graph : List Vertex
  pub records : List Record
  pub lines : List Replied

-- ---- what a transaction sees

abbrev pub snapshot : Run → Trace → List Vertex
snapshot run t = at run.graph run.records t.read

-- what stands at a vertex in the snapshot with own changes
abbrev pub here : Run → Trace → ℕ → Option Vertex
here run t v = vertex_at v (after t.own (snapshot run t))

abbrev pub HasVertex : Run → Trace → ℕ → Type 0
HasVertex run t v = IsTrue (is_some (here run t v))

-- ---- order and locks

-- a record of an epoch above t's snapshot changed the vertex, and was committed before the line
abbrev pub is_overtaken : Run → Trace → List Replied → ℕ → Bool
is_overtaken run t before v = list_any (λ r. nat_lt t.read r.epoch && changes_vertex v r && has_committed r.tid before) run.records

-- the line of t may take the vertex
pub record MayTakeVertex (run : Run) (t : Trace) (a : Replied) (before : List Replied) (v : ℕ) : Type 0 where
  pub free : IsFalse (is_blocked t a before v)
  pub current : IsFalse (is_overtaken run t before v)

-- Transaction n holds the vertex, as far as the line of t can know.
pub record IsHeld (run : Run) (t : Trace) (a : Replied) (before : List Replied) (v n : ℕ) : Type 0 where
  pub other : n ≢ t.number
  pub takes : IsTrue (is_held_beside a before v n || is_held_elsewhere a run.lines v n)
  pub unseen : IsFalse (list_any (λ r. r.tid == n && nat_le r.epoch t.read) run.records)

-- a record of this epoch changed the vertex; where a worker of the line committed it, that was before the line
abbrev pub is_conflicting : Run → Replied → List Replied → ℕ → ℕ → Bool
is_conflicting run a before v epoch =
    list_any (λ r. r.epoch == epoch && changes_vertex v r && (has_committed r.tid before || not (has_committed_beside a r.tid run.lines))) run.records

-- A record of this epoch, which t does not see, changed the vertex.
pub record IsConflict (run : Run) (t : Trace) (a : Replied) (before : List Replied) (v epoch : ℕ) : Type 0 where
  pub later : t.read < epoch
  pub changed : IsTrue (is_conflicting run a before v epoch)
  pub free : IsFalse (is_blocked t a before v)
  -- no later one was committed before the line
  pub last : IsFalse (list_any (λ r. nat_lt epoch r.epoch && changes_vertex v r && has_committed r.tid before) run.records)

-- ---- limits

-- the length of a transaction's changes with one more
abbrev pub len_with : Trace → Change → ℕ
len_with t c = encoded_lens t.own + encoded_len c

-- the sizes of all that the base, the records and the transaction have put on a vertex and a label
abbrev pub sizes_put : Run → Trace → ℕ → ℕ → ℕ
sizes_put run t v l = size_of_list (vertex_at v run.graph) l + put_sizes v l (all_changes run.records) + put_sizes v l t.own

-- ---- one fact for each reply

-- the reply that prints an answer
abbrev pub printed : Query → Answer → Reply
printed (query.Vertex v) (answer.Value p) = reply.Value p
printed (query.Vertex v) x = reply.Lacking
printed (query.Edge v l d) (answer.Value p) = reply.Edge p
printed (query.Edge v l d) answer.Absent = reply.Absent
printed (query.Scan v l) (answer.Edges pairs) = reply.Edges pairs
printed (query.Labels v) (answer.Named labels) = reply.Labels labels
printed q x = reply.NoVertex

-- a read prints what its query sees, unless memory ran out
abbrev pub ReadHolds : Run → Trace → Query → Reply → Type 0
ReadHolds run t q reply.NoMemory = ⊤
ReadHolds run t q r = r ≡ printed q (see (snapshot run t) t.own q)

-- A change was accepted: there is its vertex, the line may take it, and the changes are not too long.
pub record IsAccepted (may_take : ℕ → Type 0) (run : Run) (t : Trace) (c : Change) : Type 0 where
  pub vertex : HasVertex run t (vertex_of c)
  pub lock : may_take (vertex_of c)
  pub room : len_with t c ≤ transaction_most

-- whether the edge that a change is about stands at its vertex; a change that is about none meets it
abbrev pub meets : Option Vertex → Change → Bool
meets o (change.Put v l d p) = has_edge o l d
meets o (change.Del v l d) = has_edge o l d
meets o c = true

abbrev pub meets_edge : Run → Trace → Change → Bool
meets_edge run t c = meets (here run t (vertex_of c)) c

-- whether the change would be noted: a Del of an edge that is not there is not
abbrev pub is_noted : Run → Trace → Change → Bool
is_noted run t (change.Del v l d) = has_edge (here run t v) l d
is_noted run t c = true

-- too many Puts: their sizes with this one pass the limit
abbrev pub IsLogFull : Run → Trace → Change → Type 0
IsLogFull run t (change.Put v l d p) = list_most < sizes_put run t v l + edge_size p
IsLogFull run t c = ⊥

-- What a reply to a change of a named vertex says. The locks tell which vertices the line may take, who
-- holds one (vertex, number), and which conflict there is (vertex, epoch).
abbrev pub ChangeHolds : (ℕ → Type 0) → (ℕ → ℕ → Type 0) → (ℕ → ℕ → Type 0) → Run → Trace → Change → Reply → Type 0
ChangeHolds may_take is_held is_conflict run t c reply.SetDone = IsAccepted may_take run t c
ChangeHolds may_take is_held is_conflict run t c reply.Dropped = IsAccepted may_take run t c
ChangeHolds may_take is_held is_conflict run t c reply.Added = IsAccepted may_take run t c × IsFalse (meets_edge run t c)
ChangeHolds may_take is_held is_conflict run t c reply.Replaced = IsAccepted may_take run t c × IsTrue (meets_edge run t c)
ChangeHolds may_take is_held is_conflict run t c reply.Gone = IsAccepted may_take run t c × IsTrue (meets_edge run t c)
ChangeHolds may_take is_held is_conflict run t c reply.Absent =
    HasVertex run t (vertex_of c) × may_take (vertex_of c) × IsFalse (meets_edge run t c)
ChangeHolds may_take is_held is_conflict run t c reply.NoVertex = IsTrue (is_none (here run t (vertex_of c)))
ChangeHolds may_take is_held is_conflict run t c (reply.Held v n) = HasVertex run t v × (v ≡ vertex_of c) × is_held v n
ChangeHolds may_take is_held is_conflict run t c (reply.Conflict v epoch) = HasVertex run t v × (v ≡ vertex_of c) × is_conflict v epoch
ChangeHolds may_take is_held is_conflict run t c reply.TxnFull =
    HasVertex run t (vertex_of c) × may_take (vertex_of c) × (transaction_most < len_with t c) × IsTrue (is_noted run t c)
ChangeHolds may_take is_held is_conflict run t c reply.LogFull =
    HasVertex run t (vertex_of c) × may_take (vertex_of c) × IsLogFull run t c
ChangeHolds may_take is_held is_conflict run t c reply.NoMemory = ⊤
ChangeHolds may_take is_held is_conflict run t c r = ⊥

-- what a reply to `vertex` says; the numbers are those of Legal
abbrev pub MakeHolds : (ℕ → Type 0) → Trace → List ℕ → Reply → Type 0
MakeHolds may_take t p (reply.Vertex v) = may_take v × (len_with t (change.New v p) ≤ transaction_most)
MakeHolds may_take t p reply.TxnFull = transaction_most < len_with t (change.New 0 p)
MakeHolds may_take t p r = ⊤

-- The records have this number once: in this record.
abbrev pub IsRecorded : List Record → Record → Type 0
IsRecorded records r = filter (λ s. s.tid == r.tid) records ≡ r ∷ []

-- what a reply to `commit` says
abbrev pub CommitHolds : Run → Trace → Reply → Type 0
CommitHolds run t (reply.Committed epoch) =
    (0 < length t.own) × IsRecorded run.records (record { tid = t.number; read = t.read; epoch = epoch; changes = t.own })
CommitHolds run t reply.Ended = t.own ≡ []
CommitHolds run t (reply.LogFault m n) = (0 < length t.own) × Rose m n
CommitHolds run t r = ⊤

-- what a reply in transaction t says, by the request
abbrev pub ReplyHolds : (ℕ → Type 0) → (ℕ → ℕ → Type 0) → (ℕ → ℕ → Type 0) → Run → Trace → Request → Reply → Type 0
ReplyHolds may_take is_held is_conflict run t (request.Get v) r = ReadHolds run t (query.Vertex v) r
ReplyHolds may_take is_held is_conflict run t (request.Edge v l d) r = ReadHolds run t (query.Edge v l d) r
ReplyHolds may_take is_held is_conflict run t (request.Scan v l) r = ReadHolds run t (query.Scan v l) r
ReplyHolds may_take is_held is_conflict run t (request.Labels v) r = ReadHolds run t (query.Labels v) r
ReplyHolds may_take is_held is_conflict run t (request.Vertex p) r = MakeHolds may_take t p r
ReplyHolds may_take is_held is_conflict run t (request.Set v p) r = ChangeHolds may_take is_held is_conflict run t (change.Set v p) r
ReplyHolds may_take is_held is_conflict run t (request.Drop v) r = ChangeHolds may_take is_held is_conflict run t (change.Drop v) r
ReplyHolds may_take is_held is_conflict run t (request.Put v l d p) r = ChangeHolds may_take is_held is_conflict run t (change.Put v l d p) r
ReplyHolds may_take is_held is_conflict run t (request.Del v l d) r = ChangeHolds may_take is_held is_conflict run t (change.Del v l d) r
ReplyHolds may_take is_held is_conflict run t request.Commit r = CommitHolds run t r
ReplyHolds may_take is_held is_conflict run t q r = ⊤

-- what a reply says, where its line stands in a transaction
abbrev pub HoldsIn : Run → Option Trace → Replied → List Replied → Request → Reply → Type 0
HoldsIn run None a before q r = ⊤
HoldsIn run (Some t) a before q r = ReplyHolds (MayTakeVertex run t a before) (IsHeld run t a before) (IsConflict run t a before) run t q r

-- what the reply of a line says
abbrev pub LineHolds : Run → Replied → List Replied → Type 0
LineHolds run a above = HoldsIn run (trace_of a above) a (before a above) a.request a.reply
