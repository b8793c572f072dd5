-- What a shard keeps of one vertex, what it shows of it, and what each event makes of it. Each list of entries or versions has the newest first.
use Rattle.std.specs.Prelude.{ℕ, Bool, true, false, nat_lt, ◌==◌, if◌then◌else◌, List, [], ◌∷◌, map, filter, Option, Some, None}
use Rattle.graph_model.specs.declared.pairs.Pair.{Pair}
use Rattle.graph_model.specs.Vertex.{LabelList, Vertex}
use Rattle.stamps.specs.declared.stamp.Stamp.TheVariants.{By}
use Rattle.stamps.specs.Stamps.{Reader, Txn, counts}
use Rattle.edge_log.specs.Entries.{shown, has_entry_of}
use Rattle.edge_log.specs.Places.{newest_place}
use Rattle.edge_log.specs.Contents.{LogContent, empty_content, with_appended, with_ended, with_converted, with_undone}
use Rattle.vertex_versions.specs.declared.version.Version.{Version}
use Rattle.vertex_versions.specs.Versions.{converted_versions, undone_versions}
use Rattle.vertex_locks.specs.declared.answer.Look.{Look}
use Rattle.vertex_locks.specs.Rows.{answer_by_owner}

-- the log of a label
pub record LabelLog : Type 0 where
  pub label : ℕ
  pub log : LogContent

-- what is kept of a vertex: the transaction that owns it, the epoch of the last commit that changed it, its versions, and a log for each label that ever had an edge, the labels rising
pub record Row : Type 0 where
  pub owner : Option ℕ
  pub committed : ℕ
  pub versions : List Version
  pub logs : List LabelLog

-- what is kept of a vertex that was never there
abbrev pub fresh_row : Row
fresh_row = record { owner = None; committed = 0; versions = []; logs = [] }

-- The log of a label: the empty log where the label has none.
abbrev pub log_at : List LabelLog → ℕ → LogContent
log_at [] l = empty_content
log_at (x ∷ logs) l = if x.label == l then x.log else log_at logs l

-- the logs with this one in its place among the rising labels
abbrev pub with_log : LabelLog → List LabelLog → List LabelLog
with_log x [] = x ∷ []
with_log x (y ∷ logs) =
    if nat_lt x.label y.label then x ∷ y ∷ logs
    else (if x.label == y.label then x ∷ logs else y ∷ with_log x logs)

-- the logs after the same change of each
abbrev pub each_log : (LogContent → LogContent) → List LabelLog → List LabelLog
each_log change logs = map (λ x. record { label = x.label; log = change x.log }) logs

-- A vertex was not made, is there with a payload, or was dropped.
pub data Life : Type 0 where
  Unborn : Life
  There : (p : List ℕ) → Life
  Gone : Life

abbrev pub life_of : Option (List ℕ) → Life
life_of None = Gone
life_of (Some p) = There p

-- What a reader at epoch e sees of a vertex's life: what the newest version that counts says.
abbrev pub newest : List Version → ℕ → Reader → Life
newest [] e who = Unborn
newest (x ∷ versions) e who = if counts x.created e who then life_of x.content else newest versions e who

abbrev pub is_there : Life → Bool
is_there Unborn = false
is_there (There p) = true
is_there Gone = false

-- the lists that a reader at epoch e sees: of each label whose log shows edges
abbrev pub has_pairs : List Pair → Bool
has_pairs [] = false
has_pairs (x ∷ pairs) = true

abbrev pub shown_lists : List LabelLog → ℕ → Reader → List LabelList
shown_lists logs e who = filter (λ x. has_pairs x.pairs) (map (λ x. record { label = x.label; pairs = shown x.log.entries e who }) logs)

-- The vertex that a reader at epoch e sees in a row, where it is there.
abbrev pub living_vertex : ℕ → Life → List LabelList → Option Vertex
living_vertex v Unborn lists = None
living_vertex v (There p) lists = Some (record { number = v; payload = p; lists = lists })
living_vertex v Gone lists = None

abbrev pub shown_vertex : ℕ → Row → ℕ → Reader → Option Vertex
shown_vertex v row e who = living_vertex v (newest row.versions e who) (shown_lists row.logs e who)

-- What a look of a transaction with this read epoch answers.
abbrev pub lock_answer : Row → ℕ → ℕ → Look
lock_answer row t read = answer_by_owner row.owner row.committed t read

-- the log where the newest entry of d that a transaction sees is ended by it, if it sees one
abbrev pub ended_where : Option ℕ → ℕ → LogContent → LogContent
ended_where None t log = log
ended_where (Some place) t log = with_ended place t log

abbrev pub ended_log : ℕ → ℕ → ℕ → LogContent → LogContent
ended_log d read t log = ended_where (newest_place log.entries d read (Txn t)) t log

-- the row after its transaction has taken it
abbrev pub taken_row : ℕ → Row → Row
taken_row t row = record row { owner = Some t }

-- after a put: the edge to the same destination is ended, and the new one is appended
abbrev pub put_row : ℕ → ℕ → ℕ → ℕ → List ℕ → Row → Row
put_row t read l d p row = record row { owner = Some t; logs = with_log (record { label = l; log = with_appended t d p (ended_log d read t (log_at row.logs l)) }) row.logs }

-- after a del: the edge is ended
abbrev pub del_row : ℕ → ℕ → ℕ → ℕ → Row → Row
del_row t read l d row = record row { owner = Some t; logs = with_log (record { label = l; log = ended_log d read t (log_at row.logs l) }) row.logs }

-- after a new, a set or a drop: a version is pushed, without a payload for a drop
abbrev pub push_row : ℕ → Option (List ℕ) → Row → Row
push_row t content row = record row { owner = Some t; versions = record { created = By t; content = content } ∷ row.versions }

-- a log after the commit of a transaction: it has the epoch where it holds something of the transaction
abbrev pub committed_log : ℕ → ℕ → LogContent → LogContent
committed_log t e log = if has_entry_of t log.entries then with_converted t e log else log

-- the row after the commit of a record that changed the vertex, at the record's epoch
abbrev pub committed_row : ℕ → ℕ → Row → Row
committed_row t e row = record { owner = row.owner; committed = e; versions = converted_versions t e row.versions; logs = each_log (committed_log t e) row.logs }

-- after the commit of its owner: the row is free, and all else is as it was where the record did not change the vertex
abbrev pub apply_row : ℕ → ℕ → Bool → Row → Row
apply_row t e changed row = record (if changed then committed_row t e row else row) { owner = None }

-- after its owner was given up
abbrev pub undo_row : ℕ → Row → Row
undo_row t row = record { owner = None; committed = row.committed; versions = undone_versions t row.versions; logs = each_log (with_undone t) row.logs }
