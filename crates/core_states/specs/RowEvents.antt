-- The events that work on the row of a vertex: what each answers, and what it leaves of the row and of its actor; none where its condition does not hold.
use Rattle.std.specs.Prelude.{ℕ, ◌+◌, Bool, true, false, ◌&&◌, not, if◌then◌else◌, nat_lt, List, [], ◌∷◌, is_some, Option, Some, None}
use Rattle.graph_model.specs.declared.change.Change.{Change}
use Rattle.graph_model.specs.declared.change.Change.TheVariants.{New, Set, Drop, Put, Del}
use Rattle.graph_model.specs.declared.query.Query.{Query}
use Rattle.graph_model.specs.Change.{vertex_of, encoded_len, encoded_lens, edge_size}
use Rattle.graph_model.specs.Graph.{pair_to, asked_vertex, seen}
use Rattle.graph_model.specs.Records.{has_destination}
use Rattle.graph_model.specs.Places.{changes_about}
use Rattle.stamps.specs.Stamps.{Txn}
use Rattle.edge_log.specs.Entries.{shown, sizes}
use Rattle.vertex_locks.specs.declared.answer.Look.{Look}
use Rattle.vertex_locks.specs.declared.answer.Look.TheVariants.{Taken, Held, Conflict}
use Rattle.core_rows.specs.Rows.{Row, log_at, newest, is_there, lock_answer, taken_row, put_row, del_row, push_row, apply_row, undo_row, shown_vertex}
use Rattle.core_states.specs.declared.transaction.Transaction.{Transaction}
use Rattle.core_states.specs.declared.actor.Actor.{Actor}
use Rattle.core_states.specs.declared.event.CoreAnswer.{CoreAnswer}
use Rattle.core_states.specs.declared.event.CoreAnswer.TheVariants as answer
use Rattle.core_states.specs.Numbers.{has_number}
use Rattle.core_states.specs.Transactions.{is_loser, is_working, holds, touching, changing, settling, with_txn}

pub record RowMove : Type 0 where
  pub answer : CoreAnswer
  pub row : Row
  pub actor : Actor

-- How long the changes of a transaction may be, and how much the entries of a log may take.
pub record Limits : Type 0 where
  pub txn : ℕ
  pub log : ℕ

-- the transaction has the vertex, with its own changes, in its snapshot
abbrev pub has_vertex : Transaction → Row → Bool
has_vertex x row = is_there (newest row.versions x.read (Txn x.tid))

-- it sees an edge to d under label l
abbrev pub sees_edge : Transaction → Row → ℕ → ℕ → Bool
sees_edge x row l d = is_some (pair_to d (shown (log_at row.logs l).entries x.read (Txn x.tid)))

-- its changes with this one would be too long
abbrev pub is_long : Limits → Transaction → Change → Bool
is_long most x c = nat_lt most.txn (encoded_lens x.own + encoded_len c)

-- the log with this payload would take too much
abbrev pub is_full : Limits → Row → ℕ → List ℕ → Bool
is_full most row l p = nat_lt most.log (sizes (log_at row.logs l).entries + edge_size p)

-- what a change makes of the row that is taken, with its answer
abbrev pub changed_row : Transaction → Change → Row → Row
changed_row x (New v p) row = push_row x.tid (Some p) row
changed_row x (Set v p) row = push_row x.tid (Some p) row
changed_row x (Drop v) row = push_row x.tid None row
changed_row x (Put v l d p) row = put_row x.tid x.read l d p row
changed_row x (Del v l d) row = del_row x.tid x.read l d row

abbrev pub made : Transaction → Change → Row → CoreAnswer
made x (New v p) row = answer.Done
made x (Set v p) row = answer.Done
made x (Drop v) row = answer.Done
made x (Put v l d p) row = if sees_edge x row l d then answer.Replaced else answer.Added
made x (Del v l d) row = answer.Gone

-- a refusal that comes with the lock taken
abbrev pub refusal : Limits → Transaction → Change → Row → Option CoreAnswer
refusal most x (New v p) row = if is_long most x (New v p) then Some answer.TxnFull else None
refusal most x (Set v p) row = if is_long most x (Set v p) then Some answer.TxnFull else None
refusal most x (Drop v) row = if is_long most x (Drop v) then Some answer.TxnFull else None
refusal most x (Put v l d p) row =
    if is_long most x (Put v l d p) then Some answer.TxnFull else
    if is_full most row l p then Some answer.LogFull else None
refusal most x (Del v l d) row =
    if not (sees_edge x row l d) then Some answer.Absent else
    if is_long most x (Del v l d) then Some answer.TxnFull else None

abbrev pub by_refusal : Option CoreAnswer → Transaction → Change → Row → Actor → Option RowMove
by_refusal (Some says) x c row a = Some (record { answer = says; row = taken_row x.tid row; actor = with_txn a (Some (touching x (vertex_of c))) })
by_refusal None x c row a = Some (record { answer = made x c row; row = changed_row x c row; actor = with_txn a (Some (changing x c)) })

abbrev pub by_look : Look → Limits → Transaction → Change → Row → Actor → Option RowMove
by_look Taken most x c row a = by_refusal (refusal most x c row) x c row a
by_look (Held u) most x c row a = None
by_look (Conflict e) most x c row a = None

-- put, del, set and drop, by a look that takes the lock or finds it own
abbrev pub changes : Limits → Transaction → Change → Row → Actor → Option RowMove
changes most x c row a =
    if not (is_working x) then None else
    if not (has_vertex x row) then Some (record { answer = answer.NoVertex; row = row; actor = with_txn a (Some x) }) else
    by_look (lock_answer row x.tid x.read) most x c row a

-- a put's destination is below its limit
abbrev pub puts : Limits → Transaction → Change → Row → Actor → Option RowMove
puts most x c row a = if has_destination c then changes most x c row a else None

-- new: the number was drawn and not used
abbrev pub news : Limits → Transaction → ℕ → List ℕ → Row → Actor → Option RowMove
news most x v p row a =
    if not (is_working x) then None else
    if not (has_number v x.drawn) then None else
    if is_long most x (New v p) then Some (record { answer = answer.TxnFull; row = row; actor = with_txn a (Some x) }) else
    Some (record { answer = answer.Done; row = changed_row x (New v p) row; actor = with_txn a (Some (changing x (New v p))) })

-- look: at a lock that can't be taken
abbrev pub looked_at : Transaction → ℕ → Look → CoreAnswer → Row → Actor → Option RowMove
looked_at x v look says row a = Some (record { answer = says; row = row; actor = record a { txn = Some x; looked = Some (record { v = v; look = look }) } })

abbrev pub looks_by : Look → Transaction → ℕ → Row → Actor → Option RowMove
looks_by Taken x v row a = None
looks_by (Held u) x v row a = looked_at x v (Held u) (answer.Held u) row a
looks_by (Conflict e) x v row a = looked_at x v (Conflict e) (answer.Conflict e) row a

abbrev pub looks : Transaction → ℕ → Row → Actor → Option RowMove
looks x v row a =
    if not (is_working x) then None else
    if not (has_vertex x row) then None else
    looks_by (lock_answer row x.tid x.read) x v row a

-- read: by what is visible
abbrev pub reads : Transaction → Query → Row → Actor → Option RowMove
reads x q row a =
    if not (is_working x) then None else
    Some (record { answer = answer.Shown (seen (shown_vertex (asked_vertex q) row x.read (Txn x.tid)) q); row = row; actor = with_txn a (Some x) })

-- apply: the stamps become the record's epoch, and the vertex is free. Its committed epoch rises only where the record changed it
abbrev pub has_change : List Change → Bool
has_change [] = false
has_change (c ∷ cs) = true

abbrev pub applies_at : Option ℕ → Transaction → ℕ → Row → Actor → Option RowMove
applies_at None x v row a = None
applies_at (Some e) x v row a =
    if holds x v
    then Some (record { answer = answer.Done; row = apply_row x.tid e (has_change (changes_about v x.own)) row; actor = with_txn a (Some (settling x v)) })
    else None

-- undo: the stamps are taken off, and the vertex is free. The last look still counts
abbrev pub undoes : Transaction → ℕ → Row → Actor → Option RowMove
undoes x v row a =
    if is_loser x.stage && holds x v
    then Some (record { answer = answer.Done; row = undo_row x.tid row; actor = record a { txn = Some (settling x v) } })
    else None
