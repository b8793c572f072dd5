-- A read as an answered request.
use Rattle.std.proofs.Common.{◌≡◌, ℕ, List, refl, sym, subst, Option}
use Rattle.std.specs.Prelude.{IsTrue}
use Rattle.atomic_table.specs.declared.shared.Seat.{Seat}
use Rattle.graph_model.specs.declared.query.Query.{Query}
use Rattle.graph_model.specs.declared.query.Query.TheVariants as query
use Rattle.graph_model.specs.declared.query.Answer.{Answer}
use Rattle.graph_model.specs.declared.query.Answer.TheVariants as answer
use Rattle.request_text.specs.declared.reply.Reply.{Reply}
use Rattle.request_text.specs.declared.reply.Reply.TheVariants as reply
use Rattle.graph_legal.specs.TraceOk.{printed}
use Rattle.graph_legal.specs.Kinds.{is_reply_inside}
use Rattle.graph_workers.specs.Requests.{InsideMakes}
use Rattle.graph_workers.specs.Passes.{EndIs}
use Rattle.core_calls.specs.Calls.{Reads, ReadsNone}
use Rattle.core_calls.specs.Events.{Told}
use Rattle.core_states.specs.declared.actor.Actor.{Actor}
use Rattle.core_states.specs.declared.transaction.Transaction.{Transaction}
use Rattle.turn_board.specs.Board.{known}
use Rattle.turn_board.specs.Views.{View}
use Rattle.turn_board.specs.declared.board.TurnBoard.{TurnBoard}
use Rattle.store_turns.specs.declared.session.Session.{Session}
use Rattle.store_turns.specs.Fits.{actor_at, name_in}
use Rattle.store_board.specs.Standing.{Goes}
use Rattle.store_lines.specs.Lines.{IsInside, InsideRan, asking}
use Rattle.store_lines.proofs.Ready.{same_ready}

-- what a read is answered is what it made
read_makes : (q : Query) (a : Answer) (x : Transaction) (es : List Told) → Reads q a es → InsideMakes x (asking q) (printed q a) es
read_makes (query.Vertex v) answer.NoVertex x es reads = (answer.NoVertex, reads, refl)
read_makes (query.Vertex v) answer.Absent x es reads = (answer.Absent, reads, refl)
read_makes (query.Vertex v) (answer.Value y) x es reads = ((answer.Value y), reads, refl)
read_makes (query.Vertex v) (answer.Edges y) x es reads = ((answer.Edges y), reads, refl)
read_makes (query.Vertex v) (answer.Named y) x es reads = ((answer.Named y), reads, refl)
read_makes (query.Edge v l d) answer.NoVertex x es reads = (answer.NoVertex, reads, refl)
read_makes (query.Edge v l d) answer.Absent x es reads = (answer.Absent, reads, refl)
read_makes (query.Edge v l d) (answer.Value y) x es reads = ((answer.Value y), reads, refl)
read_makes (query.Edge v l d) (answer.Edges y) x es reads = ((answer.Edges y), reads, refl)
read_makes (query.Edge v l d) (answer.Named y) x es reads = ((answer.Named y), reads, refl)
read_makes (query.Scan v l) answer.NoVertex x es reads = (answer.NoVertex, reads, refl)
read_makes (query.Scan v l) answer.Absent x es reads = (answer.Absent, reads, refl)
read_makes (query.Scan v l) (answer.Value y) x es reads = ((answer.Value y), reads, refl)
read_makes (query.Scan v l) (answer.Edges y) x es reads = ((answer.Edges y), reads, refl)
read_makes (query.Scan v l) (answer.Named y) x es reads = ((answer.Named y), reads, refl)
read_makes (query.Labels v) answer.NoVertex x es reads = (answer.NoVertex, reads, refl)
read_makes (query.Labels v) answer.Absent x es reads = (answer.Absent, reads, refl)
read_makes (query.Labels v) (answer.Value y) x es reads = ((answer.Value y), reads, refl)
read_makes (query.Labels v) (answer.Edges y) x es reads = ((answer.Edges y), reads, refl)
read_makes (query.Labels v) (answer.Named y) x es reads = ((answer.Named y), reads, refl)

read_kind : (q : Query) (a : Answer) → IsTrue (is_reply_inside (asking q) (printed q a))
read_kind (query.Vertex v) answer.NoVertex = refl
read_kind (query.Vertex v) answer.Absent = refl
read_kind (query.Vertex v) (answer.Value y) = refl
read_kind (query.Vertex v) (answer.Edges y) = refl
read_kind (query.Vertex v) (answer.Named y) = refl
read_kind (query.Edge v l d) answer.NoVertex = refl
read_kind (query.Edge v l d) answer.Absent = refl
read_kind (query.Edge v l d) (answer.Value y) = refl
read_kind (query.Edge v l d) (answer.Edges y) = refl
read_kind (query.Edge v l d) (answer.Named y) = refl
read_kind (query.Scan v l) answer.NoVertex = refl
read_kind (query.Scan v l) answer.Absent = refl
read_kind (query.Scan v l) (answer.Value y) = refl
read_kind (query.Scan v l) (answer.Edges y) = refl
read_kind (query.Scan v l) (answer.Named y) = refl
read_kind (query.Labels v) answer.NoVertex = refl
read_kind (query.Labels v) answer.Absent = refl
read_kind (query.Labels v) (answer.Value y) = refl
read_kind (query.Labels v) (answer.Edges y) = refl
read_kind (query.Labels v) (answer.Named y) = refl

read_ends : (q : Query) (a : Answer) (b : Actor) → EndIs (printed q a) b
read_ends (query.Vertex v) answer.NoVertex b = tt
read_ends (query.Vertex v) answer.Absent b = tt
read_ends (query.Vertex v) (answer.Value y) b = tt
read_ends (query.Vertex v) (answer.Edges y) b = tt
read_ends (query.Vertex v) (answer.Named y) b = tt
read_ends (query.Edge v l d) answer.NoVertex b = tt
read_ends (query.Edge v l d) answer.Absent b = tt
read_ends (query.Edge v l d) (answer.Value y) b = tt
read_ends (query.Edge v l d) (answer.Edges y) b = tt
read_ends (query.Edge v l d) (answer.Named y) b = tt
read_ends (query.Scan v l) answer.NoVertex b = tt
read_ends (query.Scan v l) answer.Absent b = tt
read_ends (query.Scan v l) (answer.Value y) b = tt
read_ends (query.Scan v l) (answer.Edges y) b = tt
read_ends (query.Scan v l) (answer.Named y) b = tt
read_ends (query.Labels v) answer.NoVertex b = tt
read_ends (query.Labels v) answer.Absent b = tt
read_ends (query.Labels v) (answer.Value y) b = tt
read_ends (query.Labels v) (answer.Edges y) b = tt
read_ends (query.Labels v) (answer.Named y) b = tt

unread_makes : (q : Query) (x : Transaction) (es : List Told) → ReadsNone q es → InsideMakes x (asking q) reply.NoMemory es
unread_makes (query.Vertex v) x es none = none
unread_makes (query.Edge v l d) x es none = none
unread_makes (query.Scan v l) x es none = none
unread_makes (query.Labels v) x es none = none

unread_kind : (q : Query) → IsTrue (is_reply_inside (asking q) reply.NoMemory)
unread_kind (query.Vertex v) = refl
unread_kind (query.Edge v l d) = refl
unread_kind (query.Scan v l) = refl
unread_kind (query.Labels v) = refl

module _ {H : Type 0} (board : TurnBoard H) (shards : ℕ) (p p' : Seat (Option H) View) (s : Session) (inside : IsInside s) (q : Query) where
  -- it was read
  pub read_ran : (a : Answer) (w : Reply) → w ≡ printed q a → ((ts : List Told) × Reads q a ts × Goes board shards ts p p' s s) → InsideRan board shards (asking q) w p p' s s
  read_ran a w is gone = subst (λ z. InsideRan board shards (asking q) z p p' s s) (sym is) (record {
    events = gone.0;
    makes = λ x work. read_makes q a x gone.0 gone.1;
    goes = gone.2;
    kind = λ _. read_kind q a;
    ends = read_ends q a (actor_at (known p') (name_in (known p) s.index));
    ready = same_ready s s inside refl;
  })

  -- memory ran out
  pub unread_ran : ((ts : List Told) × ReadsNone q ts × Goes board shards ts p p' s s) → InsideRan board shards (asking q) reply.NoMemory p p' s s
  unread_ran gone = record {
    events = gone.0;
    makes = λ x work. unread_makes q x gone.0 gone.1;
    goes = gone.2;
    kind = λ _. unread_kind q;
    ends = tt;
    ready = same_ready s s inside refl;
  }
