-- A request as it is answered in a transaction and outside of one.
use Rattle.std.proofs.Common.{◌≡◌, ℕ, true, false, is_some, [], refl, subst, Option, Some, None}
use Rattle.std.specs.Prelude.{IsTrue}
use Rattle.std.proofs.lemmas.Bool.{true≢false, false≢true}
use Rattle.atomic_table.specs.declared.shared.Seat.{Seat}
use Rattle.request_text.specs.declared.request.Request.{Request}
use Rattle.request_text.specs.declared.request.Request.TheVariants as request
use Rattle.request_text.specs.declared.reply.Reply.{Reply}
use Rattle.request_text.specs.declared.reply.Reply.TheVariants as reply
use Rattle.graph_legal.specs.Kinds.{is_in_kind}
use Rattle.graph_workers.specs.Requests.{LineMakes}
use Rattle.graph_workers.specs.Passes.{trace_of_txn}
use Rattle.core_states.specs.declared.transaction.Transaction.{Transaction}
use Rattle.graph_model.specs.declared.graph.Base.{Base}
use Rattle.core_states.specs.Names.{Name}
use Rattle.core_states.specs.States.{State}
use Rattle.core_states.specs.Openings.{run_limits}
use Rattle.core_calls.specs.Events.{Did}
use Rattle.turn_board.specs.Board.{known}
use Rattle.turn_board.specs.Views.{View}
use Rattle.turn_board.specs.declared.board.TurnBoard.{TurnBoard}
use Rattle.store_turns.specs.declared.session.Session.{Session}
use Rattle.store_turns.specs.declared.session.Work.{Work}
use Rattle.store_turns.specs.Fits.{IsWorkOf, actor_at, name_in}
use Rattle.store_board.specs.Standing.{Stands}
use Rattle.store_board.proofs.Standing.{stays}
use Rattle.store_lines.specs.Lines.{IsAtLine, IsInside, IsOutside, InsideRan, OutsideRan, RequestRan}
use Rattle.store_lines.proofs.Full.{never_full}
use Rattle.store_lines.proofs.Ready.{works_ready, none_ready}

-- a session that is ready is in a transaction that works, or outside
pub ready_inside : (s : Session) (o : Option Work) → s.work ≡ o → is_some o ≡ true → IsAtLine s → IsInside s
ready_inside s None is some ready = absurd (false≢true some)
ready_inside s (Some t) is some ready = (ready.0, (t, ready.1 t is))

pub ready_outside : (s : Session) (o : Option Work) → s.work ≡ o → is_some o ≡ false → IsAtLine s → IsOutside s
ready_outside s None is none ready = (ready.0, is)
ready_outside s (Some t) is none ready = absurd (true≢false none)

module _ {H : Type 0} (board : TurnBoard H) (shards : ℕ) (p : Seat (Option H) View) (s : Session) (stands : Stands board shards p s) where
  -- nothing is done
  pub open_ran : IsInside s → InsideRan board shards request.Begin reply.TxnOpen p p s s
  open_ran inside = record { events = []; makes = λ x work. refl; goes = stays board shards p s stands; kind = λ _. refl; ends = tt; ready = works_ready s inside.1.0 inside.0 inside.1.1 }

  pub compact_inside : IsInside s → (v l : ℕ) → InsideRan board shards (request.Compact v l) reply.Compacted p p s s
  compact_inside inside v l = record { events = []; makes = λ x work. refl; goes = stays board shards p s stands; kind = λ _. refl; ends = tt; ready = works_ready s inside.1.0 inside.0 inside.1.1 }

  pub compact_outside : IsOutside s → (v l : ℕ) → OutsideRan board shards (request.Compact v l) reply.Compacted p p s s
  compact_outside outside v l = record { events = []; makes = refl; goes = stays board shards p s stands; kind = refl; ends = tt; ready = none_ready s outside.0 outside.1 }

  -- no transaction is open
  pub no_txn : IsOutside s → (q : Request) → (q ≡ request.Begin → ⊥) → ((v l : ℕ) → q ≡ request.Compact v l → ⊥) → OutsideRan board shards q reply.NoTxn p p s s
  no_txn outside request.Begin begin compact = absurd (begin refl)
  no_txn outside (request.Compact v l) begin compact = absurd (compact v l refl)
  no_txn outside (request.Vertex y) begin compact = record { events = []; makes = refl; goes = stays board shards p s stands; kind = refl; ends = tt; ready = none_ready s outside.0 outside.1 }
  no_txn outside (request.Set v y) begin compact = record { events = []; makes = refl; goes = stays board shards p s stands; kind = refl; ends = tt; ready = none_ready s outside.0 outside.1 }
  no_txn outside (request.Get v) begin compact = record { events = []; makes = refl; goes = stays board shards p s stands; kind = refl; ends = tt; ready = none_ready s outside.0 outside.1 }
  no_txn outside (request.Drop v) begin compact = record { events = []; makes = refl; goes = stays board shards p s stands; kind = refl; ends = tt; ready = none_ready s outside.0 outside.1 }
  no_txn outside (request.Put v l d y) begin compact = record { events = []; makes = refl; goes = stays board shards p s stands; kind = refl; ends = tt; ready = none_ready s outside.0 outside.1 }
  no_txn outside (request.Del v l d) begin compact = record { events = []; makes = refl; goes = stays board shards p s stands; kind = refl; ends = tt; ready = none_ready s outside.0 outside.1 }
  no_txn outside (request.Edge v l d) begin compact = record { events = []; makes = refl; goes = stays board shards p s stands; kind = refl; ends = tt; ready = none_ready s outside.0 outside.1 }
  no_txn outside (request.Scan v l) begin compact = record { events = []; makes = refl; goes = stays board shards p s stands; kind = refl; ends = tt; ready = none_ready s outside.0 outside.1 }
  no_txn outside (request.Labels v) begin compact = record { events = []; makes = refl; goes = stays board shards p s stands; kind = refl; ends = tt; ready = none_ready s outside.0 outside.1 }
  no_txn outside request.Commit begin compact = record { events = []; makes = refl; goes = stays board shards p s stands; kind = refl; ends = tt; ready = none_ready s outside.0 outside.1 }
  no_txn outside request.Abort begin compact = record { events = []; makes = refl; goes = stays board shards p s stands; kind = refl; ends = tt; ready = none_ready s outside.0 outside.1 }

  -- what is said of the session's transaction is said of its actor's
  module _ (q : Request) (r : Reply) (p' : Seat (Option H) View) (s' : Session) where
    pub inside_line : IsInside s → InsideRan board shards q r p p' s s' → RequestRan board shards q r p p' s s'
    inside_line inside ran = record {
      events = ran.events;
      makes = makes txn stands.1.work;
      goes = ran.goes;
      kind = λ base name i from to did. kind base name i from to did txn stands.1.work;
      ends = ran.ends;
      ready = ran.ready;
    }
      where
        txn : Option Transaction
        txn = (actor_at (known p) (name_in (known p) s.index)).txn

        makes : (o : Option Transaction) → IsWorkOf s.work o → LineMakes o q r ran.events
        makes None work = absurd (subst (λ (w : Option Work). IsWorkOf w None) inside.1.1.is work)
        makes (Some x) work = ran.makes x work

        kind : (base : Base) (name : ℕ → Name) (i : Name) (from to : State) → Did base run_limits name i ran.events from to → (o : Option Transaction) → IsWorkOf s.work o → IsTrue (is_in_kind (trace_of_txn o) q r)
        kind base name i from to did None work = absurd (subst (λ (w : Option Work). IsWorkOf w None) inside.1.1.is work)
        kind base name i from to did (Some x) work = ran.kind (never_full base name i x q r ran.events from to (ran.makes x work) did)

    pub outside_line : IsOutside s → OutsideRan board shards q r p p' s s' → RequestRan board shards q r p p' s s'
    outside_line outside ran = record {
      events = ran.events;
      makes = makes txn stands.1.work;
      goes = ran.goes;
      kind = λ base name i from to did. kind txn stands.1.work;
      ends = ran.ends;
      ready = ran.ready;
    }
      where
        txn : Option Transaction
        txn = (actor_at (known p) (name_in (known p) s.index)).txn

        makes : (o : Option Transaction) → IsWorkOf s.work o → LineMakes o q r ran.events
        makes None work = ran.makes
        makes (Some x) work = absurd (subst (λ (w : Option Work). IsWorkOf w (Some x)) outside.1 work)

        kind : (o : Option Transaction) → IsWorkOf s.work o → IsTrue (is_in_kind (trace_of_txn o) q r)
        kind None work = ran.kind
        kind (Some x) work = absurd (subst (λ (w : Option Work). IsWorkOf w (Some x)) outside.1 work)
