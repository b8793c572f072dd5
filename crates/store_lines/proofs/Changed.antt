-- A change that was made or refused, as an answered request.
use Rattle.std.proofs.Common.{◌≡◌, ℕ, false, List, refl, sym, subst, Option, Err}
use Rattle.std.specs.Prelude.{IsTrue}
use Rattle.std.proofs.lemmas.Bool.{true≢false}
use Rattle.atomic_table.specs.declared.shared.Seat.{Seat}
use Rattle.request_text.specs.declared.request.Request.{Request}
use Rattle.request_text.specs.declared.request.Request.TheVariants as request
use Rattle.request_text.specs.declared.reply.Reply.{Reply}
use Rattle.graph_legal.specs.Kinds.{is_reply_inside}
use Rattle.graph_workers.specs.Requests.{InsideMakes, ChangeMakes}
use Rattle.graph_workers.specs.Passes.{EndIs}
use Rattle.core_calls.specs.Calls.{Changes}
use Rattle.core_calls.specs.Events.{Told}
use Rattle.core_states.specs.declared.actor.Actor.{Actor}
use Rattle.core_states.specs.declared.event.Act.{Act}
use Rattle.core_states.specs.declared.event.CoreAnswer.{CoreAnswer}
use Rattle.core_states.specs.declared.transaction.Transaction.{Transaction}
use Rattle.turn_board.specs.Board.{known}
use Rattle.turn_board.specs.Views.{View}
use Rattle.turn_board.specs.declared.board.TurnBoard.{TurnBoard}
use Rattle.store_turns.specs.declared.session.Session.{Session}
use Rattle.store_turns.specs.Fits.{actor_at, name_in}
use Rattle.store_board.specs.Standing.{Goes}
use Rattle.store_sessions.specs.declared.refusal.Refusal.{Refusal}
use Rattle.store_sessions.specs.declared.refusal.Refusal.TheVariants as refusal
use Rattle.store_sessions.specs.Changing.{StaysAtWork, Refuses, RefusedLeaves}
use Rattle.store_sessions.specs.Making.{NewTells}
use Rattle.store_lines.specs.Lines.{IsInside, InsideRan, refused_reply, is_full_without_put}
use Rattle.store_lines.proofs.Ready.{stays_ready, refused_ready}

-- a change may be refused so
abbrev IsOfChange : Refusal → Type 0
IsOfChange refusal.NoMemory = Unit {0}
IsOfChange (refusal.Held w u n) = Unit {0}
IsOfChange (refusal.Conflict w e y) = Unit {0}
IsOfChange refusal.NoVertex = Unit {0}
IsOfChange refusal.TxnFull = Unit {0}
IsOfChange refusal.LogFull = Unit {0}
IsOfChange (refusal.LogFault b c) = ⊥
IsOfChange refusal.Spent = ⊥
IsOfChange (refusal.Busy t) = ⊥

-- the events of a refused change are those that its reply tells of
refused_makes : (v : ℕ) (a : Act) (r : Refusal) (ts : List Told) → Refuses v a r ts → ChangeMakes v a (refused_reply r) ts
refused_makes v a refusal.NoMemory ts told = told
refused_makes v a (refusal.Held w u n) ts told = (told.0, told.2)
refused_makes v a (refusal.Conflict w e y) ts told = told
refused_makes v a refusal.NoVertex ts told = told
refused_makes v a refusal.TxnFull ts told = told
refused_makes v a refusal.LogFull ts told = told
refused_makes v a (refusal.LogFault b c) ts told = absurd told
refused_makes v a refusal.Spent ts told = absurd told
refused_makes v a (refusal.Busy t) ts told = absurd told

refused_kind : (v : ℕ) (a : Act) (r : Refusal) (ts : List Told) → Refuses v a r ts → IsOfChange r
refused_kind v a refusal.NoMemory ts told = tt
refused_kind v a (refusal.Held w u n) ts told = tt
refused_kind v a (refusal.Conflict w e y) ts told = tt
refused_kind v a refusal.NoVertex ts told = tt
refused_kind v a refusal.TxnFull ts told = tt
refused_kind v a refusal.LogFull ts told = tt
refused_kind v a (refusal.LogFault b c) ts told = absurd told
refused_kind v a refusal.Spent ts told = absurd told
refused_kind v a (refusal.Busy t) ts told = absurd told

-- it tells of no end of a record
refused_ends : (r : Refusal) (a : Actor) → IsOfChange r → EndIs (refused_reply r) a
refused_ends refusal.NoMemory a is = tt
refused_ends (refusal.Held w u n) a is = tt
refused_ends (refusal.Conflict w e y) a is = tt
refused_ends refusal.NoVertex a is = tt
refused_ends refusal.TxnFull a is = tt
refused_ends refusal.LogFull a is = tt
refused_ends (refusal.LogFault b c) a is = absurd is
refused_ends refusal.Spent a is = absurd is
refused_ends (refusal.Busy t) a is = absurd is

pub set_kind : (v : ℕ) (x : List ℕ) (r : Refusal) → IsOfChange r → is_full_without_put (request.Set v x) (refused_reply r) ≡ false → IsTrue (is_reply_inside (request.Set v x) (refused_reply r))
set_kind v x refusal.NoMemory is put = refl
set_kind v x (refusal.Held w u n) is put = refl
set_kind v x (refusal.Conflict w e y) is put = refl
set_kind v x refusal.NoVertex is put = refl
set_kind v x refusal.TxnFull is put = refl
set_kind v x refusal.LogFull is put = absurd (true≢false put)
set_kind v x (refusal.LogFault b c) is put = absurd is
set_kind v x refusal.Spent is put = absurd is
set_kind v x (refusal.Busy o) is put = absurd is

pub drop_kind : (v : ℕ) (r : Refusal) → IsOfChange r → is_full_without_put (request.Drop v) (refused_reply r) ≡ false → IsTrue (is_reply_inside (request.Drop v) (refused_reply r))
drop_kind v refusal.NoMemory is put = refl
drop_kind v (refusal.Held w u n) is put = refl
drop_kind v (refusal.Conflict w e y) is put = refl
drop_kind v refusal.NoVertex is put = refl
drop_kind v refusal.TxnFull is put = refl
drop_kind v refusal.LogFull is put = absurd (true≢false put)
drop_kind v (refusal.LogFault b c) is put = absurd is
drop_kind v refusal.Spent is put = absurd is
drop_kind v (refusal.Busy o) is put = absurd is

pub put_kind : (v l d : ℕ) (x : List ℕ) (r : Refusal) → IsOfChange r → is_full_without_put (request.Put v l d x) (refused_reply r) ≡ false → IsTrue (is_reply_inside (request.Put v l d x) (refused_reply r))
put_kind v l d x refusal.NoMemory is put = refl
put_kind v l d x (refusal.Held w u n) is put = refl
put_kind v l d x (refusal.Conflict w e y) is put = refl
put_kind v l d x refusal.NoVertex is put = refl
put_kind v l d x refusal.TxnFull is put = refl
put_kind v l d x refusal.LogFull is put = refl
put_kind v l d x (refusal.LogFault b c) is put = absurd is
put_kind v l d x refusal.Spent is put = absurd is
put_kind v l d x (refusal.Busy o) is put = absurd is

pub del_kind : (v l d : ℕ) (r : Refusal) → IsOfChange r → is_full_without_put (request.Del v l d) (refused_reply r) ≡ false → IsTrue (is_reply_inside (request.Del v l d) (refused_reply r))
del_kind v l d refusal.NoMemory is put = refl
del_kind v l d (refusal.Held w u n) is put = refl
del_kind v l d (refusal.Conflict w e y) is put = refl
del_kind v l d refusal.NoVertex is put = refl
del_kind v l d refusal.TxnFull is put = refl
del_kind v l d refusal.LogFull is put = absurd (true≢false put)
del_kind v l d (refusal.LogFault b c) is put = absurd is
del_kind v l d refusal.Spent is put = absurd is
del_kind v l d (refusal.Busy o) is put = absurd is

module _ {H : Type 0} (board : TurnBoard H) (shards : ℕ) (p p' : Seat (Option H) View) (s s' : Session) (inside : IsInside s) where
  -- a change was refused
  pub refused_ran : (q : Request) (v : ℕ) (a : Act) (r : Refusal) (w : Reply) → w ≡ refused_reply r
      → ((x : Transaction) (m : Reply) (es : List Told) → ChangeMakes v a m es → InsideMakes x q m es)
      → (IsOfChange r → is_full_without_put q (refused_reply r) ≡ false → IsTrue (is_reply_inside q (refused_reply r)))
      → ((ts : List Told) × Refuses v a r ts × Goes board shards ts p p' s s') → RefusedLeaves r s s' → InsideRan board shards q w p p' s s'
  refused_ran q v a r w is makes kinds gone left =
      let change = refused_kind v a r gone.0 gone.1 in
      subst (λ z. InsideRan board shards q z p p' s s') (sym is) (record {
        events = gone.0;
        makes = λ x work. makes x (refused_reply r) gone.0 (refused_makes v a r gone.0 gone.1);
        goes = gone.2;
        kind = kinds change;
        ends = refused_ends r (actor_at (known p') (name_in (known p) s.index)) change;
        ready = refused_ready r s s' inside left;
      })

  -- a change was made
  pub changed_ran : {A : Type 0} (says : A → CoreAnswer) (q : Request) (v : ℕ) (a : Act) (y : A) (z : CoreAnswer) (w : Reply) → says y ≡ z
      → ((x : Transaction) (es : List Told) → Changes v a z es → InsideMakes x q w es) → IsTrue (is_reply_inside q w) → ((b : Actor) → EndIs w b)
      → ((ts : List Told) × Changes v a (says y) ts × Goes board shards ts p p' s s') → StaysAtWork s s' → InsideRan board shards q w p p' s s'
  changed_ran says q v a y z w is makes kind ends gone stays = record {
    events = gone.0;
    makes = λ x work. makes x gone.0 (subst (λ o. Changes v a o gone.0) is gone.1);
    goes = gone.2;
    kind = λ _. kind;
    ends = ends (actor_at (known p') (name_in (known p) s.index));
    ready = stays_ready s s' inside stays;
  }

  -- a vertex was not made
  pub unmade_ran : (y : List ℕ) (r : Refusal) (w : Reply) → w ≡ refused_reply r → ((ts : List Told) × NewTells s y (Err r) ts × Goes board shards ts p p' s s') → StaysAtWork s s' → InsideRan board shards (request.Vertex y) w p p' s s'
  unmade_ran y r w is gone stays = subst (λ z. InsideRan board shards (request.Vertex y) z p p' s s') (sym is) (unmade r gone)
    where
      unmade : (r : Refusal) → ((ts : List Told) × NewTells s y (Err r) ts × Goes board shards ts p p' s s') → InsideRan board shards (request.Vertex y) (refused_reply r) p p' s s'
      unmade refusal.NoMemory gone = record { events = gone.0; makes = λ x work. gone.1; goes = gone.2; kind = λ _. refl; ends = tt; ready = stays_ready s s' inside stays }
      unmade (refusal.Held w u n) gone = absurd gone.1
      unmade (refusal.Conflict w e y) gone = absurd gone.1
      unmade refusal.NoVertex gone = absurd gone.1
      unmade refusal.TxnFull gone = record { events = gone.0; makes = gone.1; goes = gone.2; kind = λ _. refl; ends = tt; ready = stays_ready s s' inside stays }
      unmade refusal.LogFull gone = absurd gone.1
      unmade (refusal.LogFault b c) gone = absurd gone.1
      unmade refusal.Spent gone = record { events = gone.0; makes = λ x work. gone.1; goes = gone.2; kind = λ _. refl; ends = tt; ready = stays_ready s s' inside stays }
      unmade (refusal.Busy t) gone = absurd gone.1
