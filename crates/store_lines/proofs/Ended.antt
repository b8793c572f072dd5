-- A begin and an end as answered requests.
use Rattle.std.proofs.Common.{◌≡◌, ℕ, true, List, [], refl, sym, ap, ◌∙◌, subst, Option, Some, Ok, Err}
use Rattle.atomic_table.specs.declared.shared.Seat.{Seat}
use Rattle.request_text.specs.declared.request.Request.TheVariants as request
use Rattle.request_text.specs.declared.reply.Reply.{Reply}
use Rattle.request_text.specs.declared.reply.Reply.TheVariants as reply
use Rattle.core_calls.specs.Calls.{Gives}
use Rattle.core_calls.specs.Events.{Told}
use Rattle.core_states.specs.declared.transaction.Transaction.{Transaction}
use Rattle.turn_board.specs.Board.{known}
use Rattle.turn_board.specs.Views.{View}
use Rattle.turn_board.specs.declared.board.TurnBoard.{TurnBoard}
use Rattle.store_turns.specs.declared.session.Session.{Session}
use Rattle.store_turns.specs.declared.session.Work.{Work}
use Rattle.store_turns.specs.Fits.{IsWorkOf, actor_at, name_in}
use Rattle.store_board.specs.Standing.{Goes}
use Rattle.store_sessions.specs.declared.beginning.Begun.{Begun}
use Rattle.store_sessions.specs.declared.refusal.Refusal.{Refusal}
use Rattle.store_sessions.specs.declared.refusal.Refusal.TheVariants as refusal
use Rattle.store_sessions.specs.Beginning.{BeginTells, BeginLeaves}
use Rattle.store_sessions.specs.Changing.{HasLeft}
use Rattle.store_commits.specs.declared.committing.CommitEnd.{CommitEnd}
use Rattle.store_commits.specs.declared.committing.CommitEnd.TheVariants as ending
use Rattle.store_commits.specs.Committing.{CommitTells, CommitLeaves, HasNoChange}
use Rattle.store_lines.specs.Lines.{IsInside, IsOutside, InsideRan, OutsideRan, refused_reply}
use Rattle.store_lines.proofs.Ready.{none_ready, left_ready, begun_ready, idle_ready}

-- a transaction without a change has none
own_none : (s : Session) → IsInside s → HasNoChange s true → (x : Transaction) → IsWorkOf s.work (Some x) → x.own ≡ []
own_none s inside unchanged x work =
    let t = inside.1.0 in
    let works = inside.1.1 in
    let is = subst (λ (w : Option Work). IsWorkOf w (Some x)) works.is work in
    is.own works.stage ∙ unchanged t works.is

module _ {H : Type 0} (board : TurnBoard H) (shards : ℕ) (p p' : Seat (Option H) View) (s s' : Session) where
  -- the actor has done the record that the session has
  finished_at : (e : ℕ) (ts : List Told) → Goes board shards ts p p' s s' → s'.finished ≡ Some e → (actor_at (known p') (name_in (known p) s.index)).finished ≡ Some e
  finished_at e ts goes is = subst (λ n. (actor_at (known p') n).finished ≡ Some e) same (goes.stands.1.finished ∙ is)
    where
      same : name_in (known p') s'.index ≡ name_in (known p) s.index
      same = λ i. record { pass = (goes.grew.same i).number; index = goes.index i }

  -- the record has this epoch
  committed_ran : IsInside s → (e : ℕ) → ((ts : List Told) × CommitTells s (Ok (ending.Committed e)) ts × Goes board shards ts p p' s s')
      → CommitLeaves (Ok (ending.Committed e)) s s' (actor_at (known p') (name_in (known p) s.index)) → InsideRan board shards request.Commit (reply.Committed e) p p' s s'
  committed_ran inside e gone left = record {
    events = gone.0;
    makes = λ x work. gone.1;
    goes = gone.2;
    kind = λ _. refl;
    ends = finished_at e gone.0 gone.2 (ap (λ (z : Session). z.finished) left);
    ready = none_ready s' (ap (λ (z : Session). z.is_open) left ∙ inside.0) (ap (λ (z : Session). z.work) left);
  }

  pub committed_so : IsInside s → (e : ℕ) (y : CommitEnd) → y ≡ ending.Committed e → ((ts : List Told) × CommitTells s (Ok y) ts × Goes board shards ts p p' s s')
      → CommitLeaves (Ok y) s s' (actor_at (known p') (name_in (known p) s.index)) → InsideRan board shards request.Commit (reply.Committed e) p p' s s'
  committed_so inside e y is gone left =
      committed_ran inside e (subst (λ (z : CommitEnd). (ts : List Told) × CommitTells s (Ok z) ts × Goes board shards ts p p' s s') is gone)
      (subst (λ (z : CommitEnd). CommitLeaves (Ok z) s s' (actor_at (known p') (name_in (known p) s.index))) is left)

  -- there was nothing to commit
  ended_ran : IsInside s → ((ts : List Told) × CommitTells s (Ok ending.Ended) ts × Goes board shards ts p p' s s') → HasLeft s s' → InsideRan board shards request.Commit reply.Ended p p' s s'
  ended_ran inside gone left = record {
    events = gone.0;
    makes = λ x work. (own_none s inside gone.1.0 x work, gone.1.1);
    goes = gone.2;
    kind = λ _. refl;
    ends = tt;
    ready = left_ready s s' inside.0 left;
  }

  pub ended_so : IsInside s → (y : CommitEnd) → y ≡ ending.Ended → ((ts : List Told) × CommitTells s (Ok y) ts × Goes board shards ts p p' s s')
      → CommitLeaves (Ok y) s s' (actor_at (known p') (name_in (known p) s.index)) → InsideRan board shards request.Commit reply.Ended p p' s s'
  ended_so inside y is gone left =
      ended_ran inside (subst (λ (z : CommitEnd). (ts : List Told) × CommitTells s (Ok z) ts × Goes board shards ts p p' s s') is gone)
      (subst (λ (z : CommitEnd). CommitLeaves (Ok z) s s' (actor_at (known p') (name_in (known p) s.index))) is left)

  -- the append failed
  pub failed_ran : IsInside s → (r : Refusal) (w : Reply) → w ≡ refused_reply r → ((ts : List Told) × CommitTells s (Err r) ts × Goes board shards ts p p' s s')
      → CommitLeaves (Err r) s s' (actor_at (known p') (name_in (known p) s.index)) → InsideRan board shards request.Commit w p p' s s'
  failed_ran inside r w is gone left = subst (λ z. InsideRan board shards request.Commit z p p' s s') (sym is) (failed r gone left)
    where
      failed : (r : Refusal) → ((ts : List Told) × CommitTells s (Err r) ts × Goes board shards ts p p' s s') → CommitLeaves (Err r) s s' (actor_at (known p') (name_in (known p) s.index))
          → InsideRan board shards request.Commit (refused_reply r) p p' s s'
      failed refusal.NoMemory gone left = absurd left
      failed (refusal.Held w u n) gone left = absurd left
      failed (refusal.Conflict w e y) gone left = absurd left
      failed refusal.NoVertex gone left = absurd left
      failed refusal.TxnFull gone left = absurd left
      failed refusal.LogFull gone left = absurd left
      failed (refusal.LogFault b c) gone left = record { events = gone.0; makes = λ x work. gone.1; goes = gone.2; kind = λ _. refl; ends = left.1; ready = left_ready s s' inside.0 left.0 }
      failed refusal.Spent gone left = absurd left
      failed (refusal.Busy t) gone left = absurd left

  -- the transaction was given up
  pub aborted_ran : IsInside s → ((ts : List Told) × Gives ts × Goes board shards ts p p' s s') → HasLeft s s' → InsideRan board shards request.Abort reply.Aborted p p' s s'
  aborted_ran inside gone left = record { events = gone.0; makes = λ x work. gone.1; goes = gone.2; kind = λ _. refl; ends = tt; ready = left_ready s s' inside.0 left }

  -- a transaction has begun
  pub begun_ran : IsOutside s → (b : Begun) → ((ts : List Told) × BeginTells (Ok b) ts × Goes board shards ts p p' s s') → BeginLeaves (Ok b) s s' → OutsideRan board shards request.Begin (reply.Begun b.tid b.read) p p' s s'
  begun_ran outside b gone left = record { events = gone.0; makes = gone.1; goes = gone.2; kind = refl; ends = tt; ready = begun_ready b s s' outside left }

  -- none has
  pub unbegun_ran : IsOutside s → (r : Refusal) (w : Reply) → w ≡ refused_reply r → ((ts : List Told) × BeginTells (Err r) ts × Goes board shards ts p p' s s') → s' ≡ s → OutsideRan board shards request.Begin w p p' s s'
  unbegun_ran outside r w is gone same = subst (λ z. OutsideRan board shards request.Begin z p p' s s') (sym is) (unbegun r gone)
    where
      unbegun : (r : Refusal) → ((ts : List Told) × BeginTells (Err r) ts × Goes board shards ts p p' s s') → OutsideRan board shards request.Begin (refused_reply r) p p' s s'
      unbegun refusal.NoMemory gone = record { events = gone.0; makes = gone.1; goes = gone.2; kind = refl; ends = tt; ready = idle_ready s s' outside same }
      unbegun (refusal.Held w u n) gone = absurd gone.1
      unbegun (refusal.Conflict w e y) gone = absurd gone.1
      unbegun refusal.NoVertex gone = absurd gone.1
      unbegun refusal.TxnFull gone = absurd gone.1
      unbegun refusal.LogFull gone = absurd gone.1
      unbegun (refusal.LogFault b c) gone = absurd gone.1
      unbegun refusal.Spent gone = record { events = gone.0; makes = gone.1; goes = gone.2; kind = refl; ends = tt; ready = idle_ready s s' outside same }
      unbegun (refusal.Busy t) gone = absurd gone.1
