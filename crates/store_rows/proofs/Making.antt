-- A vertex that a session makes, and the session afterwards.
use Rattle.std.proofs.Common.{◌≡◌, ℕ, ◌+◌, ◌≤◌, List, refl, sym, ap, ◌∙◌, subst, Option, Some, None}
use Rattle.graph_model.specs.declared.change.Change.TheVariants.{New}
use Rattle.graph_model.specs.Change.{encoded_len, encoded_lens}
use Rattle.graph_model.specs.Records.{transaction_most}
use Rattle.block_pool.specs.declared.pool.Pool.{Pool}
use Rattle.tel_block.specs.declared.log.TelBlock.{TelBlock}
use Rattle.tel_block.specs.Places.{content_of}
use Rattle.core_states.specs.declared.event.Act.{Act}
use Rattle.core_states.specs.declared.event.Act.TheVariants as act
use Rattle.core_states.specs.declared.event.CoreAnswer.{CoreAnswer}
use Rattle.core_states.specs.declared.event.CoreAnswer.TheVariants as answer
use Rattle.core_states.specs.declared.transaction.Transaction.{Transaction}
use Rattle.core_states.specs.States.{row_event}
use Rattle.core_states.specs.Transactions.{changing, with_txn}
use Rattle.core_states.proofs.Names.{some_is}
use Rattle.shard_state.specs.declared.shard.Shard.{Shard}
use Rattle.shard_state.specs.declared.who.Who.{Who}
use Rattle.shard_state.specs.Shards.{IsOf, SameShard, KeepsRows, row_at, limits_with}
use Rattle.shard_state.specs.RowLists.{rows_listed}
use Rattle.store_turns.specs.declared.session.Session.{Session}
use Rattle.store_turns.specs.declared.session.Work.{Work}
use Rattle.store_turns.specs.Fits.{IsWork}
use Rattle.store_turns.specs.Moves.{Works, KeepsAll, KeepsWorkOf, KeepsSession, MakesVertex, MakesNew}
use Rattle.store_turns.specs.Rows.{DoesRow}
use Rattle.store_turns.proofs.Sessions.{txn_of, beside, session_with}
use Rattle.store_rows.specs.declared.shard_home.ShardHome.TheInside.{Inside}
use Rattle.store_rows.specs.ShardValues.{ShardValue}
use Rattle.store_rows.specs.ShardsKept.{IsKept, shard_value}
use Rattle.store_rows.specs.Alters.{IsWorking}
use Rattle.store_rows.specs.Makes.{MakesRow, MakesWork}
use Rattle.store_rows.proofs.Rows.{row_still}
use Rattle.store_rows.proofs.RowMoves.{speaks, does_some}
use Rattle.store_rows.proofs.Altering.{made_work, same_work, event_short, not_longer}

-- the work has the vertex
new_work : (t t' : Work) (x : Transaction) (v : ℕ) (p : List ℕ) → IsWork t x → t.settled ≡ 0 → MakesVertex v p t t' → encoded_lens x.own + encoded_len (New v p) ≤ transaction_most → IsWork t' (changing x (New v p))
new_work t t' x v p work none one short = made_work t t' x (New v p) work none (record {
  tid = one.tid;
  read = one.read;
  stage = one.stage;
  drawn = λ w drew. absurd (let e : ⊥ = (cc) in e);
  changes = one.changes;
  left = one.left;
  taken = one.taken;
  settled = one.settled;
}) short

-- The transaction makes the vertex, or nothing is done.
module _ (a : Inside) (kept : IsKept a) (h : ShardValue) (view : shard_value a ≡ h) (new : Shard TelBlock Pool) (same : SameShard a.shard new) (v : ℕ) (p : List ℕ) (own : IsOf v a.shard) (s s' : Session) (who : Who) (t t' : Work) (working : IsWorking s who) (is : s.work ≡ Some t) (drew : t.drawn ≡ Some v) (after : s'.work ≡ Some t') (opens : s'.is_open ≡ s.is_open) (finishes : s'.finished ≡ s.finished)
    (keeps : KeepsRows content_of v a.shard new) (acts : CoreAnswer → Act) (is_new : acts answer.Done ≡ act.New v p) where
  one_of : working.work ≡ t
  one_of = some_is working.work t (sym working.works.is ∙ is)

  pub makes : (o : Option CoreAnswer) → MakesRow (limits_with a.shard.log_most) who v p (row_at content_of a.shard v) o (row_at content_of new v) → MakesWork v p o t t' → DoesRow v acts h.place h.rows s o (rows_listed content_of new) s'
  makes None event work = subst (λ (z : ShardValue). DoesRow v acts z.place z.rows s None (rows_listed content_of new) s') view (
    row_still content_of a.base.value a.shard new kept.is.among kept.loaded same v own event keeps,
    (λ b fit.
        let f = txn_of s.work t b.txn fit.work is in
        session_with s s' t' b b f.0 fit opens finishes after (beside b b refl refl refl refl) f.1 (same_work t t' f.0 f.2 work)),
  )
  makes (Some says) event work = subst (λ (z : CoreAnswer). DoesRow v acts h.place h.rows s (Some z) (rows_listed content_of new) s') (sym event.0)
      (subst (λ (z : ShardValue). DoesRow v acts z.place z.rows s (Some answer.Done) (rows_listed content_of new) s') view
      (does_some a kept new same v own s s' acts answer.Done keeps (λ b fit.
      let most = limits_with a.shard.log_most in
      let f = txn_of s.work working.work b.txn fit.work working.works.is in
      let x = f.0 in
      let work_of : IsWork t x = subst (λ (w : Work). IsWork w x) one_of f.2 in
      let none : t.settled ≡ 0 = ap (λ (w : Work). w.settled) (sym one_of) ∙ working.works.settled in
      let is_event = event.1 x b (speaks s who working x a.shard.log_most f.2) f.1 (work_of.drawn v drew) in
      let made = with_txn b (Some (changing x (New v p))) in (
        made,
        ap (λ e. row_event most e (row_at content_of a.shard v) b) is_new ∙ is_event,
        session_with s s' t' b made (changing x (New v p)) fit opens finishes after (beside b made refl refl refl refl) refl
            (new_work t t' x v p work_of none work (not_longer transaction_most (encoded_lens x.own + encoded_len (New v p)) (event_short most x (New v p) (row_at content_of a.shard v) b _ f.1 refl is_event))),
      ))))

  -- and the session is as it is to be then
  pub leaves_new : (o : Option CoreAnswer) → MakesRow (limits_with a.shard.log_most) who v p (row_at content_of a.shard v) o (row_at content_of new v) → MakesWork v p o t t' → s' ≡ record s { work = Some t' } → MakesNew v p o s s'
  leaves_new None event work is_after = record {
    index = ap (λ (z : Session). z.index) is_after;
    is_open = opens;
    finished = finishes;
    work = subst (λ (z : Option Work × Option Work). KeepsWorkOf z.0 z.1) (λ i. (sym is i, sym after i)) work;
  }
  leaves_new (Some says) event work is_after = (event.0, t, t', subst (λ w. Works s w) one_of working.works, drew, is_after, work)

keeps_all : (t : Work) → KeepsAll t t
keeps_all t = record { tid = refl; read = refl; stage = refl; drawn = refl; changes = refl; left = refl; taken = refl; settled = refl }

-- nothing was done
pub keeps_it : (s : Session) → KeepsSession s s
keeps_it s = record { index = refl; is_open = refl; finished = refl; work = by_work s.work }
  where
    by_work : (o : Option Work) → KeepsWorkOf o o
    by_work None = tt
    by_work (Some t) = keeps_all t
