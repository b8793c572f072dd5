-- A change of a session at a row: what is known of the row, and the event.
use Rattle.std.proofs.Common.{arith, ◌≡◌, ℕ, ◌+◌, ◌≤◌, ◌<◌, false, List, refl, sym, ap, ◌∙◌, subst, Option, Some, None}
use Rattle.std.specs.Prelude.{IfSome}
use Rattle.graph_model.specs.declared.change.Change.{Change}
use Rattle.graph_model.specs.declared.graph.Base.{Base}
use Rattle.graph_model.specs.Change.{vertex_of, encoded_len, encoded_lens}
use Rattle.graph_model.specs.Records.{transaction_most, number_end}
use Rattle.block_pool.specs.declared.pool.Pool.{Pool}
use Rattle.tel_block.specs.declared.log.TelBlock.{TelBlock}
use Rattle.tel_block.specs.Places.{content_of}
use Rattle.vertex_locks.specs.declared.answer.Look.{Look}
use Rattle.vertex_locks.specs.declared.answer.Look.TheVariants.{Taken, Held, Conflict}
use Rattle.core_rows.specs.Rows.{Row}
use Rattle.core_states.specs.declared.actor.Actor.{Actor}
use Rattle.core_states.specs.declared.event.Act.TheVariants as act
use Rattle.core_states.specs.declared.event.CoreAnswer.{CoreAnswer}
use Rattle.core_states.specs.declared.event.CoreAnswer.TheVariants as answer
use Rattle.core_states.specs.declared.transaction.Transaction.{Transaction}
use Rattle.core_states.specs.Names.{Name}
use Rattle.core_states.specs.Parts.{VertexRow, row_of}
use Rattle.core_states.specs.States.{State, row_event}
use Rattle.core_states.specs.Transactions.{with_txn}
use Rattle.core_states.proofs.Names.{some_is}
use Rattle.core_kept.specs.Good.{Ghost, Good, Owned, RowOkBy}
use Rattle.turn_board.specs.Views.{ShardPlace}
use Rattle.shard_state.specs.declared.shard.Shard.{Shard}
use Rattle.shard_state.specs.declared.who.Who.{Who}
use Rattle.shard_state.specs.Shards.{IsOf, SameShard, KeepsRows, MayChange, must_look, row_at, limits_with}
use Rattle.shard_state.specs.Says.{Changes, Looks, says_look, after_change}
use Rattle.shard_state.specs.RowLists.{rows_listed}
use Rattle.shard_state.proofs.Listing.{own-listed}
use Rattle.store_turns.specs.declared.session.Session.{Session}
use Rattle.store_turns.specs.declared.session.Work.{Work}
use Rattle.store_turns.specs.Fits.{IsWork, IsSessionOf}
use Rattle.store_turns.specs.Rows.{DoesRow, KnownRows}
use Rattle.store_turns.proofs.Sessions.{txn_of, StaysBeside, beside, session_with, still}
use Rattle.store_rows.specs.declared.shard_home.ShardHome.TheInside.{Inside}
use Rattle.store_rows.specs.ShardValues.{ShardValue}
use Rattle.store_rows.specs.ShardsKept.{IsKept, shard_value, place_in}
use Rattle.store_rows.specs.Alters.{change_act, alter_act, AltersVertex, IsChangeAnswer, IsWorking, AltersWork}
use Rattle.store_rows.proofs.Rows.{row_still}
use Rattle.store_rows.proofs.RowMoves.{speaks, does_some}
use Rattle.store_rows.proofs.Altering.{altered_work, same_work, event_short, not_longer}
use Rattle.store_rows.proofs.Unused.{known_fresh, no_change_there}

-- ---- what is known of the row

-- it has no commit after the snapshot of its owner
pub known_snapshot : (a : Inside) (kept : IsKept a) (s : Session) (t : Work) (v : ℕ) → IsOf v a.shard → KnownRows (place_in a) (rows_listed content_of a.shard) s → s.work ≡ Some t → (row_at content_of a.shard v).owner ≡ Some t.tid → (row_at content_of a.shard v).committed ≤ t.read
known_snapshot a kept s t v own known is owns =
    let f = txn_of s.work t (known.state.actor known.name).txn known.fits.work is in
    let good = known.kept.0 in
    let same : row_at content_of a.shard v ≡ known.state.row v = sym (known.rows_are v own ∙ own-listed content_of a.base.value a.shard v kept.is.among kept.loaded own) in
    let owner : (known.state.row v).owner ≡ Some f.0.tid = ap (λ (r : Row). r.owner) (sym same) ∙ owns ∙ ap (λ n. Some n) (sym f.2.tid) in
    let low : (known.state.row v).committed ≤ f.0.read = low_of a.base.value good.0 known.state known.name f.0 v good.1 f.1 owner in
    subst (λ (z : ℕ × ℕ). z.0 ≤ z.1) (λ i. ((sym same i).committed, f.2.read i)) low
  where
    low_of : (base : Base) (g : Ghost) (st : State) (i : Name) (x : Transaction) (v : ℕ) → Good base g st → (st.actor i).txn ≡ Some x → (st.row v).owner ≡ Some x.tid → (st.row v).committed ≤ x.read
    low_of base g st i x v good at owner = by_owned (subst (λ (o : Option ℕ). RowOkBy o base g st.clock.records st.actor v (st.row v)) owner (good.rows v))
      where
        by_owned : Owned base g st.clock.records st.actor v (st.row v) x.tid → (st.row v).committed ≤ x.read
        by_owned ok =
            let at_owner : (st.actor (g.who x.tid)).txn ≡ Some x = ap (λ j. (st.actor j).txn) (good.txns i x at).who ∙ at in
            let one : ok.txn ≡ x = some_is ok.txn x (sym ok.is ∙ at_owner) in
            subst (λ (y : Transaction). (st.row v).committed ≤ y.read) one ok.read

-- its number is below the end of numbers
pub known_number : (place : ShardPlace) (rows : List VertexRow) (s : Session) (t : Work) → KnownRows place rows s → s.work ≡ Some t → t.tid < number_end
known_number place rows s t known is =
    let f = txn_of s.work t (known.state.actor known.name).txn known.fits.work is in
    let good = known.kept.0 in
    let below = (good.1.txns known.name f.0 f.1).below in
    let most = known.kept.1.next_tid in
    let tid = f.2.tid in omega (arith, below, most, tid)

-- so the shard may change it
pub may_change : (a : Inside) (kept : IsKept a) (s : Session) (who : Who) (v : ℕ) → IsWorking s who → IsOf v a.shard → KnownRows (place_in a) (rows_listed content_of a.shard) s → must_look who (row_at content_of a.shard v) ≡ false → MayChange who (row_at content_of a.shard v)
may_change a kept s who v working own known looked = record {
  looked = looked;
  snapshot = λ owns. subst (λ n. (row_at content_of a.shard v).committed ≤ n) (sym working.read) (known_snapshot a kept s working.work v own known working.works.is (owns ∙ ap (λ n. Some n) working.tid));
}

pub low_number : (place : ShardPlace) (rows : List VertexRow) (s : Session) (who : Who) → IsWorking s who → KnownRows place rows s → who.tid < number_end
low_number place rows s who working known = subst (λ n. n < number_end) (sym working.tid) (known_number place rows s working.work known working.works.is)

-- ---- the look

abbrev pub looked_so : Look → Option CoreAnswer
looked_so Taken = None
looked_so (Held u) = Some (answer.Held u)
looked_so (Conflict e) = Some (answer.Conflict e)

module _ (a : Inside) (kept : IsKept a) (h : ShardValue) (view : shard_value a ≡ h) (c : Change) (own : IsOf (vertex_of c) a.shard) (s : Session) (who : Who) (working : IsWorking s who) where
  shown : row_of a.base.value (rows_listed content_of a.shard) (vertex_of c) ≡ row_at content_of a.shard (vertex_of c)
  shown = own-listed content_of a.base.value a.shard (vertex_of c) kept.is.among kept.loaded own

  vain : (look : Look) → Looks (limits_with a.shard.log_most) who (vertex_of c) (row_at content_of a.shard (vertex_of c)) look → (says : CoreAnswer) → says ≡ says_look look → alter_act c says ≡ act.Look (vertex_of c)
      → DoesRow (vertex_of c) (alter_act c) (place_in a) (rows_listed content_of a.shard) s (Some says) (rows_listed content_of a.shard) s
  vain look looks says is_says is_look = (
    (λ w other. refl),
    (λ b fit.
        let f = txn_of s.work working.work b.txn fit.work working.works.is in
        let x = f.0 in
        let after = record b { txn = Some x; looked = Some (record { v = vertex_of c; look = look }) } in (
          record { answer = says; row = row_at content_of a.shard (vertex_of c); actor = after },
          (λ i. row_event (limits_with a.shard.log_most) (is_look i) (shown i) b) ∙ looks x b (speaks s who working x a.shard.log_most f.2) f.1
              ∙ ap (λ z. Some (record { answer = z; row = row_at content_of a.shard (vertex_of c); actor = after })) (sym is_says),
          refl,
          shown,
          still s working.work b after x fit working.works.is (beside b after refl refl refl refl) refl f.2,
        )),
  )

  looks_so : (look : Look) → Looks (limits_with a.shard.log_most) who (vertex_of c) (row_at content_of a.shard (vertex_of c)) look
      → DoesRow (vertex_of c) (alter_act c) (place_in a) (rows_listed content_of a.shard) s (looked_so look) (rows_listed content_of a.shard) s
  looks_so Taken looks = ((λ w. refl), (λ b fit. fit))
  looks_so (Held u) looks = vain (Held u) looks (answer.Held u) refl refl
  looks_so (Conflict e) looks = vain (Conflict e) looks (answer.Conflict e) refl refl

  pub looks_in_vain : (look was : Look) (o : Option CoreAnswer) → Looks (limits_with a.shard.log_most) who (vertex_of c) (row_at content_of a.shard (vertex_of c)) look → look ≡ was → o ≡ looked_so was → DoesRow (vertex_of c) (alter_act c) h.place h.rows s o h.rows s
  looks_in_vain look was o looks is so =
      subst (λ (z : ShardValue). DoesRow (vertex_of c) (alter_act c) z.place z.rows s o z.rows s) view
      (subst (λ (z : Option CoreAnswer). DoesRow (vertex_of c) (alter_act c) (place_in a) (rows_listed content_of a.shard) s z (rows_listed content_of a.shard) s) (ap looked_so is ∙ sym so) (looks_so look looks))

-- ---- the event

alter_is : (says : CoreAnswer) (c : Change) → IsChangeAnswer says → alter_act c says ≡ change_act c
alter_is answer.Done c is = refl
alter_is answer.Added c is = refl
alter_is answer.Replaced c is = refl
alter_is answer.Gone c is = refl
alter_is answer.TxnFull c is = refl
alter_is answer.LogFull c is = refl
alter_is answer.Absent c is = refl
alter_is answer.NoVertex c is = refl
alter_is answer.NotEnabled c is = refl
alter_is (answer.Begun n e) c is = refl
alter_is (answer.Number n) c is = refl
alter_is answer.Spent c is = refl
alter_is (answer.Learnt h o) c is = refl
alter_is (answer.Collected n) c is = refl
alter_is (answer.Published e) c is = refl
alter_is (answer.Kept o) c is = refl
alter_is (answer.Visible y) c is = refl
alter_is (answer.Held u) c is = absurd is
alter_is (answer.Conflict e) c is = absurd is
alter_is (answer.Shown a) c is = refl

-- The transaction changes the vertex, or memory runs out.
module _ (a : Inside) (kept : IsKept a) (h : ShardValue) (view : shard_value a ≡ h) (new : Shard TelBlock Pool) (same : SameShard a.shard new) (c : Change) (own : IsOf (vertex_of c) a.shard) (s s' : Session) (who : Who) (t t' : Work) (known : KnownRows (place_in a) (rows_listed content_of a.shard) s) (working : IsWorking s who) (is : s.work ≡ Some t) (after : s'.work ≡ Some t') (opens : s'.is_open ≡ s.is_open) (finishes : s'.finished ≡ s.finished)
    (keeps : KeepsRows content_of (vertex_of c) a.shard new) where
  one_of : working.work ≡ t
  one_of = some_is working.work t (sym working.works.is ∙ is)

  session_of : (b b' : Actor) (x : Transaction) → IsSessionOf s b → StaysBeside b b' → b'.txn ≡ Some x → IsWork t' x → IsSessionOf s' b'
  session_of b b' x fit stays txn work = session_with s s' t' b b' x fit opens finishes after stays txn work

  pub alters : (o : Option CoreAnswer) → Changes (limits_with a.shard.log_most) who (change_act c) c (row_at content_of a.shard (vertex_of c)) o (row_at content_of new (vertex_of c)) → IfSome o IsChangeAnswer → IfSome o (λ _. AltersVertex c) → AltersWork c o t t'
      → DoesRow (vertex_of c) (alter_act c) h.place h.rows s o (rows_listed content_of new) s'
  alters None event answers there work = subst (λ (z : ShardValue). DoesRow (vertex_of c) (alter_act c) z.place z.rows s None (rows_listed content_of new) s') view (
    row_still content_of a.base.value a.shard new kept.is.among kept.loaded same (vertex_of c) own event keeps,
    (λ b fit.
        let f = txn_of s.work t b.txn fit.work is in
        session_of b b f.0 fit (beside b b refl refl refl refl) f.1 (same_work t t' f.0 f.2 work)),
  )
  alters (Some says) event answers there work = subst (λ (z : ShardValue). DoesRow (vertex_of c) (alter_act c) z.place z.rows s (Some says) (rows_listed content_of new) s') view
      (does_some a kept new same (vertex_of c) own s s' (alter_act c) says keeps (λ b fit.
      let most = limits_with a.shard.log_most in
      let f = txn_of s.work working.work b.txn fit.work working.works.is in
      let x = f.0 in
      let work_of : IsWork t x = subst (λ (w : Work). IsWork w x) one_of f.2 in
      let none : t.settled ≡ 0 = ap (λ (w : Work). w.settled) (sym one_of) ∙ working.works.settled in
      let is_event = event x b (speaks s who working x a.shard.log_most f.2) f.1 in
      let altered = with_txn b (Some (after_change says x c)) in (
        altered,
        ap (λ e. row_event most e (row_at content_of a.shard (vertex_of c)) b) (alter_is says c answers) ∙ is_event,
        session_of b altered (after_change says x c) fit (beside b altered refl refl refl refl) refl
            (altered_work says t t' x c answers work_of none work (λ made. not_longer transaction_most (encoded_lens x.own + encoded_len c) (event_short most x c (row_at content_of a.shard (vertex_of c)) b _ f.1 made is_event))
            (λ made drew. no_change_there most x c b _ there f.1 made (ap (λ row. row_event most (change_act c) row b) (sym (known_fresh a kept s t (vertex_of c) own known is drew)) ∙ is_event))),
      )))
