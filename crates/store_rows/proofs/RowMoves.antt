-- The events of a session on a row, and the session afterwards.
use Rattle.std.proofs.Common.{arith, ◌≡◌, ℕ, ◌+◌, Bool, true, false, ◌&&◌, ◌||◌, List, [], ◌∷◌, ◌++◌, take, refl, sym, ap, ◌∙◌, subst, ◌⊎◌, inl, inr, Option, Some, None, is_some}
use Rattle.std.proofs.lemmas.Bool.{cases_eq, eq-eqb, ne_eqb}
use Rattle.std.specs.Prelude.{not, nat_eq, ◌==◌, if◌then◌else◌}
use Rattle.graph_model.specs.Change.{encoded_lens}
use Rattle.block_pool.specs.declared.pool.Pool.{Pool}
use Rattle.tel_block.specs.declared.log.TelBlock.{TelBlock}
use Rattle.tel_block.specs.Places.{content_of}
use Rattle.core_rows.specs.Rows.{Row}
use Rattle.core_states.specs.declared.actor.Actor.{Actor}
use Rattle.core_states.specs.declared.event.Act.{Act}
use Rattle.core_states.specs.declared.event.Act.TheVariants as act
use Rattle.core_states.specs.declared.event.CoreAnswer.{CoreAnswer}
use Rattle.core_states.specs.declared.event.CoreAnswer.TheVariants as answer
use Rattle.core_states.specs.declared.transaction.Transaction.{Transaction}
use Rattle.core_states.specs.States.{row_event}
use Rattle.core_states.specs.Transactions.{holds, is_loser, won_epoch, settling, with_txn}
use Rattle.core_laws.proofs.Sounds.{kept_sound}
use Rattle.shard_state.specs.declared.shard.Shard.{Shard}
use Rattle.shard_state.specs.declared.who.Who.{Who}
use Rattle.shard_state.specs.Shards.{IsOf, SameShard, KeepsRows, row_at, limits_with}
use Rattle.shard_state.specs.Says.{Speaks, Applies, Undoes, Reads}
use Rattle.graph_model.specs.declared.query.Query.{Query}
use Rattle.graph_model.specs.declared.query.Answer.{Answer}
use Rattle.graph_model.specs.Graph.{asked_vertex}
use Rattle.shard_state.specs.RowLists.{rows_listed}
use Rattle.shard_state.proofs.Listing.{own-listed}
use Rattle.store_turns.specs.declared.session.Session.{Session}
use Rattle.store_turns.specs.declared.session.Work.{Work}
use Rattle.store_turns.specs.Takes.{flag_of, flag_or_not, is_changed, IsOnceAt}
use Rattle.store_turns.specs.Fits.{IsWork, IsSessionOf}
use Rattle.store_turns.specs.Moves.{SettlesOne}
use Rattle.store_turns.specs.Rows.{DoesRow, KnownRows, limits_at}
use Rattle.store_turns.proofs.Sessions.{txn_of, works, beside, session_with, still}
use Rattle.store_rows.specs.declared.shard_home.ShardHome.TheInside.{Inside}
use Rattle.store_rows.specs.Alters.{IsWorking}
use Rattle.store_rows.specs.ShardValues.{ShardValue}
use Rattle.store_rows.specs.ShardsKept.{IsKept, shard_value, place_in}
use Rattle.store_rows.proofs.Rows.{shown_old, shown_new, others_still, all_still}

-- The shard does an event on the row of one vertex, or nothing.
module _ (a : Inside) (kept : IsKept a) (new : Shard TelBlock Pool) (same : SameShard a.shard new) (v : ℕ) (own : IsOf v a.shard) (s s' : Session) (acts : CoreAnswer → Act) where
  pub does_none : ((w : ℕ) → row_at content_of new w ≡ row_at content_of a.shard w) → ((b : Actor) → IsSessionOf s b → IsSessionOf s' b) → DoesRow v acts (place_in a) (rows_listed content_of a.shard) s None (rows_listed content_of new) s'
  does_none keeps session = (all_still content_of a.base.value a.shard new kept.is.among kept.loaded same keeps, session)

  pub does_some : (says : CoreAnswer) → KeepsRows content_of v a.shard new
      → ((b : Actor) → IsSessionOf s b → (after : Actor) × (row_event (limits_with a.shard.log_most) (acts says) (row_at content_of a.shard v) b ≡ Some (record { answer = says; row = row_at content_of new v; actor = after })) × IsSessionOf s' after)
      → DoesRow v acts (place_in a) (rows_listed content_of a.shard) s (Some says) (rows_listed content_of new) s'
  does_some says keeps event = (
    others_still content_of a.base.value a.shard new kept.is.among kept.loaded same v keeps,
    (λ b fit.
        let e = event b fit in (
          record { answer = says; row = row_at content_of new v; actor = e.0 },
          ap (λ row. row_event (limits_with a.shard.log_most) (acts says) row b) (shown_old content_of a.base.value a.shard new kept.is.among kept.loaded same v own) ∙ e.1,
          refl,
          shown_new content_of a.base.value a.shard new kept.is.among kept.loaded same v own,
          e.2,
        )),
  )

-- the same work, read twice
pub one_work : (o : Option Work) (t u : Work) → Some t ≡ o → Some u ≡ o → t ≡ u
one_work o t u one two = let same : t ≡ u = (cc) in same

-- the caller of the shard speaks of the actor's transaction
pub speaks : (s : Session) (who : Who) (working : IsWorking s who) (x : Transaction) (most : ℕ) → IsWork working.work x → Speaks (limits_with most) who x
speaks s who working x most work = record {
  tid = work.tid ∙ sym working.tid;
  read = work.read ∙ sym working.read;
  left = ap (λ n. encoded_lens x.own + n) working.left ∙ work.left;
  working = works working.work x work working.works.stage working.works.settled;
}

-- a vertex that was taken, and is not free yet, is held
pub holds_it : (t : Work) (x : Transaction) (v : ℕ) (b : Bool) → IsWork t x → IsOnceAt v b t.settled t.touched.taken → holds x v ≡ true
holds_it t x v b work once = λ i. (work.touched v ∙ ap is_some once.0) i && not ((work.settled v ∙ ap is_some once.1) i)

-- the row that is known, by what the shard has of it
pub known_owner : (a : Inside) (kept : IsKept a) (s : Session) (t : Work) (v : ℕ) (b : Bool) → IsOf v a.shard → KnownRows (place_in a) (rows_listed content_of a.shard) s → s.work ≡ Some t → IsOnceAt v b t.settled t.touched.taken → (row_at content_of a.shard v).owner ≡ Some t.tid
known_owner a kept s t v b own known is once =
    let f = txn_of s.work t (known.state.actor known.name).txn known.fits.work is in
    let sound = kept_sound a.base.value (limits_at (place_in a)) known.state known.may.good known.allowed known.kept in
    ap (λ (r : Row). r.owner) (sym (known.rows_are v own ∙ own-listed content_of a.base.value a.shard v kept.is.among kept.loaded own))
    ∙ sound.ownership.held known.name f.0 v f.1 (holds_it t f.0 v b f.2 once)
    ∙ ap (λ n. Some n) f.2.tid

-- one more is given free
flag_behind : (w v : ℕ) (b : Bool) (xs : List (ℕ × Bool)) → is_some (flag_of w (xs ++ (v, b) ∷ [])) ≡ (v == w || is_some (flag_of w xs))
flag_behind w v b [] = by_last (cases_eq v w)
  where
    by_last : (v ≡ w) ⊎ (v ≡ w → ⊥) → is_some (if nat_eq w v then Some b else None) ≡ (v == w || false)
    by_last (inl same) = rw (eq-eqb w v (sym same), eq-eqb v w same) refl
    by_last (inr other) = rw (ne_eqb w v (λ e. other (sym e)), ne_eqb v w other) refl
flag_behind w v b (x ∷ xs) = by_head (nat_eq w x.0) (v == w) (flag_behind w v b xs)
  where
    by_head : (p q : Bool) → is_some (flag_of w (xs ++ (v, b) ∷ [])) ≡ (q || is_some (flag_of w xs)) → is_some (if p then Some x.1 else flag_of w (xs ++ (v, b) ∷ [])) ≡ (q || is_some (if p then Some x.1 else flag_of w xs))
    by_head true true ih = refl
    by_head true false ih = refl
    by_head false q ih = ih

pub settled_work : (t t' : Work) (x : Transaction) (v : ℕ) (b : Bool) → SettlesOne t t' → IsWork t x → IsOnceAt v b t.settled t.touched.taken → IsWork t' (settling x v)
settled_work t t' x v b one work once = record {
  tid = work.tid ∙ sym one.tid;
  read = work.read ∙ sym one.read;
  stage = work.stage ∙ sym one.stage;
  own = λ open_still. work.own (sym one.stage ∙ open_still) ∙ sym one.changes;
  drawn = λ w drew. work.drawn w (sym one.drawn ∙ drew);
  touched = λ w. work.touched w ∙ ap (λ taken. is_some (flag_of w taken)) (sym one.touched);
  changed = λ w. work.changed w ∙ ap (λ taken. is_changed w taken) (sym one.touched);
  settled = λ w. ap (λ z. v == w || z) (work.settled w) ∙ sym (flag_behind w v b (take t.settled t.touched.taken)) ∙ ap (λ taken. is_some (flag_of w taken)) (sym once.2)
      ∙ (λ i. is_some (flag_of w (take (sym one.settled i) (sym one.touched i))));
  working = λ none_settled. absurd (more t.settled (sym one.settled ∙ none_settled));
  left = ap (λ n. encoded_lens x.own + n) one.left ∙ work.left;
}
  where
    more : (n : ℕ) → n + 1 ≡ 0 → ⊥
    more n e = omega (arith, e)

-- The transaction gives the vertex free.
pub does_undo : (a : Inside) (kept : IsKept a) (h : ShardValue) → shard_value a ≡ h → (new : Shard TelBlock Pool) → SameShard a.shard new → (v : ℕ) → IsOf v a.shard → (s s' : Session) (t t' : Work) (b : Bool) (acts : CoreAnswer → Act) → acts answer.Done ≡ act.Undo v →
    s.work ≡ Some t → is_loser t.stage ≡ true → s'.work ≡ Some t' → s'.is_open ≡ s.is_open → s'.finished ≡ s.finished → SettlesOne t t' → IsOnceAt v b t.settled t.touched.taken →
    KeepsRows content_of v a.shard new → Undoes (limits_with a.shard.log_most) v t.tid (row_at content_of a.shard v) (row_at content_of new v) →
    DoesRow v acts h.place h.rows s (Some answer.Done) (rows_listed content_of new) s'
does_undo a kept h view new same v own s s' t t' b acts is_undo is lost after opens finishes settled once keeps undoes =
    subst (λ (z : ShardValue). DoesRow v acts z.place z.rows s (Some answer.Done) (rows_listed content_of new) s') view
    (does_some a kept new same v own s s' acts answer.Done keeps (λ c fit.
    let f = txn_of s.work t c.txn fit.work is in
    let x = f.0 in
    let freed = record c { txn = Some (settling x v) } in (
      freed,
      ap (λ e. row_event (limits_with a.shard.log_most) e (row_at content_of a.shard v) c) is_undo ∙ undoes x c f.1 f.2.tid (ap is_loser f.2.stage ∙ lost) (holds_it t x v b f.2 once),
      session_with s s' t' c freed (settling x v) fit opens finishes after (beside c freed refl refl refl refl) refl (settled_work t t' x v b settled f.2 once),
    )))

-- What the transaction did at the vertex is committed.
pub does_apply : (a : Inside) (kept : IsKept a) (h : ShardValue) → shard_value a ≡ h → (new : Shard TelBlock Pool) → SameShard a.shard new → (v : ℕ) → IsOf v a.shard → (s s' : Session) (t t' : Work) (e : ℕ) (b : Bool) (acts : CoreAnswer → Act) → acts answer.Done ≡ act.Apply v →
    s.work ≡ Some t → won_epoch t.stage ≡ Some e → s'.work ≡ Some t' → s'.is_open ≡ s.is_open → s'.finished ≡ s.finished → SettlesOne t t' → IsOnceAt v b t.settled t.touched.taken →
    KeepsRows content_of v a.shard new → Applies (limits_with a.shard.log_most) v t.tid e b (row_at content_of a.shard v) (row_at content_of new v) →
    DoesRow v acts h.place h.rows s (Some answer.Done) (rows_listed content_of new) s'
does_apply a kept h view new same v own s s' t t' e b acts is_apply is won after opens finishes settled once keeps applies =
    subst (λ (z : ShardValue). DoesRow v acts z.place z.rows s (Some answer.Done) (rows_listed content_of new) s') view
    (does_some a kept new same v own s s' acts answer.Done keeps (λ c fit.
    let f = txn_of s.work t c.txn fit.work is in
    let x = f.0 in
    let freed = with_txn c (Some (settling x v)) in (
      freed,
      ap (λ z. row_event (limits_with a.shard.log_most) z (row_at content_of a.shard v) c) is_apply
          ∙ applies x c f.1 f.2.tid (ap won_epoch f.2.stage ∙ won) (holds_it t x v b f.2 once) (sym (f.2.changed v ∙ ap flag_or_not once.0)),
      session_with s s' t' c freed (settling x v) fit opens finishes after (beside c freed refl refl refl refl) refl (settled_work t t' x v b settled f.2 once),
    )))

-- The transaction reads, or memory runs out.
module _ (a : Inside) (kept : IsKept a) (h : ShardValue) (view : shard_value a ≡ h) (new : Shard TelBlock Pool) (same : SameShard a.shard new) (keeps : (w : ℕ) → row_at content_of new w ≡ row_at content_of a.shard w) (q : Query) (own : IsOf (asked_vertex q) a.shard) (s : Session) (acts : CoreAnswer → Act) where
  pub reads_none : (o : Option CoreAnswer) → o ≡ None → DoesRow (asked_vertex q) acts h.place h.rows s o (rows_listed content_of new) s
  reads_none o nothing = subst (λ (z : Option CoreAnswer). DoesRow (asked_vertex q) acts h.place h.rows s z (rows_listed content_of new) s) (sym nothing)
      (subst (λ (z : ShardValue). DoesRow (asked_vertex q) acts z.place z.rows s None (rows_listed content_of new) s) view
      (does_none a kept new same (asked_vertex q) own s s acts keeps (λ b fit. fit)))

  pub reads_some : (o : Option CoreAnswer) (who : Who) (shown : Answer) → o ≡ Some (answer.Shown shown) → acts (answer.Shown shown) ≡ act.Read q → IsWorking s who
      → Reads (limits_with a.shard.log_most) who q (row_at content_of a.shard (asked_vertex q)) shown → DoesRow (asked_vertex q) acts h.place h.rows s o (rows_listed content_of new) s
  reads_some o who shown something is_read working reads = subst (λ (z : Option CoreAnswer). DoesRow (asked_vertex q) acts h.place h.rows s z (rows_listed content_of new) s) (sym something) (subst (λ (z : ShardValue). DoesRow (asked_vertex q) acts z.place z.rows s (Some (answer.Shown shown)) (rows_listed content_of new) s) view
      (does_some a kept new same (asked_vertex q) own s s acts (answer.Shown shown) (λ w of other. keeps w) (λ c fit.
      let t = working.work in
      let f = txn_of s.work t c.txn fit.work working.works.is in
      let x = f.0 in
      let after = with_txn c (Some x) in (
        after,
        ap (λ e. row_event (limits_with a.shard.log_most) e (row_at content_of a.shard (asked_vertex q)) c) is_read
            ∙ reads x c (speaks s who working x a.shard.log_most f.2) f.1
            ∙ ap (λ row. Some (record { answer = answer.Shown shown; row = row; actor = after })) (sym (keeps (asked_vertex q))),
        still s t c after x fit working.works.is (beside c after refl refl refl refl) refl f.2,
      ))))
