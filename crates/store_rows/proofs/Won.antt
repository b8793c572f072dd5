-- What is known of a vertex that a transaction took whose record is committed.
use Rattle.std.proofs.Common.{arith, ◌≡◌, ℕ, ◌≤◌, ◌<◌, Bool, true, false, List, [], ◌∷◌, refl, sym, ap, ◌∙◌, subst, Some}
use Rattle.std.specs.Prelude.{◌^◌}
use Rattle.std.proofs.lemmas.Bool.{ltb-true, false≢true}
use Rattle.std.proofs.lemmas.Bool.Decides.{nat_tests}
use Rattle.graph_model.specs.declared.change.Change.{Change}
use Rattle.graph_model.specs.declared.graph.Base.{Base}
use Rattle.graph_model.specs.declared.record.Outcome.TheVariants.{Committed, Failed}
use Rattle.graph_model.specs.Places.{changes_about}
use Rattle.graph_model.specs.Records.{IsGood, number_end}
use Rattle.tel_block.specs.Places.{content_of}
use Rattle.core_rows.specs.Rows.{Row, log_at, undo_row, apply_row}
use Rattle.row_pasts.specs.RowFits.{RowFits}
use Rattle.core_states.specs.declared.clock.Active.{Active}
use Rattle.core_states.specs.declared.transaction.Stage.{Stage}
use Rattle.core_states.specs.declared.transaction.Stage.TheVariants.{Open, Queued, Decided}
use Rattle.core_states.specs.declared.transaction.Transaction.{Transaction}
use Rattle.core_states.specs.Names.{Name}
use Rattle.core_states.specs.Numbers.{has_active}
use Rattle.core_states.specs.RowEvents.{Limits, has_change}
use Rattle.core_states.specs.States.{State}
use Rattle.core_states.specs.Transactions.{won_epoch}
use Rattle.core_states.proofs.Names.{some_is}
use Rattle.core_kept.specs.Bounds.{Kept}
use Rattle.core_kept.specs.Good.{AllAbove, Ghost, Good, InLog, Owned, StageOk, past_of, root}
use Rattle.core_laws.proofs.Counts.{last_below}
use Rattle.core_laws.proofs.Owners.{owner_of}
use Rattle.shard_state.specs.Shards.{IsOf, row_at}
use Rattle.shard_state.specs.RowLists.{rows_listed}
use Rattle.shard_state.proofs.Listing.{own-listed}
use Rattle.shard_state.proofs.Plain.{log_same, undone_as_applied}
use Rattle.store_turns.specs.declared.session.Session.{Session}
use Rattle.store_turns.specs.declared.session.Work.{Work}
use Rattle.store_turns.specs.Rows.{KnownRows, limits_at}
use Rattle.store_turns.specs.Takes.{IsOnceAt, flag_or_not}
use Rattle.store_turns.proofs.Sessions.{txn_of}
use Rattle.store_rows.specs.declared.shard_home.ShardHome.TheInside.{Inside}
use Rattle.store_rows.specs.ShardsKept.{IsKept, place_in}
use Rattle.store_rows.proofs.AlterMoves.{known_snapshot}
use Rattle.store_rows.proofs.RowMoves.{known_owner}

-- the record has this epoch
pub won_is : (stage : Stage) (e : ℕ) → won_epoch stage ≡ Some e → stage ≡ Decided (Committed e)
won_is Open e won = absurd (let bad : ⊥ = (cc) in bad)
won_is Queued e won = absurd (let bad : ⊥ = (cc) in bad)
won_is (Decided (Committed n)) e won = let same : n ≡ e = (cc) in ap (λ (k : ℕ). Decided (Committed k)) same
won_is (Decided (Failed b a)) e won = absurd (let bad : ⊥ = (cc) in bad)

-- what is not done is at most the last epoch
active_low : (low high t e : ℕ) (ps : List Active) → AllAbove low high ps → has_active t e ps ≡ true → e ≤ high
active_low low high t e [] above has = absurd (false≢true has)
active_low low high t e (x ∷ xs) above has = grind (arith, nat_tests, active_low low high t e xs above.2)

-- In a kept state the record's epoch is after the transaction's snapshot, and below the end of numbers.
module _ (base : Base) (most : Limits) (st : State) (good : IsGood base) (kept : Kept base most st) (i : Name) (x : Transaction) (at : (st.actor i).txn ≡ Some x) (e : ℕ) (won : won_epoch x.stage ≡ Some e) where
  in_log : kept.0.0.place x.tid ≡ InLog e
  in_log = subst (λ stage. StageOk stage x.settled (kept.0.0.place x.tid)) (won_is x.stage e won) (kept.0.1.txns i x at).stage

  pub epoch_later : x.read < e
  epoch_later = (kept.0.1.txns i x at).later e in_log

  pub epoch_below : e < number_end
  epoch_below =
      let low = last_below base kept.0.0 st (ltb-true base.epoch base.next_tid good.epoch) kept.0.1 in
      let next = kept.1.next_tid in
      let at_most = active_low st.clock.visible st.clock.last x.tid e st.clock.pending kept.0.1.pending ((kept.0.1.txns i x at).pending e in_log) in
      omega (arith, low, next, at_most)

-- Where an owner did not change a vertex, what it did there is given up as it is committed.
module _ (base : Base) (g : Ghost) (st : State) (good : Good base g st) (i : Name) (x : Transaction) (at : (st.actor i).txn ≡ Some x) (v : ℕ) (none : has_change (changes_about v x.own) ≡ false) where
  is_it : (ok : Owned base g st.clock.records st.actor v (st.row v) x.tid) → ok.txn ≡ x
  is_it ok = some_is ok.txn x (sym ok.is ∙ ap (λ j. (st.actor j).txn) (good.txns i x at).who ∙ at)

  no_change : (cs : List Change) → has_change cs ≡ false → cs ≡ []
  no_change [] e = refl
  no_change (c ∷ cs) e = absurd (false≢true (sym e))

  pub plain : (st.row v).owner ≡ Some x.tid → (e : ℕ) → undo_row x.tid (st.row v) ≡ apply_row x.tid e false (st.row v)
  plain owner e =
      let ok = owner_of base g st v x.tid good owner in
      let nothing = no_change (changes_about v x.own) none in
      let fits : RowFits base.epoch (root base v) (past_of st.clock.records v (Some x.tid)) (changes_about v x.own) (st.row v) =
      subst (λ (y : Transaction). RowFits base.epoch (root base v) (past_of st.clock.records v (Some x.tid)) (changes_about v y.own) (st.row v)) (is_it ok) ok.fits in
      undone_as_applied x.tid e (st.row v).committed (st.row v) (fits.life.plain nothing) fits.labels
      (λ l. log_same (st.row v).committed x.tid (log_at (st.row v).logs l) ((fits.logs l).plain nothing) (fits.logs l).count)

-- The session's record is committed, and the vertex is the next of those that it took.
module _ (a : Inside) (kept : IsKept a) (s : Session) (t : Work) (v : ℕ) (b : Bool) (own : IsOf v a.shard) (known : KnownRows (place_in a) (rows_listed content_of a.shard) s) (is : s.work ≡ Some t) (e : ℕ) (won : won_epoch t.stage ≡ Some e) where
  epochs : (t.read < e) × (e < number_end)
  epochs =
      let f = txn_of s.work t (known.state.actor known.name).txn known.fits.work is in
      let won_too = ap won_epoch f.2.stage ∙ won in
      let most = limits_at (place_in a) in (
        subst (λ n. n < e) f.2.read (epoch_later a.base.value most known.state known.may.good known.kept known.name f.0 f.1 e won_too),
        epoch_below a.base.value most known.state known.may.good known.kept known.name f.0 f.1 e won_too,
      )

  -- its epoch is one that a log keeps
  pub known_epoch : (0 < e) × (e < 2 ^ 63)
  known_epoch = let both = epochs in (omega (arith, both.0), omega (arith, both.1))

  -- it is at least that of the last commit that changed the vertex
  pub known_later : IsOnceAt v b t.settled t.touched.taken → (row_at content_of a.shard v).committed ≤ e
  known_later once =
      let low = known_snapshot a kept s t v own known is (known_owner a kept s t v b own known is once) in
      let late = epochs.0 in omega (arith, low, late)

  pub known_plain : IsOnceAt v b t.settled t.touched.taken → b ≡ false → undo_row t.tid (row_at content_of a.shard v) ≡ apply_row t.tid e false (row_at content_of a.shard v)
  known_plain once unchanged =
      let f = txn_of s.work t (known.state.actor known.name).txn known.fits.work is in
      let same : row_at content_of a.shard v ≡ known.state.row v = sym (known.rows_are v own ∙ own-listed content_of a.base.value a.shard v kept.is.among kept.loaded own) in
      let owner : (known.state.row v).owner ≡ Some f.0.tid = ap (λ (r : Row). r.owner) (sym same) ∙ known_owner a kept s t v b own known is once ∙ ap (λ n. Some n) (sym f.2.tid) in
      let none : has_change (changes_about v f.0.own) ≡ false = f.2.changed v ∙ ap flag_or_not once.0 ∙ unchanged in
      subst (λ (z : ℕ × Row). undo_row z.0 z.1 ≡ apply_row z.0 e false z.1) (λ i. (f.2.tid i, sym same i)) (plain a.base.value known.kept.0.0 known.state known.kept.0.1 known.name f.0 f.1 v none owner e)
