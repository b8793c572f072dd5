-- What a state that events led to says of its rows, and what an event on one row makes of the others.
use Rattle.std.proofs.Common.{◌≡◌, ℕ, ◌<◌, ◌≤◌, ◌+◌, Bool, true, false, List, [], ◌∷◌, Option, Some, None, refl, ap, sym, ◌∙◌, subst, arith, ◌%◌, ◌⊎◌, inl, inr}
use Rattle.std.specs.Prelude.{◌≢◌, if◌then◌else◌, Result, Ok, Err, OnOk, OnErr}
use Rattle.std.proofs.lemmas.Bool.{cases_eq}
use Rattle.edge_log.specs.Contents.{LogContent}
use Rattle.shard_state.specs.declared.shard.Shard.{Shard}
use Rattle.shard_state.specs.Shards.{row_at, IsOf, SameShard, KeepsRows}
use Rattle.std.proofs.lemmas.Bool.{ltb-true}
use Rattle.std.proofs.lemmas.Bool.Decides.{nat_tests}
use Rattle.graph_model.specs.declared.graph.Base.{Base}
use Rattle.graph_model.specs.Records.{IsGood, number_end}
use Rattle.graph_model.specs.declared.change.Change.{Change}
use Rattle.graph_model.specs.Places.{changes_about}
use Rattle.core_rows.specs.Rows.{Row, log_at, undo_row, apply_row}
use Rattle.row_pasts.specs.RowFits.{RowFits}
use Rattle.core_states.specs.declared.actor.Actor.{Actor}
use Rattle.core_states.specs.declared.event.Act.{Act}
use Rattle.core_states.specs.declared.event.CoreAnswer.{CoreAnswer}
use Rattle.core_states.specs.declared.event.Reach.{Reach}
use Rattle.core_states.specs.declared.event.Reach.TheVariants as reach
use Rattle.core_states.specs.declared.transaction.Transaction.{Transaction}
use Rattle.core_states.specs.Durability.{is_unpublished}
use Rattle.core_states.specs.Names.{Name}
use Rattle.core_states.specs.Openings.{run_limits}
use Rattle.core_states.specs.RowEvents.{RowMove, has_change}
use Rattle.core_states.specs.ClockEvents.{ClockMove}
use Rattle.core_states.specs.LogEvents.{LogMove, GroupMove}
use Rattle.core_states.specs.States.{State, row_event, clock_event, log_event, group_event, reach_of, after, after_at, after_row, after_clock, after_log, after_group}
use Rattle.core_kept.specs.Bounds.{Kept}
use Rattle.core_kept.specs.Good.{Owned, root, past_of}
use Rattle.core_laws.proofs.Counts.{last_below}
use Rattle.core_laws.proofs.Owners.{owner_of}
use Rattle.txn_core.specs.Cores.{IsWithin}
use Rattle.core_states.specs.declared.clock.Clock.{Clock}
use Rattle.epoch_clock.specs.Events.{LeavesClock, LeavesGroup}
use Rattle.part_scripts.specs.Rows.{Fits, Moves, AreAlike}
use Rattle.shard_state.proofs.Plain.{log_same, undone_as_applied}

-- a kept state has room for one number more
pub within : (base : Base) (s : State) → IsGood base → Kept base run_limits s → IsWithin s
within base s good kept =
    let low = last_below base kept.0.0 s (ltb-true base.epoch base.next_tid good.epoch) kept.0.1 in
    let next = kept.1.next_tid in
    let last : s.clock.last < number_end = omega (arith, low, next) in
    record { tid = next; vertex = kept.1.next_vertex; epoch = last; durable = by_test (is_unpublished s.log.holder s.actor) kept.4.epoch last }
  where
    by_test : (b : Bool) → s.log.durable ≡ (if b then s.clock.last + 1 else s.clock.last) → s.clock.last < number_end → s.log.durable ≤ number_end
    by_test true is lt = omega (arith, is, lt)
    by_test false is lt = omega (arith, is, lt)

-- The row of each vertex fits each transaction that runs.
pub fits : (base : Base) (s : State) (i : Name) (x : Transaction) (v : ℕ) → Kept base run_limits s → (s.actor i).txn ≡ Some x → Fits x v (s.row v)
fits base s i x v kept at = record {
  snapshot = λ owner. snapshot (owner_of base kept.0.0 s v x.tid kept.0.1 owner);
  held = λ holding. kept.0.1.held i x at v holding;
  unused = λ drew. (kept.0.1.drawn i x at v drew).fresh;
  plain = λ none holding e. plain (owner_of base kept.0.0 s v x.tid kept.0.1 (kept.0.1.held i x at v holding)) none e;
}
  where
    some_is : (a b : Transaction) → Some a ≡ Some b → a ≡ b
    some_is a b e = (cc)

    is_it : (ok : Owned base kept.0.0 s.clock.records s.actor v (s.row v) x.tid) → ok.txn ≡ x
    is_it ok = some_is ok.txn x (sym ok.is ∙ ap (λ j. (s.actor j).txn) (kept.0.1.txns i x at).who ∙ at)

    snapshot : Owned base kept.0.0 s.clock.records s.actor v (s.row v) x.tid → (s.row v).committed ≤ x.read
    snapshot ok = subst (λ (y : Transaction). (s.row v).committed ≤ y.read) (is_it ok) ok.read

    no_change : (cs : List Change) → has_change cs ≡ false → cs ≡ []
    no_change [] none = refl
    no_change (c ∷ cs) none = absurd (cc)

    plain : Owned base kept.0.0 s.clock.records s.actor v (s.row v) x.tid → has_change (changes_about v x.own) ≡ false → (e : ℕ) → undo_row x.tid (s.row v) ≡ apply_row x.tid e false (s.row v)
    plain ok none e =
        let nothing : changes_about v x.own ≡ [] = no_change (changes_about v x.own) none in
        let row : RowFits base.epoch (root base v) (past_of s.clock.records v (Some x.tid)) (changes_about v x.own) (s.row v) =
        subst (λ (y : Transaction). RowFits base.epoch (root base v) (past_of s.clock.records v (Some x.tid)) (changes_about v y.own) (s.row v)) (is_it ok) ok.fits in
        undone_as_applied x.tid e (s.row v).committed (s.row v) (row.life.plain nothing) row.labels
        (λ l. log_same (s.row v).committed x.tid (log_at (s.row v).logs l) ((row.logs l).plain nothing) (row.logs l).count)

-- An event on the row of a vertex sets that row, and leaves the others.
pub row_here : (s : State) (i : Name) (action : Act) (v : ℕ) (says : CoreAnswer) (next : Row) (b : Actor) → reach_of action ≡ reach.Row v →
    row_event run_limits action (s.row v) (s.actor i) ≡ Some (record { answer = says; row = next; actor = b }) → (after run_limits s i action).row v ≡ next
row_here s i action v says next b on is =
    ap (λ (r : Reach). (after_at r run_limits s i action).row v) on ∙ ap (λ (m : Option RowMove). (after_row s i v m).row v) is ∙ grind (arith, nat_tests)

pub rows_there : (s : State) (i : Name) (action : Act) (w : ℕ) → reach_of action ≢ reach.Row w → (after run_limits s i action).row w ≡ s.row w
rows_there s i action w other = by_reach (reach_of action) other
  where
    by_clock : (m : Option ClockMove) → (after_clock s i m).row w ≡ s.row w
    by_clock None = refl
    by_clock (Some m) = refl

    by_log : (m : Option LogMove) → (after_log s i m).row w ≡ s.row w
    by_log None = refl
    by_log (Some m) = refl

    by_group : (m : Option GroupMove) → (after_group s i m).row w ≡ s.row w
    by_group None = refl
    by_group (Some m) = refl

    by_row : (v : ℕ) → w ≢ v → (m : Option RowMove) → (after_row s i v m).row w ≡ s.row w
    by_row v apart None = refl
    by_row v apart (Some m) = grind (arith, nat_tests, apart)

    by_reach : (r : Reach) → r ≢ reach.Row w → (after_at r run_limits s i action).row w ≡ s.row w
    by_reach reach.Clock o = by_clock (clock_event action s.clock (s.actor i))
    by_reach (reach.Row v) o = by_row v (λ e. o (ap reach.Row (sym e))) (row_event run_limits action (s.row v) (s.actor i))
    by_reach reach.Log o = by_log (log_event action i s.log (s.actor i))
    by_reach reach.LogAndClock o = by_group (group_event action i s.log s.clock (s.actor i))

-- what holds of the state after an event, and of the one before, holds of the one that is left
pub either : {A E : Type 0} (P : State → Type 0) (r : Result A E) (old next new : State) → OnOk r (new ≡ next) → OnErr r (new ≡ old) → P next → P old → P new
either P (Ok x) old next new done same p q = subst P (sym done) p
either P (Err e) old next new done same p q = subst P (sym same) q

-- The event of a row in the core and in the shard leaves both alike.
pub alike_after : {L R : Type 0} (content : L → R → LogContent) (s : State) (i : Name) (action : Act) (v : ℕ) (shard new : Shard L R) (says : CoreAnswer) →
    Moves action (row_at content shard v) (s.actor i) says (row_at content new v) → reach_of action ≡ reach.Row v → IsOf v shard → AreAlike content s shard →
    SameShard shard new → KeepsRows content v shard new → AreAlike content (after run_limits s i action) new
alike_after content s i action v shard new says moved on own alike same keeps w of = at_each (cases_eq w v)
  where
    it : row_event run_limits action (s.row v) (s.actor i) ≡ Some (record { answer = says; row = row_at content new v; actor = moved.0 })
    it = subst (λ (r : Row). row_event run_limits action r (s.actor i) ≡ Some (record { answer = says; row = row_at content new v; actor = moved.0 })) (alike v own) moved.1

    was : w % shard.shards ≡ shard.number
    was = subst (λ n. w % shard.shards ≡ n) same.number (subst (λ m. w % m ≡ new.number) same.shards of)

    row_is : (a b : ℕ) → reach.Row a ≡ reach.Row b → a ≡ b
    row_is a b e = (cc)

    at_each : (w ≡ v) ⊎ (w ≡ v → ⊥) → row_at content new w ≡ (after run_limits s i action).row w
    at_each (inl is) = ap (row_at content new) is ∙ sym (row_here s i action v says (row_at content new v) moved.0 on it) ∙ ap (after run_limits s i action).row (sym is)
    at_each (inr other) = keeps w was other ∙ alike w was ∙ sym (rows_there s i action w (λ e. other (sym (row_is v w (sym on ∙ e)))))

-- An event on the clock leaves the clock that it is to leave.
pub clock_after : (s : State) (i : Name) (action : Act) (says : CoreAnswer) (next : Clock) → reach_of action ≡ reach.Clock → LeavesClock (clock_event action s.clock (s.actor i)) says next → (after run_limits s i action).clock ≡ next
clock_after s i action says next on leaves = ap (λ (r : Reach). (after_at r run_limits s i action).clock) on ∙ by_move (clock_event action s.clock (s.actor i)) leaves
  where
    by_move : (m : Option ClockMove) → LeavesClock m says next → (after_clock s i m).clock ≡ next
    by_move None l = absurd l
    by_move (Some m) l = l.1

pub group_after : (s : State) (i : Name) (action : Act) (says : CoreAnswer) (next : Clock) → reach_of action ≡ reach.LogAndClock → LeavesGroup (group_event action i s.log s.clock (s.actor i)) says next → (after run_limits s i action).clock ≡ next
group_after s i action says next on leaves = ap (λ (r : Reach). (after_at r run_limits s i action).clock) on ∙ by_move (group_event action i s.log s.clock (s.actor i)) leaves
  where
    by_move : (m : Option GroupMove) → LeavesGroup m says next → (after_group s i m).clock ≡ next
    by_move None l = absurd l
    by_move (Some m) l = l.1

-- An event on a row leaves the clock.
pub clock_stays : (s : State) (i : Name) (action : Act) (v : ℕ) → reach_of action ≡ reach.Row v → (after run_limits s i action).clock ≡ s.clock
clock_stays s i action v on = ap (λ (r : Reach). (after_at r run_limits s i action).clock) on ∙ by_move (row_event run_limits action (s.row v) (s.actor i))
  where
    by_move : (m : Option RowMove) → (after_row s i v m).clock ≡ s.clock
    by_move None = refl
    by_move (Some m) = refl
