-- When what a shard does to a row is the core's change.
use Rattle.std.proofs.Common.{◌≡◌, ℕ, ◌<◌, ◌≤◌, Bool, true, false, Option, Some, None, refl, ap, sym, subst, ◌∙◌, arith, List}
use Rattle.std.specs.Prelude.{Result, Ok, Err, OnOk, OnErr}
use Rattle.std.proofs.lemmas.Bool.Decides.{nat_tests}
use Rattle.graph_model.specs.declared.change.Change.{Change}
use Rattle.graph_model.specs.declared.change.Change.TheVariants as change
use Rattle.graph_model.specs.Change.{vertex_of, encoded_len}
use Rattle.graph_model.specs.Records.{destination_end}
use Rattle.vertex_locks.specs.declared.answer.Look.{Look}
use Rattle.vertex_locks.specs.declared.answer.Look.TheVariants.{Taken, Held, Conflict}
use Rattle.core_rows.specs.Rows.{Row, lock_answer, taken_row, push_row, apply_row, undo_row}
use Rattle.core_states.specs.declared.actor.Actor.{Actor}
use Rattle.core_states.specs.declared.event.Act.{Act}
use Rattle.core_states.specs.declared.event.Act.TheVariants as act
use Rattle.core_states.specs.declared.event.CoreAnswer.{CoreAnswer}
use Rattle.core_states.specs.declared.event.CoreAnswer.TheVariants as answer
use Rattle.core_states.specs.declared.transaction.Transaction.{Transaction}
use Rattle.core_states.specs.ClockEvents.{for_txn}
use Rattle.core_states.specs.RowEvents.{Limits, has_vertex, is_long, changed_row, made, refusal, by_refusal, changes, puts, news, undoes as core_undoes, applies_at}
use Rattle.core_states.specs.States.{row_event}
use Rattle.core_states.specs.Transactions.{won_epoch, touching, changing, with_txn}
use Rattle.shard_state.specs.declared.who.Who.{Who}
use Rattle.shard_state.specs.Shards.{sees_vertex, MayChange}
use Rattle.shard_state.specs.Says.{Speaks, Changes, after_change, Makes, Applies, Undoes}

-- The event makes the change of the row.
abbrev pub Acts : Limits → Act → Change → Row → Type 0
Acts most action c row = (x : Transaction) (a : Actor) → a.txn ≡ Some x → row_event most action row a ≡ changes most x c row a

pub acts_put : (most : Limits) (v l d : ℕ) (p : List ℕ) (row : Row) → d < destination_end → Acts most (act.Put v l d p) (change.Put v l d p) row
acts_put most v l d p row below x a is = ap (for_txn (λ y. puts most y (change.Put v l d p) row a)) is ∙ grind (arith, nat_tests, below)

pub acts_del : (most : Limits) (v l d : ℕ) (row : Row) → Acts most (act.Del v l d) (change.Del v l d) row
acts_del most v l d row x a is = ap (for_txn (λ y. changes most y (change.Del v l d) row a)) is

pub acts_set : (most : Limits) (v : ℕ) (p : List ℕ) (row : Row) → Acts most (act.Set v p) (change.Set v p) row
acts_set most v p row x a is = ap (for_txn (λ y. changes most y (change.Set v p) row a)) is

pub acts_drop : (most : Limits) (v : ℕ) (row : Row) → Acts most (act.Drop v) (change.Drop v) row
acts_drop most v row x a is = ap (for_txn (λ y. changes most y (change.Drop v) row a)) is

-- A vertex that may be changed, and is seen, can be taken.
pub may_take : (who : Who) (row : Row) → MayChange who row → sees_vertex who row ≡ true → lock_answer row who.tid who.read ≡ Taken
may_take who row may sees = by_look_at (lock_answer row who.tid who.read) refl
  where
    by_look_at : (look : Look) → lock_answer row who.tid who.read ≡ look → look ≡ Taken
    by_look_at Taken is = refl
    by_look_at (Held u) is = let bad : true ≡ false = rw (sees, is) at may.looked in cc
    by_look_at (Conflict e) is = let bad : true ≡ false = rw (sees, is) at may.looked in cc

has_seen : (most : Limits) (who : Who) (x : Transaction) (row : Row) → Speaks most who x → has_vertex x row ≡ sees_vertex who row
has_seen most who x row speaks = rw (speaks.tid, speaks.read)

-- The vertex is not seen: the row stays.
pub event_absent : (most : Limits) (who : Who) (action : Act) (c : Change) (row : Row) → Acts most action c row → sees_vertex who row ≡ false → Changes most who action c row (Some answer.NoVertex) row
event_absent most who action c row acts unseen x a speaks is = acts x a is ∙ absent (has_seen most who x row speaks ∙ unseen)
  where
    absent : has_vertex x row ≡ false → changes most x c row a ≡ Some (record { answer = answer.NoVertex; row = row; actor = with_txn a (Some x) })
    absent unseen_there = rw (speaks.working, unseen_there)

-- The vertex is seen and can be taken: the change is refused, or made.
opened : (most : Limits) (who : Who) (c : Change) (row : Row) (x : Transaction) (a : Actor) → Speaks most who x → sees_vertex who row ≡ true → lock_answer row who.tid who.read ≡ Taken → changes most x c row a ≡ by_refusal (refusal most x c row) x c row a
opened most who c row x a speaks sees taken =
    let has : has_vertex x row ≡ true = has_seen most who x row speaks ∙ sees in
    let look : lock_answer row x.tid x.read ≡ Taken = rw (speaks.tid, speaks.read) taken in
    rw (speaks.working, has, look)

pub event_refused : (most : Limits) (who : Who) (action : Act) (c : Change) (row : Row) (says : CoreAnswer) → Acts most action c row → sees_vertex who row ≡ true → lock_answer row who.tid who.read ≡ Taken →
    ((x : Transaction) → Speaks most who x → refusal most x c row ≡ Some says) → ((x : Transaction) → after_change says x c ≡ touching x (vertex_of c)) → Changes most who action c row (Some says) (taken_row who.tid row)
event_refused most who action c row says acts sees taken refused after x a speaks is =
    acts x a is ∙ opened most who c row x a speaks sees taken ∙ ap (λ o. by_refusal o x c row a) (refused x speaks) ∙ rw (after x, speaks.tid)

pub event_made : (most : Limits) (who : Who) (action : Act) (c : Change) (row changed : Row) (says : CoreAnswer) → Acts most action c row → sees_vertex who row ≡ true → lock_answer row who.tid who.read ≡ Taken →
    ((x : Transaction) → Speaks most who x → refusal most x c row ≡ None) → ((x : Transaction) → Speaks most who x → made x c row ≡ says) → ((x : Transaction) → Speaks most who x → changed_row x c row ≡ changed) →
    ((x : Transaction) → after_change says x c ≡ changing x c) → Changes most who action c row (Some says) changed
event_made most who action c row changed says acts sees taken refused tells gives after x a speaks is =
    acts x a is ∙ opened most who c row x a speaks sees taken ∙ ap (λ o. by_refusal o x c row a) (refused x speaks) ∙ rw (after x, tells x speaks, gives x speaks)

-- The ends of a transaction at a row.
pub undoes : (most : Limits) (v tid : ℕ) (row gone : Row) → gone ≡ undo_row tid row → Undoes most v tid row gone
undoes most v tid row gone same x a is number loser holding = ap (for_txn (λ y. core_undoes y v row a)) is ∙ rw (loser, holding, same, number)

pub applies : (most : Limits) (v tid epoch : ℕ) (changed : Bool) (row done : Row) → done ≡ apply_row tid epoch changed row → Applies most v tid epoch changed row done
applies most v tid epoch changed row done same x a is number won holding told = ap (for_txn (λ y. applies_at (won_epoch y.stage) y v row a)) is ∙ rw (won, holding, same, number, told)

-- What is the core's change of the row that stands there is so of the row that is kept.
pub changes_at : (most : Limits) (who : Who) (action : Act) (c : Change) (kept row next changed : Row) (says : Option CoreAnswer) → kept ≡ row → next ≡ changed → Changes most who action c row says changed → Changes most who action c kept says next
changes_at most who action c kept row next changed None before now same = now ∙ same ∙ sym before
changes_at most who action c kept row next changed (Some says) before now same = λ x a speaks is.
    subst (λ (r : Row). row_event most action r a ≡ Some (record { answer = says; row = next; actor = with_txn a (Some (after_change says x c)) })) (sym before)
    (subst (λ (r : Row). row_event most action row a ≡ Some (record { answer = says; row = r; actor = with_txn a (Some (after_change says x c)) })) (sym now) (same x a speaks is))

-- A vertex of a number that the transaction drew is made.
pub makes : (most : Limits) (who : Who) (v : ℕ) (p : List ℕ) (row next : Row) → next ≡ push_row who.tid (Some p) row → encoded_len (change.New v p) ≤ who.left → Makes most who v p row next
makes most who v p row next same short x a speaks is drew =
    let fits : is_long most x (change.New v p) ≡ false = grind (arith, nat_tests, speaks.left, short) in
    ap (for_txn (λ y. news most y v p row a)) is ∙ rw (speaks.working, drew, fits, same, speaks.tid)

-- what holds of one way in which a call ends
pub map_ok : {A E P Q : Type 0} (r : Result A E) → (P → Q) → OnOk r P → OnOk r Q
map_ok (Ok x) gives p = gives p
map_ok (Err e) gives p = tt

pub map_err : {A E P Q : Type 0} (r : Result A E) → (P → Q) → OnErr r P → OnErr r Q
map_err (Ok x) gives p = tt
map_err (Err e) gives p = gives p

pub on_either : {A E P Q S : Type 0} (r : Result A E) → (P → S) → (Q → S) → OnOk r P → OnErr r Q → S
on_either (Ok x) well badly p q = well p
on_either (Err e) well badly p q = badly q
