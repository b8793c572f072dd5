-- Only where an edge is put does the core say that a list is full.
use Rattle.std.proofs.Common.{◌≡◌, ℕ, zero, suc, Bool, true, false, not, List, refl, sym, ap, ◌∙◌, subst, inl, inr, Option, Some, None}
use Rattle.std.specs.Prelude.{if◌then◌else◌}
use Rattle.std.proofs.lemmas.Bool.{true≢false}
use Rattle.vertex_locks.specs.declared.answer.Look.{Look}
use Rattle.vertex_locks.specs.declared.answer.Look.TheVariants.{Taken, Held, Conflict}
use Rattle.graph_model.specs.declared.graph.Base.{Base}
use Rattle.graph_model.specs.declared.change.Change.{Change}
use Rattle.graph_model.specs.declared.change.Change.TheVariants as change
use Rattle.request_text.specs.declared.request.Request.{Request}
use Rattle.request_text.specs.declared.request.Request.TheVariants as request
use Rattle.request_text.specs.declared.reply.Reply.{Reply}
use Rattle.request_text.specs.declared.reply.Reply.TheVariants as reply
use Rattle.core_calls.specs.Calls.{AtMost, Once, retries}
use Rattle.core_calls.specs.Events.{Told, Did}
use Rattle.core_rows.specs.Rows.{Row, lock_answer}
use Rattle.core_states.specs.declared.actor.Actor.{Actor}
use Rattle.core_states.specs.declared.event.Act.{Act}
use Rattle.core_states.specs.declared.event.Act.TheVariants as act
use Rattle.core_states.specs.declared.event.CoreAnswer.{CoreAnswer}
use Rattle.core_states.specs.declared.event.CoreAnswer.TheVariants as answer
use Rattle.core_states.specs.declared.transaction.Transaction.{Transaction}
use Rattle.core_states.specs.Names.{Name}
use Rattle.core_states.specs.Transactions.{is_working, with_txn}
use Rattle.core_states.specs.RowEvents.{Limits, RowMove, has_vertex, by_look, by_refusal, refusal, made, changes, is_long, sees_edge}
use Rattle.core_states.specs.ClockEvents.{for_txn}
use Rattle.core_states.specs.Openings.{run_limits}
use Rattle.core_states.specs.States.{State, answer_to, after, row_answer}
use Rattle.graph_workers.specs.Requests.{InsideMakes}
use Rattle.store_lines.specs.Lines.{is_full_without_put}

-- an answer that a list is full
abbrev is_full : CoreAnswer → Bool
is_full answer.LogFull = true
is_full says = false

-- the event is not answered so
abbrev IsNotFull : Act → Type 0
IsNotFull a = (most : Limits) (s : State) (i : Name) → is_full (answer_to most s i a) ≡ false

if_not_full : (b : Bool) (y z : Option RowMove) → is_full (row_answer y) ≡ false → is_full (row_answer z) ≡ false → is_full (row_answer (if b then y else z)) ≡ false
if_not_full true y z one two = one
if_not_full false y z one two = two

-- nor where a refusal comes that is another
look_not_full : (look : Look) (most : Limits) (x : Transaction) (c : Change) (row : Row) (a : Actor) → is_full (row_answer (by_refusal (refusal most x c row) x c row a)) ≡ false → is_full (row_answer (by_look look most x c row a)) ≡ false
look_not_full Taken most x c row a so = so
look_not_full (Held u) most x c row a so = refl
look_not_full (Conflict e) most x c row a so = refl

-- a refusal by one test, and by two
by_test : (b : Bool) (y : CoreAnswer) (x : Transaction) (c : Change) (row : Row) (a : Actor) → is_full y ≡ false → is_full (made x c row) ≡ false → is_full (row_answer (by_refusal (if b then Some y else None) x c row a)) ≡ false
by_test true y x c row a one two = one
by_test false y x c row a one two = two

by_tests : (b b' : Bool) (y z : CoreAnswer) (x : Transaction) (c : Change) (row : Row) (a : Actor) → is_full y ≡ false → is_full z ≡ false → is_full (made x c row) ≡ false → is_full (row_answer (by_refusal (if b then Some y else (if b' then Some z else None)) x c row a)) ≡ false
by_tests true b' y z x c row a one two three = one
by_tests false b' y z x c row a one two three = by_test b' z x c row a two three

change_not_full : (most : Limits) (x : Transaction) (c : Change) (row : Row) (a : Actor) → is_full (row_answer (by_refusal (refusal most x c row) x c row a)) ≡ false → is_full (row_answer (changes most x c row a)) ≡ false
change_not_full most x c row a so =
    if_not_full (not (is_working x)) None (if not (has_vertex x row) then gone else looked) refl
    (if_not_full (not (has_vertex x row)) gone looked refl (look_not_full (lock_answer row x.tid x.read) most x c row a so))
  where
    gone : Option RowMove
    gone = Some (record { answer = answer.NoVertex; row = row; actor = with_txn a (Some x) })

    looked : Option RowMove
    looked = by_look (lock_answer row x.tid x.read) most x c row a

for_not_full : (f : Transaction → Option RowMove) → ((x : Transaction) → is_full (row_answer (f x)) ≡ false) → (o : Option Transaction) → is_full (row_answer (for_txn f o)) ≡ false
for_not_full f so None = refl
for_not_full f so (Some x) = so x

-- no payload that is set, no vertex that is dropped and no edge that is taken out meets a full list
set_not_full : (v : ℕ) (p : List ℕ) → IsNotFull (act.Set v p)
set_not_full v p most s i =
    let c = change.Set v p in
    for_not_full (λ x. changes most x c (s.row v) (s.actor i)) (λ x. change_not_full most x c (s.row v) (s.actor i) (by_test (is_long most x c) answer.TxnFull x c (s.row v) (s.actor i) refl refl)) (s.actor i).txn

drop_not_full : (v : ℕ) → IsNotFull (act.Drop v)
drop_not_full v most s i =
    let c = change.Drop v in
    for_not_full (λ x. changes most x c (s.row v) (s.actor i)) (λ x. change_not_full most x c (s.row v) (s.actor i) (by_test (is_long most x c) answer.TxnFull x c (s.row v) (s.actor i) refl refl)) (s.actor i).txn

del_not_full : (v l d : ℕ) → IsNotFull (act.Del v l d)
del_not_full v l d most s i =
    let c = change.Del v l d in
    for_not_full (λ x. changes most x c (s.row v) (s.actor i))
    (λ x. change_not_full most x c (s.row v) (s.actor i) (by_tests (not (sees_edge x (s.row v) l d)) (is_long most x c) answer.Absent answer.TxnFull x c (s.row v) (s.actor i) refl refl refl)) (s.actor i).txn

-- so no run has such an answer
module _ (base : Base) (name : ℕ → Name) (i : Name) (a : Act) (not_full : IsNotFull a) where
  told_once : (es : List Told) (s t : State) → Once a answer.LogFull es → Did base run_limits name i es s t → ⊥
  told_once es s t once d =
      let f = subst (λ z. Did base run_limits name i z s t) once d in
      true≢false (sym (ap is_full f.2) ∙ not_full run_limits f.0 i)

  not_told : (n v : ℕ) (es : List Told) (s t : State) → AtMost n v (Once a answer.LogFull) es → Did base run_limits name i es s t → ⊥
  not_told zero v es s t once d = told_once es s t once d
  not_told (suc n) v es s t (inl once) d = told_once es s t once d
  not_told (suc n) v es s t (inr r) d =
      let f = subst (λ z. Did base run_limits name i z s t) r.1.1 d in
      not_told n v r.1.0 (after run_limits f.0 i (act.Look v)) t r.1.2 f.3

-- Where an actor did the events of a line, no list is said to be full without a put.
pub never_full : (base : Base) (name : ℕ → Name) (i : Name) (x : Transaction) (q : Request) (r : Reply) (es : List Told) (s t : State) → InsideMakes x q r es → Did base run_limits name i es s t → is_full_without_put q r ≡ false
never_full base name i x (request.Set v p) reply.LogFull es s t makes d = absurd (not_told base name i (act.Set v p) (set_not_full v p) retries v es s t makes d)
never_full base name i x (request.Drop v) reply.LogFull es s t makes d = absurd (not_told base name i (act.Drop v) (drop_not_full v) retries v es s t makes d)
never_full base name i x (request.Del v l e) reply.LogFull es s t makes d = absurd (not_told base name i (act.Del v l e) (del_not_full v l e) retries v es s t makes d)
never_full base name i x q r es s t makes d = refl
