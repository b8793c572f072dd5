-- A holder that a reply names had not ended when its worker's pass began.
use Rattle.std.proofs.Common.{◌≡◌, ◌≢◌, ℕ, true, List, [], ◌∷◌, refl, Option, Some, None}
use Rattle.std.specs.Prelude.{⊤}
use Rattle.std.proofs.lemmas.Bool.{false≢true}
use Rattle.graph_model.specs.declared.graph.Base.{Base}
use Rattle.request_text.specs.declared.request.Request.{Request}
use Rattle.request_text.specs.declared.request.Request.TheVariants as request
use Rattle.request_text.specs.declared.reply.Reply.{Reply}
use Rattle.request_text.specs.declared.reply.Reply.TheVariants as reply
use Rattle.graph_legal.specs.Lines.{Replied}
use Rattle.graph_legal.specs.Kinds.{is_in_kind}
use Rattle.core_states.specs.declared.event.Act.TheVariants as act
use Rattle.core_states.specs.declared.event.CoreAnswer.TheVariants as answer
use Rattle.core_states.specs.declared.transaction.Transaction.{Transaction}
use Rattle.core_states.specs.declared.transaction.Receipt.{Receipt as CoreReceipt}
use Rattle.core_states.specs.Names.{Name}
use Rattle.core_states.specs.States.{State}
use Rattle.core_states.specs.Openings.{run_limits}
use Rattle.core_kept.specs.Bounds.{Kept}
use Rattle.core_states.specs.Laters.{ReceiptsStay}
use Rattle.core_states.specs.Sound.{RunsAt, InReceipts}
use Rattle.core_laws.proofs.Locking.{looks_tell}
use Rattle.core_calls.proofs.OnParts.{later_refl, later_log_refl}
use Rattle.core_calls.specs.Events.{Told, Did}
use Rattle.core_calls.specs.Calls.{First, Nothing, Leaves, IsHeldUp, retries}
use Rattle.graph_workers.specs.Requests.{LineMakes}
use Rattle.graph_workers.specs.Passes.{Pass, LineRan, trace_of_txn}
use Rattle.graph_workers.proofs.Moving.{moved}
use Rattle.graph_workers.proofs.Events.{held}
use Rattle.graph_workers.proofs.Running.{Here, in_vain, at_event}

-- the holder that a reply names has no receipt in this state
abbrev pub NotEnded : State → Reply → Type 0
NotEnded s (reply.Held v n) = (i : Name) (c : CoreReceipt) → InReceipts c (s.actor i).receipts → c.tid ≢ n
NotEnded s r = ⊤

pub not_before : (s t : State) (r : Reply) → ReceiptsStay s t → NotEnded t r → NotEnded s r
not_before s t (reply.Held v n) stay h = λ i c among. h i c (stay i c among)
not_before s t r stay h = tt

module _ (base : Base) (name : ℕ → Name) (apart : (j k : ℕ) → name j ≡ name k → j ≡ k) (k : ℕ) where
  held_up : (s t : State) (x : Transaction) (v u : ℕ) (es : List Told) → Kept base run_limits s → RunsAt s (name k) x → IsHeldUp v u es → Did base run_limits name (name k) es s t →
      (i : Name) (c : CoreReceipt) → InReceipts c (s.actor i).receipts → c.tid ≢ u
  held_up s t x v u es kept runs h d i c among =
      let a = s.actor (name k) in
      let start : Here base name apart k s a x s = record { moved = record { kept = kept; later = later_refl s.clock; later_log = later_log_refl s.log; receipts = λ j r m. m; others = λ j ne. refl }; txn = runs; receipts = refl; drew = refl } in
      let r = in_vain base name apart k s a x retries v (First (act.Look v) (answer.Held u) (Leaves Nothing)) es s t start h d in
      let e = at_event base name apart k s a x (act.Look v) (answer.Held u) r.rest.0 r.events r.state t r.here r.rest.1 r.did in
      let l = held e.now (name k) x v u e.here.txn e.so in
      ((looks_tell base run_limits e.now e.here.moved.kept).held (name k) x v u e.here.txn l.tells.found.lock).no_receipt i c (e.here.moved.receipts i c among)

  -- only a change of a vertex that is named has such a reply
  by_request : (s t : State) (o : Option Transaction) (q : Request) (w u : ℕ) (es : List Told) → Kept base run_limits s → (s.actor (name k)).txn ≡ o → is_in_kind (trace_of_txn o) q (reply.Held w u) ≡ true → LineMakes o q (reply.Held w u) es →
      Did base run_limits name (name k) es s t → NotEnded s (reply.Held w u)
  by_request s t (Some x) (request.Set v p) w u es kept was kind makes d = held_up s t x v u es kept was makes.1 d
  by_request s t (Some x) (request.Drop v) w u es kept was kind makes d = held_up s t x v u es kept was makes.1 d
  by_request s t (Some x) (request.Put v l e p) w u es kept was kind makes d = held_up s t x v u es kept was makes.1 d
  by_request s t (Some x) (request.Del v l e) w u es kept was kind makes d = held_up s t x v u es kept was makes.1 d
  by_request s t (Some x) q w u es kept was kind makes d = absurd (false≢true kind)
  by_request s t None request.Begin w u es kept was kind makes d = absurd (false≢true kind)
  by_request s t None (request.Compact v l) w u es kept was kind makes d = absurd (false≢true kind)
  by_request s t None q w u es kept was kind makes d = absurd (false≢true kind)

  by_reply : (s t : State) (o : Option Transaction) (q : Request) (r : Reply) (es : List Told) → Kept base run_limits s → (s.actor (name k)).txn ≡ o → is_in_kind (trace_of_txn o) q r ≡ true → LineMakes o q r es →
      Did base run_limits name (name k) es s t → NotEnded s r
  by_reply s t o q (reply.Held w u) es kept was kind makes d = by_request s t o q w u es kept was kind makes d
  by_reply s t o q r es kept was kind makes d = tt

  -- What a line leaves of receipts: all stay, and a holder that it names has none.
  pub line_ended : (p new : Pass) (q : Request) (r : Reply) → Kept base run_limits p.seen → LineRan base name p k q r new → ReceiptsStay p.seen new.seen × NotEnded p.seen r
  line_ended p new q r kept ran = (
    (moved base name apart k ran.events p.seen new.seen ran.did).receipts,
    by_reply p.seen new.seen (p.seen.actor (name k)).txn q r ran.events kept refl ran.kind ran.makes ran.did,
  )

-- each line of these
abbrev pub NoneEnded : State → List Replied → Type 0
NoneEnded s [] = Unit {0}
NoneEnded s (a ∷ above) = NotEnded s a.reply × NoneEnded s above
