-- What a pass has seen of the core, and what one line of its worker makes of that.
use Rattle.std.specs.Prelude.{◌≡◌, ℕ, ◌≤◌, false, ◌&&◌, ◌==◌, IsTrue, ⊤, List, [], ◌∷◌, filter, Option, Some, None}
use Rattle.graph_model.specs.declared.graph.Base.{Base}
use Rattle.request_text.specs.declared.request.Request.{Request}
use Rattle.request_text.specs.declared.reply.Reply.{Reply}
use Rattle.request_text.specs.declared.reply.Reply.TheVariants as reply
use Rattle.graph_legal.specs.Lines.{Replied}
use Rattle.graph_legal.specs.Traces.{Trace}
use Rattle.graph_legal.specs.Kinds.{is_in_kind}
use Rattle.core_states.specs.declared.actor.Actor.{Actor}
use Rattle.core_states.specs.declared.transaction.End.TheVariants.{Faulted}
use Rattle.core_states.specs.declared.transaction.Receipt.{Receipt}
use Rattle.core_states.specs.declared.transaction.Transaction.{Transaction}
use Rattle.core_states.specs.Names.{Name}
use Rattle.core_states.specs.Numbers.{has_number}
use Rattle.core_states.specs.States.{State}
use Rattle.core_states.specs.Openings.{run_limits, fresh_actor}
use Rattle.core_calls.specs.Events.{Told, GoesOn, Did}
use Rattle.core_calls.specs.Calls.{Opens, Closes, Leaves}
use Rattle.graph_workers.specs.Requests.{LineMakes}

-- A pass knows the greatest epoch that it was told, and the state of the core as it was at its last event.
pub record Pass : Type 0 where
  pub told : ℕ
  pub seen : State

-- ---- one line

-- a transaction, as the words on replies take it
abbrev pub trace_of_txn : Option Transaction → Option Trace
trace_of_txn None = None
trace_of_txn (Some x) = Some (record { number = x.tid; read = x.read; own = x.own; took = x.touched; unsure = [] })

-- the greatest epoch that the pass was told, after a reply
abbrev pub told_after : ℕ → Reply → ℕ
told_after n (reply.Begun t e) = e
told_after n (reply.Committed e) = e
told_after n r = n

-- the newest receipt says that the append of the record's group failed between these counts
abbrev pub IsFaulted : ℕ → ℕ → List Receipt → Type 0
IsFaulted before after [] = ⊥
IsFaulted before after (r ∷ receipts) = r.ends ≡ Faulted before after

-- What a reply names of an end is what the core keeps of it: the epoch of `committed` is that of the record that the actor has done, the counts of `log-fault` are those of its record's own group.
abbrev pub EndIs : Reply → Actor → Type 0
EndIs (reply.Committed e) a = a.finished ≡ Some e
EndIs (reply.LogFault m n) a = IsFaulted m n a.receipts
EndIs r a = ⊤

-- What `run_line` does to its pass, for a line of session s.
pub record LineRan (base : Base) (name : ℕ → Name) (p : Pass) (s : ℕ) (q : Request) (r : Reply) (new : Pass) : Type 0 where
  pub kind : IsTrue (is_in_kind (trace_of_txn (p.seen.actor (name s)).txn) q r)
  pub events : List Told
  pub makes : LineMakes (p.seen.actor (name s)).txn q r events
  pub did : Did base run_limits name (name s) events p.seen new.seen
  pub told : new.told ≡ told_after p.told r
  pub ends : EndIs r (new.seen.actor (name s))

-- the lines of one worker in one phase
abbrev pub own_lines : ℕ → ℕ → List Replied → List Replied
own_lines ph w lines = filter (λ b. b.phase == ph && b.worker == w) lines

-- One worker ran its lines, newest first: its pass was p before the first, and is q after the last.
abbrev pub Served : Base → (ℕ → Name) → Pass → List Replied → Pass → Type 0
Served base name p [] q = q ≡ p
Served base name p (a ∷ above) q = (mid : Pass) × Served base name p above mid × LineRan base name mid a.session a.request a.reply q

-- ---- before the first line, and after the last one

-- These sessions are opened, one after the other.
abbrev pub AllOpen : Base → (ℕ → Name) → List ℕ → State → State → Type 0
AllOpen base name [] s t = GoesOn base run_limits name s t
AllOpen base name (k ∷ ks) s t =
    (now : State) × (es : List Told) × Opens es × Did base run_limits name (name k) es s now × AllOpen base name ks now t

-- A pass that a worker starts with: its sessions were fresh, and have done nothing since but open.
pub record Starts (base : Base) (name : ℕ → Name) (p : Pass) : Type 0 where
  pub low : base.epoch ≤ p.told
  pub before : State
  pub visible : p.told ≤ before.clock.visible
  pub fresh : (k : ℕ) → before.actor (name k) ≡ fresh_actor base
  pub sessions : List ℕ
  pub opened : AllOpen base name sessions before p.seen

-- A session is closed; a transaction that it has open is left before.
abbrev pub SessionCloses : Option Transaction → List Told → Type 0
SessionCloses None es = Closes es
SessionCloses (Some x) es = Leaves Closes es

-- These sessions are closed, one after the other.
abbrev pub AllClose : Base → (ℕ → Name) → List ℕ → State → State → Type 0
AllClose base name [] s t = GoesOn base run_limits name s t
AllClose base name (k ∷ ks) s t =
    (now : State) × (es : List Told) × SessionCloses (s.actor (name k)).txn es × Did base run_limits name (name k) es s now × AllClose base name ks now t

-- After the last line the sessions are closed, all that have a transaction among them.
pub record WoundUp (base : Base) (name : ℕ → Name) (p q : Pass) : Type 0 where
  pub told : q.told ≡ p.told
  pub sessions : List ℕ
  pub closed : AllClose base name sessions p.seen q.seen
  pub others : (k : ℕ) → has_number k sessions ≡ false → (p.seen.actor (name k)).txn ≡ None
