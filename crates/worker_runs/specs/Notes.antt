-- What a worker knows of its sessions by the notes of its pass.
use Rattle.std.specs.Prelude.{◌≡◌, ◌≢◌, ℕ, false, IsTrue, List, [], ◌∷◌, ◌++◌, None}
use Rattle.graph_model.specs.declared.graph.Base.{Base}
use Rattle.request_text.specs.declared.request.Request.{Request}
use Rattle.request_text.specs.declared.reply.Reply.{Reply}
use Rattle.graph_legal.specs.Lines.{Replied}
use Rattle.graph_legal.specs.Kinds.{is_in_kind}
use Rattle.core_states.specs.declared.actor.Actor.{Actor}
use Rattle.core_states.specs.Names.{Name}
use Rattle.core_states.specs.Numbers.{has_number}
use Rattle.core_states.specs.Openings.{fresh_actor, run_limits}
use Rattle.core_states.specs.States.{State}
use Rattle.core_calls.specs.Events.{Told, Did as CoreDid}
use Rattle.core_calls.specs.Calls.{Opens}
use Rattle.graph_workers.specs.Requests.{LineMakes}
use Rattle.graph_workers.specs.Passes.{trace_of_txn, EndIs, SessionCloses}
use Rattle.turn_board.specs.Views.{Noted, Did}

-- the actor of a session
abbrev pub session : List ℕ → ℕ → Name
session pass k = record { pass = pass; index = k }

-- These are notes of these events of one actor, each with the actor as it left it: from this one, they led to that one.
abbrev pub AreNotes : Name → List Told → Actor → Actor → List Noted → Type 0
AreNotes i [] a b notes = (notes ≡ []) × (b ≡ a)
AreNotes i (e ∷ es) a b notes =
    (left : Actor) × (rest : List Noted) × (notes ≡ Did (record { by = i; act = e.act; answer = e.says }) left ∷ rest) × AreNotes i es left b rest

-- One session did these events, and no other did any: so the notes say, and so the sessions' actors went on.
pub record OneDid (pass : List ℕ) (k : ℕ) (events : List Told) (old : ℕ → Actor) (notes : List Noted) (new : ℕ → Actor) : Type 0 where
  pub are : AreNotes (session pass k) events (old k) (new k) notes
  pub others : (j : ℕ) → j ≢ k → new j ≡ old j

-- nothing was noted, and the actors are as they were
abbrev pub NoneDid : (ℕ → Actor) → List Noted → (ℕ → Actor) → Type 0
NoneDid old notes new = (notes ≡ []) × ((k : ℕ) → new k ≡ old k)

-- These sessions were opened, one after the other.
abbrev pub AllOpened : List ℕ → List ℕ → (ℕ → Actor) → List Noted → (ℕ → Actor) → Type 0
AllOpened pass [] old notes new = NoneDid old notes new
AllOpened pass (k ∷ ks) old notes new =
    (mid : ℕ → Actor) × (es : List Told) × Opens es × (xs : List Noted) × (ys : List Noted) × (notes ≡ xs ++ ys) × OneDid pass k es old xs mid × AllOpened pass ks mid ys new

-- What a line of session s made, and how the reply ends it. The reply is of the request's kind wherever an actor of the core did these events.
pub record LineDid (pass : List ℕ) (old : ℕ → Actor) (s : ℕ) (q : Request) (r : Reply) (notes : List Noted) (new : ℕ → Actor) : Type 0 where
  pub events : List Told
  pub kind : (base : Base) (name : ℕ → Name) (i : Name) (from to : State) → CoreDid base run_limits name i events from to → IsTrue (is_in_kind (trace_of_txn (old s).txn) q r)
  pub makes : LineMakes (old s).txn q r events
  pub did : OneDid pass s events old notes new
  pub ends : EndIs r (new s)

-- These lines, newest first, were run one after the other.
abbrev pub LinesDid : List ℕ → (ℕ → Actor) → List Replied → List Noted → (ℕ → Actor) → Type 0
LinesDid pass old [] notes new = NoneDid old notes new
LinesDid pass old (a ∷ above) notes new =
    (mid : ℕ → Actor) × (xs : List Noted) × (ys : List Noted) × (notes ≡ xs ++ ys) × LinesDid pass old above xs mid × LineDid pass mid a.session a.request a.reply ys new

-- These sessions were closed, one after the other; a transaction that one had open was left before.
abbrev pub AllClosed : List ℕ → List ℕ → (ℕ → Actor) → List Noted → (ℕ → Actor) → Type 0
AllClosed pass [] old notes new = NoneDid old notes new
AllClosed pass (k ∷ ks) old notes new =
    (mid : ℕ → Actor) × (es : List Told) × SessionCloses (old k).txn es × (xs : List Noted) × (ys : List Noted) × (notes ≡ xs ++ ys) × OneDid pass k es old xs mid × AllClosed pass ks mid ys new

-- What a worker's pass has noted from its first event to its last: its sessions were opened, the worker ran these lines, and its sessions were closed, all that had a transaction among them.
pub record WorkerDid (base : Base) (pass : List ℕ) (lines : List Replied) (notes : List Noted) : Type 0 where
  pub opened : List ℕ
  pub at_first : ℕ → Actor
  pub opening : List Noted
  pub opens : AllOpened pass opened (λ k. fresh_actor base) opening at_first
  pub at_end : ℕ → Actor
  pub serving : List Noted
  pub serves : LinesDid pass at_first lines serving at_end
  pub closed : List ℕ
  pub left : ℕ → Actor
  pub closing : List Noted
  pub closes : AllClosed pass closed at_end closing left
  pub others : (k : ℕ) → has_number k closed ≡ false → (at_end k).txn ≡ None
  pub are : notes ≡ opening ++ (serving ++ closing)
