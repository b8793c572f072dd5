-- The sessions of a worker, each of which stands for an actor of the worker's pass.
use Rattle.std.specs.Prelude.{◌≡◌, ℕ, ◌+◌, ◌<◌, ◌≤◌, zero, suc, true, false, List, [], ◌∷◌, ◌++◌, None, Some}
use Rattle.core_states.specs.declared.actor.Actor.{Actor}
use Rattle.core_states.specs.Numbers.{has_number}
use Rattle.turn_board.specs.Views.{Noted, View, start_of}
use Rattle.store_turns.specs.declared.session.Session.{Session}
use Rattle.store_turns.specs.declared.session.Work.{Work}
use Rattle.store_turns.specs.Fits.{Fits}
use Rattle.store_turns.specs.Moves.{IsLost}
use Rattle.worker_runs.specs.Notes.{AllOpened, AllClosed}
use Rattle.worker_sessions.specs.Notes.{actors_in, AreOf}

-- the numbers of sessions
abbrev pub indices : List Session → List ℕ
indices [] = []
indices (s ∷ ss) = s.index ∷ indices ss

-- No two of these numbers are one.
abbrev pub AreApart : List ℕ → Type 0
AreApart [] = Unit {0}
AreApart (k ∷ ks) = (has_number k ks ≡ false) × AreApart ks

-- These numbers go up by a step, from this one on, as far as they are below a limit.
abbrev pub IsSpaced : ℕ → ℕ → ℕ → List ℕ → Type 0
IsSpaced k step limit [] = limit ≤ k
IsSpaced k step limit (x ∷ xs) = (x ≡ k) × (k < limit) × IsSpaced (k + step) step limit xs

-- Each session stands for its actor of the pass.
abbrev pub AllFit : List Session → View → Type 0
AllFit [] v = Unit {0}
AllFit (s ∷ ss) v = Fits s v × AllFit ss v

-- Each of these is so.
abbrev pub EachIs : {A : Type 0} → (A → Type 0) → List A → Type 0
EachIs F [] = Unit {0}
EachIs F (x ∷ xs) = F x × EachIs F xs

-- The first n of the sessions are so, the others thus.
abbrev pub FirstAre : ℕ → (Session → Type 0) → (Session → Type 0) → List Session → Type 0
FirstAre n F G [] = Unit {0}
FirstAre zero F G (s ∷ ss) = G s × FirstAre zero F G ss
FirstAre (suc n) F G (s ∷ ss) = F s × FirstAre n F G ss

-- It is not open yet, it is open and idle, and it is open with what it does not commit.
abbrev pub IsShut : Session → Type 0
IsShut s = (s.is_open ≡ false) × (s.work ≡ None)

abbrev pub IsIdle : Session → Type 0
IsIdle s = (s.is_open ≡ true) × (s.work ≡ None)

abbrev pub MayClose : Session → Type 0
MayClose s = (s.is_open ≡ true) × ((t : Work) → s.work ≡ Some t → IsLost t)

-- It has done nothing.
abbrev pub IsUnused : Session → Type 0
IsUnused s = (s.is_open ≡ false) × (s.work ≡ None) × (s.finished ≡ None)

-- A worker may have these sessions: they have done nothing, and no two have one number.
pub record AreReady (ss : List Session) : Type 0 where
  pub apart : AreApart (indices ss)
  pub unused : EachIs IsUnused ss

-- It has nothing open.
abbrev pub IsDone : Session → Type 0
IsDone s = s.work ≡ None

-- The pass has noted events of its sessions that led from their actors to these, and has split off, joined and done nothing else.
pub record Noting (Does : List ℕ → (ℕ → Actor) → List Noted → (ℕ → Actor) → Type 0) (v w : View) : Type 0 where
  pub notes : List Noted
  pub did : Does v.number (actors_in v) notes (actors_in w)
  pub are : AreOf v.number notes
  pub events : w.events ≡ v.events ++ notes
  pub start_is : start_of w ≡ start_of v
  pub number : w.number ≡ v.number
  pub joined : w.joined ≡ v.joined
  pub made : w.made ≡ v.made

-- It has noted that these sessions were opened, and that they were closed.
abbrev pub HaveOpened : List ℕ → View → View → Type 0
HaveOpened ks v w = Noting (λ p old notes new. AllOpened p ks old notes new) v w

abbrev pub HaveClosed : List ℕ → View → View → Type 0
HaveClosed ks v w = Noting (λ p old notes new. AllClosed p ks old notes new) v w
