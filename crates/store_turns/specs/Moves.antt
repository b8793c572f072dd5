-- What calls make of a session.
use Rattle.std.specs.Prelude.{◌≡◌, ℕ, ◌+◌, ◌-◌, ◌≤◌, Bool, true, false, nat_eq, if◌then◌else◌, List, [], ◌∷◌, ◌++◌, length, slice_get, Option, Some, None}
use Rattle.graph_model.specs.declared.change.Change.TheVariants.{New}
use Rattle.graph_model.specs.declared.record.Outcome.{Outcome}
use Rattle.graph_model.specs.declared.record.Outcome.TheVariants.{Committed}
use Rattle.graph_model.specs.Change.{encoded_len}
use Rattle.core_states.specs.declared.event.CoreAnswer.{CoreAnswer}
use Rattle.core_states.specs.declared.event.CoreAnswer.TheVariants as answer
use Rattle.core_states.specs.declared.transaction.Stage.{Stage}
use Rattle.core_states.specs.declared.transaction.Stage.TheVariants.{Open, Queued, Decided}
use Rattle.core_states.specs.Transactions.{is_loser}
use Rattle.graph_model.specs.declared.query.Answer.{Answer}
use Rattle.store_turns.specs.declared.session.Session.{Session}
use Rattle.store_turns.specs.declared.session.Work.{Work}
use Rattle.store_turns.specs.Takes.{flag_of}

-- The row was not open, and is now; nothing is done where it is open.
abbrev pub BecomesOpen : Option CoreAnswer → Session → Session → Type 0
BecomesOpen None s s' = (s.is_open ≡ true) × (s' ≡ s)
BecomesOpen (Some says) s s' = (says ≡ answer.Done) × (s' ≡ record s { is_open = true })

-- The row is closed; nothing is done where it is not open, or a transaction runs.
abbrev pub BecomesClosed : Option CoreAnswer → Session → Session → Type 0
BecomesClosed None s s' = (s.is_open ≡ true → s.work ≡ None → ⊥) × (s' ≡ s)
BecomesClosed (Some says) s s' = (says ≡ answer.Done) × (s' ≡ record s { is_open = false })

-- A transaction that has taken no vertex.
pub record IsNew (t : Work) (n e : ℕ) : Type 0 where
  pub tid : t.tid ≡ n
  pub read : t.read ≡ e
  pub stage : t.stage ≡ Open
  pub changes : t.changes ≡ []
  pub touched : t.touched.taken ≡ []
  pub settled : t.settled ≡ 0

-- A transaction begins, or no number is left.
abbrev pub BeginsWorkBy : CoreAnswer → Session → Session → Type 0
BeginsWorkBy (answer.Begun tid read) s s' = (t : Work) × (s' ≡ record s { finished = None; work = Some t }) × IsNew t tid read
BeginsWorkBy answer.Spent s s' = s' ≡ s
BeginsWorkBy says s s' = ⊥

abbrev pub BeginsWork : Option CoreAnswer → Session → Session → Type 0
BeginsWork None s s' = s' ≡ s
BeginsWork (Some says) s s' = BeginsWorkBy says s s'

-- The session's transaction is this, its record was not queued, and it has given nothing free.
pub record Works (s : Session) (t : Work) : Type 0 where
  pub is : s.work ≡ Some t
  pub stage : t.stage ≡ Open
  pub settled : t.settled ≡ 0

-- A number is drawn, which the transaction may use, or none is left.
abbrev pub DrawsBy : CoreAnswer → Session → Session → Type 0
DrawsBy (answer.Number v) s s' = (t : Work) × Works s t × (s' ≡ record s { work = Some (record t { drawn = Some v }) })
DrawsBy answer.Spent s s' = s' ≡ s
DrawsBy says s s' = ⊥

-- Nothing is done where no transaction works.
abbrev pub DrawsNumber : Option CoreAnswer → Session → Session → Type 0
DrawsNumber None s s' = ((t : Work) → Works s t → ⊥) × (s' ≡ s)
DrawsNumber (Some says) s s' = DrawsBy says s s'

-- the vertex was read
abbrev pub IsShown : CoreAnswer → Type 0
IsShown says = (x : Answer) × (says ≡ answer.Shown x)

-- all that the transaction took is free
abbrev pub IsFree : Work → Type 0
IsFree t = length t.touched.taken ≤ t.settled

-- its record was not queued, or has failed
abbrev pub IsLost : Work → Type 0
IsLost t = is_loser t.stage ≡ true

-- The transaction ends; nothing is done where none runs, where its record may be committed, or where it has not given free all that it took.
abbrev pub EndsWork : Option CoreAnswer → Session → Session → Type 0
EndsWork None s s' = ((t : Work) → s.work ≡ Some t → IsLost t → IsFree t → ⊥) × (s' ≡ s)
EndsWork (Some says) s s' = (says ≡ answer.Done) × (s' ≡ record s { work = None })

-- One vertex more is free.
pub record SettlesOne (t t' : Work) : Type 0 where
  pub tid : t'.tid ≡ t.tid
  pub read : t'.read ≡ t.read
  pub stage : t'.stage ≡ t.stage
  pub drawn : t'.drawn ≡ t.drawn
  pub changes : t'.changes ≡ t.changes
  pub left : t'.left ≡ t.left
  pub touched : t'.touched.taken ≡ t.touched.taken
  pub settled : t'.settled ≡ t.settled + 1

-- the vertex is the next of those that were taken
abbrev pub IsNext : ℕ → Work → Type 0
IsNext v t = (changed : Bool) × (slice_get t.touched.taken t.settled ≡ Some (v, changed))

-- The next vertex is given free; nothing is done where no transaction runs, where its record may be committed, or where another vertex is the next.
abbrev pub Settles : ℕ → Option CoreAnswer → Session → Session → Type 0
Settles v None s s' = ((t : Work) → s.work ≡ Some t → IsLost t → IsNext v t → ⊥) × (s' ≡ s)
Settles v (Some says) s s' = (says ≡ answer.Done) × (t : Work) × (t' : Work) × (s.work ≡ Some t) × (s' ≡ record s { work = Some t' }) × IsNext v t × SettlesOne t t'

-- ---- a commit

-- the horizon and the oldest number were told
abbrev pub IsLearnt : CoreAnswer → Type 0
IsLearnt (answer.Learnt h o) = Unit {0}
IsLearnt says = ⊥

-- the work of a transaction whose record is queued: it keeps all but its changes, which the record has
pub record IsQueuedOf (t t' : Work) : Type 0 where
  pub tid : t'.tid ≡ t.tid
  pub read : t'.read ≡ t.read
  pub row : t'.row ≡ t.row
  pub stage : t'.stage ≡ Queued
  pub touched : t'.touched.taken ≡ t.touched.taken
  pub settled : t'.settled ≡ t.settled

-- The record is queued; nothing is done where no transaction works, or where it has changed nothing.
abbrev pub QueuesWork : Option CoreAnswer → Session → Session → Type 0
QueuesWork None s s' = ((t : Work) → Works s t → t.changes ≡ []) × (s' ≡ s)
QueuesWork (Some says) s s' = (t : Work) × (t' : Work) × Works s t × (s' ≡ record s { work = Some t' }) × IsQueuedOf t t' × IsLearnt says

-- the session's record waits for its outcome
pub record Waits (s : Session) (t : Work) : Type 0 where
  pub is : s.work ≡ Some t
  pub stage : t.stage ≡ Queued

-- how far a record is that was asked for
abbrev pub heard_stage : Option Outcome → Stage
heard_stage None = Queued
heard_stage (Some o) = Decided o

abbrev pub HearsBy : CoreAnswer → Session → Session → Type 0
HearsBy (answer.Kept o) s s' = (t : Work) × Waits s t × (s' ≡ record s { work = Some (record t { stage = heard_stage o }) })
HearsBy says s s' = ⊥

-- The outcome is asked for; nothing is done where no record waits.
abbrev pub HearsOutcome : Option CoreAnswer → Session → Session → Type 0
HearsOutcome None s s' = ((t : Work) → Waits s t → ⊥) × (s' ≡ s)
HearsOutcome (Some says) s s' = HearsBy says s s'

-- the session's record has this epoch
pub record Won (s : Session) (t : Work) (e : ℕ) : Type 0 where
  pub is : s.work ≡ Some t
  pub stage : t.stage ≡ Decided (Committed e)

-- The record is applied at the next vertex; nothing is done where none is committed, or where another vertex is the next.
abbrev pub AppliesNext : ℕ → Option CoreAnswer → Session → Session → Type 0
AppliesNext v None s s' = ((t : Work) (e : ℕ) → Won s t e → IsNext v t → ⊥) × (s' ≡ s)
AppliesNext v (Some says) s s' = (says ≡ answer.Done) × (t : Work) × (t' : Work) × (e : ℕ) × Won s t e × (s' ≡ record s { work = Some t' }) × IsNext v t × SettlesOne t t'

-- The record is done; nothing is done where none is committed, or where it is not applied everywhere.
abbrev pub FinishesWork : Option CoreAnswer → Session → Session → Type 0
FinishesWork None s s' = ((t : Work) (e : ℕ) → Won s t e → IsFree t → ⊥) × (s' ≡ s)
FinishesWork (Some says) s s' = (says ≡ answer.Done) × (t : Work) × (e : ℕ) × Won s t e × (s' ≡ record s { finished = Some e; work = None })

-- It is asked whether the epoch of the last record is visible; nothing is done where a transaction runs, or none was committed.
abbrev pub SeesEpoch : Option CoreAnswer → Session → Session → Type 0
SeesEpoch None s s' = ((e : ℕ) → s.work ≡ None → s.finished ≡ Some e → ⊥) × (s' ≡ s)
SeesEpoch (Some says) s s' = (s' ≡ s) × ((b : Bool) × (says ≡ answer.Visible b))

-- ---- a new vertex

-- The vertex of the number that was drawn is made. Where nothing is done the transaction is as before.
pub record MakesVertex (v : ℕ) (p : List ℕ) (t t' : Work) : Type 0 where
  pub tid : t'.tid ≡ t.tid
  pub read : t'.read ≡ t.read
  pub stage : t'.stage ≡ t.stage
  pub drawn : t'.drawn ≡ None
  pub changes : t'.changes ≡ t.changes ++ New v p ∷ []
  pub left : t'.left ≡ t.left - encoded_len (New v p)
  pub taken : (w : ℕ) → flag_of w t'.touched.taken ≡ (if nat_eq v w then Some true else flag_of w t.touched.taken)
  pub settled : t'.settled ≡ t.settled

-- nothing that contracts speak of is another
pub record KeepsAll (t t' : Work) : Type 0 where
  pub tid : t'.tid ≡ t.tid
  pub read : t'.read ≡ t.read
  pub stage : t'.stage ≡ t.stage
  pub drawn : t'.drawn ≡ t.drawn
  pub changes : t'.changes ≡ t.changes
  pub left : t'.left ≡ t.left
  pub taken : t'.touched.taken ≡ t.touched.taken
  pub settled : t'.settled ≡ t.settled

abbrev pub KeepsWorkOf : Option Work → Option Work → Type 0
KeepsWorkOf None None = Unit {0}
KeepsWorkOf (Some t) (Some t') = KeepsAll t t'
KeepsWorkOf o o' = ⊥

-- all but the room for more is the same
pub record KeepsSession (s s' : Session) : Type 0 where
  pub index : s'.index ≡ s.index
  pub is_open : s'.is_open ≡ s.is_open
  pub finished : s'.finished ≡ s.finished
  pub work : KeepsWorkOf s.work s'.work

-- It is made; nothing is done where no transaction works, where it has not drawn the number, where its changes would be too long, or where memory runs out.
abbrev pub MakesNew : ℕ → List ℕ → Option CoreAnswer → Session → Session → Type 0
MakesNew v p None s s' = KeepsSession s s'
MakesNew v p (Some says) s s' = (says ≡ answer.Done) × (t : Work) × (t' : Work) × Works s t × (t.drawn ≡ Some v) × (s' ≡ record s { work = Some t' }) × MakesVertex v p t t'
