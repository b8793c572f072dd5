-- What each call of the store makes of the core: the events of the session's actor, with their answers.
use Rattle.std.specs.Prelude.{◌≡◌, ◌⊎◌, ℕ, zero, suc, Bool, true, List, [], ◌∷◌, Option}
use Rattle.graph_model.specs.declared.change.Change.TheVariants as change
use Rattle.graph_model.specs.declared.query.Query.{Query}
use Rattle.graph_model.specs.declared.query.Answer.{Answer}
use Rattle.graph_model.specs.declared.record.Outcome.{Outcome}
use Rattle.core_states.specs.declared.event.Act.{Act}
use Rattle.core_states.specs.declared.event.Act.TheVariants as act
use Rattle.core_states.specs.declared.event.CoreAnswer.{CoreAnswer}
use Rattle.core_states.specs.declared.event.CoreAnswer.TheVariants as answer
use Rattle.core_states.specs.declared.transaction.Transaction.{Transaction}
use Rattle.core_states.specs.RowEvents.{Limits, is_long}
use Rattle.core_calls.specs.Events.{Told, told}

-- ---- lists of events

-- no event, and one
abbrev pub Nothing : List Told → Type 0
Nothing es = es ≡ []

abbrev pub Once : Act → CoreAnswer → List Told → Type 0
Once a says es = es ≡ told a says ∷ []

-- one event, and then the rest
abbrev pub First : Act → CoreAnswer → (List Told → Type 0) → List Told → Type 0
First a says Rest es = (rest : List Told) × (es ≡ told a says ∷ rest) × Rest rest

-- A lock is looked at in vain n times before the rest, or at most n times.
abbrev pub InVain : ℕ → ℕ → (List Told → Type 0) → List Told → Type 0
InVain zero v Rest es = Rest es
InVain (suc n) v Rest es = (u : ℕ) × First (act.Look v) (answer.Held u) (InVain n v Rest) es

abbrev pub AtMost : ℕ → ℕ → (List Told → Type 0) → List Told → Type 0
AtMost zero v Rest es = Rest es
AtMost (suc n) v Rest es = Rest es ⊎ ((u : ℕ) × First (act.Look v) (answer.Held u) (AtMost n v Rest) es)

-- The transaction is left before the rest: what it took is undone, and it ends. That the end is done says that all is undone.
abbrev pub Leaves : (List Told → Type 0) → List Told → Type 0
Leaves Rest [] = ⊥
Leaves Rest (e ∷ es) = ((e ≡ told act.End answer.Done) × Rest es) ⊎ (((v : ℕ) × (e ≡ told (act.Undo v) answer.Done)) × Leaves Rest es)

-- ---- open_session and close_session

-- The actor opens its reader row, or closes it.
abbrev pub Opens : List Told → Type 0
Opens = Once act.Open answer.Done

abbrev pub Closes : List Told → Type 0
Closes = Once act.Close answer.Done

-- ---- begin

abbrev pub Begins : ℕ → ℕ → List Told → Type 0
Begins n e = Once act.Begin (answer.Begun n e)

-- no number is left; where memory runs out no event is done
abbrev pub IsSpent : List Told → Type 0
IsSpent = Once act.Begin answer.Spent

-- ---- new_vertex

-- Its length is judged first, without an event.
abbrev pub IsTooLong : Limits → Transaction → List ℕ → List Told → Type 0
IsTooLong most x p es = Nothing es × (is_long most x (change.New 0 p) ≡ true)

-- then a number is drawn
abbrev pub MakesVertex : ℕ → List ℕ → List Told → Type 0
MakesVertex v p = First act.Draw (answer.Number v) (Once (act.New v p) answer.Done)

abbrev pub IsVertexSpent : List Told → Type 0
IsVertexSpent = Once act.Draw answer.Spent

-- where memory runs out a number may have been drawn; it is not used
abbrev pub MakesNone : List Told → Type 0
MakesNone es = Nothing es ⊎ ((v : ℕ) × Once act.Draw (answer.Number v) es)

-- ---- set_vertex, drop_vertex, put_edge and del_edge

-- a call looks 16 times at most: 15 times in vain, and once more
abbrev pub retries : ℕ
retries = 15

-- The change is made or refused by one event; before it the lock may have been looked at in vain.
abbrev pub Changes : ℕ → Act → CoreAnswer → List Told → Type 0
Changes v a says = AtMost retries v (Once a says)

-- The sixteenth look finds an owner, too: it is the one that the refusal names.
abbrev pub IsHeldUp : ℕ → ℕ → List Told → Type 0
IsHeldUp v u = InVain retries v (First (act.Look v) (answer.Held u) (Leaves Nothing))

-- A look finds that a later commit changed the vertex.
abbrev pub Conflicts : ℕ → ℕ → List Told → Type 0
Conflicts v e = AtMost retries v (First (act.Look v) (answer.Conflict e) (Leaves Nothing))

-- Memory runs out: before the vertex is taken, or when it is. It is then taken without a change, as by a del of an edge that is not there.
abbrev pub Takes : ℕ → List Told → Type 0
Takes v es = (l : ℕ) × (d : ℕ) × Once (act.Del v l d) answer.Absent es

abbrev pub RunsOut : ℕ → List Told → Type 0
RunsOut v = AtMost (suc retries) v (λ es. Nothing es ⊎ Takes v es)

-- ---- reads

abbrev pub Reads : Query → Answer → List Told → Type 0
Reads q x = Once (act.Read q) (answer.Shown x)

-- where memory runs out it may have been read
abbrev pub ReadsNone : Query → List Told → Type 0
ReadsNone q es = Nothing es ⊎ ((x : Answer) × Reads q x es)

-- ---- commit

-- The record is queued.
abbrev pub Queues : (List Told → Type 0) → List Told → Type 0
Queues Rest es = (h : ℕ) × (o : ℕ) × First act.Enqueue (answer.Learnt h o) Rest es

-- While it waits, its actor asks for its outcome, or leads: it collects a group, writes it and publishes it, or sees it fail. Who may lead may also mend.
abbrev pub IsWait : Told → Type 0
IsWait e =
    ((o : Option Outcome) × (e ≡ told act.Outcome (answer.Kept o)))
    ⊎ (((n : ℕ) × (e ≡ told act.Collect (answer.Collected n)))
    ⊎ (((m : ℕ) × (e ≡ told (act.WriteGroup m) answer.Done))
    ⊎ (((n : ℕ) × (e ≡ told act.Publish (answer.Published n)))
    ⊎ (((b : ℕ) × (a : ℕ) × (e ≡ told (act.Fail b a) answer.Done))
    ⊎ (e ≡ told act.Mend answer.Done)))))

abbrev pub Waits : (List Told → Type 0) → List Told → Type 0
Waits Rest [] = Rest []
Waits Rest (e ∷ es) = Rest (e ∷ es) ⊎ (IsWait e × Waits Rest es)

-- Its epoch is not visible for some time, and then it is.
abbrev pub Sees : List Told → Type 0
Sees [] = ⊥
Sees (e ∷ es) = ((e ≡ told act.Seen (answer.Visible true)) × Nothing es) ⊎ (((b : Bool) × (e ≡ told act.Seen (answer.Visible b))) × Sees es)

-- It is applied at each vertex that was touched, and done. That it is done says that it was applied everywhere, and so that its outcome was heard.
abbrev pub Applies : List Told → Type 0
Applies [] = ⊥
Applies (e ∷ es) = ((e ≡ told act.Done answer.Done) × Sees es) ⊎ (((v : ℕ) × (e ≡ told (act.Apply v) answer.Done)) × Applies es)

abbrev pub Commits : List Told → Type 0
Commits = Queues (Waits Applies)

-- Its group has failed. That it is left says that its actor knows so; the receipt has the counts of the disk's faults round the append of that group.
abbrev pub Fails : List Told → Type 0
Fails = Queues (Waits (Leaves Nothing))

-- A transaction without a change is left, as by abort.
abbrev pub Gives : List Told → Type 0
Gives = Leaves Nothing

-- ---- compact

-- It is done by an actor of the pass that runs no transaction, which learns the horizon. Where the core has blocks, the events compact and reclaim follow.
abbrev pub Compacts : List Told → Type 0
Compacts es = (h : ℕ) × (o : ℕ) × Once act.Horizon (answer.Learnt h o) es

abbrev pub CompactsNone : List Told → Type 0
CompactsNone es = Nothing es ⊎ Compacts es
