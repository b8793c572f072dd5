-- Which event of the core a change is, and what its answer says.
use Rattle.std.specs.Prelude.{◌≡◌, IfSome, ℕ, ◌-◌, ◌++◌, nat_eq, ◌||◌, if◌then◌else◌, Bool, true, false, List, [], ◌∷◌, Option, Some, None}
use Rattle.graph_model.specs.declared.change.Change.{Change}
use Rattle.graph_model.specs.declared.change.Change.TheVariants.{New, Set, Drop, Put, Del}
use Rattle.graph_model.specs.Change.{vertex_of, encoded_len}
use Rattle.core_states.specs.declared.event.Act.{Act}
use Rattle.core_states.specs.declared.event.Act.TheVariants as act
use Rattle.core_states.specs.declared.event.CoreAnswer.{CoreAnswer}
use Rattle.core_states.specs.declared.event.CoreAnswer.TheVariants as answer
use Rattle.shard_state.specs.declared.who.Who.{Who}
use Rattle.store_turns.specs.declared.session.Session.{Session}
use Rattle.store_turns.specs.declared.session.Work.{Work}
use Rattle.store_turns.specs.Moves.{Works, KeepsAll}
use Rattle.store_turns.specs.Takes.{flag_of, is_changed}

abbrev pub change_act : Change → Act
change_act (New v p) = act.New v p
change_act (Set v p) = act.Set v p
change_act (Drop v) = act.Drop v
change_act (Put v l d p) = act.Put v l d p
change_act (Del v l d) = act.Del v l d

-- where another transaction holds the vertex, or has changed it, it is a look at the vertex
abbrev pub alter_act : Change → CoreAnswer → Act
alter_act c (answer.Held u) = act.Look (vertex_of c)
alter_act c (answer.Conflict e) = act.Look (vertex_of c)
alter_act c says = change_act c

-- the change was made
abbrev pub says_made : CoreAnswer → Bool
says_made answer.Done = true
says_made answer.Added = true
says_made answer.Replaced = true
says_made answer.Gone = true
says_made says = false

-- the vertex was taken, and no change was made
abbrev pub says_taken : CoreAnswer → Bool
says_taken answer.TxnFull = true
says_taken answer.LogFull = true
says_taken answer.Absent = true
says_taken says = false

-- the vertex is not there
abbrev pub says_absent : CoreAnswer → Bool
says_absent answer.NoVertex = true
says_absent says = false

-- a change is answered so
abbrev pub IsChangeAnswer : CoreAnswer → Type 0
IsChangeAnswer says = IsOneOf (says_made says) (says_taken says) (says_absent says)
  where
    IsOneOf : Bool → Bool → Bool → Type 0
    IsOneOf true b c = Unit {0}
    IsOneOf false true c = Unit {0}
    IsOneOf false false true = Unit {0}
    IsOneOf false false false = ⊥

-- a change is refused so, or its vertex looked at in vain
abbrev pub is_refusal : CoreAnswer → Bool
is_refusal (answer.Held u) = true
is_refusal (answer.Conflict e) = true
is_refusal answer.NoVertex = true
is_refusal answer.TxnFull = true
is_refusal answer.LogFull = true
is_refusal says = false

-- a change of this kind is answered so where it is not refused
abbrev pub is_done_by : Change → CoreAnswer → Bool
is_done_by (Set v p) answer.Done = true
is_done_by (Drop v) answer.Done = true
is_done_by (Put v l d p) answer.Added = true
is_done_by (Put v l d p) answer.Replaced = true
is_done_by (Del v l d) answer.Gone = true
is_done_by (Del v l d) answer.Absent = true
is_done_by c says = false

abbrev pub is_answer_to : Change → CoreAnswer → Bool
is_answer_to c says = is_refusal says || is_done_by c says

abbrev pub IsAnswerTo : Change → CoreAnswer → Type 0
IsAnswerTo c says = is_answer_to c says ≡ true

-- The change is one of a vertex that is there: it makes none.
abbrev pub AltersVertex : Change → Type 0
AltersVertex (New v p) = ⊥
AltersVertex (Set v p) = Unit {0}
AltersVertex (Drop v) = Unit {0}
AltersVertex (Put v l d p) = Unit {0}
AltersVertex (Del v l d) = Unit {0}

-- The shard is called for the session's transaction, which works.
pub record IsWorking (s : Session) (who : Who) : Type 0 where
  pub work : Work
  pub works : Works s work
  pub tid : who.tid ≡ work.tid
  pub read : who.read ≡ work.read
  pub left : who.left ≡ work.left

-- How the work of a transaction stays while a vertex is altered, but for what it changed and took: it gives nothing free.
pub record KeepsWork (t t' : Work) : Type 0 where
  pub tid : t'.tid ≡ t.tid
  pub read : t'.read ≡ t.read
  pub stage : t'.stage ≡ t.stage
  pub drawn : t'.drawn ≡ t.drawn
  pub settled : t'.settled ≡ t.settled

-- A transaction that runs goes on.
abbrev pub GoesOn : Option Work → Option Work → Type 0
GoesOn None o = o ≡ None
GoesOn (Some t) None = ⊥
GoesOn (Some t) (Some t') = KeepsWork t t'

abbrev pub StaysRunning : Session → Session → Type 0
StaysRunning s s' = (s'.is_open ≡ s.is_open) × (s'.finished ≡ s.finished) × GoesOn s.work s'.work

-- A transaction that runs goes on, and what is answered is an answer to the change.
abbrev pub AltersSession : Change → Option CoreAnswer → Session → Session → Type 0
AltersSession c o s s' = StaysRunning s s' × IfSome o (IsAnswerTo c)

-- The vertex is among those that were taken, with this flag.
abbrev pub WithVertex : ℕ → Bool → List (ℕ × Bool) → List (ℕ × Bool) → Type 0
WithVertex v changed taken taken' = (w : ℕ) → flag_of w taken' ≡ (if nat_eq v w then Some changed else flag_of w taken)

pub record TakesVertex (v : ℕ) (t t' : Work) : Type 0 where
  pub kept : KeepsWork t t'
  pub changes : t'.changes ≡ t.changes
  pub left : t'.left ≡ t.left
  pub taken : WithVertex v (is_changed v t.touched.taken) t.touched.taken t'.touched.taken

pub record MakesChange (c : Change) (t t' : Work) : Type 0 where
  pub kept : KeepsWork t t'
  pub changes : t'.changes ≡ t.changes ++ c ∷ []
  pub left : t'.left ≡ t.left - encoded_len c
  pub taken : WithVertex (vertex_of c) true t.touched.taken t'.touched.taken

abbrev pub AltersBy : Bool → Bool → Change → Work → Work → Type 0
AltersBy true taken c t t' = MakesChange c t t'
AltersBy false true c t t' = TakesVertex (vertex_of c) t t'
AltersBy false false c t t' = KeepsAll t t'

-- What an answer makes of the work.
abbrev pub AltersWork : Change → Option CoreAnswer → Work → Work → Type 0
AltersWork c None t t' = KeepsAll t t'
AltersWork c (Some says) t t' = AltersBy (says_made says) (says_taken says) c t t'
