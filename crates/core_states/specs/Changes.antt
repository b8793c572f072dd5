-- What the answer to a change tells of what its transaction saw before it.
use Rattle.std.specs.Prelude.{◌≡◌, ℕ, ◌+◌, ◌≤◌, ◌<◌, Bool, true, false, List, Option, None, is_some}
use Rattle.graph_model.specs.declared.change.Change.{Change}
use Rattle.graph_model.specs.declared.change.Change.TheVariants as change
use Rattle.graph_model.specs.declared.graph.Base.{Base}
use Rattle.graph_model.specs.Vertex.{Vertex}
use Rattle.graph_model.specs.Change.{vertex_of, encoded_len, encoded_lens, edge_size, put_sizes}
use Rattle.graph_model.specs.Graph.{vertex_at, after as after_changes, at, has_edge}
use Rattle.graph_model.specs.Records.{all_changes}
use Rattle.graph_model.specs.Sizes.{size_of_list}
use Rattle.core_states.specs.declared.event.Act.TheVariants as act
use Rattle.core_states.specs.declared.event.CoreAnswer.{CoreAnswer}
use Rattle.core_states.specs.declared.event.CoreAnswer.TheVariants as answer
use Rattle.core_states.specs.declared.transaction.Transaction.{Transaction}
use Rattle.core_states.specs.Names.{Name}
use Rattle.core_states.specs.RowEvents.{Limits}
use Rattle.core_states.specs.States.{State, answer_to}

-- the vertex in the transaction's snapshot with its own changes: what `see` looks at
abbrev pub here : Base → State → Transaction → ℕ → Option Vertex
here base s x v = vertex_at v (after_changes x.own (at base.graph s.clock.records x.read))

-- the vertex is there, with the edge that the change is about
abbrev pub meets_edge : Base → State → Transaction → Change → Bool
meets_edge base s x (change.Put v l d p) = has_edge (here base s x v) l d
meets_edge base s x (change.Del v l d) = has_edge (here base s x v) l d
meets_edge base s x c = true

-- the change would be noted: a Del of an edge that is not there is not
abbrev pub is_noted : Base → State → Transaction → Change → Bool
is_noted base s x (change.Del v l d) = has_edge (here base s x v) l d
is_noted base s x c = true

-- the length of the transaction's changes with one more
abbrev pub len_with : Transaction → Change → ℕ
len_with x c = encoded_lens x.own + encoded_len c

-- the sizes of all that the base, the records and the transaction have put on a vertex and a label
abbrev pub sizes_put : Base → State → Transaction → ℕ → ℕ → ℕ
sizes_put base s x v l = size_of_list (vertex_at v base.graph) l + put_sizes v l (all_changes s.clock.records) + put_sizes v l x.own

-- with a Put they pass the limit of a log
abbrev pub IsLogFull : Limits → Base → State → Transaction → Change → Type 0
IsLogFull most base s x (change.Put v l d p) = most.log < sizes_put base s x v l + edge_size p
IsLogFull most base s x c = ⊥

-- A change was accepted: its vertex is there, and the changes with it are not too long.
pub record IsAccepted (most : Limits) (base : Base) (s : State) (x : Transaction) (c : Change) : Type 0 where
  pub there : is_some (here base s x (vertex_of c)) ≡ true
  pub room : len_with x c ≤ most.txn

-- What the answer to a put, del, set or drop tells. No other answer comes.
abbrev pub ChangeTells : Limits → Base → State → Transaction → Change → CoreAnswer → Type 0
ChangeTells most base s x c answer.NotEnabled = Unit {0}
ChangeTells most base s x c answer.NoVertex = here base s x (vertex_of c) ≡ None
ChangeTells most base s x c answer.Done = IsAccepted most base s x c
ChangeTells most base s x c answer.Added = IsAccepted most base s x c × (meets_edge base s x c ≡ false)
ChangeTells most base s x c answer.Replaced = IsAccepted most base s x c × (meets_edge base s x c ≡ true)
ChangeTells most base s x c answer.Gone = IsAccepted most base s x c × (meets_edge base s x c ≡ true)
ChangeTells most base s x c answer.Absent = (is_some (here base s x (vertex_of c)) ≡ true) × (meets_edge base s x c ≡ false)
ChangeTells most base s x c answer.TxnFull = (is_some (here base s x (vertex_of c)) ≡ true) × (most.txn < len_with x c) × (is_noted base s x c ≡ true)
ChangeTells most base s x c answer.LogFull = (is_some (here base s x (vertex_of c)) ≡ true) × IsLogFull most base s x c
ChangeTells most base s x c says = ⊥

-- What the answer to a new tells: the vertex is not there yet.
abbrev pub NewTells : Limits → Base → State → Transaction → Change → CoreAnswer → Type 0
NewTells most base s x c answer.NotEnabled = Unit {0}
NewTells most base s x c answer.Done = (here base s x (vertex_of c) ≡ None) × (len_with x c ≤ most.txn)
NewTells most base s x c answer.TxnFull = (here base s x (vertex_of c) ≡ None) × (most.txn < len_with x c)
NewTells most base s x c says = ⊥

-- What each change that a transaction asks for is answered.
pub record ChangesTell (most : Limits) (base : Base) (s : State) (i : Name) (x : Transaction) : Type 0 where
  pub put : (v l d : ℕ) (p : List ℕ) → ChangeTells most base s x (change.Put v l d p) (answer_to most s i (act.Put v l d p))
  pub del : (v l d : ℕ) → ChangeTells most base s x (change.Del v l d) (answer_to most s i (act.Del v l d))
  pub set : (v : ℕ) (p : List ℕ) → ChangeTells most base s x (change.Set v p) (answer_to most s i (act.Set v p))
  pub drop : (v : ℕ) → ChangeTells most base s x (change.Drop v) (answer_to most s i (act.Drop v))
  pub new : (v : ℕ) (p : List ℕ) → NewTells most base s x (change.New v p) (answer_to most s i (act.New v p))
