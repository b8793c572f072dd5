-- What the limits and the numbers allow, and all that every event keeps.
use Rattle.std.specs.Prelude.{◌≡◌, ℕ, ◌≤◌, ◌<◌, Bool, true, ◌&&◌, nat_le, nat_lt, List, [], ◌∷◌, length, Some}
use Rattle.std.specs.List.{list_all}
use Rattle.graph_model.specs.declared.change.Change.{Change}
use Rattle.graph_model.specs.declared.change.Change.TheVariants.{New, Set, Drop, Put, Del}
use Rattle.graph_model.specs.declared.graph.Base.{Base}
use Rattle.graph_model.specs.declared.record.Record.{Record}
use Rattle.graph_model.specs.Change.{encoded_lens}
use Rattle.graph_model.specs.Records.{number_end, destination_end, has_destination}
use Rattle.edge_log.specs.Entries.{sizes}
use Rattle.edge_log.specs.Contents.{LogContent}
use Rattle.core_rows.specs.Rows.{log_at}
use Rattle.core_states.specs.declared.transaction.Transaction.{Transaction}
use Rattle.core_states.specs.Draws.{TidsDrawn, VerticesDrawn}
use Rattle.core_states.specs.Durability.{Durability}
use Rattle.core_states.specs.Names.{Name}
use Rattle.core_states.specs.RowEvents.{Limits}
use Rattle.core_states.specs.States.{State}
use Rattle.core_kept.specs.Tellings.{Steady}

-- a New's vertex is a number from `low` on and below `next`
abbrev pub made_within : ℕ → ℕ → Change → Bool
made_within low next (New v p) = nat_le low v && nat_lt v next
made_within low next (Set v p) = true
made_within low next (Drop v) = true
made_within low next (Put v l d p) = true
made_within low next (Del v l d) = true

-- The changes of a transaction are within the limits.
pub record ChangesFit (low next most : ℕ) (changes : List Change) : Type 0 where
  pub lens : encoded_lens changes ≤ most
  pub destinations : list_all has_destination changes ≡ true
  pub made : list_all (made_within low next) changes ≡ true

-- And so are those of records, which have at least one change.
abbrev pub RecordsFit : ℕ → ℕ → ℕ → List Record → Type 0
RecordsFit low next most [] = Unit {0}
RecordsFit low next most (r ∷ rs) = ChangesFit low next most r.changes × (0 < length r.changes) × RecordsFit low next most rs

-- The entries of a log take no more than its limit, and their destinations are below theirs.
pub record LogBounded (most : ℕ) (log : LogContent) : Type 0 where
  pub room : sizes log.entries ≤ most
  pub destinations : list_all (λ x. nat_lt x.d destination_end) log.entries ≡ true

pub record Bounded (base : Base) (most : Limits) (s : State) : Type 0 where
  pub next_tid : s.clock.next_tid ≤ number_end
  pub next_vertex : s.clock.next_vertex ≤ number_end
  pub logs : (v l : ℕ) → LogBounded most.log (log_at (s.row v).logs l)
  pub txns : (i : Name) (x : Transaction) → (s.actor i).txn ≡ Some x → ChangesFit base.next_vertex s.clock.next_vertex most.txn x.own
  pub queue : RecordsFit base.next_vertex s.clock.next_vertex most.txn s.clock.queue
  pub groups : (i : Name) → RecordsFit base.next_vertex s.clock.next_vertex most.txn (s.actor i).group
  pub records : RecordsFit base.next_vertex s.clock.next_vertex most.txn s.clock.records

-- What every event keeps.
abbrev pub Kept : Base → Limits → State → Type 0
Kept base most s = Steady base s × Bounded base most s × TidsDrawn base s × VerticesDrawn base s × Durability base s
