-- The rules of a list of records: what a log may hold, and what may follow it.
pub use Rattle.graph_model.specs.Whole.{all_differ, rise, is_vertex, is_graph}
pub use Rattle.graph_model.specs.Sizes.{list_size, size_of_list}
use Rattle.std.specs.Prelude.{◌≡◌, ℕ, ◌+◌, ◌^◌, Bool, true, not, ◌&&◌, ◌||◌, ◌==◌, nat_lt, nat_le, IsTrue, List, [], ◌∷◌, length, map, count_by, flat_map}
use Rattle.std.specs.List.{list_all, list_any}
use Rattle.graph_model.specs.declared.change.Change.{Change}
use Rattle.graph_model.specs.declared.change.Change.TheVariants.{New, Put, Del}
use Rattle.graph_model.specs.declared.record.Record.{Record}
use Rattle.graph_model.specs.Vertex.{Vertex}
use Rattle.graph_model.specs.declared.graph.Base.{Base}
use Rattle.graph_model.specs.Change.{vertex_of, encoded_lens}
use Rattle.graph_model.specs.Graph.{all_fit, at}

-- the limits
abbrev pub number_end : ℕ
number_end = 2 ^ 62

abbrev pub destination_end : ℕ
destination_end = 2 ^ 63

abbrev pub list_most : ℕ
list_most = 2 ^ 30

abbrev pub transaction_most : ℕ
transaction_most = 16777216

abbrev pub group_most : ℕ
group_most = 64

-- all changes, in order
abbrev pub all_changes : List Record → List Change
all_changes records = flat_map (λ r. r.changes) records

-- whether a record changes a vertex
abbrev pub changes_vertex : ℕ → Record → Bool
changes_vertex v r = list_any (λ c. vertex_of c == v) r.changes

-- each epoch is that of the record before it or the next one, so they never fall and leave no gap
abbrev pub goes_on : ℕ → List Record → Bool
goes_on epoch [] = true
goes_on epoch (r ∷ records) = (r.epoch == epoch || r.epoch == epoch + 1) && goes_on r.epoch records

-- the epochs begin one above this one, never fall and leave no gap
abbrev pub begins_after : ℕ → List Record → Bool
begins_after epoch [] = true
begins_after epoch (r ∷ records) = r.epoch == epoch + 1 && goes_on r.epoch records

-- the last epoch, or this one where there is no record
abbrev pub last_epoch : ℕ → List Record → ℕ
last_epoch epoch [] = epoch
last_epoch epoch (r ∷ records) = last_epoch r.epoch records

-- s was committed while r ran: after r's snapshot, and no later than r
abbrev pub overlap : Record → Record → Bool
overlap r s = nat_lt r.read s.epoch && nat_le s.epoch r.epoch

-- a vertex that both change
abbrev pub share_vertex : Record → Record → Bool
share_vertex r s = list_any (λ c. changes_vertex (vertex_of c) s) r.changes

-- of two records that overlap, no vertex is changed by both
abbrev pub keep_apart : Record → Record → Bool
keep_apart r s = not ((overlap r s || overlap s r) && share_vertex r s)

abbrev pub apart : List Record → Bool
apart [] = true
apart (r ∷ records) = list_all (keep_apart r) records && apart records

-- the vertices that New makes
abbrev pub made_vertices : List Change → List ℕ
made_vertices [] = []
made_vertices (New v p ∷ changes) = v ∷ made_vertices changes
made_vertices (change ∷ changes) = made_vertices changes

-- a destination is below 2^63
abbrev pub has_destination : Change → Bool
has_destination (Put v l d p) = nat_lt d destination_end
has_destination (Del v l d) = nat_lt d destination_end
has_destination change = true

-- no list of the graph is above its limit
abbrev pub lists_fit : List Vertex → Bool
lists_fit graph = list_all (λ x. list_all (λ y. nat_le (list_size y.pairs) list_most) x.lists) graph

-- one record after a base with this epoch and this next transaction number
abbrev pub is_record : ℕ → ℕ → Record → Bool
is_record epoch next_tid r =
    nat_le next_tid r.tid && nat_lt r.tid number_end
    && nat_le epoch r.read && nat_lt r.read r.epoch && nat_lt r.epoch number_end
    && nat_lt 0 (length r.changes) && nat_le (encoded_lens r.changes) transaction_most
    && list_all has_destination r.changes

-- The records may follow the base.
pub record Continues (base : Base) (records : List Record) : Type 0 where
  -- the first group has the epoch after the base's, and each next one the epoch after that
  pub epochs : IsTrue (begins_after base.epoch records)
  pub groups : IsTrue (list_all (λ r. nat_le (count_by (λ s. s.epoch == r.epoch) records) group_most) records)
  pub each : IsTrue (list_all (is_record base.epoch base.next_tid) records)
  pub numbers : IsTrue (all_differ (map (λ r. r.tid) records))
  -- a vertex is made once, and each other change names a vertex that is there
  pub made : IsTrue (list_all (λ v. nat_le base.next_vertex v && nat_lt v number_end)
      (made_vertices (all_changes records)))
  pub made_once : IsTrue (all_differ (made_vertices (all_changes records)))
  pub fit : IsTrue (all_fit (all_changes records) base.graph)
  pub no_overlap : IsTrue (apart records)
  -- after each group no list is above its limit
  pub lists : IsTrue (list_all (λ r. lists_fit (at base.graph records r.epoch)) records)

-- the base of a log without records
abbrev pub empty_base : Base
empty_base = record { graph = []; epoch = 0; next_tid = 1; next_vertex = 1 }

-- A log may hold these records.
abbrev pub Lawful : List Record → Type 0
Lawful records = Continues empty_base records

-- the vertices and lists of a good base
abbrev pub is_good_vertex : ℕ → Vertex → Bool
is_good_vertex next_vertex x =
    nat_lt 0 x.number && nat_lt x.number next_vertex
    && list_all (λ y. list_all (λ z. nat_lt z.d destination_end) y.pairs) x.lists

-- A run may start from the base.
pub record IsGood (base : Base) : Type 0 where
  pub graph : IsTrue (is_graph base.graph)
  pub vertices : IsTrue (list_all (is_good_vertex base.next_vertex) base.graph)
  pub lists : IsTrue (lists_fit base.graph)
  pub epoch : IsTrue (nat_lt base.epoch base.next_tid)
  pub numbers : IsTrue (nat_lt 0 base.next_tid && nat_le base.next_tid number_end
      && nat_lt 0 base.next_vertex && nat_le base.next_vertex number_end)
  pub beginning : base.epoch ≡ 0 → base.graph ≡ []
