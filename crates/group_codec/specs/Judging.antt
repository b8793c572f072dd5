-- Which rules the records so far keep, and what a judge knows of them.
use Rattle.std.specs.Prelude.{◌≡◌, ◌<◌, ℕ, ◌+◌, Bool, true, false, not, ◌&&◌, ◌==◌, nat_lt, nat_le, IsTrue, List, [], ◌∷◌, ◌++◌, length, drop, map, Option, unwrap_or}
use Rattle.std.specs.List.{list_any, list_all}
use Rattle.std.specs.Ordering.{nat_cmp}
use Rattle.std.specs.BTreeMap.{get}
use Rattle.graph_model.specs.declared.change.Change.{Change}
use Rattle.graph_model.specs.declared.change.Change.TheVariants.{Put}
use Rattle.graph_model.specs.declared.record.Record.{Record}
use Rattle.graph_model.specs.Vertex.{Vertex}
use Rattle.graph_model.specs.Change.{vertex_of}
use Rattle.graph_model.specs.Graph.{vertex_at, after, all_fit}
use Rattle.graph_model.specs.Records.{all_differ, all_changes, made_vertices, changes_vertex, apart, is_record, number_end, list_most, size_of_list, lists_fit, Lawful}
use Rattle.group_codec.specs.NumberSets.{was_met}
use Rattle.group_codec.specs.declared.judge.Judge.{Judge}
use Rattle.group_codec.specs.Spelling.{group_bytes, is_group}
use Rattle.group_codec.specs.Log.{records_of, are_groups}

-- a vertex's number
abbrev pub is_number : ℕ → Bool
is_number v = nat_le 1 v && nat_lt v number_end

-- The records keep each rule that one record more can break.
pub record KeepRules (records : List Record) : Type 0 where
  pub each : IsTrue (list_all (is_record 0 1) records)
  pub numbers : IsTrue (all_differ (map (λ r. r.tid) records))
  pub made : IsTrue (list_all is_number (made_vertices (all_changes records)))
  pub made_once : IsTrue (all_differ (made_vertices (all_changes records)))
  pub fit : IsTrue (all_fit (all_changes records) [])
  pub no_overlap : IsTrue (apart records)

-- the newest epoch that is noted for a vertex; 0 where none is
abbrev pub newest_of : (ℕ → Option ℕ) → ℕ → ℕ
newest_of noted v = unwrap_or (noted v) 0

-- A judge knows the records: their graph, their numbers, the vertices that they made, and for each vertex
-- the epoch of the newest record that changed it.
pub record Knows (judge : Judge) (records : List Record) : Type 0 where
  pub graph : judge.graph ≡ after (all_changes records) []
  pub numbers : (t : ℕ) → was_met judge.numbers t ≡ list_any (λ r. r.tid == t) records
  pub made : (v : ℕ) → was_met judge.made v ≡ list_any (λ w. w == v) (made_vertices (all_changes records))
  pub newest : (v e : ℕ) → list_any (λ s. changes_vertex v s && nat_lt e s.epoch) records ≡ nat_lt e (newest_of (get nat_cmp judge.newest) v)

-- no record is later than this epoch
abbrev pub none_later : ℕ → List Record → Bool
none_later epoch records = list_all (λ s. nat_le s.epoch epoch) records

-- these are vertex numbers that differ, and none of them was made before
abbrev pub are_new : (ℕ → Bool) → List ℕ → Bool
are_new made vertices = all_differ vertices && list_all (λ v. is_number v && not (made v)) vertices

-- no newer record than the record's snapshot changed a vertex that it changes
abbrev pub is_apart : (ℕ → Option ℕ) → Record → Bool
is_apart noted r = list_all (λ c. nat_le (newest_of noted (vertex_of c)) r.read) r.changes

-- the list that a Put set its edge in is within the limit
abbrev pub put_fits : List Vertex → Change → Bool
put_fits graph (Put v l d p) = nat_le (size_of_list (vertex_at v graph) l) list_most
put_fits graph change = true

abbrev pub puts_fit : List Vertex → List Record → Bool
puts_fit graph records = list_all (λ r. list_all (put_fits graph) r.changes) records

-- The judge knows the records, which keep the rules; or they do not keep them.
abbrev pub Judged : Bool → Judge → List Record → Type 0
Judged true judge records = Knows judge records × KeepRules records
Judged false judge records = KeepRules records → ⊥

-- The judge knows the groups, which are lawful.
pub record KnowsLawful (judge : Judge) (groups : List (List Record)) : Type 0 where
  pub knows : Knows judge (records_of groups)
  pub lawful : Lawful (records_of groups)
  pub spelled : IsTrue (are_groups 0 groups)
  pub lists : IsTrue (lists_fit judge.graph)

-- The judge knows the groups, which are lawful; or they are not lawful.
abbrev pub KnowsLawfulIf : Bool → Judge → List (List Record) → Type 0
KnowsLawfulIf true judge groups = KnowsLawful judge groups
KnowsLawfulIf false judge groups = Lawful (records_of groups) → ⊥

-- A group of this epoch stands at the front of the bytes, with a gate at this place behind it; its records
-- were added, and it is lawful behind whatever lawful groups the judge knew.
pub record IsTaken (epoch : ℕ) (bytes : List ℕ) (old new : Judge) (before now : List Record) (place : ℕ) (g : List Record) : Type 0 where
  pub spelled : IsTrue (is_group epoch g)
  pub text : bytes ≡ group_bytes epoch g ++ drop place bytes
  pub long : place ≡ length (group_bytes epoch g)
  pub within : place < length bytes
  pub added : now ≡ before ++ g
  pub stands : (groups : List (List Record)) → KnowsLawful old groups → epoch ≡ length groups + 1 → KnowsLawful new (groups ++ g ∷ [])
