-- The list of the rows of a shard, as a part of the core reads it.
use Rattle.std.proofs.Common.{◌≡◌, ℕ, zero, suc, ◌+◌, ◌*◌, ◌/◌, ◌%◌, ◌<◌, ◌≤◌, ◌++◌, Bool, true, false, List, [], ◌∷◌, length, get_or, Option, Some, None, refl, ap, sym, ◌∙◌, arith, ◌⊎◌, inl, inr}
use Rattle.std.specs.Prelude.{◌==◌, nat_lt, IsSome}
use Rattle.std.specs.Ordering.{nat_cmp}
use Rattle.std.specs.Map.{lookup}
use Rattle.std.specs.BTreeMap.{is_at}
use Rattle.std.proofs.lemmas.Bool.{cases_eq}
use Rattle.std.proofs.lemmas.Bool.Decides.{nat_tests}
use Rattle.std.proofs.lemmas.Nat.{div-mul-add, mod-mul-add}
use Rattle.std.proofs.Math.ListN.{get_or-eq_default}
use Rattle.graph_model.specs.declared.graph.Base.{Base}
use Rattle.graph_model.specs.Vertex.{Vertex}
use Rattle.graph_model.specs.Graph.{vertex_at}
use Rattle.core_rows.specs.Rows.{Row}
use Rattle.core_rows.specs.Openings.{opened_row}
use Rattle.core_states.specs.Parts.{VertexRow as ListedRow, row_of}
use Rattle.edge_log.specs.Contents.{LogContent}
use Rattle.number_map.specs.KeptAt.{kept_at}
use Rattle.number_map.proofs.KeptLemmas.{kept_near, kept_far}
use Rattle.vertex_rows.specs.declared.vertex_row.VertexRow.{VertexRow}
use Rattle.vertex_rows.specs.RowIn.{row_over}
use Rattle.shard_state.specs.declared.shard.Shard.{Shard}
use Rattle.shard_state.specs.Shards.{row_kept, row_at, IsOf, HasLoaded}
use Rattle.shard_state.specs.RowLists.{near_rows, far_rows, rows_listed}

-- the vertex of a place
abbrev pub vertex_in : {L R : Type 0} → Shard L R → ℕ → ℕ
vertex_in shard n = n * shard.shards + shard.number

-- the row that is listed for a vertex, where one is kept, and elsewhere this row
abbrev pub found_or : {L R : Type 0} → (L → R → LogContent) → Shard L R → Option (VertexRow L) → Row → Row
found_or content shard None row = row
found_or content shard (Some x) row = row_over content x shard.room

-- two places have two vertices
place_differs : {L R : Type 0} (shard : Shard L R) (m n : ℕ) → shard.number < shard.shards → (m ≡ n → ⊥) → (vertex_in shard m == vertex_in shard n) ≡ false
place_differs shard m n among differ = by_test (vertex_in shard m == vertex_in shard n) refl
  where
    by_test : (b : Bool) → (vertex_in shard m == vertex_in shard n) ≡ b → b ≡ false
    by_test false told = refl
    by_test true told =
        let same : vertex_in shard m ≡ vertex_in shard n = grind (arith, nat_tests, told) in
        absurd (differ (sym (div-mul-add m shard.shards shard.number among) ∙ ap (λ (v : ℕ). v / shard.shards) same ∙ div-mul-add n shard.shards shard.number among))

place_same : (v w : ℕ) → v ≡ w → (v == w) ≡ true
place_same v w same = grind (arith, nat_tests, same)

-- what the near places list of a place before them
near-past : {L R : Type 0} (content : L → R → LogContent) (base : Base) (shard : Shard L R) (m k : ℕ) (rows : List (Option (VertexRow L))) (rest : List ListedRow) → shard.number < shard.shards → k < m →
    row_of base (near_rows content shard m rows ++ rest) (vertex_in shard k) ≡ row_of base rest (vertex_in shard k)
near-past content base shard m k [] rest among lt = refl
near-past content base shard m k (None ∷ rows) rest among lt = near-past content base shard (m + 1) k rows rest among (omega (arith, lt))
near-past content base shard m k (Some x ∷ rows) rest among lt =
    rw (place_differs shard m k among (λ e. omega (arith, e, lt))) (near-past content base shard (m + 1) k rows rest among (omega (arith, lt)))

-- and of their own
near-listed : {L R : Type 0} (content : L → R → LogContent) (base : Base) (shard : Shard L R) (n k at : ℕ) (rows : List (Option (VertexRow L))) (rest : List ListedRow) → shard.number < shard.shards → at ≡ n + k →
    row_of base (near_rows content shard n rows ++ rest) (vertex_in shard at) ≡ found_or content shard (get_or rows k None) (row_of base rest (vertex_in shard at))
near-listed content base shard n k at [] rest among is = refl
near-listed content base shard n zero at (None ∷ rows) rest among is = near-past content base shard (n + 1) at rows rest among (omega (arith, is))
near-listed content base shard n zero at (Some x ∷ rows) rest among is =
    rw (place_same (vertex_in shard n) (vertex_in shard at) (ap (vertex_in shard) (omega (arith, is)))) refl
near-listed content base shard n (suc k) at (None ∷ rows) rest among is = near-listed content base shard (n + 1) k at rows rest among (omega (arith, is))
near-listed content base shard n (suc k) at (Some x ∷ rows) rest among is =
    rw (place_differs shard n at among (λ e. omega (arith, e, is))) (near-listed content base shard (n + 1) k at rows rest among (omega (arith, is)))

-- what the far places list of a near place
far-past : {L R : Type 0} (content : L → R → LogContent) (base : Base) (shard : Shard L R) (behind k : ℕ) (entries : List (ℕ × VertexRow L)) → shard.number < shard.shards → k < behind →
    row_of base (far_rows content shard behind entries) (vertex_in shard k) ≡ opened_row base.epoch (vertex_at (vertex_in shard k) base.graph)
far-past content base shard behind k [] among lt = refl
far-past content base shard behind k (e ∷ entries) among lt = by_test (nat_lt e.0 behind) refl (far-past content base shard behind k entries among lt)
  where
    by_test : (b : Bool) → nat_lt e.0 behind ≡ b → row_of base (far_rows content shard behind entries) (vertex_in shard k) ≡ opened_row base.epoch (vertex_at (vertex_in shard k) base.graph) →
        row_of base (far_rows content shard behind (e ∷ entries)) (vertex_in shard k) ≡ opened_row base.epoch (vertex_at (vertex_in shard k) base.graph)
    by_test true near rest = rw near rest
    by_test false far rest = rw (far, place_differs shard e.0 k among (λ same. apart far same)) rest
      where
        apart : nat_lt e.0 behind ≡ false → e.0 ≡ k → ⊥
        apart far same = let le : behind ≤ e.0 = grind (arith, nat_tests, far) in omega (arith, le, same, lt)

-- and of their own
abbrev FarSays : {L R : Type 0} → (L → R → LogContent) → Base → Shard L R → ℕ → ℕ → List (ℕ × VertexRow L) → Type 0
FarSays content base shard behind k entries =
    row_of base (far_rows content shard behind entries) (vertex_in shard k) ≡ found_or content shard (lookup (is_at (nat_cmp k)) entries) (opened_row base.epoch (vertex_at (vertex_in shard k) base.graph))

far-listed : {L R : Type 0} (content : L → R → LogContent) (base : Base) (shard : Shard L R) (behind k : ℕ) (entries : List (ℕ × VertexRow L)) → shard.number < shard.shards → behind ≤ k → FarSays content base shard behind k entries
far-listed content base shard behind k [] among le = refl
far-listed content base shard behind k (e ∷ entries) among le = by_place (cases_eq e.0 k) (far-listed content base shard behind k entries among le)
  where
    by_test : (b : Bool) → nat_lt e.0 behind ≡ b → (e.0 ≡ k → ⊥) → is_at (nat_cmp k) e.0 ≡ false → FarSays content base shard behind k entries → FarSays content base shard behind k (e ∷ entries)
    by_test true near other beside rest = rw (near, beside) rest
    by_test false far other beside rest = rw (far, beside, place_differs shard e.0 k among other) rest

    by_place : (e.0 ≡ k) ⊎ (e.0 ≡ k → ⊥) → FarSays content base shard behind k entries → FarSays content base shard behind k (e ∷ entries)
    by_place (inl same) rest =
        let far : nat_lt e.0 behind ≡ false = grind (arith, nat_tests, same, le) in
        let at : is_at (nat_cmp k) e.0 ≡ true = grind (arith, nat_tests, same) in
        rw (far, at, place_same (vertex_in shard e.0) (vertex_in shard k) (ap (vertex_in shard) same)) refl
    by_place (inr other) rest =
        let beside : is_at (nat_cmp k) e.0 ≡ false = grind (arith, nat_tests, other) in
        by_test (nat_lt e.0 behind) refl other beside rest

-- The list has the row that is kept at a place, and says of every other place what the base does.
pub listed-at : {L R : Type 0} (content : L → R → LogContent) (base : Base) (shard : Shard L R) (n : ℕ) → shard.number < shard.shards →
    row_of base (rows_listed content shard) (vertex_in shard n) ≡ found_or content shard (kept_at shard.rows n) (opened_row base.epoch (vertex_at (vertex_in shard n) base.graph))
listed-at {L = L} content base shard n among = by_side (nat_lt n (length shard.rows.near.items)) refl
  where
    by_side : (b : Bool) → nat_lt n (length shard.rows.near.items) ≡ b →
        row_of base (rows_listed content shard) (vertex_in shard n) ≡ found_or content shard (kept_at shard.rows n) (opened_row base.epoch (vertex_at (vertex_in shard n) base.graph))
    by_side true below =
        let lt : n < length shard.rows.near.items = grind (arith, nat_tests, below) in
        near-listed content base shard 0 n n shard.rows.near.items (far_rows content shard (length shard.rows.near.items) shard.rows.far.entries) among (omega arith)
        ∙ ap (found_or content shard (get_or shard.rows.near.items n None)) (far-past content base shard (length shard.rows.near.items) n shard.rows.far.entries among lt)
        ∙ ap (λ (o : Option (VertexRow L)). found_or content shard o (opened_row base.epoch (vertex_at (vertex_in shard n) base.graph))) (sym (kept_near shard.rows n lt))
    by_side false behind =
        let le : length shard.rows.near.items ≤ n = grind (arith, nat_tests, behind) in
        near-listed content base shard 0 n n shard.rows.near.items (far_rows content shard (length shard.rows.near.items) shard.rows.far.entries) among (omega arith)
        ∙ ap (λ (o : Option (VertexRow L)). found_or content shard o (row_of base (far_rows content shard (length shard.rows.near.items) shard.rows.far.entries) (vertex_in shard n))) (get_or-eq_default shard.rows.near.items None le)
        ∙ far-listed content base shard (length shard.rows.near.items) n shard.rows.far.entries among le
        ∙ ap (λ (o : Option (VertexRow L)). found_or content shard o (opened_row base.epoch (vertex_at (vertex_in shard n) base.graph))) (sym (kept_far shard.rows n le))

-- a vertex of the shard is that of its place
is-vertex : {L R : Type 0} (shard : Shard L R) (v : ℕ) → IsOf v shard → v ≡ vertex_in shard (v / shard.shards)
is-vertex shard v own = omega (arith, own)

pub own-listed : {L R : Type 0} (content : L → R → LogContent) (base : Base) (shard : Shard L R) (v : ℕ) → shard.number < shard.shards → HasLoaded base.graph shard → IsOf v shard →
    row_of base (rows_listed content shard) v ≡ row_at content shard v
own-listed {L = L} content base shard v among loaded own =
    ap (row_of base (rows_listed content shard)) (is-vertex shard v own)
    ∙ listed-at content base shard (v / shard.shards) among
    ∙ ap (λ (w : ℕ). found_or content shard (kept_at shard.rows (v / shard.shards)) (opened_row base.epoch (vertex_at w base.graph))) (sym (is-vertex shard v own))
    ∙ by_kept (kept_at shard.rows (v / shard.shards)) (vertex_at v base.graph) (loaded v own)
  where
    by_kept : (o : Option (VertexRow L)) (x : Option Vertex) → (IsSome x → IsSome o) → found_or content shard o (opened_row base.epoch x) ≡ row_kept content o shard.room
    by_kept None None is = refl
    by_kept None (Some x) is = let none : false ≡ true = is refl in absurd (cc)
    by_kept (Some row) x is = refl

-- a vertex of another shard is listed nowhere
near-others : {L R : Type 0} (content : L → R → LogContent) (base : Base) (shard : Shard L R) (v n : ℕ) (rows : List (Option (VertexRow L))) (rest : List ListedRow) → ((k : ℕ) → (vertex_in shard k == v) ≡ false) →
    row_of base (near_rows content shard n rows ++ rest) v ≡ row_of base rest v
near-others content base shard v n [] rest other = refl
near-others content base shard v n (None ∷ rows) rest other = near-others content base shard v (n + 1) rows rest other
near-others content base shard v n (Some x ∷ rows) rest other = rw (other n) (near-others content base shard v (n + 1) rows rest other)

far-others : {L R : Type 0} (content : L → R → LogContent) (base : Base) (shard : Shard L R) (v behind : ℕ) (entries : List (ℕ × VertexRow L)) → ((k : ℕ) → (vertex_in shard k == v) ≡ false) →
    row_of base (far_rows content shard behind entries) v ≡ opened_row base.epoch (vertex_at v base.graph)
far-others content base shard v behind [] other = refl
far-others content base shard v behind (e ∷ entries) other = by_test (nat_lt e.0 behind) refl (far-others content base shard v behind entries other)
  where
    by_test : (b : Bool) → nat_lt e.0 behind ≡ b → row_of base (far_rows content shard behind entries) v ≡ opened_row base.epoch (vertex_at v base.graph) → row_of base (far_rows content shard behind (e ∷ entries)) v ≡ opened_row base.epoch (vertex_at v base.graph)
    by_test true near rest = rw near rest
    by_test false far rest = rw (far, other e.0) rest

pub others-listed : {L R : Type 0} (content : L → R → LogContent) (base : Base) (shard : Shard L R) (v : ℕ) → shard.number < shard.shards → (IsOf v shard → ⊥) →
    row_of base (rows_listed content shard) v ≡ opened_row base.epoch (vertex_at v base.graph)
others-listed content base shard v among not_own =
    near-others content base shard v 0 shard.rows.near.items (far_rows content shard (length shard.rows.near.items) shard.rows.far.entries) other
    ∙ far-others content base shard v (length shard.rows.near.items) shard.rows.far.entries other
  where
    other : (k : ℕ) → (vertex_in shard k == v) ≡ false
    other k = by_test (vertex_in shard k == v) refl
      where
        by_test : (b : Bool) → (vertex_in shard k == v) ≡ b → b ≡ false
        by_test false told = refl
        by_test true told =
            let same : vertex_in shard k ≡ v = grind (arith, nat_tests, told) in
            absurd (not_own (ap (λ (w : ℕ). w % shard.shards) (sym same) ∙ mod-mul-add k shard.shards shard.number among))
