-- The vertices of a base before and from a place on, and the lists of each of them.
use Rattle.std.proofs.Common.{◌≡◌, ℕ, suc, ◌+◌, ◌/◌, ◌%◌, ◌<◌, ◌≤◌, ◌⊎◌, inl, inr, true, false, Bool, List, [], ◌∷◌, Option, Some, None, refl, ap, sym, subst, ◌∙◌, arith}
use Rattle.std.specs.Prelude.{◌≢◌, ◌==◌, nat_lt, nat_le, if◌then◌else◌, IsSome}
use Rattle.std.specs.List.{list_all}
use Rattle.std.proofs.lemmas.Bool.{and_parts}
use Rattle.std.proofs.lemmas.Bool.Decides.{nat_tests}
use Rattle.graph_model.specs.Vertex.{Vertex, LabelList}
use Rattle.graph_model.specs.Graph.{vertex_at, pairs_in}
use Rattle.graph_model.specs.Records.{list_size, size_of_list}
use Rattle.graph_model.specs.Whole.{rise, is_vertex, is_graph}
use Rattle.graph_model.specs.Walking.{first_from, numbers_of}
use Rattle.graph_model.specs.declared.graph.Base.{Base}
use Rattle.edge_log.specs.Contents.{LogContent}
use Rattle.core_rows.specs.Openings.{opened_row}
use Rattle.core_states.specs.Openings.{lists_within}
use Rattle.number_map.specs.KeptAt.{kept_at}
use Rattle.vertex_rows.specs.declared.vertex_row.VertexRow.{VertexRow}
use Rattle.shard_state.specs.declared.shard.Shard.{Shard}
use Rattle.shard_state.specs.Shards.{row_kept, row_at, IsOf}

-- before the next vertex, and from there on; without a next one all are before
abbrev pub IsBefore : ℕ → Option ℕ → Type 0
IsBefore v None = Unit {0}
IsBefore v (Some n) = v < n

abbrev pub IsFrom : ℕ → Option ℕ → Type 0
IsFrom v None = ⊥
IsFrom v (Some n) = n ≤ v

-- how many vertices are left, from the next one on
abbrev pub from_on : ℕ → List Vertex → ℕ
from_on n [] = 0
from_on n (x ∷ graph) = if nat_le n x.number then suc (from_on n graph) else from_on n graph

abbrev pub left_of : List Vertex → Option ℕ → ℕ
left_of graph None = 0
left_of graph (Some n) = from_on n graph

-- the first number from a place on
pub first-from : (n : ℕ) (numbers : List ℕ) (m : ℕ) → first_from n numbers ≡ Some m → n ≤ m
first-from n [] m found = absurd (cc)
first-from n (x ∷ numbers) m found = by_test (nat_le n x) refl (first-from n numbers m)
  where
    by_test : (b : Bool) → nat_le n x ≡ b → (first_from n numbers ≡ Some m → n ≤ m) → n ≤ m
    by_test true le rest =
        let same : Some x ≡ Some m = rw le at found in
        let is : x ≡ m = cc in
        grind (arith, nat_tests, le, is)
    by_test false less rest = rest (rw less at found)

-- is that of a vertex
pub first-there : (graph : List Vertex) (n m : ℕ) → first_from n (numbers_of graph) ≡ Some m → IsSome (vertex_at m graph)
first-there [] n m found = absurd (cc)
first-there (x ∷ graph) n m found = by_test (nat_le n x.number) refl (first-there graph n m)
  where
    here : x.number ≡ m → IsSome (vertex_at m (x ∷ graph))
    here is = let same : (x.number == m) ≡ true = grind (arith, nat_tests, is) in rw same refl

    further : IsSome (vertex_at m graph) → IsSome (vertex_at m (x ∷ graph))
    further some = by_number (x.number == m) refl
      where
        by_number : (b : Bool) → (x.number == m) ≡ b → IsSome (vertex_at m (x ∷ graph))
        by_number true same = rw same refl
        by_number false other = rw other some

    by_test : (b : Bool) → nat_le n x.number ≡ b → (first_from n (numbers_of graph) ≡ Some m → IsSome (vertex_at m graph)) → IsSome (vertex_at m (x ∷ graph))
    by_test true le rest =
        let same : Some x.number ≡ Some m = rw le at found in
        let is : x.number ≡ m = cc in
        here is
    by_test false less rest = further (rest (rw less at found))

-- and none stands before it
none-below : (graph : List Vertex) (k v : ℕ) → list_all (nat_lt k) (numbers_of graph) ≡ true → v ≤ k → vertex_at v graph ≡ None
none-below [] k v above le = refl
none-below (x ∷ graph) k v above le =
    let parts = and_parts (nat_lt k x.number) (list_all (nat_lt k) (numbers_of graph)) above in
    let rest = none-below graph k v parts.1 le in
    let other : (x.number == v) ≡ false = grind (arith, nat_tests, parts.0, le) in
    rw other rest

pub none-between : (graph : List Vertex) (n v : ℕ) → rise (numbers_of graph) ≡ true → n ≤ v → IsBefore v (first_from n (numbers_of graph)) → vertex_at v graph ≡ None
none-between [] n v up from before = refl
none-between (x ∷ graph) n v up from before = by_test (nat_le n x.number) refl (none-between graph n v parts.1 from)
  where
    parts : (list_all (nat_lt x.number) (numbers_of graph) ≡ true) × (rise (numbers_of graph) ≡ true)
    parts = and_parts (list_all (nat_lt x.number) (numbers_of graph)) (rise (numbers_of graph)) up

    by_test : (b : Bool) → nat_le n x.number ≡ b → (IsBefore v (first_from n (numbers_of graph)) → vertex_at v graph ≡ None) → vertex_at v (x ∷ graph) ≡ None
    by_test true le rest =
        let lt : v < x.number = rw le at before in
        let other : (x.number == v) ≡ false = grind (arith, nat_tests, lt) in
        rw other (none-below graph x.number v parts.0 (omega (arith, lt)))
    by_test false less rest =
        let other : (x.number == v) ≡ false = grind (arith, nat_tests, less, from) in
        rw other (rest (rw less at before))

-- fewer are left from a later place on, and fewer behind a vertex that is there
fewer-later : (graph : List Vertex) (m n : ℕ) → n ≤ m → from_on m graph ≤ from_on n graph
fewer-later [] m n le = omega arith
fewer-later (x ∷ graph) m n le = by_test (nat_le m x.number) (nat_le n x.number) refl refl (fewer-later graph m n le)
  where
    by_test : (a b : Bool) → nat_le m x.number ≡ a → nat_le n x.number ≡ b → from_on m graph ≤ from_on n graph → from_on m (x ∷ graph) ≤ from_on n (x ∷ graph)
    by_test true true one two rest = rw (one, two) (omega (arith, rest))
    by_test true false one two rest = let told : true ≡ false = grind (arith, nat_tests, one, two, le) in absurd (cc)
    by_test false true one two rest = rw (one, two) (omega (arith, rest))
    by_test false false one two rest = rw (one, two) rest

fewer-behind : (graph : List Vertex) (v : ℕ) → IsSome (vertex_at v graph) → from_on (v + 1) graph < from_on v graph
fewer-behind [] v some = let told : false ≡ true = some in absurd (cc)
fewer-behind (x ∷ graph) v some = by_number (x.number == v) refl (fewer-behind graph v) (fewer-later graph (v + 1) v (omega arith))
  where
    by_number : (b : Bool) → (x.number == v) ≡ b → (IsSome (vertex_at v graph) → from_on (v + 1) graph < from_on v graph) → from_on (v + 1) graph ≤ from_on v graph → from_on (v + 1) (x ∷ graph) < from_on v (x ∷ graph)
    by_number true same rest le =
        let one : nat_le (v + 1) x.number ≡ false = grind (arith, nat_tests, same) in
        let two : nat_le v x.number ≡ true = grind (arith, nat_tests, same) in
        rw (one, two) (omega (arith, le))
    by_number false other rest le = by_test (nat_le v x.number) refl (rest (rw other at some))
      where
        by_test : (b : Bool) → nat_le v x.number ≡ b → from_on (v + 1) graph < from_on v graph → from_on (v + 1) (x ∷ graph) < from_on v (x ∷ graph)
        by_test true from fewer =
            let one : nat_le (v + 1) x.number ≡ true = grind (arith, nat_tests, from, other) in
            rw (one, from) (omega (arith, fewer))
        by_test false less fewer =
            let one : nat_le (v + 1) x.number ≡ false = grind (arith, nat_tests, less) in
            rw (one, less) fewer

pub left-smaller : (graph : List Vertex) (v : ℕ) → IsSome (vertex_at v graph) → left_of graph (first_from (v + 1) (numbers_of graph)) < from_on v graph
left-smaller graph v some = by_next (first_from (v + 1) (numbers_of graph)) refl
  where
    by_next : (next : Option ℕ) → first_from (v + 1) (numbers_of graph) ≡ next → left_of graph next < from_on v graph
    by_next None is = omega (arith, fewer-behind graph v some)
    by_next (Some m) is = omega (arith, fewer-behind graph v some, fewer-later graph m (v + 1) (first-from (v + 1) (numbers_of graph) m is))

-- each list of each vertex is within the limit
pairs-within : (most : ℕ) (lists : List LabelList) (l : ℕ) → list_all (λ y. nat_le (list_size y.pairs) most) lists ≡ true → list_size (pairs_in lists l) ≤ most
pairs-within most [] l all = omega arith
pairs-within most (y ∷ lists) l all = by_test (y.label == l) refl (pairs-within most lists l parts.1)
  where
    parts : (nat_le (list_size y.pairs) most ≡ true) × (list_all (λ z. nat_le (list_size z.pairs) most) lists ≡ true)
    parts = and_parts (nat_le (list_size y.pairs) most) (list_all (λ z. nat_le (list_size z.pairs) most) lists) all

    le : list_size y.pairs ≤ most
    le = grind (arith, nat_tests, parts.0)

    by_test : (b : Bool) → (y.label == l) ≡ b → list_size (pairs_in lists l) ≤ most → list_size (pairs_in (y ∷ lists) l) ≤ most
    by_test true same rest = rw same le
    by_test false other rest = rw other rest

pub list-within : (most : ℕ) (graph : List Vertex) (v l : ℕ) → lists_within most graph ≡ true → size_of_list (vertex_at v graph) l ≤ most
list-within most [] v l all = omega arith
list-within most (x ∷ graph) v l all = by_test (x.number == v) refl (list-within most graph v l parts.1)
  where
    parts : (list_all (λ y. nat_le (list_size y.pairs) most) x.lists ≡ true) × (lists_within most graph ≡ true)
    parts = and_parts (list_all (λ y. nat_le (list_size y.pairs) most) x.lists) (lists_within most graph) all

    by_test : (b : Bool) → (x.number == v) ≡ b → size_of_list (vertex_at v graph) l ≤ most → size_of_list (vertex_at v (x ∷ graph)) l ≤ most
    by_test true same rest = rw same (pairs-within most x.lists l parts.0)
    by_test false other rest = rw other rest

-- the numbers of a whole graph rise
pub numbers-rise : (graph : List Vertex) → is_graph graph ≡ true → rise (numbers_of graph) ≡ true
numbers-rise graph whole = (and_parts (rise (numbers_of graph)) (list_all is_vertex graph) whole).0

-- A shard has loaded the vertices before the next one, and keeps nothing of those from there on.
pub record IsLoadedUpTo {L R : Type 0} (content : L → R → LogContent) (base : Base) (shard : Shard L R) (next : Option ℕ) : Type 0 where
  pub opened : (v : ℕ) → IsOf v shard → IsBefore v next → row_at content shard v ≡ opened_row base.epoch (vertex_at v base.graph)
  pub loaded : (v : ℕ) → IsOf v shard → IsBefore v next → IsSome (vertex_at v base.graph) → IsSome (kept_at shard.rows (v / shard.shards))
  pub absent : (v : ℕ) → IsOf v shard → IsFrom v next → kept_at shard.rows (v / shard.shards) ≡ None

-- what is nothing is not something
no-some : {A : Type 0} (o : Option A) → o ≡ None → IsSome o → ⊥
no-some None is some = let told : false ≡ true = some in cc
no-some (Some x) is some = cc

-- Nothing is kept yet.
pub upto-none : {L R : Type 0} (content : L → R → LogContent) (base : Base) (shard : Shard L R) → rise (numbers_of base.graph) ≡ true → ((n : ℕ) → kept_at shard.rows n ≡ None) →
    IsLoadedUpTo content base shard (first_from 0 (numbers_of base.graph))
upto-none {L = L} content base shard up none = record {
  opened = λ v own before.
      ap (λ (o : Option (VertexRow L)). row_kept content o shard.room) (none (v / shard.shards))
      ∙ sym (ap (opened_row base.epoch) (none-between base.graph 0 v up (omega arith) before));
  loaded = λ v own before some. absurd (no-some (vertex_at v base.graph) (none-between base.graph 0 v up (omega arith) before) some);
  absent = λ v own from. none (v / shard.shards);
}

-- A vertex is looked at, and loaded where it is the shard's: then all before the one after it are loaded.
pub upto-more : {L R : Type 0} (content : L → R → LogContent) (base : Base) (old new : Shard L R) (v : ℕ) → rise (numbers_of base.graph) ≡ true → IsLoadedUpTo content base old (Some v) →
    new.number ≡ old.number → new.shards ≡ old.shards →
    (IsOf v old → (row_at content new v ≡ opened_row base.epoch (vertex_at v base.graph)) × IsSome (kept_at new.rows (v / old.shards))) →
    ((w : ℕ) → IsOf w old → w ≢ v → (kept_at new.rows (w / old.shards) ≡ kept_at old.rows (w / old.shards)) × (row_at content new w ≡ row_at content old w)) →
    IsLoadedUpTo content base new (first_from (v + 1) (numbers_of base.graph))
upto-more {L = L} content base old new v up upto number shards here others = record {
  opened = λ w own before. opened_at w (was_own w own) before (compared w);
  loaded = λ w own before some. subst (λ (k : ℕ). IsSome (kept_at new.rows (w / k))) (sym shards) (loaded_at w (was_own w own) before some (compared w));
  absent = λ w own from.
      let over : v < w = after w (first_from (v + 1) (numbers_of base.graph)) refl from in
      let differ : w ≢ v = λ e. omega (arith, e, over) in
      subst (λ (k : ℕ). kept_at new.rows (w / k) ≡ None) (sym shards) ((others w (was_own w own) differ).0 ∙ upto.absent w (was_own w own) (omega (arith, over)));
}
  where
    was_own : (w : ℕ) → IsOf w new → IsOf w old
    was_own w own = ap (λ (k : ℕ). w % k) (sym shards) ∙ own ∙ number

    compared : (w : ℕ) → (w < v) ⊎ ((w ≡ v) ⊎ (v < w))
    compared w = by_test (nat_lt w v) (w == v) refl refl
      where
        by_test : (a b : Bool) → nat_lt w v ≡ a → (w == v) ≡ b → (w < v) ⊎ ((w ≡ v) ⊎ (v < w))
        by_test true b less same = inl (grind (arith, nat_tests, less))
        by_test false true less same = inr (inl (grind (arith, nat_tests, same)))
        by_test false false less same = inr (inr (grind (arith, nat_tests, less, same)))

    after : (w : ℕ) (next : Option ℕ) → first_from (v + 1) (numbers_of base.graph) ≡ next → IsFrom w next → v < w
    after w None is from = absurd from
    after w (Some m) is from = let le = first-from (v + 1) (numbers_of base.graph) m is in omega (arith, le, from)

    opened_at : (w : ℕ) → IsOf w old → IsBefore w (first_from (v + 1) (numbers_of base.graph)) → (w < v) ⊎ ((w ≡ v) ⊎ (v < w)) → row_at content new w ≡ opened_row base.epoch (vertex_at w base.graph)
    opened_at w own before (inl less) = (others w own (λ e. omega (arith, e, less))).1 ∙ upto.opened w own less
    opened_at w own before (inr (inl same)) =
        subst (λ (u : ℕ). row_at content new u ≡ opened_row base.epoch (vertex_at u base.graph)) (sym same) (here (subst (λ (u : ℕ). IsOf u old) same own)).0
    opened_at w own before (inr (inr more)) =
        (others w own (λ e. omega (arith, e, more))).1
        ∙ ap (λ (o : Option (VertexRow L)). row_kept content o old.room) (upto.absent w own (omega (arith, more)))
        ∙ sym (ap (opened_row base.epoch) (none-between base.graph (v + 1) w up (omega (arith, more)) before))

    loaded_at : (w : ℕ) → IsOf w old → IsBefore w (first_from (v + 1) (numbers_of base.graph)) → IsSome (vertex_at w base.graph) → (w < v) ⊎ ((w ≡ v) ⊎ (v < w)) → IsSome (kept_at new.rows (w / old.shards))
    loaded_at w own before some (inl less) = subst (λ (o : Option (VertexRow L)). IsSome o) (sym (others w own (λ e. omega (arith, e, less))).0) (upto.loaded w own less some)
    loaded_at w own before some (inr (inl same)) =
        subst (λ (u : ℕ). IsSome (kept_at new.rows (u / old.shards))) (sym same) (here (subst (λ (u : ℕ). IsOf u old) same own)).1
    loaded_at w own before some (inr (inr more)) = absurd (no-some (vertex_at w base.graph) (none-between base.graph (v + 1) w up (omega (arith, more)) before) some)
