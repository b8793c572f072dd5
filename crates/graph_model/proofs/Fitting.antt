-- Whether changes fit, told by whether the vertex of each is there, and the first that does not.
use Rattle.std.proofs.Common.{◌≡◌, ℕ, ◌+◌, ◌<◌, Bool, true, false, cond, ◌&&◌, List, [], ◌∷◌, ◌++◌, length, get_or, take, drop, refl, sym, ap, ◌∙◌, add-one, arith}
use Rattle.std.specs.Prelude.{◌==◌, Option, Some, None, is_some, unwrap_or}
use Rattle.std.specs.Ordering.{nat_cmp}
use Rattle.std.specs.BTreeMap.{is_at}
use Rattle.std.proofs.lemmas.Bool.Decides.{nat_tests}
use Rattle.std.proofs.Math.Seq.{take-suc}
use Rattle.std.proofs.lemmas.List.{take-append-drop}
use Rattle.graph_model.specs.declared.change.Change.{Change}
use Rattle.graph_model.specs.declared.change.Change.TheVariants.{New, Set, Drop, Put, Del}
use Rattle.graph_model.specs.declared.query.Query.{Query}
use Rattle.graph_model.specs.declared.query.Query.TheVariants as query
use Rattle.graph_model.specs.Vertex.{Vertex}
use Rattle.graph_model.specs.Change.{vertex_of}
use Rattle.graph_model.specs.Graph.{vertex_at, vertex_after, fits_at, fits, apply, after, all_fit, seen}
use Rattle.graph_model.specs.MapEntries.{Content, vertex_of_entry}
use Rattle.graph_model.specs.Applying.{fits_where, leaves_vertex}
use Rattle.graph_model.proofs.Vertices.{vertex_at-apply, after-append, each_step-append}
use Rattle.graph_model.proofs.Rising.{is_at-nat}
use Rattle.graph_model.proofs.Snapshots.{drop-item}

-- a change fits by whether its vertex is there
pub fits_at-where : (c : Change) (o : Option Vertex) → fits_at c o ≡ fits_where c (is_some o)
fits_at-where (New v p) None = refl
fits_at-where (New v p) (Some x) = refl
fits_at-where (Set v p) o = refl
fits_at-where (Drop v) o = refl
fits_at-where (Put v l d p) o = refl
fits_at-where (Del v l d) o = refl

-- and leaves it there or not
pub is_some-vertex_after : (c : Change) (o : Option Vertex) → fits_at c o ≡ true → is_some (vertex_after c o) ≡ leaves_vertex c
is_some-vertex_after (New v p) o fit = refl
is_some-vertex_after (Drop v) o fit = refl
is_some-vertex_after (Set v p) (Some x) fit = refl
is_some-vertex_after (Put v l d p) (Some x) fit = refl
is_some-vertex_after (Del v l d) (Some x) fit = refl
is_some-vertex_after (Set v p) None fit = (cc)
is_some-vertex_after (Put v l d p) None fit = (cc)
is_some-vertex_after (Del v l d) None fit = (cc)

-- the changes up to the next place are those up to this one, and the one here
pub take-item : {X : Type 0} (xs : List X) (i : ℕ) (x : X) → i < length xs → x ≡ get_or xs i x → take (i + 1) xs ≡ take i xs ++ x ∷ []
take-item xs i x within is = rw add-one (take-suc xs i x within ∙ ap (λ y. take i xs ++ y ∷ []) (sym is))

-- where a change does not fit after those before it, not all fit
pub all_fit-misfit : (changes : List Change) (i : ℕ) (c : Change) (g : List Vertex) → i < length changes → c ≡ get_or changes i c → fits c (after (take i changes) g) ≡ false → all_fit changes g ≡ false
all_fit-misfit changes i c g within is misfit =
    let rest = drop (i + 1) changes in
    ap (λ cs. all_fit cs g) (sym (take-append-drop i changes) ∙ ap (λ cs. take i changes ++ cs) (drop-item changes i c within is))
    ∙ each_step-append fits_at (take i changes) (c ∷ rest) g
    ∙ ap (λ b. all_fit (take i changes) g && (b && all_fit rest (apply c (after (take i changes) g)))) misfit ∙ never (all_fit (take i changes) g)
  where
    never : (b : Bool) → (b && false) ≡ false
    never true = refl
    never false = refl

-- one more change that fits
pub all_fit-more : (changes : List Change) (i : ℕ) (c : Change) (g : List Vertex) → i < length changes → c ≡ get_or changes i c → all_fit (take i changes) g ≡ true →
    fits c (after (take i changes) g) ≡ true → all_fit (take (i + 1) changes) g ≡ true
all_fit-more changes i c g within is before fit =
    ap (λ cs. all_fit cs g) (take-item changes i c within is) ∙ each_step-append fits_at (take i changes) (c ∷ []) g ∙ both _ _ before fit
  where
    both : (a b : Bool) → a ≡ true → b ≡ true → (a && (b && true)) ≡ true
    both a b p q = grind (arith, nat_tests)

-- and the graph after it
pub after-more : (changes : List Change) (i : ℕ) (c : Change) (g : List Vertex) → i < length changes → c ≡ get_or changes i c → after (take (i + 1) changes) g ≡ apply c (after (take i changes) g)
after-more changes i c g within is = ap (λ cs. after cs g) (take-item changes i c within is) ∙ after-append (take i changes) (c ∷ []) g

-- whether a vertex is there after a change that fits
pub is_some-apply : (q : ℕ) (c : Change) (g : List Vertex) → fits c g ≡ true → is_some (vertex_at q (apply c g)) ≡ cond (vertex_of c == q) (leaves_vertex c) (is_some (vertex_at q g))
is_some-apply q c g fit =
    ap is_some (vertex_at-apply q c g) ∙ elim (vertex_of c == q) as (λ b. is_some (cond b (vertex_after c (vertex_at (vertex_of c) g)) (vertex_at q g)) ≡ cond b (leaves_vertex c) (is_some (vertex_at q g))) [
      | true ↦ is_some-vertex_after c (vertex_at (vertex_of c) g) fit
      | false ↦ refl
    ]

-- a change of another vertex
pub vertex_at-other : (v : ℕ) (c : Change) (g : List Vertex) → (vertex_of c == v) ≡ false → vertex_at v (apply c g) ≡ vertex_at v g
vertex_at-other v c g other = vertex_at-apply v c g ∙ ap (λ b. cond b (vertex_after c (vertex_at (vertex_of c) g)) (vertex_at v g)) other

-- no query sees a vertex's number
pub seen-number : (q : Query) (m n : ℕ) (x : Content) → seen (Some (vertex_of_entry (m, x))) q ≡ seen (Some (vertex_of_entry (n, x))) q
seen-number (query.Vertex v) m n x = refl
seen-number (query.Edge v l d) m n x = refl
seen-number (query.Scan v l) m n x = refl
seen-number (query.Labels v) m n x = refl

-- what a map says of a vertex once a change of k has been noted in it
pub noted : (k v q : ℕ) (left here : Bool) (o : Option Bool) → k ≡ v → unwrap_or (cond (is_at (nat_cmp k) q) (Some left) o) here ≡ cond (v == q) left (unwrap_or o here)
noted k v q left here o same = let at = is_at-nat k q in grind (arith, nat_tests)
