-- Trees and chunks as lists of numbers, by which proofs tell them apart.
use Rattle.std.specs.Prelude.{ℕ, zero, suc, ◌≡◌, List, [], ◌∷◌, refl}
use Rattle.std.specs.Coded.{Coded, code_by, coded×, coded_ℕ, coded_list}
use Rattle.std.proofs.Common.{ap, ◌∙◌}
use Rattle.block_pool.specs.Trees.{Tree, Free, Out, Split}
use Rattle.block_pool.specs.Pools.{ChunkContent}

-- the tree in front of other numbers: its halves, and then that it is cut
abbrev pub spell : Tree → List ℕ → List ℕ
spell Free rest = 0 ∷ rest
spell Out rest = 1 ∷ rest
spell (Split l u) rest = spell l (spell u (2 ∷ rest))

-- the trees that numbers spell, on top of those before them
abbrev pub read_trees : List ℕ → List Tree → List Tree
read_trees [] trees = trees
read_trees (zero ∷ xs) trees = read_trees xs (Free ∷ trees)
read_trees (suc zero ∷ xs) trees = read_trees xs (Out ∷ trees)
read_trees (suc (suc n) ∷ xs) [] = []
read_trees (suc (suc n) ∷ xs) (u ∷ []) = []
read_trees (suc (suc n) ∷ xs) (u ∷ (l ∷ trees)) = read_trees xs (Split l u ∷ trees)

pub read_trees-spell : (t : Tree) (rest : List ℕ) (trees : List Tree) → read_trees (spell t rest) trees ≡ read_trees rest (t ∷ trees)
read_trees-spell Free rest trees = refl
read_trees-spell Out rest trees = refl
read_trees-spell (Split l u) rest trees = read_trees-spell l (spell u (2 ∷ rest)) trees ∙ read_trees-spell u (2 ∷ rest) (l ∷ trees)

abbrev pub top_of : List Tree → Tree
top_of [] = Free
top_of (t ∷ trees) = t

abbrev pub tree_code : Coded Tree
tree_code = code_by (List ℕ) (coded_list coded_ℕ) (λ t. spell t []) (λ xs. top_of (read_trees xs [])) (λ t. ap top_of (read_trees-spell t [] []))

abbrev pub chunk_code : Coded ChunkContent
chunk_code =
    code_by (ℕ × (List ℕ × Tree)) (coded× coded_ℕ (coded× (coded_list coded_ℕ) tree_code))
    (λ x. (x.order, (x.bytes, x.tree))) (λ p. record { order = p.0; bytes = p.1.0; tree = p.1.1 }) (λ _. refl)
