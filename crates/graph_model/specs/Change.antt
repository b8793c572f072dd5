-- What a change names, and how long it is.
use Rattle.std.specs.Prelude.{ℕ, ◌+◌, ◌==◌, ◌&&◌, if◌then◌else◌, List, length, sum_by}
use Rattle.graph_model.specs.declared.change.Change.{Change}
use Rattle.graph_model.specs.declared.change.Change.TheVariants.{New, Set, Drop, Put, Del}

-- the one vertex that a change touches
abbrev pub vertex_of : Change → ℕ
vertex_of (New v p) = v
vertex_of (Set v p) = v
vertex_of (Drop v) = v
vertex_of (Put v l d p) = v
vertex_of (Del v l d) = v

-- how many bytes a change is encoded in
abbrev pub encoded_len : Change → ℕ
encoded_len (New v p) = 11 + length p
encoded_len (Set v p) = 11 + length p
encoded_len (Drop v) = 9
encoded_len (Put v l d p) = 21 + length p
encoded_len (Del v l d) = 19

-- how many bytes these changes are encoded in
abbrev pub encoded_lens : List Change → ℕ
encoded_lens changes = sum_by encoded_len changes

-- what an edge with a payload of this length takes in its log
abbrev pub edge_size : List ℕ → ℕ
edge_size payload = 28 + length payload

-- what a change adds to the log of a vertex and a label: the size of a Put there
abbrev pub size_at : ℕ → ℕ → Change → ℕ
size_at vertex label (Put v l d p) = if v == vertex && l == label then edge_size p else 0
size_at vertex label change = 0

-- the sizes of all Puts on a vertex and a label
abbrev pub put_sizes : ℕ → ℕ → List Change → ℕ
put_sizes vertex label changes = sum_by (size_at vertex label) changes
