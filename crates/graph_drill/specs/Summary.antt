-- The summary of a drill: how many vertices and edges a graph has, the sum of the destinations, and how many commits were answered.
use Rattle.std.specs.Prelude.{ℕ, List, [], ◌∷◌, ◌++◌, length, sum_by, codes}
use Rattle.graph_model.specs.declared.pairs.Pair.{Pair}
use Rattle.graph_model.specs.Vertex.{Vertex, LabelList}
use Rattle.request_text.specs.Scripts.{number_word}
use Rattle.graph_dump.specs.Lines.{newline}
use Rattle.graph_dump.specs.DumpText.{edge_count}

-- the sum of the destinations of edges
abbrev pub pairs_sum : List Pair → ℕ
pairs_sum pairs = sum_by (λ edge. edge.d) pairs

-- the same of the lists of a vertex
abbrev pub lists_sum : List LabelList → ℕ
lists_sum lists = sum_by (λ list. pairs_sum list.pairs) lists

-- the same of a graph
abbrev pub destination_sum : List Vertex → ℕ
destination_sum graph = sum_by (λ x. lists_sum x.lists) graph

-- a name and a number behind it
abbrev pub count_words : List ℕ → ℕ → List ℕ
count_words name n = name ++ number_word n

-- the line of these numbers
abbrev pub summary_line : ℕ → ℕ → ℕ → ℕ → List ℕ
summary_line vertices edges sum commits =
    count_words (codes "drill vertices") vertices
    ++ (count_words (codes " edges") edges
    ++ (count_words (codes " sum") sum
    ++ (count_words (codes " commits") commits ++ newline)))

-- what `drill` prints of the graph after its run and the number of its commits
abbrev pub summary_text : List Vertex → ℕ → List ℕ
summary_text graph commits = summary_line (length graph) (edge_count graph) (destination_sum graph) commits
