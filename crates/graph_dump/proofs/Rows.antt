-- A worked graph, and its text.
use Rattle.std.proofs.Common.{◌≡◌, [], refl}
use Rattle.std.specs.Prelude.{codes}
use Rattle.std.specs.Fmt.{digits}
use Rattle.graph_model.specs.declared.change.Change.TheVariants.{New, Put}
use Rattle.graph_model.specs.Graph.{apply}
use Rattle.graph_dump.specs.DumpText.{text_of_graph}

printed : text_of_graph (apply (Put 1 5 7 []) (apply (Put 1 5 9 []) (apply (New 1 []) []))) 2
    ≡ codes "epoch 2\nvertex 1 -\nedge 1 5 7 -\nedge 1 5 9 -\nend 1 2\n"
unfolding digits
printed = refl
