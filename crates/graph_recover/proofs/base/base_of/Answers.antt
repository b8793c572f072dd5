use Rattle.std.proofs.Common.{map, ap, ◌∙◌, arith}
use Rattle.graph_model.specs.Records.{made_vertices, all_changes}
use Rattle.graph_recover.specs.Bases.{greatest_of}
use Rattle.graph_recover.proofs.Greatest.{numbers-below, made-below}
use Rattle.graph_recover.proofs.base.base_of.Goals as goal

pub overflow_add-next_tid : goal.overflow_add-next_tid
overflow_add-next_tid c =
    let is = c.greatest_number-next_tid.ensures ∙ ap (λ rs. greatest_of (map (λ r. r.tid) rs)) c.as_slice-records.ensures in
    omega (arith, is, numbers-below c.args.records.now c.requires.lawful.each)

pub overflow_add-next_vertex : goal.overflow_add-next_vertex
overflow_add-next_vertex c =
    let is = c.greatest_vertex-next_vertex.ensures ∙ ap (λ rs. greatest_of (made_vertices (all_changes rs))) c.as_slice-records.ensures in
    omega (arith, is, made-below c.args.records.now c.requires.lawful.made)
