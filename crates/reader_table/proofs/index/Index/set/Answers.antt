use Rattle.std.proofs.Common.{length, drop, ap, ◌∙◌, arith}
use Rattle.std.proofs.Math.ListN.{set}
use Rattle.std.proofs.lemmas.List.{length-take}
use Rattle.reader_table.specs.Nodes.{Leaves}
use Rattle.reader_table.proofs.Views.{set_leaves}
use Rattle.reader_table.proofs.index.Index.set.Goals as goal

pub returns : goal.returns
returns c =
    set_leaves c.self.inside c.note.new.nodes c.args.row c.args.least
    (let v = ap (λ (s : Leaves). length s.rows) c.self.view_is in let t = length-take c.self.inside.len (drop c.self.inside.room c.self.inside.nodes.items) in omega (arith, v, t, c.requires))
    (c.note.auto.nodes ∙ c.deref_mut.ensures.len)
    (c.note.ensures.leaves ∙ ap (λ xs. set (drop c.self.inside.room xs) c.args.row c.args.least) c.deref_mut.ensures.value)
    ∙ ap (λ (s : Leaves). let t : Leaves = record { rows = set s.rows c.args.row c.args.least; room = s.room } in t) c.self.view_is
