use Rattle.std.proofs.Common.{ap, sym, ◌∙◌, drop, arith}
use Rattle.std.proofs.lemmas.List.{get_or_read_under}
use Rattle.reader_table.specs.declared.least.Least.{Least}
use Rattle.reader_table.specs.Leasts.{nothing, both, least_of}
use Rattle.reader_table.specs.Nodes.{Leaves}
use Rattle.reader_table.proofs.Roots.{leaves_root}
use Rattle.reader_table.proofs.Blanks.{least_of-take}
use Rattle.reader_table.proofs.index.Index.least.Goals as goal

pub returns : goal.returns
returns c =
    let some = c.if-self-eq0.false in
    let long = c.self.invariant.long in
    let kept = c.self.inside.nodes.ok.0 in
    c.and.ensures ∙ ap (both c.index.result.now) c.nothing-2.ensures
    ∙ ap (λ (x : Least). both x nothing) (get_or_read_under c.self.inside.nodes.items 1 c.self.inside.nodes.len c.index.result.now nothing c.index.ensures (omega arith) kept)
    ∙ sym (leaves_root c.self.inside.nodes.items c.self.inside.room (omega arith) (omega arith) c.self.invariant.gathered)
    ∙ least_of-take c.self.inside.len (drop c.self.inside.room c.self.inside.nodes.items) c.self.invariant.blank
    ∙ ap (λ (s : Leaves). least_of s.rows) c.self.view_is
