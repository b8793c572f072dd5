use Rattle.std.proofs.Common.{◌∙◌}
use Rattle.std.proofs.lemmas.List.{drop-set-add}
use Rattle.reader_table.proofs.nodes.note.Goals as goal

pub returns-clause-leaves : goal.returns-clause-leaves
returns-clause-leaves c = c.loop-at.invariant.leaves ∙ drop-set-add c.args.room c.args.nodes.now c.args.row c.args.least
