use Rattle.std.proofs.Common.{sym, ap, ◌∙◌, arith}
use Rattle.std.specs.List.{list_all}
use Rattle.std.proofs.lemmas.Result.{on_ok_weaker}
use Rattle.group_codec.specs.Spelling.{has_fields}
use Rattle.group_codec.proofs.Lengths.{length-le-encoded_lens, is_within-lens, is_within-parts}
use Rattle.group_codec.proofs.Fronts.{is_spelled-from}
use Rattle.group_codec.proofs.encode.push_record.Goals as goal

pub overflow_cast-count : goal.overflow_cast-count
overflow_cast-count c =
    omega (arith, c.len-count.ensures, length-le-encoded_lens c.args.committed.now.changes, is_within-lens c.args.epoch c.args.committed.now c.requires)

pub returns-clause-fields : goal.returns-clause-fields
returns-clause-fields c =
    let r = c.args.committed.now in
    let parts = is_within-parts c.args.epoch r c.requires in
    on_ok_weaker c.push_changes.result
    (λ all. is_spelled-from c.args.epoch r parts.0 c.push_head.ensures.fields.0 c.push_head.ensures.fields.1 parts.1 (omega (arith, length-le-encoded_lens r.changes, is_within-lens c.args.epoch r c.requires))
    (ap (list_all has_fields) (sym c.as_slice.ensures) ∙ all))
    c.push_changes.ensures.fields
