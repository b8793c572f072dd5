use Rattle.std.proofs.Common.{◌∙◌, ◌+◌, length, ap}
use Rattle.std.specs.Prelude.{flat_map}
use Rattle.group_codec.specs.Spelling.{record_bytes}
use Rattle.group_codec.proofs.Lengths.{group_bytes-parts}
use Rattle.group_codec.proofs.encode.encode_group.Goals as goal

pub returns-clause-encoded : goal.returns-clause-encoded
returns-clause-encoded c =
    let records = c.args.records.now in
    let body = ap (flat_map record_bytes) c.as_slice-2.ensures in
    let len = ap (λ rs. 12 + length (flat_map record_bytes rs)) c.as_slice.ensures in
    let parts = group_bytes-parts c.args.epoch (12 + c.records_len-len.result) records (ap (λ n. 12 + n) c.records_len-len.ensures.len ∙ len) in
    let count = c.len.ensures in
    let head = c.group_head.ensures in
    let all = c.in_ok-push_records.ensures.pushed in
    let begun = c.in_ok-extend_from_slice.ensures in
    let none = c.new-out.ensures in
    rw (all, begun, none, head, count, body) parts
