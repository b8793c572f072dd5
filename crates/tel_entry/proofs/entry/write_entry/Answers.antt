use Rattle.std.proofs.Common.{◌≤◌, ◌++◌, length, drop, ap, ◌∙◌, arith, append_assoc}
use Rattle.tel_entry.proofs.FieldWrites.{write_first, write_u64_more, write_u32_more}
use Rattle.tel_entry.proofs.entry.write_entry.Goals as goal

pub returns : goal.returns
returns c =
    let within : 28 ≤ length c.args.buf.now = c.requires in
    let d = write_first c.args.e.now.d c.args.buf.now (omega arith) c.write_u64.ensures in
    let created = write_u64_more c.args.e.now.created c.write_u64-2.new.buf d (omega arith) c.write_u64-2.ensures in
    let ended = write_u64_more c.args.e.now.ended c.write_u64-3.new.buf created (omega arith) c.write_u64-3.ensures in
    let len = write_u32_more c.args.e.now.len c.write_u32.new.buf ended (omega arith) c.write_u32.ensures in
    len.is ∙ ap (λ bytes. bytes ++ drop 28 c.args.buf.now) (simp append_assoc)
