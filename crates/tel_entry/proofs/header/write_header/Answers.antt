use Rattle.std.proofs.Common.{◌≤◌, ◌++◌, length, drop, ap, ◌∙◌, arith, append_assoc}
use Rattle.tel_entry.proofs.FieldWrites.{write_first, write_byte, write_u64_more, write_u32_more, write_u16_more}
use Rattle.tel_entry.proofs.header.write_header.Goals as goal

pub returns : goal.returns
returns c =
    let within : 36 ≤ length c.args.buf.now = c.requires in
    let source = write_first c.args.h.now.source c.args.buf.now (omega arith) c.write_u64.ensures in
    let label = write_u16_more c.args.h.now.label c.write_u16.new.buf source (omega arith) c.write_u16.ensures in
    let order = write_byte c.args.h.now.order label (omega arith) in
    let flags = write_byte c.args.h.now.flags order (omega arith) in
    let epoch = write_u64_more c.args.h.now.epoch c.write_u64-2.new.buf flags (omega arith) c.write_u64-2.ensures in
    let entries = write_u32_more c.args.h.now.entries c.write_u32.new.buf epoch (omega arith) c.write_u32.ensures in
    let props = write_u32_more c.args.h.now.props c.write_u32-2.new.buf entries (omega arith) c.write_u32-2.ensures in
    let previous = write_u64_more c.args.h.now.previous c.write_u64-3.new.buf props (omega arith) c.write_u64-3.ensures in
    previous.is ∙ ap (λ bytes. bytes ++ drop 36 c.args.buf.now) (simp append_assoc)
