use Rattle.std.proofs.Common.{List, sym, subst}
use Rattle.edge_log.specs.Entries.{Entry}
use Rattle.block_layout.specs.Blocks.{IsBlock}
use Rattle.block_writing.specs.Headers.{committed_header}
use Rattle.tel_block.proofs.PrivateFacts.{converted-none}
use Rattle.tel_block.proofs.changes.convert_bytes.Goals as goal

pub returns-else-tid-lt-PRIVATE : goal.returns-else-tid-lt-PRIVATE
returns-else-tid-lt-PRIVATE c = λ order h f xs b long reached.
    let P : List Entry → Type 0 = λ ys. IsBlock order (committed_header c.args.epoch c.args.fill.entries c.args.fill.props h) f ys c.commit_header.new.block in
    subst P (sym (converted-none c.args.tid c.args.epoch xs c.if-tid-lt-PRIVATE.false b.entries.fit)) (c.commit_header.ensures order h f xs b)
