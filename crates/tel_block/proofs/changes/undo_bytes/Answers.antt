use Rattle.std.proofs.Common.{List, sym, subst}
use Rattle.edge_log.specs.Entries.{Entry}
use Rattle.edge_log.specs.Places.{oldest}
use Rattle.block_layout.specs.Blocks.{IsBlock}
use Rattle.block_layout.proofs.Blocked.{block-oldest}
use Rattle.tel_block.proofs.PrivateFacts.{cleared-none}
use Rattle.tel_block.proofs.changes.undo_bytes.Goals as goal

pub returns-else-tid-lt-PRIVATE : goal.returns-else-tid-lt-PRIVATE
returns-else-tid-lt-PRIVATE c = λ order h f xs b few reached.
    let ys : List Entry = oldest c.args.committed xs in
    let cut : IsBlock order h f ys c.args.bytes.now = block-oldest order h f c.args.committed xs c.args.bytes.now b in
    let P : List Entry → Type 0 = λ zs. IsBlock order h f zs c.args.bytes.now in
    subst P (sym (cleared-none c.args.tid ys c.if-tid-lt-PRIVATE.false cut.entries.fit)) cut
