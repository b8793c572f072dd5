use Rattle.std.proofs.Common.{ℕ, ◌≤◌, List, length, nat_le, nat_lt}
use Rattle.std.specs.Prelude.{◌&&◌}
use Rattle.edge_log.specs.Entries.{Entry}
use Rattle.tel_entry.specs.declared.header.Header.{Header}
use Rattle.tel_entry.specs.RawStamps.{stamp_of}
use Rattle.block_layout.specs.Blocks.{IsBlock}
use Rattle.block_writing.specs.Changed.{settled_entry, changed_where}
use Rattle.block_writing.proofs.changes.settle_from.Given as goal

abbrev pub invariant-loop-place : goal.invariant-loop-place
invariant-loop-place l =
    (order : ℕ) (h : Header) (f : List ℕ) (xs : List Entry) → IsBlock order h f xs l.fn.block → l.to ≤ length xs → IsBlock order h f
    (changed_where (λ n. nat_le l.from n && nat_lt n l.place) (settled_entry l.tid (stamp_of l.created) (stamp_of l.ended)) xs) l.block
