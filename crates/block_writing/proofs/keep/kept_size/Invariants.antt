use Rattle.std.proofs.Common.{◌≡◌, ℕ, ◌*◌, ◌≤◌, List, length}
use Rattle.edge_log.specs.Entries.{Entry, kept, payload_sum}
use Rattle.edge_log.specs.Places.{oldest}
use Rattle.block_layout.specs.Blocks.{HoldsEntries}
use Rattle.block_writing.proofs.keep.kept_size.Given as goal

abbrev pub invariant-loop-place : goal.invariant-loop-place
invariant-loop-place l =
    record {
      few : l.entries ≤ l.place;
      small : l.props ≤ 4294967295 * l.place;
      counted : (start : ℕ) (xs : List Entry) → HoldsEntries start xs l.from → l.count ≤ length xs →
          (length (kept l.horizon (oldest l.place xs)) ≡ l.entries) × (payload_sum (kept l.horizon (oldest l.place xs)) ≡ l.props);
    }
