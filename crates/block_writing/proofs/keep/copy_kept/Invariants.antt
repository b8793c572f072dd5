use Rattle.std.proofs.Common.{◌≡◌, ℕ, ◌+◌, IsTrue, List, [], length}
use Rattle.edge_log.specs.Entries.{kept, payload_sum}
use Rattle.edge_log.specs.Places.{oldest}
use Rattle.tel_entry.specs.declared.header.Header.{Header}
use Rattle.edge_bloom.specs.Filters.{HasBitsOf}
use Rattle.block_layout.specs.Sizes.{has_filter, props_start}
use Rattle.block_layout.specs.Blocks.{IsBlock}
use Rattle.block_writing.specs.Filters.{filter_in}
use Rattle.block_writing.specs.Spelled.{spelled}
use Rattle.block_writing.proofs.Copied.{destinations}
use Rattle.block_writing.proofs.keep.copy_kept.Given as goal

abbrev pub invariant-loop-place : goal.invariant-loop-place
invariant-loop-place l =
    record {
      place : l.at ≡ props_start l.from_order + payload_sum (oldest l.place (spelled l.from_order l.fn.fill l.from));
      entries : length (kept l.horizon (oldest l.place (spelled l.from_order l.fn.fill l.from))) ≡ l.kept.entries;
      props : payload_sum (kept l.horizon (oldest l.place (spelled l.from_order l.fn.fill l.from))) ≡ l.kept.props;
      block : (h : Header) (f : List ℕ) → IsBlock l.order h f [] l.fn.to →
          IsBlock l.order h (filter_in l.order l.to) (kept l.horizon (oldest l.place (spelled l.from_order l.fn.fill l.from))) l.to;
      bits : IsTrue (has_filter l.order) → HasBitsOf (filter_in l.order l.fn.to) [] →
          HasBitsOf (filter_in l.order l.to) (destinations (kept l.horizon (oldest l.place (spelled l.from_order l.fn.fill l.from))));
    }
