use Rattle.std.proofs.Common.{◌≡◌, ℕ, List, [], length, map}
use Rattle.edge_log.specs.Entries.{Entry}
use Rattle.edge_log.specs.Places.{oldest}
use Rattle.edge_bloom.specs.Filters.{IsFilter, HasBitsOf}
use Rattle.block_layout.specs.Blocks.{HoldsEntries}
use Rattle.block_writing.proofs.copy.add_all.Given as goal

abbrev pub invariant-loop-place : goal.invariant-loop-place
invariant-loop-place l =
    record {
      is_filter : IsFilter l.filter;
      bits : (start : ℕ) (xs : List Entry) → HoldsEntries start xs l.from → length xs ≡ l.count → HasBitsOf l.fn.filter [] →
          HasBitsOf l.filter (map (λ (x : Entry). x.d) (oldest l.place xs));
    }
