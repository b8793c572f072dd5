use Rattle.std.proofs.Common.{ℕ, ◌<◌, List}
use Rattle.std.specs.Prelude.{IfSome}
use Rattle.stamps.specs.Stamps.{Txn}
use Rattle.edge_log.specs.Entries.{Entry}
use Rattle.place_index.specs.Chains.{places_of}
use Rattle.block_layout.specs.Blocks.{HoldsEntries}
use Rattle.block_index.specs.Noted.{IsIndexed}
use Rattle.block_index.proofs.FindLemmas.{left_from, GoesOn}
use Rattle.block_index.proofs.finds.find.Given as goal

abbrev pub invariant-loop-next : goal.invariant-loop-next
invariant-loop-next l = record {
  there : IfSome l.next (λ p. p < places_of l.index);
  goes_on : (start : ℕ) (xs : List Entry) → HoldsEntries start xs l.block → IsIndexed l.index xs → GoesOn start l.block l.index l.next l.d l.read (Txn l.tid) xs;
}

abbrev pub decreases-loop-next : goal.decreases-loop-next
decreases-loop-next l = left_from l.next
