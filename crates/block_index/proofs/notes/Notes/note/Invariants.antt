use Rattle.std.proofs.Common.{◌≡◌, ℕ, List, length}
use Rattle.std.specs.Prelude.{vec_len}
use Rattle.edge_log.specs.Entries.{Entry, payload_sum}
use Rattle.edge_log.specs.Places.{oldest}
use Rattle.place_index.specs.Chains.{HasSlots, places_of}
use Rattle.block_layout.specs.Blocks.{HoldsEntries}
use Rattle.block_index.specs.Noted.{AreNoted, HasRoomFor}
use Rattle.block_index.proofs.notes.Notes.note.Given as goal

abbrev pub invariant-loop-place : goal.invariant-loop-place
invariant-loop-place l = record {
  slots : HasSlots l.self.places;
  places : places_of l.self.places ≡ l.place;
  props : vec_len l.self.props ≡ l.place;
  room : (n : ℕ) → HasRoomFor n l.fn.self → HasRoomFor n l.self;
  noted : (start : ℕ) (xs : List Entry) → HoldsEntries start xs l.block → length xs ≡ l.count → (l.props ≡ payload_sum (oldest l.place xs)) × AreNoted l.self (oldest l.place xs);
}
