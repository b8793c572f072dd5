use Rattle.std.proofs.Common.{◌≡◌, ◌≤◌, ℕ, List, length, sym, ap, subst, refl, ◌∙◌}
use Rattle.std.specs.Prelude.{Option, Some, None, IsSome}
use Rattle.graph_model.specs.Payload.{payload_most}
use Rattle.edge_log.specs.Entries.{Entry}
use Rattle.edge_log.specs.Places.{entry_at}
use Rattle.block_layout.specs.Sizes.{props_start}
use Rattle.block_layout.specs.Blocks.{HoldsEntries}
use Rattle.block_layout.proofs.AtPlaces.{row-fits}
use Rattle.tel_block.specs.Logs.{entries_of}
use Rattle.tel_block.proofs.log.TelBlock.payload_in.Goals as goal

pub from_slice-requires : goal.from_slice-requires
from_slice-requires c = by_entry (entry_at xs c.args.place) refl c.requires.there where
  xs : List Entry
  xs = entries_of c.args.self.now.block.order c.args.self.now.fill c.args.bytes.now

  at : c.props_start-start.result ≡ props_start c.args.self.now.block.order
  at = c.props_start-start.ensures ∙ ap props_start c.order.ensures

  held : HoldsEntries (c.props_start-start.result) xs c.args.bytes.now
  held = subst (λ (n : ℕ). HoldsEntries n xs c.args.bytes.now) (sym at) c.requires.is_log.filled.block.entries

  by_entry : (o : Option Entry) → entry_at xs c.args.place ≡ o → IsSome o → length c.payload-payload.result.now ≤ payload_most
  by_entry None said there = absurd (cc there)
  by_entry (Some x) said there = subst (λ (p : List ℕ). length p ≤ payload_most) (sym (c.payload-payload.ensures xs x held c.place_above-from.ensures.place said)) ((row-fits c.props_start-start.result c.args.place xs x c.args.bytes.now held said).len)
