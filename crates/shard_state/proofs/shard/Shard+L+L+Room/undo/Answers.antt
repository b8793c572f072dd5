use Rattle.std.proofs.Common.{◌≡◌, ◌/◌, Some, ap, sym, ◌∙◌}
use Rattle.number_map.specs.KeptAt.{kept_at}
use Rattle.core_rows.specs.Rows.{undo_row}
use Rattle.shard_state.specs.declared.shard.Shard.{Shard}
use Rattle.shard_state.specs.Shards.{row_at, limits_with}
use Rattle.shard_state.proofs.OneRow.{IsChanged, is_changed, lent_here, lent_with, row_before, alone_in_place}
use Rattle.shard_state.proofs.Events.{undoes}
use Rattle.shard_state.proofs.shard.Shard+L+L+Room.undo.Goals as goal
use Rattle.shard_state.proofs.shard.Shard+L+L+Room.undo.Goals.{In-Some, After-undo}
use Rattle.shard_state.proofs.shard.Shard+L+L+Room.undo.Given.{Over}

-- the row is kept
here : (g : Over) (c : In-Some g) → kept_at c.args.self.now.rows (c.args.v / c.args.self.now.shards) ≡ Some c.in-Some.row.now
here g c = lent_here c.args.self.now.rows (c.args.v / c.args.self.now.shards) c.place-place.result c.get_mut.result c.in-Some.row c.place-place.ensures c.get_mut.ensures.value c.in-Some.is

pub undo-requires-clause-stands : goal.undo-requires-clause-stands
undo-requires-clause-stands g c = c.requires.shard.rows.stand (c.args.v / c.args.self.now.shards) c.in-Some.row.now (here g (goal.at.undo-requires-clause-stands g c).In-Some)

-- the shard afterwards, of which the row has changed alone
abbrev next : (g : Over) (c : After-undo g) → Shard g.row.L.Denot g.row.L-Room.Denot
next g c = record c.args.self.now { rows = c.get_mut.follows.lender c.undo.new.self; room = c.undo.new.room }

changed : (g : Over) (c : After-undo g) → kept_at c.args.self.now.rows (c.args.v / c.args.self.now.shards) ≡ Some c.in-Some.row.now →
    IsChanged g.L.EdgeLog.stands g.L.EdgeLog.footprint g.L.EdgeLog.content g.L.EdgeLog.limit c.args.self.now (next g c) c.args.v c.undo.new.self
changed g c kept =
    let m = g.L.EdgeLog in
    let shard = c.args.self.now in
    let new = c.undo.new.self in
    is_changed m.stands m.footprint m.content m.spare m.limit (m.blocks_out shard.room) shard (c.get_mut.follows.lender new) c.undo.new.room c.args.v c.in-Some.row.now new
    (λ log standing. g.met.L.EdgeLog.lies_out log shard.room standing) c.requires.shard c.requires.own kept
    (lent_with shard.rows (c.get_mut.follows.lender new) (c.args.v / shard.shards) c.place-place.result c.in-Some.row.now new c.place-place.ensures kept (c.get_mut.follows.holds new))
    (alone_in_place m.stands m.footprint m.content m.spare m.limit (m.blocks_out shard.room) c.in-Some.row.now new shard.room c.undo.new.room c.undo.ensures.stands c.undo.ensures.limit c.undo.ensures.blocks.0 c.undo.ensures.keeps_logs)

pub returns-in-Some-clause-shard : goal.returns-in-Some-clause-shard
returns-in-Some-clause-shard g c =
    let at = goal.at.returns-in-Some-clause-shard g c in
    (changed g at.After-undo (here g at.In-Some)).shard_is

pub returns-in-Some-clause-same : goal.returns-in-Some-clause-same
returns-in-Some-clause-same g c =
    let at = goal.at.returns-in-Some-clause-same g c in
    (changed g at.After-undo (here g at.In-Some)).same

pub returns-in-Some-clause-keeps : goal.returns-in-Some-clause-keeps
returns-in-Some-clause-keeps g c =
    let at = goal.at.returns-in-Some-clause-keeps g c in
    (changed g at.After-undo (here g at.In-Some)).others

undone : (g : Over) (c : After-undo g) → kept_at c.args.self.now.rows (c.args.v / c.args.self.now.shards) ≡ Some c.in-Some.row.now →
    row_at g.L.EdgeLog.content (next g c) c.args.v ≡ undo_row c.args.tid (row_at g.L.EdgeLog.content c.args.self.now c.args.v)
undone g c kept =
    (changed g c kept).now ∙ c.undo.ensures.undone ∙ ap (undo_row c.args.tid) (sym (row_before g.L.EdgeLog.content c.args.self.now c.args.v c.in-Some.row.now kept))

pub returns-in-Some-clause-undone : goal.returns-in-Some-clause-undone
returns-in-Some-clause-undone g c =
    let at = goal.at.returns-in-Some-clause-undone g c in
    undone g at.After-undo (here g at.In-Some)

pub returns-in-Some-clause-event : goal.returns-in-Some-clause-event
returns-in-Some-clause-event g c =
    let at = goal.at.returns-in-Some-clause-event g c in
    let row = row_at g.L.EdgeLog.content in
    undoes (limits_with c.args.self.now.log_most) c.args.v c.args.tid (row c.args.self.now c.args.v) (row (next g at.After-undo) c.args.v) (undone g at.After-undo (here g at.In-Some))
