use Rattle.std.proofs.Common.{◌≡◌, ◌/◌, ℕ, Some, subst}
use Rattle.number_map.specs.KeptAt.{kept_at}
use Rattle.graph_model.specs.declared.change.Change.TheVariants as change
use Rattle.core_states.specs.declared.event.Act.TheVariants as act
use Rattle.vertex_rows.specs.RowIn.{row_over}
use Rattle.shard_state.specs.declared.shard.Shard.{Shard}
use Rattle.shard_state.specs.Shards.{row_at, limits_with}
use Rattle.shard_state.specs.Says.{Changes, says_placed}
use Rattle.shard_state.proofs.OneRow.{IsChanged, is_changed, lent_here, lent_with, row_before, shard_same, same_kept}
use Rattle.shard_state.proofs.Events.{changes_at}
use Rattle.shard_state.proofs.changes.Shard+L+L+Room.put.Goals as goal
use Rattle.shard_state.proofs.changes.Shard+L+L+Room.put.Goals.{In-Some, After-put}
use Rattle.shard_state.proofs.changes.Shard+L+L+Room.put.Given.{Over}

-- the row is kept
here : (g : Over) (c : In-Some g) → kept_at c.args.self.now.rows (c.args.v / c.args.self.now.shards) ≡ Some c.in-Some.row.now
here g c = lent_here c.args.self.now.rows (c.args.v / c.args.self.now.shards) c.place-place.result c.get_mut.result c.in-Some.row c.place-place.ensures c.get_mut.ensures.value c.in-Some.is

pub put-requires-clause-stands : goal.put-requires-clause-stands
put-requires-clause-stands g c = c.requires.shard.rows.stand (c.args.v / c.args.self.now.shards) c.in-Some.row.now (here g (goal.at.put-requires-clause-stands g c).In-Some)

-- the shard afterwards, of which the row has changed alone
abbrev next : (g : Over) (c : After-put g) → Shard g.row.L.Denot g.row.L-Room.Denot
next g c = record c.args.self.now { rows = c.get_mut.follows.lender c.put.new.row; room = c.put.new.room }

changed : (g : Over) (c : After-put g) → kept_at c.args.self.now.rows (c.args.v / c.args.self.now.shards) ≡ Some c.in-Some.row.now →
    IsChanged g.L.EdgeLog.stands g.L.EdgeLog.footprint g.L.EdgeLog.content g.L.EdgeLog.limit c.args.self.now (next g c) c.args.v c.put.new.row
changed g c kept =
    let m = g.L.EdgeLog in
    let shard = c.args.self.now in
    let new = c.put.new.row in
    is_changed m.stands m.footprint m.content m.spare m.limit (m.blocks_out shard.room) shard (c.get_mut.follows.lender new) c.put.new.room c.args.v c.in-Some.row.now new
    (λ log standing. g.met.L.EdgeLog.lies_out log shard.room standing) c.requires.shard c.requires.own kept
    (lent_with shard.rows (c.get_mut.follows.lender new) (c.args.v / shard.shards) c.place-place.result c.in-Some.row.now new c.place-place.ensures kept (c.get_mut.follows.holds new))
    c.put.ensures.alone

pub returns-in-Some-clause-shard : goal.returns-in-Some-clause-shard
returns-in-Some-clause-shard g c =
    let at = goal.at.returns-in-Some-clause-shard g c in
    (changed g at.After-put (here g at.In-Some)).shard_is

pub returns-in-Some-clause-same : goal.returns-in-Some-clause-same
returns-in-Some-clause-same g c =
    let at = goal.at.returns-in-Some-clause-same g c in
    (changed g at.After-put (here g at.In-Some)).same

pub returns-in-Some-clause-keeps : goal.returns-in-Some-clause-keeps
returns-in-Some-clause-keeps g c =
    let at = goal.at.returns-in-Some-clause-keeps g c in
    (changed g at.After-put (here g at.In-Some)).others

pub returns-in-Some-clause-event : goal.returns-in-Some-clause-event
returns-in-Some-clause-event g c =
    let at = goal.at.returns-in-Some-clause-event g c in
    let m = g.L.EdgeLog in
    let shard = c.args.self.now in
    let row = c.in-Some.row.now in
    let kept = here g at.In-Some in
    changes_at (limits_with shard.log_most) c.args.who.now (act.Put c.args.v c.args.l c.args.d c.args.p.now) (change.Put c.args.v c.args.l c.args.d c.args.p.now) (row_at m.content shard c.args.v) (row_over m.content row shard.room) (row_at m.content (next g at.After-put) c.args.v) (row_over m.content c.put.new.row c.put.new.room) (says_placed c.put.result)
    (row_before m.content shard c.args.v row kept) (changed g at.After-put kept).now
    (subst (λ (most : ℕ). Changes (limits_with most) c.args.who.now (act.Put c.args.v c.args.l c.args.d c.args.p.now) (change.Put c.args.v c.args.l c.args.d c.args.p.now) (row_over m.content row shard.room) (says_placed c.put.result) (row_over m.content c.put.new.row c.put.new.room))
    (c.requires.shard.rows.limits (c.args.v / shard.shards) row kept) (c.put.ensures.event))

pub returns-in-None-clause-shard : goal.returns-in-None-clause-shard
returns-in-None-clause-shard g c =
    let m = g.L.EdgeLog in
    shard_same m.stands m.footprint m.content m.limit c.args.self.now c.get_mut.follows.lender-at-none c.get_mut.follows.holds-at-none c.requires.shard

pub returns-in-None-clause-same : goal.returns-in-None-clause-same
returns-in-None-clause-same g c = same_kept c.args.self.now c.get_mut.follows.lender-at-none c.get_mut.follows.holds-at-none
