use Rattle.std.proofs.Common.{◌≡◌, ◌/◌, Some, ap, sym, ◌∙◌, subst, false}
use Rattle.number_map.specs.KeptAt.{kept_at}
use Rattle.core_rows.specs.Rows.{apply_row, undo_row}
use Rattle.shard_state.specs.declared.shard.Shard.{Shard}
use Rattle.shard_state.specs.Shards.{row_at, limits_with}
use Rattle.shard_state.proofs.OneRow.{IsChanged, is_changed, lent_here, lent_with, row_before, alone_in_place}
use Rattle.shard_state.proofs.Events.{applies}
use Rattle.shard_state.proofs.shard.Shard+L+L+Room.apply.Goals as goal
use Rattle.shard_state.proofs.shard.Shard+L+L+Room.apply.Goals.{In-Some, After-apply}
use Rattle.shard_state.proofs.shard.Shard+L+L+Room.apply.Given.{Over}

-- the row is kept
here : (g : Over) (c : In-Some g) → kept_at c.args.self.now.rows (c.args.v / c.args.self.now.shards) ≡ Some c.in-Some.row.now
here g c = lent_here c.args.self.now.rows (c.args.v / c.args.self.now.shards) c.place-place.result c.get_mut.result c.in-Some.row c.place-place.ensures c.get_mut.ensures.value c.in-Some.is

pub apply-requires-clause-stands : goal.apply-requires-clause-stands
apply-requires-clause-stands g c = c.requires.shard.rows.stand (c.args.v / c.args.self.now.shards) c.in-Some.row.now (here g (goal.at.apply-requires-clause-stands g c).In-Some)

pub apply-requires-clause-told : goal.apply-requires-clause-told
apply-requires-clause-told g c unchanged =
    subst (λ row. undo_row c.args.tid row ≡ apply_row c.args.tid c.args.epoch false row)
    (row_before g.L.EdgeLog.content c.args.self.now c.args.v c.in-Some.row.now (here g (goal.at.apply-requires-clause-told g c).In-Some)) (c.requires.told unchanged)

-- the shard afterwards, of which the row has changed alone
abbrev next : (g : Over) (c : After-apply g) → Shard g.row.L.Denot g.row.L-Room.Denot
next g c = record c.args.self.now { rows = c.get_mut.follows.lender c.apply.new.self; room = c.apply.new.room }

changed : (g : Over) (c : After-apply g) → kept_at c.args.self.now.rows (c.args.v / c.args.self.now.shards) ≡ Some c.in-Some.row.now →
    IsChanged g.L.EdgeLog.stands g.L.EdgeLog.footprint g.L.EdgeLog.content g.L.EdgeLog.limit c.args.self.now (next g c) c.args.v c.apply.new.self
changed g c kept =
    let m = g.L.EdgeLog in
    let shard = c.args.self.now in
    let new = c.apply.new.self in
    is_changed m.stands m.footprint m.content m.spare m.limit (m.blocks_out shard.room) shard (c.get_mut.follows.lender new) c.apply.new.room c.args.v c.in-Some.row.now new
    (λ log standing. g.met.L.EdgeLog.lies_out log shard.room standing) c.requires.shard c.requires.own kept
    (lent_with shard.rows (c.get_mut.follows.lender new) (c.args.v / shard.shards) c.place-place.result c.in-Some.row.now new c.place-place.ensures kept (c.get_mut.follows.holds new))
    (alone_in_place m.stands m.footprint m.content m.spare m.limit (m.blocks_out shard.room) c.in-Some.row.now new shard.room c.apply.new.room c.apply.ensures.stands c.apply.ensures.limit c.apply.ensures.blocks.0 c.apply.ensures.keeps_logs)

pub returns-in-Some-clause-shard : goal.returns-in-Some-clause-shard
returns-in-Some-clause-shard g c =
    let at = goal.at.returns-in-Some-clause-shard g c in
    (changed g at.After-apply (here g at.In-Some)).shard_is

pub returns-in-Some-clause-same : goal.returns-in-Some-clause-same
returns-in-Some-clause-same g c =
    let at = goal.at.returns-in-Some-clause-same g c in
    (changed g at.After-apply (here g at.In-Some)).same

pub returns-in-Some-clause-keeps : goal.returns-in-Some-clause-keeps
returns-in-Some-clause-keeps g c =
    let at = goal.at.returns-in-Some-clause-keeps g c in
    (changed g at.After-apply (here g at.In-Some)).others

applied : (g : Over) (c : After-apply g) → kept_at c.args.self.now.rows (c.args.v / c.args.self.now.shards) ≡ Some c.in-Some.row.now →
    row_at g.L.EdgeLog.content (next g c) c.args.v ≡ apply_row c.args.tid c.args.epoch c.args.changed (row_at g.L.EdgeLog.content c.args.self.now c.args.v)
applied g c kept =
    (changed g c kept).now ∙ c.apply.ensures.applied ∙ ap (apply_row c.args.tid c.args.epoch c.args.changed) (sym (row_before g.L.EdgeLog.content c.args.self.now c.args.v c.in-Some.row.now kept))

pub returns-in-Some-clause-applied : goal.returns-in-Some-clause-applied
returns-in-Some-clause-applied g c =
    let at = goal.at.returns-in-Some-clause-applied g c in
    applied g at.After-apply (here g at.In-Some)

pub returns-in-Some-clause-event : goal.returns-in-Some-clause-event
returns-in-Some-clause-event g c =
    let at = goal.at.returns-in-Some-clause-event g c in
    let row = row_at g.L.EdgeLog.content in
    applies (limits_with c.args.self.now.log_most) c.args.v c.args.tid c.args.epoch c.args.changed (row c.args.self.now c.args.v) (row (next g at.After-apply) c.args.v) (applied g at.After-apply (here g at.In-Some))
