use Rattle.std.proofs.Common.{◌≡◌, ◌/◌, Some, refl, ap, sym, subst, ◌∙◌}
use Rattle.number_map.specs.KeptAt.{kept_at}
use Rattle.core_rows.specs.Rows.{push_row}
use Rattle.vertex_rows.specs.RowIn.{row_over}
use Rattle.shard_state.specs.declared.shard.Shard.{Shard}
use Rattle.shard_state.specs.Shards.{row_at, limits_with, IsShard, SameShard}
use Rattle.shard_state.proofs.OneRow.{IsChanged, is_changed, lent_here, lent_with, row_before, shard_same, same_kept, alone_in_place, is_new}
use Rattle.shard_state.proofs.Events.{makes, map_ok, map_err, on_either}
use Rattle.shard_state.proofs.changes.Shard+L+L+Room.new_vertex.Goals as goal
use Rattle.shard_state.proofs.changes.Shard+L+L+Room.new_vertex.Goals.{In-Some, After-make_vertex}
use Rattle.shard_state.proofs.changes.Shard+L+L+Room.new_vertex.Given.{Over}

-- the row is kept
here : (g : Over) (c : In-Some g) → kept_at c.args.self.now.rows (c.args.v / c.args.self.now.shards) ≡ Some c.in-Some.row.now
here g c = lent_here c.args.self.now.rows (c.args.v / c.args.self.now.shards) c.place-place.result c.get_mut.result c.in-Some.row c.place-place.ensures c.get_mut.ensures.value c.in-Some.is

-- the shard afterwards, of which the row has changed alone
abbrev next : (g : Over) (c : After-make_vertex g) → Shard g.row.L.Denot g.row.L-Room.Denot
next g c = record c.args.self.now { rows = c.get_mut.follows.lender c.make_vertex.new.row }

changed : (g : Over) (c : After-make_vertex g) → kept_at c.args.self.now.rows (c.args.v / c.args.self.now.shards) ≡ Some c.in-Some.row.now →
    IsChanged g.L.EdgeLog.stands g.L.EdgeLog.footprint g.L.EdgeLog.content g.L.EdgeLog.limit c.args.self.now (next g c) c.args.v c.make_vertex.new.row
changed g c kept =
    let m = g.L.EdgeLog in
    let shard = c.args.self.now in
    let new = c.make_vertex.new.row in
    is_changed m.stands m.footprint m.content m.spare m.limit (m.blocks_out shard.room) shard (c.get_mut.follows.lender new) shard.room c.args.v c.in-Some.row.now new
    (λ log standing. g.met.L.EdgeLog.lies_out log shard.room standing) c.requires.shard c.requires.own kept
    (lent_with shard.rows (c.get_mut.follows.lender new) (c.args.v / shard.shards) c.place-place.result c.in-Some.row.now new c.place-place.ensures kept (c.get_mut.follows.holds new))
    (alone_in_place m.stands m.footprint m.content m.spare m.limit (m.blocks_out shard.room) c.in-Some.row.now new shard.room shard.room
    (c.make_vertex.ensures.stands shard.room (c.requires.shard.rows.stand (c.args.v / shard.shards) c.in-Some.row.now kept)) c.make_vertex.ensures.limit c.make_vertex.ensures.blocks (λ log standing apart. (standing, refl, refl)))

pub returns-in-Some-clause-shard : goal.returns-in-Some-clause-shard
returns-in-Some-clause-shard g c =
    let at = goal.at.returns-in-Some-clause-shard g c in
    (changed g at.After-make_vertex (here g at.In-Some)).shard_is

pub returns-in-Some-clause-same : goal.returns-in-Some-clause-same
returns-in-Some-clause-same g c =
    let at = goal.at.returns-in-Some-clause-same g c in
    (changed g at.After-make_vertex (here g at.In-Some)).same

pub returns-in-Some-clause-keeps : goal.returns-in-Some-clause-keeps
returns-in-Some-clause-keeps g c =
    let at = goal.at.returns-in-Some-clause-keeps g c in
    (changed g at.After-make_vertex (here g at.In-Some)).others

pub make_vertex-requires : goal.make_vertex-requires
make_vertex-requires g c =
    let shard = c.args.self.now in
    record { fresh = (shard.room, sym (row_before g.L.EdgeLog.content shard c.args.v c.in-Some.row.now (here g (goal.at.make_vertex-requires g c).In-Some)) ∙ c.requires.fresh) }

-- what is so of the row that is kept is so of the vertex
made_there : (g : Over) (c : After-make_vertex g) → kept_at c.args.self.now.rows (c.args.v / c.args.self.now.shards) ≡ Some c.in-Some.row.now →
    row_over g.L.EdgeLog.content c.make_vertex.new.row c.args.self.now.room ≡ push_row c.args.who.now.tid (Some c.args.p.now) (row_over g.L.EdgeLog.content c.in-Some.row.now c.args.self.now.room) →
    row_at g.L.EdgeLog.content (next g c) c.args.v ≡ push_row c.args.who.now.tid (Some c.args.p.now) (row_at g.L.EdgeLog.content c.args.self.now c.args.v)
made_there g c kept made =
    (changed g c kept).now ∙ made ∙ ap (push_row c.args.who.now.tid (Some c.args.p.now)) (sym (row_before g.L.EdgeLog.content c.args.self.now c.args.v c.in-Some.row.now kept))

pub returns-in-Some-clause-made : goal.returns-in-Some-clause-made
returns-in-Some-clause-made g c =
    let at = goal.at.returns-in-Some-clause-made g c in
    map_ok c.make_vertex.result (λ made. made_there g at.After-make_vertex (here g at.In-Some) (made c.args.self.now.room)) c.make_vertex.ensures.made

pub returns-in-Some-clause-event : goal.returns-in-Some-clause-event
returns-in-Some-clause-event g c =
    let at = goal.at.returns-in-Some-clause-event g c in
    let row = row_at g.L.EdgeLog.content in
    map_ok c.make_vertex.result (λ made. makes (limits_with c.args.self.now.log_most) c.args.who.now c.args.v c.args.p.now (row c.args.self.now c.args.v) (row (next g at.After-make_vertex) c.args.v) (made_there g at.After-make_vertex (here g at.In-Some) (made c.args.self.now.room)) c.requires.short)
    c.make_vertex.ensures.made

pub returns-in-Some-clause-unchanged : goal.returns-in-Some-clause-unchanged
returns-in-Some-clause-unchanged g c =
    let at = goal.at.returns-in-Some-clause-unchanged g c in
    let kept = here g at.In-Some in
    map_err c.make_vertex.result (λ same. (changed g at.After-make_vertex kept).now ∙ same c.args.self.now.room ∙ sym (row_before g.L.EdgeLog.content c.args.self.now c.args.v c.in-Some.row.now kept)) c.make_vertex.ensures.unchanged

pub returns-in_err-make_vertex-clause-shard : goal.returns-in_err-make_vertex-clause-shard
returns-in_err-make_vertex-clause-shard g c =
    let m = g.L.EdgeLog in
    shard_same m.stands m.footprint m.content m.limit c.args.self.now c.get_mut.follows.lender-at-none c.get_mut.follows.holds-at-none c.requires.shard

pub returns-clause-shard : goal.returns-clause-shard
returns-clause-shard g c =
    let m = g.L.EdgeLog in
    let shard = c.args.self.now in
    let before = c.get_mut.follows.lender-at-none in
    let same = c.get_mut.follows.holds-at-none in
    let row = c.make_vertex-2.new.row in
    let IsThis = IsShard m.stands m.footprint m.content m.limit in
    subst IsThis (sym {b = record shard { rows = c.add.new.self.rows }} c.add.ensures.rest)
    (on_either c.add.result
    (λ put. (is_new m.stands m.footprint m.content m.limit shard before c.add.new.self.rows c.args.v c.place-place.result row c.requires.shard c.requires.own c.place-place.ensures same put
    (c.make_vertex-2.ensures.stands shard.room (c.new-row.ensures.stands shard.room)) (c.make_vertex-2.ensures.limit ∙ c.new-row.ensures.limit) (c.make_vertex-2.ensures.blocks ∙ c.new-row.ensures.blocks)).shard_is)
    (λ unchanged. shard_same m.stands m.footprint m.content m.limit shard c.add.new.self.rows (λ n. unchanged n ∙ same n) c.requires.shard)
    c.add.ensures.kept c.add.ensures.unchanged)

pub returns-in_err-make_vertex-clause-same : goal.returns-in_err-make_vertex-clause-same
returns-in_err-make_vertex-clause-same g c = same_kept c.args.self.now c.get_mut.follows.lender-at-none c.get_mut.follows.holds-at-none

pub returns-clause-same : goal.returns-clause-same
returns-clause-same g c =
    let m = g.L.EdgeLog in
    let shard = c.args.self.now in
    let before = c.get_mut.follows.lender-at-none in
    let same = c.get_mut.follows.holds-at-none in
    let row = c.make_vertex-2.new.row in
    subst (SameShard shard) (sym {b = record shard { rows = c.add.new.self.rows }} c.add.ensures.rest)
    (on_either c.add.result
    (λ put. (is_new m.stands m.footprint m.content m.limit shard before c.add.new.self.rows c.args.v c.place-place.result row c.requires.shard c.requires.own c.place-place.ensures same put
    (c.make_vertex-2.ensures.stands shard.room (c.new-row.ensures.stands shard.room)) (c.make_vertex-2.ensures.limit ∙ c.new-row.ensures.limit) (c.make_vertex-2.ensures.blocks ∙ c.new-row.ensures.blocks)).same)
    (λ unchanged. same_kept shard c.add.new.self.rows (λ n. unchanged n ∙ same n))
    c.add.ensures.kept c.add.ensures.unchanged)
