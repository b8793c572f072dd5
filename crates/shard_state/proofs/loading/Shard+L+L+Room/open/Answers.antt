-- The row is put in blocks that are new to the room.
use Rattle.std.proofs.Common.{◌≡◌, ℕ, Some, refl, ap, sym, subst, ◌∙◌}
use Rattle.std.specs.Prelude.{IsSome}
use Rattle.number_map.specs.KeptAt.{kept_at, IsWith}
use Rattle.shard_state.specs.declared.shard.Shard.{Shard}
use Rattle.shard_state.specs.Shards.{row_at, IsShard, KeepsRows}
use Rattle.shard_state.proofs.OneRow.{IsChanged, is_added, with_here, with_there}
use Rattle.shard_state.proofs.Events.{map_ok}
use Rattle.shard_state.proofs.loading.Shard+L+L+Room.open.Goals as goal
use Rattle.shard_state.proofs.loading.Shard+L+L+Room.open.Goals.{After-add}
use Rattle.shard_state.proofs.loading.Shard+L+L+Room.open.Given.{Over}

-- the shard afterwards
abbrev next : (g : Over) (c : After-add g) → Shard g.row.L.Denot g.row.L-Room.Denot
next g c = record c.args.self.now { rows = c.add.new.self.rows; room = c.opened_row.new.room }

added : (g : Over) (c : After-add g) → IsWith c.place-place.result (Some c.in_ok-row.row) c.args.self.now.rows c.add.new.self.rows →
    IsChanged g.L.EdgeLog.stands g.L.EdgeLog.footprint g.L.EdgeLog.content g.L.EdgeLog.limit c.args.self.now (next g c) c.args.v c.in_ok-row.row
added g c put =
    let m = g.L.EdgeLog in
    let shard = c.args.self.now in
    let row = c.in_ok-row.ensures in
    is_added m.stands m.footprint m.content m.spare m.limit (m.blocks_out shard.room) shard c.add.new.self.rows c.opened_row.new.room c.args.v c.place-place.result c.in_ok-row.row
    (λ log standing. g.met.L.EdgeLog.lies_out log shard.room standing) c.requires.shard c.requires.own c.place-place.ensures
    (ap (kept_at shard.rows) c.place-place.ensures ∙ c.requires.absent) put row.stands row.limit row.apart row.keeps_logs

pub returns-clause-shard : goal.returns-clause-shard
returns-clause-shard g c =
    let m = g.L.EdgeLog in
    let at = (goal.at.returns-clause-shard g c).After-add in
    let IsThis = IsShard m.stands m.footprint m.content m.limit in
    map_ok c.add.result (λ put. subst IsThis (sym {b = next g at} c.add.ensures.rest) (added g at put).shard_is) c.add.ensures.kept

pub returns-clause-opened : goal.returns-clause-opened
returns-clause-opened g c =
    let at = (goal.at.returns-clause-opened g c).After-add in
    let content = g.L.EdgeLog.content in
    map_ok c.add.result
    (λ put. ap (λ (s : Shard g.row.L.Denot g.row.L-Room.Denot). row_at content s c.args.v) {y = next g at} c.add.ensures.rest ∙ (added g at put).now ∙ c.in_ok-row.ensures.opened) c.add.ensures.kept

pub returns-clause-loaded : goal.returns-clause-loaded
returns-clause-loaded g c =
    let shard = c.args.self.now in
    map_ok c.add.result
    (λ put.
    let here : kept_at c.add.new.self.rows c.place-place.result ≡ Some c.in_ok-row.row = with_here shard.rows c.add.new.self.rows c.place-place.result (Some c.in_ok-row.row) put in
    subst (λ (n : ℕ). IsSome (kept_at c.add.new.self.rows n)) c.place-place.ensures (subst (λ o. IsSome o) (sym here) refl))
    c.add.ensures.kept

pub returns-clause-keeps : goal.returns-clause-keeps
returns-clause-keeps g c =
    let at = (goal.at.returns-clause-keeps g c).After-add in
    let shard = c.args.self.now in
    map_ok c.add.result (λ put. subst (KeepsRows g.L.EdgeLog.content c.args.v shard) (sym {b = next g at} c.add.ensures.rest) (added g at put).others) c.add.ensures.kept

pub returns-clause-others : goal.returns-clause-others
returns-clause-others g c =
    map_ok c.add.result
    (λ put n other. with_there c.args.self.now.rows c.add.new.self.rows c.place-place.result n (Some c.in_ok-row.row) put (λ e. other (e ∙ c.place-place.ensures)))
    c.add.ensures.kept
