use Rattle.std.proofs.Common.{◌≡◌, ℕ, false, sym, subst, refl}
use Rattle.graph_model.specs.Change.{vertex_of}
use Rattle.vertex_locks.specs.declared.answer.Look.TheVariants.{Taken, Held, Conflict}
use Rattle.tel_block.specs.Places.{content_of}
use Rattle.shard_state.specs.Shards.{IsOf, must_look, row_at, limits_with}
use Rattle.shard_state.specs.Says.{Looks}
use Rattle.shard_state.specs.RowLists.{rows_listed}
use Rattle.store_turns.specs.Rows.{KnownRows, IsAt}
use Rattle.store_rows.specs.ShardValues.{ShardValue}
use Rattle.store_rows.specs.ShardsKept.{place_in}
use Rattle.store_rows.proofs.AlterMoves.{may_change, low_number, looks_in_vain, alters}
use Rattle.store_rows.proofs.alters.AlterRowCallShardHome.call.Goals as goal
use Rattle.store_rows.proofs.alters.AlterRowCallShardHome.call.Goals.{in-Held, in-Conflict, in-Taken}

pub returns-then-must_look-clause-does : goal.returns-then-must_look-clause-does
returns-then-must_look-clause-does c =
    let a = c.home.inside in
    let own : IsOf (vertex_of c.args.self.now.change.now) a.shard = subst (λ (h : ShardValue). IsAt (vertex_of c.args.self.now.change.now) h.place) (sym c.home.view_is) c.requires.own in
    let event : Looks (limits_with a.shard.log_most) c.in_ok-who.who (vertex_of c.args.self.now.change.now) (row_at content_of a.shard (vertex_of c.args.self.now.change.now)) c.look.result =
    subst (λ (v : ℕ). Looks (limits_with a.shard.log_most) c.in_ok-who.who v (row_at content_of a.shard v) c.look.result) c.vertex-v.ensures c.look.ensures.event in
    elim c.match-look.branch [
      | in-Held w ↦ looks_in_vain a c.home.invariant c.args.home.now c.home.view_is c.args.self.now.change.now own c.args.session.now c.in_ok-who.who c.in_ok-who.ensures c.look.result (Held w.in-Held.owner) c.match-look.result event w.in-Held.is w.result-is
      | in-Conflict w ↦ looks_in_vain a c.home.invariant c.args.home.now c.home.view_is c.args.self.now.change.now own c.args.session.now c.in_ok-who.who c.in_ok-who.ensures c.look.result (Conflict w.in-Conflict.committed) c.match-look.result event w.in-Conflict.is w.result-is
      | in-Taken w ↦ looks_in_vain a c.home.invariant c.args.home.now c.home.view_is c.args.self.now.change.now own c.args.session.now c.in_ok-who.who c.in_ok-who.ensures c.look.result Taken c.match-look.result event w.in-Taken.is w.result-is
    ]

pub alter_row-requires-clause-may : goal.alter_row-requires-clause-may
alter_row-requires-clause-may c =
    let a = c.home.inside in
    let v = vertex_of c.args.self.now.change.now in
    let own : IsOf v a.shard = subst (λ (h : ShardValue). IsAt v h.place) (sym c.home.view_is) c.requires.own in
    let known : KnownRows (place_in a) (rows_listed content_of a.shard) c.args.session.now = subst (λ (h : ShardValue). KnownRows h.place h.rows c.args.session.now) (sym c.home.view_is) c.requires.known in
    may_change a c.home.invariant c.args.session.now c.in_ok-who.who v c.in_ok-who.ensures own known (subst (λ (w : ℕ). must_look c.in_ok-who.who (row_at content_of a.shard w) ≡ false) c.vertex-v.ensures (sym c.if-must_look.ensures))

pub alter_row-requires-clause-number : goal.alter_row-requires-clause-number
alter_row-requires-clause-number c = low_number c.args.home.now.place c.args.home.now.rows c.args.session.now c.in_ok-who.who c.in_ok-who.ensures c.requires.known

pub returns-clause-does : goal.returns-clause-does
returns-clause-does c =
    let a = c.home.inside in
    let own : IsOf (vertex_of c.args.self.now.change.now) a.shard = subst (λ (h : ShardValue). IsAt (vertex_of c.args.self.now.change.now) h.place) (sym c.home.view_is) c.requires.own in
    let known : KnownRows (place_in a) (rows_listed content_of a.shard) c.args.session.now = subst (λ (h : ShardValue). KnownRows h.place h.rows c.args.session.now) (sym c.home.view_is) c.requires.known in
    let does = c.alter_row.ensures in
    alters a c.home.invariant c.args.home.now c.home.view_is c.alter_row.new.shard does.same c.args.self.now.change.now own c.args.session.now _ c.in_ok-who.who c.in_ok-work.work.now c.alter_row.new.work known c.in_ok-who.ensures (sym c.in_ok-work.ensures.value) refl refl refl does.keeps c.alter_row.result does.event does.answer does.vertex does.work
