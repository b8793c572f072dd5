use Rattle.std.proofs.Common.{sym, subst, refl}
use Rattle.graph_model.specs.Graph.{asked_vertex}
use Rattle.core_states.specs.declared.event.Act.TheVariants as act
use Rattle.shard_state.specs.Shards.{IsOf}
use Rattle.store_turns.specs.Rows.{IsAt}
use Rattle.store_rows.specs.ShardValues.{ShardValue}
use Rattle.store_rows.proofs.RowMoves.{reads_none, reads_some}
use Rattle.store_rows.proofs.row_calls.ReadRowReadShardHome.read.Goals as goal
use Rattle.store_rows.proofs.row_calls.ReadRowReadShardHome.read.Goals.{in-Ok, in-Err}

pub returns-clause-does : goal.returns-clause-does
returns-clause-does c =
    let a = c.home.inside in
    let q = c.args.self.now.query.now in
    let own : IsOf (asked_vertex q) a.shard = subst (λ (h : ShardValue). IsAt (asked_vertex q) h.place) (sym c.home.view_is) c.requires.own in
    elim c.match-read.branch [
      | in-Ok w ↦ reads_some a c.home.invariant c.args.home.now c.home.view_is c.read.new.self c.read.ensures.same c.read.ensures.keeps q own c.args.session.now (λ _. act.Read q) c.match-read.result c.in_ok-who.who w.in-Ok.answer w.result-is refl c.in_ok-who.ensures w.in-Ok.ensures.event
      | in-Err w ↦ reads_none a c.home.invariant c.args.home.now c.home.view_is c.read.new.self c.read.ensures.same c.read.ensures.keeps q own c.args.session.now (λ _. act.Read q) c.match-read.result w.result-is
    ]
