use Rattle.std.proofs.Common.{◌≡◌, sym, subst}
use Rattle.store_turns.specs.declared.session.Session.{Session}
use Rattle.store_board.specs.Standing.{Goes}
use Rattle.graph_store.specs.NewSessions.{new_session}
use Rattle.store_stories.proofs.Desks.{still_at_desk}
use Rattle.store_stories.proofs.desk.Desk.open_row.Goals as goal

pub returns-then-is_new : goal.returns-then-is_new
returns-then-is_new g c =
    let d = c.args.self.now in
    let b = d.store.board in
    let is : d.session ≡ new_session d.session.index = c.is_new.ensures c.if-is_new.true in
    record {
      at_desk = still_at_desk b.turns b.shards c.open_session.ensures.goes.0 d.pass c.open_session.new.pass d.session c.open_session.result d.other c.requires.at_desk
          (subst (λ (s : Session). Goes b.turns b.shards c.open_session.ensures.goes.0 d.pass.seat c.open_session.new.pass.seat s c.open_session.result) (sym is) c.open_session.ensures.goes.2) c.open_session.ensures.rest.1;
    }
