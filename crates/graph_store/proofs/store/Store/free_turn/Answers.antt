use Rattle.std.proofs.Common.{◌-◌, ◌∙◌, [], sym}
use Rattle.turn_board.specs.Board.{known, turns}
use Rattle.turn_board.specs.Works.{giving}
use Rattle.store_turns.proofs.Seeing.{seen_given}
use Rattle.graph_store.specs.Passes.{shown_by}
use Rattle.graph_store.proofs.Heard.{heard_as}
use Rattle.graph_store.proofs.Holding.{held_one, holds_last, holds_none, leads_nowhere}
use Rattle.graph_store.proofs.store.Store.free_turn.Goals as goal

pub give-requires-clause-turn : goal.give-requires-clause-turn
give-requires-clause-turn g c =
    let b = c.args.self.now.board in
    let p = c.args.pass.now in
    let h = c.in-Some.field-0 in
    let one = held_one g.D.Disk.moment b.turns b.shards c.requires.holds.0 p h c.requires.holds.1 (sym c.take.ensures.value ∙ c.in-Some.is) in
    holds_last b.turns b.shards h.turn (shown_by g.D.Disk.moment h.value).part p.seat one.0 one.1

pub give-requires-clause-events : goal.give-requires-clause-events
give-requires-clause-events g c =
    let b = c.args.self.now.board in
    let p = c.args.pass.now in
    let h = c.in-Some.field-0 in
    let one = held_one g.D.Disk.moment b.turns b.shards c.requires.holds.0 p h c.requires.holds.1 (sym c.take.ensures.value ∙ c.in-Some.is) in
    leads_nowhere (turns p.seat - 2) h.turn (shown_by g.D.Disk.moment h.value).part (known p.seat) one.1.held

pub give-requires-clause-belongs : goal.give-requires-clause-belongs
give-requires-clause-belongs g c =
    let b = c.args.self.now.board in
    let p = c.args.pass.now in
    let h = c.in-Some.field-0 in
    (held_one g.D.Disk.moment b.turns b.shards c.requires.holds.0 p h c.requires.holds.1 (sym c.take.ensures.value ∙ c.in-Some.is)).2

pub returns-clause-stands : goal.returns-clause-stands
returns-clause-stands g c =
    let b = c.args.self.now.board in
    let p = c.args.pass.now in
    let h = c.in-Some.field-0 in
    let one = held_one g.D.Disk.moment b.turns b.shards c.requires.holds.0 p h c.requires.holds.1 (sym c.take.ensures.value ∙ c.in-Some.is) in
    holds_none b.turns b.shards (record { turn = h.turn; part = (shown_by g.D.Disk.moment h.value).part }) p.seat c.give.new.pass one.1 c.give.ensures.given c.give.ensures.keeps

pub invariant_of-pass : goal.invariant_of-pass
invariant_of-pass g c =
    let b = c.args.self.now.board in
    let p = c.args.pass.now in
    let h = c.in-Some.field-0 in
    let one = held_one g.D.Disk.moment b.turns b.shards c.requires.holds.0 p h c.requires.holds.1 (sym c.take.ensures.value ∙ c.in-Some.is) in
    record {
      heard = heard_as c.give.new.pass (giving [] (known p.seat)) c.give.ensures.given p.told
          (seen_given (record { turn = h.turn; part = (shown_by g.D.Disk.moment h.value).part }) (known p.seat) one.1.held c.give.ensures.newest p.told p.heard);
    }
