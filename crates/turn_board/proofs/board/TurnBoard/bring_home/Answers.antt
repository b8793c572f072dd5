use Rattle.std.proofs.Common.{◌<◌, rules, ap, Some, None}
use Rattle.atomic_table.specs.Table.{rest}
use Rattle.turn_board.proofs.Giving.{brings_home, slots_left, first_slot}
use Rattle.turn_board.proofs.Taking.{low_turn, low_word}
use Rattle.turn_board.specs.Spread.{turns_in}
use Rattle.turn_board.specs.Starts.{start_in}
use Rattle.turn_board.proofs.board.TurnBoard.bring_home.Goals as goal

pub exchange-was-requires : goal.exchange-was-requires
exchange-was-requires g c = let t = c.requires.turn in
    (c.requires.own, (None, first_slot c.args.pass.now.me c.args.turn c.slot_at-slot.result t.0 t.1 c.requires.ready.1 t.2 c.slot_at-slot.ensures))

pub swap-requires : goal.swap-requires
swap-requires g c =
    let id = c.args.self.now.table.shared.table_id in let t = c.requires.turn in let h = c.requires.events in let e = c.exchange-was.ensures in
    let low : c.args.turn < turns_in id.slots = low_turn c.args.turn (turns_in c.args.pass.now.table_id.slots) (turns_in id.slots) t.3 (ap (λ x. turns_in x.slots) c.requires.own) in (
      search rules,
      low_word c.word_at-word.result c.args.turn (turns_in id.slots) id.words c.word_at-word.ensures c.args.self.now.spaced low,
      brings_home (start_in g.H.ShowsPart.shown c.args.self.now.table.shared.key) g.H.ShowsPart.shown c.args.pass.now.table_id.slots id.slots c.exchange-was.new.seat.id c.args.turn c.word_at-word.result c.slot_at-slot.result c.args.value
          (rest c.args.pass.now.me.1) t.0 t.1 h.0 c.args.pass.now.me.0 c.exchange-was.new.seat.me g.N.Next.next g.N.Next.given
          c.word_at-word.ensures c.slot_at-slot.ensures (ap (λ x. x.slots) c.requires.own) e.3 c.requires.ready.0 t.2 t.3 h.1 c.requires.belongs h.2 h.3,
    )

pub returns-then-swap-eq-AWAITED-clause-given : goal.returns-then-swap-eq-AWAITED-clause-given
returns-then-swap-eq-AWAITED-clause-given g c = let t = c.requires.turn in let h = c.requires.events in
    slots_left c.exchange-was.new.seat.me c.swap.new.seat.me c.args.pass.now.me.0 g.N.Next.next c.args.turn c.slot_at-slot.result (Some c.args.value) c.args.pass.now.me.1 t.0 t.1 h.0
    c.exchange-was.ensures.3 c.swap.ensures.2.0 c.requires.ready.1 t.2 h.2

pub returns-else-swap-eq-AWAITED-clause-given : goal.returns-else-swap-eq-AWAITED-clause-given
returns-else-swap-eq-AWAITED-clause-given g c = let t = c.requires.turn in let h = c.requires.events in
    slots_left c.exchange-was.new.seat.me c.swap.new.seat.me c.args.pass.now.me.0 g.N.Next.next c.args.turn c.slot_at-slot.result (Some c.args.value) c.args.pass.now.me.1 t.0 t.1 h.0
    c.exchange-was.ensures.3 c.swap.ensures.2.0 c.requires.ready.1 t.2 h.2
