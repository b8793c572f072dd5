use mathlib.Core.Option.{none}
use Rattle.std.proofs.Common.{◌≡◌, ◌<◌, ℕ, rules, sym, refl, ap, subst, Option, Some, None, ◌∷◌, IfSome}
use Rattle.atomic_table.specs.Table.{rest, step}
use Rattle.turn_board.specs.Views.{Belongs, taking, start_of}
use Rattle.turn_board.specs.Turns.{Told, IsNewest}
use Rattle.turn_board.specs.Board.{Knows, known, turns, slots_of}
use Rattle.turn_board.proofs.Taking.{tries, taken_out, not_none, low_turn, low_word}
use Rattle.turn_board.specs.Spread.{slot_of, turns_in}
use Rattle.turn_board.specs.Starts.{start_in}
use Rattle.turn_board.proofs.board.TurnBoard.try_take.Goals as goal

pub compare_exchange-found-requires : goal.compare_exchange-found-requires
compare_exchange-found-requires g c =
    let id = c.args.self.now.table.shared.table_id in
    let low : c.args.turn < turns_in id.slots = low_turn c.args.turn (turns_in c.args.pass.now.table_id.slots) (turns_in id.slots) c.requires.free.0 (ap (λ t. turns_in t.slots) c.requires.own) in (
      c.requires.own,
      low_word c.word_at-word.result c.args.turn (turns_in id.slots) id.words c.word_at-word.ensures c.args.self.now.spaced low,
      tries (start_in g.H.ShowsPart.shown c.args.self.now.table.shared.key) g.H.ShowsPart.shown id.slots c.args.pass.now.id c.args.turn c.word_at-word.result c.args.pass.now.me c.word_at-word.ensures c.requires.ready.0 low,
    )

pub exchange-requires : goal.exchange-requires
exchange-requires g c =
    let t = c.compare_exchange-found.ensures.2.0 c.if-found-ne-HOME.false in let u = t.1 c.args.turn c.word_at-word.ensures in
    (search rules, (Some t.0, subst (λ (z : Knows g.row.H.Denot × ℕ). z.0.1 ≡ (z.1, Some t.0) ∷ rest z.0.1) (λ i. (sym u.0 i, sym c.slot_at-slot.ensures i)) refl))

pub unreachable-requires : goal.unreachable-requires
unreachable-requires g c =
    let t = c.compare_exchange-found.ensures.2.0 c.if-found-ne-HOME.false in
    not_none (start_in g.H.ShowsPart.shown c.args.self.now.table.shared.key) g.H.ShowsPart.shown c.args.turn c.slot_at-slot.result c.args.pass.now.me c.compare_exchange-found.new.seat.me c.exchange.result
    (step c.args.self.now.table.shared.table_id.slots c.word_at-word.result 0 1 none) t.0 c.word_at-word.ensures t.1 c.exchange.ensures.2 c.in-None.is

pub returns-clause-taken : goal.returns-clause-taken
returns-clause-taken g c =
    let t = c.compare_exchange-found.ensures.2.0 c.if-found-ne-HOME.false in let e = c.exchange.ensures in
    let out = taken_out (start_in g.H.ShowsPart.shown c.args.self.now.table.shared.key) g.H.ShowsPart.shown c.args.turn c.slot_at-slot.result c.exchange.new.seat.table_id.slots c.args.pass.now.me c.compare_exchange-found.new.seat.me c.exchange.new.seat.me c.exchange.result
    (step c.args.self.now.table.shared.table_id.slots c.word_at-word.result 0 1 none) t.0 c.word_at-word.ensures c.slot_at-slot.ensures (search rules) t.1 c.requires.ready.1 e.2 e.3 in
    subst (λ (o : Option g.row.H.Denot). IfSome o (λ y. ◌≡◌ {A = Knows g.row.H.Denot} c.exchange.new.seat.me (taking c.args.turn (g.H.ShowsPart.shown y).part (known c.args.pass.now), (slot_of c.args.turn, None) ∷ slots_of c.args.pass.now.me.0.held) × Told (turns c.exchange.new.seat) c.exchange.new.seat.me.0 × IsNewest (g.H.ShowsPart.shown y).part c.args.pass.now.me.0 × Belongs (start_of c.args.pass.now.me.0) c.args.turn (g.H.ShowsPart.shown y))) c.in-Some.is out
