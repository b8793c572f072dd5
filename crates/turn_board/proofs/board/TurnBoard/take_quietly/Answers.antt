use mathlib.Core.Option.{none}
use Rattle.std.proofs.Common.{◌≡◌, ◌<◌, ℕ, rules, sym, refl, ap, subst, Some, ◌∷◌}
use Rattle.atomic_table.specs.Table.{rest, step}
use Rattle.turn_board.specs.Board.{Knows}
use Rattle.turn_board.proofs.Taking.{takes_quietly, taken_out, not_none, low_turn, low_word}
use Rattle.turn_board.specs.Spread.{turns_in}
use Rattle.turn_board.specs.Starts.{start_in}
use Rattle.turn_board.proofs.board.TurnBoard.take_quietly.Goals as goal

pub peek-requires : goal.peek-requires
peek-requires g c =
    let id = c.args.self.now.table.shared.table_id in
    let low : c.args.turn < turns_in id.slots = low_turn c.args.turn (turns_in c.args.pass.now.table_id.slots) (turns_in id.slots) c.requires.free.0 (ap (λ t. turns_in t.slots) c.requires.own) in
    low_word c.word_at-word.result c.args.turn (turns_in id.slots) id.words c.word_at-word.ensures c.args.self.now.spaced low

pub compare_exchange-found-requires : goal.compare_exchange-found-requires
compare_exchange-found-requires g c =
    let id = c.args.self.now.table.shared.table_id in
    let low : c.args.turn < turns_in id.slots = low_turn c.args.turn (turns_in c.args.pass.now.table_id.slots) (turns_in id.slots) c.requires.free.0 (ap (λ t. turns_in t.slots) c.requires.own) in (
      c.requires.own,
      low_word c.word_at-word.result c.args.turn (turns_in id.slots) id.words c.word_at-word.ensures c.args.self.now.spaced low,
      takes_quietly (start_in g.H.ShowsPart.shown c.args.self.now.table.shared.key) g.H.ShowsPart.shown id.slots c.args.pass.now.id c.args.turn c.word_at-word.result c.args.pass.now.me c.word_at-word.ensures c.requires.ready.0 low,
    )

pub exchange-requires : goal.exchange-requires
exchange-requires g c =
    let t = c.compare_exchange-found.ensures.2.0 c.if-found-eq-HOME.true in let u = t.1 c.args.turn c.word_at-word.ensures in
    (search rules, (Some t.0, subst (λ (z : Knows g.row.H.Denot × ℕ). z.0.1 ≡ (z.1, Some t.0) ∷ rest z.0.1) (λ i. (sym u.0 i, sym c.slot_at-slot.ensures i)) refl))

pub returns-then-found-eq-HOME-clause-taken : goal.returns-then-found-eq-HOME-clause-taken
returns-then-found-eq-HOME-clause-taken g c =
    let t = c.compare_exchange-found.ensures.2.0 c.if-found-eq-HOME.true in let e = c.exchange.ensures in
    taken_out (start_in g.H.ShowsPart.shown c.args.self.now.table.shared.key) g.H.ShowsPart.shown c.args.turn c.slot_at-slot.result c.exchange.new.seat.table_id.slots c.args.pass.now.me c.compare_exchange-found.new.seat.me c.exchange.new.seat.me c.exchange.result
    (step c.args.self.now.table.shared.table_id.slots c.word_at-word.result 0 1 none) t.0 c.word_at-word.ensures c.slot_at-slot.ensures (search rules) t.1 c.requires.ready.1 e.2 e.3

pub returns-then-found-eq-HOME-clause-none : goal.returns-then-found-eq-HOME-clause-none
returns-then-found-eq-HOME-clause-none g c = λ nothing.
    let t = c.compare_exchange-found.ensures.2.0 c.if-found-eq-HOME.true in
    absurd {A = c.exchange.new.seat.me ≡ c.args.pass.now.me} (not_none (start_in g.H.ShowsPart.shown c.args.self.now.table.shared.key) g.H.ShowsPart.shown c.args.turn c.slot_at-slot.result c.args.pass.now.me c.compare_exchange-found.new.seat.me c.exchange.result
    (step c.args.self.now.table.shared.table_id.slots c.word_at-word.result 0 1 none) t.0 c.word_at-word.ensures t.1 c.exchange.ensures.2 nothing)
