use Rattle.std.proofs.Common.{◌∙◌, ap}
use Rattle.turn_board.specs.Spread.{turns_in}
use Rattle.turn_board.specs.Board.{known, turns}
use Rattle.leader_trial.proofs.Leading.{next_within}
use Rattle.leader_trial.proofs.Working.{clock_given}
use Rattle.leader_trial.proofs.work.on_clock.Goals as goal

pub try_on_clock-answer-requires-clause-tids : goal.try_on_clock-answer-requires-clause-tids
try_on_clock-answer-requires-clause-tids g c = let q = c.take_clock-hand.new.pass in
    (next_within (turns q) (known q) c.take_clock-hand.result.clock (known c.args.pass.now).held (ap (λ t. turns_in t.slots) c.take_clock-hand.ensures.keeps.0 ∙ c.requires.own.1) c.take_clock-hand.ensures.told
    (ap (λ m. m.0.held) c.take_clock-hand.ensures.taken)).0

pub try_on_clock-answer-requires-clause-vertices : goal.try_on_clock-answer-requires-clause-vertices
try_on_clock-answer-requires-clause-vertices g c = let q = c.take_clock-hand.new.pass in
    (next_within (turns q) (known q) c.take_clock-hand.result.clock (known c.args.pass.now).held (ap (λ t. turns_in t.slots) c.take_clock-hand.ensures.keeps.0 ∙ c.requires.own.1) c.take_clock-hand.ensures.told
    (ap (λ m. m.0.held) c.take_clock-hand.ensures.taken)).1

pub give-requires-clause-events : goal.give-requires-clause-events
give-requires-clause-events g c = let p = c.args.pass.now in let q = c.take_clock-hand.new.pass in let r = c.try_on_clock-answer in
    (clock_given c.args.me (turns q) (known p) (known q) (known q) c.take_clock-hand.result.clock c.args.actor.now c.args.act r.result r.new.clock r.new.actor
    (ap (λ t. turns_in t.slots) c.take_clock-hand.ensures.keeps.0 ∙ c.requires.own.1) (ap (λ m. m.0) c.take_clock-hand.ensures.taken) c.requires.idle c.requires.act r.ensures).0

pub returns-clause-went : goal.returns-clause-went
returns-clause-went g c = let p = c.args.pass.now in let q = c.take_clock-hand.new.pass in let r = c.try_on_clock-answer in
    ((clock_given c.args.me (turns q) (known p) (known q) (known c.give.new.pass) c.take_clock-hand.result.clock c.args.actor.now c.args.act r.result r.new.clock r.new.actor
    (ap (λ t. turns_in t.slots) c.take_clock-hand.ensures.keeps.0 ∙ c.requires.own.1) (ap (λ m. m.0) c.take_clock-hand.ensures.taken) c.requires.idle c.requires.act r.ensures).1
    (ap (λ m. m.0) c.give.ensures.given)).0

pub returns-clause-idle : goal.returns-clause-idle
returns-clause-idle g c = let p = c.args.pass.now in let q = c.take_clock-hand.new.pass in let r = c.try_on_clock-answer in
    ((clock_given c.args.me (turns q) (known p) (known q) (known c.give.new.pass) c.take_clock-hand.result.clock c.args.actor.now c.args.act r.result r.new.clock r.new.actor
    (ap (λ t. turns_in t.slots) c.take_clock-hand.ensures.keeps.0 ∙ c.requires.own.1) (ap (λ m. m.0) c.take_clock-hand.ensures.taken) c.requires.idle c.requires.act r.ensures).1
    (ap (λ m. m.0) c.give.ensures.given)).1
