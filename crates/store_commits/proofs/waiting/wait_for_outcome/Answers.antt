use Rattle.store_commits.proofs.Waited.{waited_none, led_goes, led_learns, heard_goes, heard_learns, waits_on}
use Rattle.store_commits.proofs.waiting.wait_for_outcome.Goals as goal

pub loop-init : goal.loop-init
loop-init g c = waited_none c.args.board.now.turns c.args.board.now.shards c.args.pass.now c.args.session.now c.requires.stands

pub returns-in-Some-known_outcome-clause-goes : goal.returns-in-Some-known_outcome-clause-goes
returns-in-Some-known_outcome-clause-goes g c =
    led_goes c.args.board.now.turns c.args.board.now.shards c.args.pass.now c.loop.pass c.lead.new.pass c.args.session.now c.loop.session c.lead.new.session c.requires.waits.0 c.requires.waits.1 c.loop.invariant c.lead.ensures.led c.lead.ensures.knows

pub returns-in-Some-known_outcome-clause-known : goal.returns-in-Some-known_outcome-clause-known
returns-in-Some-known_outcome-clause-known g c =
    led_learns c.args.board.now.turns c.args.board.now.shards c.args.pass.now c.loop.pass c.lead.new.pass c.args.session.now c.loop.session c.lead.new.session c.requires.waits.0 c.requires.waits.1 c.loop.invariant c.lead.ensures.led c.lead.ensures.knows
    c.in-Some-known_outcome.outcome c.in-Some-known_outcome.ensures.some

pub returns-in-Some-known_outcome-2-clause-goes : goal.returns-in-Some-known_outcome-2-clause-goes
returns-in-Some-known_outcome-2-clause-goes g c =
    heard_goes c.args.board.now.turns c.args.board.now.shards c.args.pass.now c.loop.pass c.lead.new.pass c.args.session.now c.loop.session c.lead.new.session c.requires.waits.0 c.requires.waits.1 c.loop.invariant c.lead.ensures.led c.lead.ensures.knows
    c.by_clock.new.pass c.by_clock.new.session c.in_default.ensures.none c.by_clock.result c.by_clock.ensures.leaves c.by_clock.ensures.goes

pub returns-in-Some-known_outcome-2-clause-known : goal.returns-in-Some-known_outcome-2-clause-known
returns-in-Some-known_outcome-2-clause-known g c =
    heard_learns c.args.board.now.turns c.args.board.now.shards c.args.pass.now c.loop.pass c.lead.new.pass c.args.session.now c.loop.session c.lead.new.session c.requires.waits.0 c.requires.waits.1 c.loop.invariant c.lead.ensures.led c.lead.ensures.knows
    c.by_clock.new.pass c.by_clock.new.session c.in_default.ensures.none c.by_clock.result c.by_clock.ensures.leaves c.by_clock.ensures.goes
    c.in-Some-known_outcome-2.outcome c.in-Some-known_outcome-2.ensures.some

pub loop-preserved : goal.loop-preserved
loop-preserved g c =
    waits_on c.args.board.now.turns c.args.board.now.shards c.args.pass.now c.loop.pass c.lead.new.pass c.args.session.now c.loop.session c.lead.new.session c.requires.waits.0 c.requires.waits.1 c.loop.invariant c.lead.ensures.led c.lead.ensures.knows
    c.by_clock.new.pass c.by_clock.new.session c.in_default.ensures.none c.by_clock.result c.by_clock.ensures.leaves c.by_clock.ensures.goes
    c.in_default-known_outcome.ensures.none
