use Rattle.std.proofs.Common.{ap, [], refl}
use Rattle.store_leads.proofs.Giving.{led_so, waited_so}
use Rattle.store_leads.proofs.leading.lead.Goals as goal

pub returns-in-Outcome-clause-led : goal.returns-in-Outcome-clause-led
returns-in-Outcome-clause-led g c =
    ([], tt, waited_so c.args.board.now.turns c.args.board.now.shards c.args.pass.now c.args.pass.now c.args.session.now c.requires.stands (refl, refl) refl)

pub returns-in_default-take_log_or_wait-clause-led : goal.returns-in_default-take_log_or_wait-clause-led
returns-in_default-take_log_or_wait-clause-led g c = let waited = c.take_log_or_wait in
    ([], tt, waited_so c.args.board.now.turns c.args.board.now.shards c.args.pass.now waited.new.pass c.args.session.now c.requires.stands waited.ensures.keeps (waited.ensures.none c.in_default-take_log_or_wait.is))

pub returns-clause-led : goal.returns-clause-led
returns-clause-led g c = let led = c.lead_with.ensures.led in let taken = c.in-Some.ensures.taken in (
  led.0,
  led.1,
  led_so c.args.board.now.turns c.args.board.now.shards c.args.pass.now c.take_log_or_wait.new.pass c.lead_with.new.pass c.give.new.pass c.args.session.now c.lead_with.new.session c.in-Some.log.value.value.log c.lead_with.new.log.value.log led.0
      c.requires.stands (ap (λ m. m.0) taken.0) c.take_log_or_wait.ensures.keeps led.2 c.lead_with.ensures.fits c.lead_with.ensures.index c.give.ensures.given c.give.ensures.keeps,
)
