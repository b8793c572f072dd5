use Rattle.std.proofs.Common.{◌≡◌, ◌∙◌, [], ◌∷◌, ◌-◌, sym, ap, subst}
use Rattle.group_commit.specs.Members.{records_at}
use Rattle.core_calls.specs.Events.{told}
use Rattle.core_states.specs.declared.clock.Clock.{Clock}
use Rattle.core_states.specs.declared.event.Act.TheVariants as acts
use Rattle.core_states.specs.declared.event.CoreAnswer.TheVariants as answers
use Rattle.core_states.specs.Parts.{OfClock}
use Rattle.turn_board.specs.Board.{known, turns, Knowing}
use Rattle.turn_board.specs.Spread.{turns_in}
use Rattle.turn_board.specs.Turns.{IsNewest}
use Rattle.turn_board.specs.Views.{View, taking}
use Rattle.turn_board.specs.Works.{giving}
use Rattle.turn_board.specs.Works as Works
use Rattle.epoch_clock.specs.ClockCalls.{collected_clock}
use Rattle.store_turns.specs.Fits.{name_in}
use Rattle.store_log.specs.LogChanges.{in_hands}
use Rattle.store_leads.specs.Leads.{Leads, log_held, actor_in, collecting}
use Rattle.store_leads.specs.Endings.{dones}
use Rattle.store_leads.proofs.Collects.{collect_does, some_collected, gives_same, leads_of, actor_of_leads}
use Rattle.store_leads.proofs.Doing.{Does, does_none, leads_took}
use Rattle.store_leads.proofs.collecting.collect_group.Goals as goal
use Rattle.store_leads.proofs.collecting.collect_group.Goals.{After-collected-1}
use Rattle.store_leads.proofs.collecting.collect_group.Given.{Over}

pub returns-then-not-must_lead-clause-none : goal.returns-then-not-must_lead-clause-none
returns-then-not-must_lead-clause-none g c none =
    let took = c.take_clock-home in
    let v = known c.args.pass.now in
    let k = took.result.value.part.clock in
    leads_of c.args.board.now.turns c.args.board.now.shards c.args.session.now.index [] c.args.pass.now took.new.pass c.give.new.pass k k (log_held c.args.board.now.shards c.args.log.now.log) (log_held c.args.board.now.shards c.args.log.now.log) _
    c.requires.holds (ap (λ m. m.0) took.ensures.taken) took.ensures.keeps (does_none c.args.board.now.shards (name_in v c.args.session.now.index) (taking c.args.board.now.shards (OfClock k) v) k c.args.log.now.log (λ i. record { turn = c.args.board.now.shards; part = OfClock k } ∷ c.requires.holds.held i))
    c.give.ensures.given c.give.ensures.told c.give.ensures.newest c.give.ensures.keeps

-- the collect leads to the clock
collected : (g : Over) (c : After-collected-1 g) → Does c.args.board.now.shards (taking c.args.board.now.shards (OfClock c.take_clock-home.result.value.part.clock) (known c.args.pass.now)) (name_in (known c.args.pass.now) c.args.session.now.index) (told acts.Collect (answers.Collected c.len.result) ∷ [])
    (collected_clock c.take_clock-home.result.value.part.clock) (log_held c.args.board.now.shards (in_hands (name_in (known c.args.pass.now) c.args.session.now.index) c.args.log.now.log)) (collecting (records_at 0 c.collect_from.new.group) (actor_in (known c.args.pass.now) c.args.session.now.index))
collected g c = collect_does c.args.board.now.shards c.args.session.now.index (known c.args.pass.now) c.args.log.now.log c.take_clock-home.result.value.part.clock c.collect_from.new.group c.len.result c.requires.holds.held c.requires.free (c.must_lead.ensures (c.if-not-must_lead.false)) c.collect_from.ensures.group c.len.ensures.len

pub give-requires-2-clause-events : goal.give-requires-2-clause-events
give-requires-2-clause-events g c =
    let v = known c.args.pass.now in
    let n = name_in v c.args.session.now.index in
    let took = c.take_clock-home in
    let k = took.result.value.part.clock in
    let ts = told acts.Collect (answers.Collected c.len.result) ∷ [] in
    let same : turns took.new.pass ≡ turns c.args.pass.now = ap (λ t. turns_in t.slots) took.ensures.keeps.0 in
    subst (λ (z : Clock × View). Works.Leads (turns took.new.pass - 2) (known took.new.pass) (dones (name_in z.1 c.args.session.now.index) ts) (OfClock z.0)) (λ i. (sym c.collect_from.ensures.collected i, sym (ap (λ m. m.0) took.ensures.taken) i))
    (leads_took c.args.board.now.shards n v (known took.new.pass) v k (collected_clock k) ts _ _ (ap (λ m. m.0) took.ensures.taken) (collected g (goal.at.give-requires-2-clause-events g c).After-collected-1) (turns took.new.pass) (c.requires.holds.turns ∙ sym same))

pub returns-clause-some : goal.returns-clause-some
returns-clause-some g c some =
    let v = known c.args.pass.now in
    let took = c.take_clock-home in
    let k = took.result.value.part.clock in
    let did = collected g (goal.at.returns-clause-some g c).After-collected-1 in
    let n = name_in v c.args.session.now.index in
    let start = log_held c.args.board.now.shards c.args.log.now.log in
    let end = log_held c.args.board.now.shards (in_hands n c.args.log.now.log) in
    let after = collecting (records_at 0 c.collect_from.new.group) (actor_in v c.args.session.now.index) in
    let ts = told acts.Collect (answers.Collected c.len.result) ∷ [] in
    let given : Knowing c.give-2.new.pass (giving (dones n ts) (known took.new.pass)) = gives_same c.args.session.now.index v (known took.new.pass) (OfClock k) c.args.board.now.shards ts c.give-2.new.pass (ap (λ m. m.0) took.ensures.taken) c.give-2.ensures.given in
    let led = leads_of c.args.board.now.turns c.args.board.now.shards c.args.session.now.index ts c.args.pass.now took.new.pass c.give-2.new.pass k (collected_clock k) start end after c.requires.holds (ap (λ m. m.0) took.ensures.taken) took.ensures.keeps did given c.give-2.ensures.told
    (subst (λ z. IsNewest (OfClock z) (known took.new.pass)) c.collect_from.ensures.collected c.give-2.ensures.newest) c.give-2.ensures.keeps in
    let actor = actor_of_leads c.args.board.now.turns c.args.board.now.shards c.args.session.now.index ts c.args.pass.now took.new.pass c.give-2.new.pass k (collected_clock k) start end after c.requires.holds (ap (λ m. m.0) took.ensures.taken) took.ensures.keeps did given c.give-2.ensures.told
    (subst (λ z. IsNewest (OfClock z) (known took.new.pass)) c.collect_from.ensures.collected c.give-2.ensures.newest) c.give-2.ensures.keeps in
    (some_collected c.collect_from.new.group k.queue (c.must_lead.ensures c.if-not-must_lead.false) c.collect_from.ensures.group, subst (λ m. Leads c.args.board.now.turns c.args.board.now.shards c.args.session.now.index (told acts.Collect (answers.Collected m) ∷ []) end c.args.pass.now c.give-2.new.pass) c.len.ensures.len led, actor)
