use Rattle.std.proofs.Common.{◌∷◌, length, refl, ap, inl, inr}
use Rattle.core_calls.specs.Events.{told}
use Rattle.core_states.specs.declared.event.Act.TheVariants as acts
use Rattle.core_states.specs.declared.event.CoreAnswer.TheVariants as answers
use Rattle.store_log.specs.LogChanges.{CanAppend}
use Rattle.store_leads.specs.Endings.{ending_told, outcome_by}
use Rattle.group_commit.specs.Members.{records_at}
use Rattle.store_leads.proofs.Knowing.{knows_more}
use Rattle.store_leads.proofs.Between.{can_append, waits_in_clock, may_give, led_to_the_end, fits_then, waits_to_the_end}
use Rattle.store_leads.proofs.leading.lead_now.Goals as goal
use Rattle.store_leads.proofs.leading.lead_now.Goals.{After-group-2-1, After-give}
use Rattle.store_leads.proofs.leading.lead_now.Given.{Over}

-- the group may be appended
can : (g : Over) (c : After-group-2-1 g) → CanAppend c.args.log.now.log c.collect_group.new.group
can g c = let got = c.collect_group.ensures.some c.if-not-collect_group.false in
    can_append c.args.board.now.turns c.args.board.now.shards c.args.session.now.index c.args.pass.now c.collect_group.new.pass c.args.session.now refl c.args.log.now.log c.mended-mended.ensures.free c.collect_group.new.group _ got.1 got.2 c.requires.fits c.requires.found

pub append_group-tried-requires-clause-within : goal.append_group-tried-requires-clause-within
append_group-tried-requires-clause-within g c = (can g c).within

pub append_group-tried-requires-clause-epoch : goal.append_group-tried-requires-clause-epoch
append_group-tried-requires-clause-epoch g c = (can g c).epoch

pub append_group-tried-requires-clause-lawful : goal.append_group-tried-requires-clause-lawful
append_group-tried-requires-clause-lawful g c = (can g c).lawful

pub end_group-ended-requires-clause-collected : goal.end_group-ended-requires-clause-collected
end_group-ended-requires-clause-collected g c = let got = c.collect_group.ensures.some c.if-not-collect_group.false in let took = c.take_clock-home in
    waits_in_clock c.args.board.now.turns c.args.board.now.shards c.args.session.now.index c.args.pass.now c.collect_group.new.pass c.args.session.now refl c.args.log.now.log c.mended-mended.ensures.free c.collect_group.new.group _ got.1 got.2 c.requires.fits
    took.new.pass took.result.value.part.clock (ap (λ m. m.0) took.ensures.taken) took.ensures.told took.ensures.keeps

pub give-requires-clause-events : goal.give-requires-clause-events
give-requires-clause-events g c = let got = c.collect_group.ensures.some c.if-not-collect_group.false in let took = c.take_clock-home in
    may_give c.args.board.now.turns c.args.board.now.shards c.args.session.now.index c.args.pass.now c.collect_group.new.pass c.args.session.now refl c.args.log.now.log c.mended-mended.ensures.free c.collect_group.new.group _ got.1 got.2 c.requires.fits
    took.new.pass took.result.value.part.clock (ap (λ m. m.0) took.ensures.taken) took.ensures.told took.ensures.keeps
    c.append_group-tried.new.log.log c.append_group-tried.result c.end_group-ended.result c.end_group-ended.new.home.value.part.clock c.end_group-ended.new.session c.append_group-tried.ensures.tried c.end_group-ended.ensures.ends

pub returns-clause-led : goal.returns-clause-led
returns-clause-led g c = let got = c.collect_group.ensures.some c.if-not-collect_group.false in let took = c.take_clock-home in let end = c.end_group-ended.result in (
  told acts.Collect (answers.Collected (length c.collect_group.new.group)) ∷ ending_told end.mended end.end,
  (inr (inl (length c.collect_group.new.group, refl)), waits_to_the_end end.mended end.end),
  led_to_the_end c.args.board.now.turns c.args.board.now.shards c.args.session.now.index c.args.pass.now c.collect_group.new.pass c.args.session.now refl c.args.log.now.log c.mended-mended.ensures.free c.collect_group.new.group _ got.1 got.2 c.requires.fits
      took.new.pass took.result.value.part.clock (ap (λ m. m.0) took.ensures.taken) took.ensures.told took.ensures.keeps
      c.append_group-tried.new.log.log c.append_group-tried.result end c.end_group-ended.new.home.value.part.clock c.end_group-ended.new.session c.append_group-tried.ensures.tried c.end_group-ended.ensures.ends
      c.give.new.pass c.give.ensures.given c.give.ensures.told c.give.ensures.newest c.give.ensures.keeps,
)

pub returns-clause-fits : goal.returns-clause-fits
returns-clause-fits g c = let got = c.collect_group.ensures.some c.if-not-collect_group.false in let took = c.take_clock-home in
    fits_then c.args.board.now.turns c.args.board.now.shards c.args.session.now.index c.args.pass.now c.collect_group.new.pass c.args.session.now refl c.args.log.now.log c.mended-mended.ensures.free c.collect_group.new.group _ got.1 got.2 c.requires.fits
    took.new.pass took.result.value.part.clock (ap (λ m. m.0) took.ensures.taken) took.ensures.told took.ensures.keeps
    c.append_group-tried.new.log.log c.append_group-tried.result c.end_group-ended.result c.end_group-ended.new.home.value.part.clock c.end_group-ended.new.session c.append_group-tried.ensures.tried c.end_group-ended.ensures.ends
    c.give.new.pass c.give.ensures.given c.give.ensures.told c.give.ensures.newest c.give.ensures.keeps (ap (λ s. s.index) c.end_group-ended.ensures.ends.session)

pub returns-clause-knows : goal.returns-clause-knows
returns-clause-knows g c = let end = c.end_group-ended in
    knows_more c.args.session.now end.new.session (outcome_by end.result.end) (records_at 0 c.collect_group.new.group) end.ensures.ends.session
