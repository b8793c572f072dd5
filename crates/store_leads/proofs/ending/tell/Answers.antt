use Rattle.std.proofs.Common.{sym, ap, ◌∙◌, true, Some}
use Rattle.store_turns.specs.declared.session.Session.{Session}
use Rattle.store_calls.proofs.Works.{same_heard}
use Rattle.store_leads.specs.Endings.{told_if}
use Rattle.store_leads.proofs.ending.tell.Goals as goal

pub returns-in-Some : goal.returns-in-Some
returns-in-Some c =
    let s : Session = c.args.session.now in
    let t = c.in-Some.work.now in
    ap (λ w. record s { work = Some w }) (same_heard t (Some c.args.outcome) _)
    ∙ ap (λ z. record s { work = told_if true c.args.outcome z }) c.in-Some.ensures.value
    ∙ ap (λ b. record s { work = told_if b c.args.outcome s.work }) (sym c.if-not-own.false)
