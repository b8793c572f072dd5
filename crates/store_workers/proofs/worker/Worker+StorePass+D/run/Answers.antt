use Rattle.std.proofs.Common.{◌≡◌, ℕ, false, List, refl, sym, ap, ◌∙◌, subst}
use Rattle.core_states.specs.Numbers.{has_number}
use Rattle.worker_sessions.specs.Notes.{actors_in}
use Rattle.store_log.specs.LogChanges.{IsBaseOf}
use Rattle.turn_board.specs.Views.{Start, View, start_of, fresh_view}
use Rattle.turn_board.specs.Board.{known}
use Rattle.store_turns.specs.declared.session.Session.{Session}
use Rattle.worker_sessions.specs.Sessions.{AllFit, AreApart, AreReady, EachIs, indices, HaveOpened, HaveClosed}
use Rattle.worker_sessions.proofs.Serving.{are-shut}
use Rattle.worker_lines.specs.Lines.{IsSeated, replied_of}
use Rattle.worker_lines.specs.Wholes.{all_lines}
use Rattle.store_workers.proofs.Working.{all-fresh, idle-ready, ready-closes, has-worked}
use Rattle.store_workers.proofs.worker.«Worker+StorePass+D».run.Goals as goal

pub open_all-requires-clause-fit : goal.open_all-requires-clause-fit
open_all-requires-clause-fit g c =
    let v = known c.args.self.now.pass in let ss = c.as_mut_slice-sessions.result.now in
    let ready : AreReady ss = subst (λ (xs : List Session). AreReady xs) (sym c.as_mut_slice-sessions.ensures.value) c.requires.may.crew.ready in
    subst (λ (u : View). AllFit ss u) (sym c.requires.may.fresh.1) (all-fresh (start_of v) v.number v.seen v.seen_logs ss ready.unused)

pub open_all-requires-clause-apart : goal.open_all-requires-clause-apart
open_all-requires-clause-apart g c =
    let ready : AreReady c.as_mut_slice-sessions.result.now = subst (λ (xs : List Session). AreReady xs) (sym c.as_mut_slice-sessions.ensures.value) c.requires.may.crew.ready in
    ready.apart

pub open_all-requires-clause-shut : goal.open_all-requires-clause-shut
open_all-requires-clause-shut g c =
    let ss = c.as_mut_slice-sessions.result.now in
    let ready : AreReady ss = subst (λ (xs : List Session). AreReady xs) (sym c.as_mut_slice-sessions.ensures.value) c.requires.may.crew.ready in
    are-shut ss ready.unused

pub run_lines-requires-clause-at_line : goal.run_lines-requires-clause-at_line
run_lines-requires-clause-at_line g c = record { stands = c.open_all.ensures.stands; fit = c.open_all.ensures.fit; same = refl; ready = idle-ready c.open_all.new.sessions c.open_all.ensures.idle }

pub run_lines-requires-clause-found : goal.run_lines-requires-clause-found
run_lines-requires-clause-found g c = subst (λ (s : Start). IsBaseOf s.base s.found.records) (sym c.open_all.ensures.opened.start_is) c.requires.may.found

pub run_lines-requires-clause-apart : goal.run_lines-requires-clause-apart
run_lines-requires-clause-apart g c =
    let ready : AreReady c.as_mut_slice-sessions.result.now = subst (λ (xs : List Session). AreReady xs) (sym c.as_mut_slice-sessions.ensures.value) c.requires.may.crew.ready in
    subst AreApart (sym c.open_all.ensures.same) ready.apart

pub run_lines-requires-clause-seated : goal.run_lines-requires-clause-seated
run_lines-requires-clause-seated g c =
    let same = ap indices (sym c.as_mut_slice-sessions.ensures.value) ∙ sym c.open_all.ensures.same in
    subst (λ (ks : List ℕ). EachIs (λ line. IsSeated c.args.number c.args.shared.now.workers ks line) (all_lines c.args.whole)) same c.requires.may.crew.seated

pub close_all-requires-clause-stands : goal.close_all-requires-clause-stands
close_all-requires-clause-stands g c = c.run_lines.ensures.at_line.stands

pub close_all-requires-clause-fit : goal.close_all-requires-clause-fit
close_all-requires-clause-fit g c = c.run_lines.ensures.at_line.fit

pub close_all-requires-clause-apart : goal.close_all-requires-clause-apart
close_all-requires-clause-apart g c =
    let ready : AreReady c.as_mut_slice-sessions.result.now = subst (λ (xs : List Session). AreReady xs) (sym c.as_mut_slice-sessions.ensures.value) c.requires.may.crew.ready in
    subst AreApart (sym (c.run_lines.ensures.at_line.same ∙ c.open_all.ensures.same)) ready.apart

pub close_all-requires-clause-may : goal.close_all-requires-clause-may
close_all-requires-clause-may g c = ready-closes c.run_lines.new.sessions c.run_lines.ensures.at_line.ready

pub returns : goal.returns
returns g c =
    let v = known c.args.self.now.pass in let w = known c.open_all.new.pass in let x = known c.run_lines.new.pass in let y = known c.close_all.new.pass in
    let ks = indices c.as_mut_slice-sessions.result.now in
    let start = start_of v in
    let opened : HaveOpened ks (fresh_view start v.number v.seen v.seen_logs) w = subst (λ (u : View). HaveOpened ks u w) c.requires.may.fresh.1 c.open_all.ensures.opened in
    let closed : HaveClosed ks x y = subst (λ (js : List ℕ). HaveClosed js x y) (c.run_lines.ensures.at_line.same ∙ c.open_all.ensures.same) c.close_all.ensures.closed in
    let ran = c.run_lines.ensures.ran in
    let others : (k : ℕ) → has_number k ks ≡ false → actors_in x k ≡ actors_in w k = λ k away. ran.others k (subst (λ (js : List ℕ). has_number k js ≡ false) (sym c.open_all.ensures.same) away) in
    record {
      ran = record {
        worked = (c.close_all.ensures.stands, has-worked start v.number v.seen v.seen_logs ks (replied_of c.args.number c.args.shared.now.workers (all_lines c.args.whole) c.run_lines.new.replies.items) w x y opened ran.noting others closed);
        len = ran.len;
      };
    }
