use Rattle.std.proofs.Common.{◌≡◌, ◌<◌, ◌∙◌, ◌∷◌, ◌++◌, [], ℕ, List, length, sym, ap, subst}
use Rattle.request_text.specs.declared.request.Line.{Line}
use Rattle.request_text.specs.declared.reply.Reply.{Reply}
use Rattle.turn_board.specs.Board.{known}
use Rattle.turn_board.specs.Views.{Start, View, start_of}
use Rattle.store_board.specs.Standing.{IsAtBoard}
use Rattle.store_log.specs.LogChanges.{IsBaseOf}
use Rattle.worker_lines.specs.Lines.{lines_of}
use Rattle.store_workers.specs.Crews.{AreNumbered, HasParted, Waits}
use Rattle.store_workers.specs.Phases.{HasRunPhases}
use Rattle.store_workers.specs.Orders.{replies_of, own_at}
use Rattle.store_workers.proofs.Crewing.{may-start, all-ran, all-stand, replies-whole, replies_in, RanLines}
use Rattle.store_workers.proofs.Joining.{phase-over}
use Rattle.store_workers.proofs.Numbering.{written-over}
use Rattle.store_workers.proofs.script.run_script.Goals as goal
use Rattle.store_workers.proofs.script.run_script.Goals.{After-run_all}
use Rattle.store_workers.proofs.script.run_script.Given.{Over}

pub split_all-requires-clause-none : goal.split_all-requires-clause-none
split_all-requires-clause-none g c = ap (λ (v : View). v.splits) c.begin_phase.ensures.parent

pub run_all-requires-clause-may : goal.run_all-requires-clause-may
run_all-requires-clause-may g c κs within =
    let b = c.args.store.now.board in let u = known c.begin_phase.new.pass in let n = c.args.count in let script = c.args.script in
    may-start b.turns b.shards n script (start_of u) u.number c.as_mut_slice.result.now
    (subst (λ (s : Start). IsBaseOf s.base s.found.records) (sym (ap (λ (v : View). start_of v) c.begin_phase.ensures.parent)) c.requires.found)
    (ap length c.as_mut_slice.ensures.value ∙ c.split_all.ensures.len ∙ c.requires.room.len)
    (subst (λ ws. AreNumbered (Waits b.turns b.shards n script (start_of u) u.number) 0 ws) (sym c.as_mut_slice.ensures.value) c.split_all.ensures.wait)

-- all workers ran
they-ran : (g : Over) (c : After-run_all g) → AreNumbered (RanLines c.args.store.now.board.turns c.args.store.now.board.shards c.args.count c.args.script (start_of (known c.begin_phase.new.pass)) (known c.begin_phase.new.pass).number) 0 c.run_all.new.workers
they-ran g c =
    let b = c.args.store.now.board in let u = known c.begin_phase.new.pass in let n = c.args.count in let script = c.args.script in
    all-ran b.turns b.shards n script (start_of u) u.number c.as_mut_slice.result.now c.run_all.new.workers
    (subst (λ ws. AreNumbered (Waits b.turns b.shards n script (start_of u) u.number) 0 ws) (sym c.as_mut_slice.ensures.value) c.split_all.ensures.wait) c.run_all.ensures.len c.run_all.ensures.ran

many-ran : (g : Over) (c : After-run_all g) → length c.run_all.new.workers ≡ length c.split_all.new.workers.items
many-ran g c = c.run_all.ensures.len ∙ ap length c.as_mut_slice.ensures.value

pub join_all-requires-clause-stand : goal.join_all-requires-clause-stand
join_all-requires-clause-stand g c =
    let b = c.args.store.now.board in let u = known c.begin_phase.new.pass in let n = c.args.count in let script = c.args.script in
    let at = (goal.at.join_all-requires-clause-stand g c).After-run_all in
    subst (λ ws. AreNumbered (λ _ w. IsAtBoard b.turns b.shards w.pass) 0 ws)
    (sym (written-over c.split_all.new.workers.len c.run_all.new.workers c.split_all.new.workers.items (many-ran g at) (sym c.as_mut_slice.ensures.len ∙ ap length c.as_mut_slice.ensures.value)))
    (all-stand b.turns b.shards n script (start_of u) u.number c.run_all.new.workers (they-ran g at))

pub in_order-requires-clause-whole : goal.in_order-requires-clause-whole
in_order-requires-clause-whole g c =
    let b = c.args.store.now.board in let u = known c.begin_phase.new.pass in let n = c.args.count in let script = c.args.script in
    let at = (goal.at.in_order-requires-clause-whole g c).After-run_all in
    let is = written-over c.split_all.new.workers.len c.run_all.new.workers c.split_all.new.workers.items (many-ran g at) (sym c.as_mut_slice.ensures.len ∙ ap length c.as_mut_slice.ensures.value) in
    subst (λ (lines : List Line). AreNumbered (λ w rs. length rs.items ≡ length (lines_of w n lines)) 0 c.reverse.new.self.items) (sym c.of-whole.ensures)
    (subst (λ vs. AreNumbered (λ w rs. length rs.items ≡ length (lines_of w n script)) 0 vs) (sym (c.reverse.ensures.items ∙ c.join_all.ensures.replies ∙ ap (λ ws. replies_in ws) is))
    (replies-whole b.turns b.shards n script (start_of u) u.number c.run_all.new.workers (they-ran g at)))

pub returns-clause-phase : goal.returns-clause-phase
returns-clause-phase g c = λ phases replies has.
    let b = c.args.store.now.board in let u = known c.begin_phase.new.pass in let n = c.args.count in let script = c.args.script in
    let at = (goal.at.returns-clause-phase g c).After-run_all in
    let zs = c.run_all.new.workers in let w = known c.join_all.new.pass in
    let many = many-ran g at in
    let all = many ∙ c.split_all.ensures.len ∙ c.requires.room.len in
    let is = written-over c.split_all.new.workers.len zs c.split_all.new.workers.items many (sym c.as_mut_slice.ensures.len ∙ ap length c.as_mut_slice.ensures.value) in
    subst (λ (rs : List Reply). HasRunPhases (phases ++ record { script = script; workers = n } ∷ []) (replies ++ rs) w) (sym c.from_vec.ensures)
    (phase-over b.turns b.shards n script phases replies (known c.args.pass.now) u (known c.split_all.new.pass) w zs _ c.reverse.new.self.items c.in_order.result.items has c.begin_phase.ensures.parent c.requires.some is all
    (they-ran g at) (subst (λ (k : ℕ). HasParted u k (known c.split_all.new.pass)) (c.split_all.ensures.len ∙ c.requires.room.len) c.split_all.ensures.parted.1) c.join_all.ensures.back
    (c.reverse.ensures.items ∙ c.join_all.ensures.replies ∙ ap (λ ws. replies_in ws) is)
    (subst (λ (lines : List Line). (w : ℕ) → w < n → replies_of w n lines c.in_order.result.items ≡ own_at c.reverse.new.self.items w) c.of-whole.ensures c.in_order.ensures.own) (c.in_order.ensures.len ∙ ap length c.of-whole.ensures) c.join_all.ensures.stands.held)

pub returns-clause-start : goal.returns-clause-start
returns-clause-start g c = c.join_all.ensures.start ∙ c.split_all.ensures.parted.1.start_is ∙ ap (λ (v : View). start_of v) c.begin_phase.ensures.parent
