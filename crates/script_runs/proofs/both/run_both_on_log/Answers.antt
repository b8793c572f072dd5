use Rattle.std.proofs.Common.{◌≡◌, ◌∙◌, ◌++◌, [], ap, subst, sym}
use Rattle.graph_model.specs.declared.graph.Base.{Base}
use Rattle.graph_model.specs.Records.{list_most}
use Rattle.graph_store.specs.Closing.{HasEpochs}
use Rattle.turn_board.specs.Board.{known}
use Rattle.turn_board.specs.Views.{Start, start_of}
use Rattle.store_log.specs.LogChanges.{IsBaseOf}
use Rattle.store_log.specs.LogValues.{found_on}
use Rattle.store_opening.specs.Opened.{start_with}
use Rattle.store_workers.specs.Phases.{HasRunPhases}
use Rattle.store_workers.proofs.Phasing.{none-ran}
use Rattle.script_runs.specs.Runs.{shared, shared_behind}
use Rattle.script_runs.proofs.Closings.{legal-when-closed}
use Rattle.script_runs.proofs.Logging.{goes-on, in-log, count-faults}
use Rattle.script_runs.proofs.both.run_both_on_log.Goals as goal
use Rattle.script_runs.proofs.both.run_both_on_log.Goals.{After-close_seat-closed, After-run_script-second_replies}
use Rattle.script_runs.proofs.both.run_both_on_log.Given.{Over}

-- the store was opened over the base and the log
started : (g : Over) (c : After-close_seat-closed g)
    → start_of (known c.run_script-second_replies.new.pass) ≡ start_with c.args.base.now list_most (found_on g.D.Disk.told g.D.Disk.faults c.args.wal.disk g.origin) c.args.shards
started g c = c.run_script-second_replies.ensures.start ∙ c.run_script-first_replies.ensures.start ∙ ap (λ m. start_of m.0) c.in-Ok-open_seat.ensures.pass

-- and workers ran one script after the other on it
ran : (g : Over) (c : After-run_script-second_replies g)
    → HasRunPhases (shared_behind c.args.first c.args.second c.args.workers) (c.run_script-first_replies.result ++ c.run_script-second_replies.result) (known c.run_script-second_replies.new.pass)
ran g c =
    let start = start_with c.args.base.now list_most (found_on g.D.Disk.told g.D.Disk.faults c.args.wal.disk g.origin) c.args.shards in
    c.run_script-second_replies.ensures.phase (shared c.args.first 1) c.run_script-first_replies.result
    (c.run_script-first_replies.ensures.phase [] [] (none-ran start _ (ap (λ m. m.0) c.in-Ok-open_seat.ensures.pass)))

-- what the first script was run over, the second one is run over
pub run_script-second_replies-requires-clause-found : goal.run_script-second_replies-requires-clause-found
run_script-second_replies-requires-clause-found g c κs within =
    subst (λ (s : Start). IsBaseOf s.base s.found.records) (sym (c.run_script-first_replies.ensures.start ∙ ap (λ m. start_of m.0) c.in-Ok-open_seat.ensures.pass)) c.requires.1.1.1.1.1.1.1.1.1.1.1.0.base_is

pub close_seat-closed-requires-clause-last : goal.close_seat-closed-requires-clause-last
close_seat-closed-requires-clause-last g c = (ran g (goal.at.close_seat-closed-requires-clause-last g c).After-run_script-second_replies).last

pub returns-clause-legal : goal.returns-clause-legal
returns-clause-legal g c =
    let disk = g.D.Disk in let base = c.args.base.now in
    let found = found_on disk.told disk.faults c.args.wal.disk g.origin in
    let closed = c.close_seat-closed.ensures.closed in
    legal-when-closed disk.told disk.moment disk.images disk.faults base found c.args.shards (shared_behind c.args.first c.args.second c.args.workers) (known c.run_script-second_replies.new.pass)
    (c.run_script-first_replies.result ++ c.run_script-second_replies.result) c.close_seat-closed.result closed.0 closed.1 closed.2
    (started g (goal.at.returns-clause-legal g c).After-close_seat-closed) (ran g (goal.at.returns-clause-legal g c).After-run_script-second_replies) closed.3

pub returns-clause-logged : goal.returns-clause-logged
returns-clause-logged g c =
    let disk = g.D.Disk in let closed = c.close_seat-closed.ensures.closed in
    in-log disk.told disk.moment disk.images disk.faults c.args.base.now c.args.wal.disk g.origin c.args.shards (known c.run_script-second_replies.new.pass) c.close_seat-closed.result closed.0 closed.1 closed.2
    (started g (goal.at.returns-clause-logged g c).After-close_seat-closed) closed.3 (shared_behind c.args.first c.args.second c.args.workers) (c.run_script-first_replies.result ++ c.run_script-second_replies.result)
    (ran g (goal.at.returns-clause-logged g c).After-run_script-second_replies)

pub returns-clause-epochs : goal.returns-clause-epochs
returns-clause-epochs g c =
    let closed = c.close_seat-closed.ensures.closed in let all = c.close_seat-closed.result in
    let start = started g (goal.at.returns-clause-epochs g c).After-close_seat-closed in
    subst (λ (b : Base). HasEpochs b all.records all.durable_at all.last_moment) (ap (λ (s : Start). s.base) start) closed.3.epochs

pub returns-clause-faults : goal.returns-clause-faults
returns-clause-faults g c =
    let disk = g.D.Disk in let closed = c.close_seat-closed.ensures.closed in
    count-faults disk.told disk.moment disk.images disk.faults c.args.base.now c.args.wal.disk g.origin c.args.shards (known c.run_script-second_replies.new.pass) c.close_seat-closed.result closed.0 closed.1 closed.2
    (started g (goal.at.returns-clause-faults g c).After-close_seat-closed) closed.3 (shared_behind c.args.first c.args.second c.args.workers) (c.run_script-first_replies.result ++ c.run_script-second_replies.result)
    (ran g (goal.at.returns-clause-faults g c).After-run_script-second_replies)

pub returns-clause-keeps : goal.returns-clause-keeps
returns-clause-keeps g c =
    let disk = g.D.Disk in let closed = c.close_seat-closed.ensures.closed in
    goes-on disk.told disk.moment disk.images disk.faults c.args.base.now c.args.wal.disk g.origin c.args.shards (known c.run_script-second_replies.new.pass) c.close_seat-closed.result closed.0 closed.1 closed.2
    (started g (goal.at.returns-clause-keeps g c).After-close_seat-closed) closed.3
