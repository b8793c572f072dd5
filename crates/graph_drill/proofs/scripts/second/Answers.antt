use Rattle.std.proofs.Common.{◌≡◌, ◌+◌, ◌++◌, ◌∙◌, [], length, take, drop, sym, ap, subst, arith}
use Rattle.std.proofs.Math.Seq.{take-append_seam}
use Rattle.graph_drill.specs.Scripts.{round_lines}
use Rattle.graph_drill.specs.Sessions.{AreAfter}
use Rattle.graph_drill.proofs.Rounds.{numbers-more}
use Rattle.graph_drill.proofs.scripts.second.Goals as goal

pub loop-done-preserved : goal.loop-done-preserved
loop-done-preserved c =
    let drill = c.args.drill.now in
    let new = c.push_round.new.all in
    let items = new ++ drop (length new) c.loop-done.sessions.items in
    let long : length new ≡ c.loop-done.sessions.len = c.push_round.auto.all ∙ c.deref_mut.ensures.len in
    let whole : take c.loop-done.sessions.len items ≡ new = ap (λ n. take n items) (sym long) ∙ take-append_seam new (drop (length new) c.loop-done.sessions.items) in
    let f = round_lines drill.seed drill.next_vertex drill.sessions in
    record {
      after = subst (AreAfter drill (c.loop-done.done + 1)) (sym whole) c.in_ok-push_round.ensures.after;
      pushed = c.in_ok-push_round.ensures.pushed ∙ ap (λ s. s ++ f (c.loop-done.done + 1)) c.loop-done.invariant.pushed
          ∙ numbers-more f 1 c.loop-done.done (c.loop-done.done + 1) [] (omega arith);
    }
