use Rattle.std.proofs.Common.{◌≡◌, ◌<◌, ◌-◌, ◌++◌, ◌∙◌, length, get_or, sym, ap, arith, length-set}
use Rattle.graph_drill.specs.Scripts.{session_lines}
use Rattle.graph_drill.specs.Sessions.{IsAfter}
use Rattle.graph_drill.proofs.Rounds.{numbers-more, set-at}
use Rattle.graph_drill.proofs.scripts.push_round.Goals as goal

pub loop-session-preserved : goal.loop-session-preserved
loop-session-preserved c =
    let drill = c.args.drill.now in
    let all = c.loop-session.all in
    let i = c.loop-session.session-index in
    let item = c.session-item.result in
    let within : i < length all = omega (arith, c.loop-session-test.true, c.loop-session.auto.all) in
    let here : (get_or all i item).number ≡ i = c.loop-session.invariant.numbers i item within in
    let long = length-set all i c.push_round.new.self in
    record {
      count = long ∙ c.loop-session.invariant.count;
      numbers = λ k x below. set-at (λ n z. z.number ≡ n) all i c.push_round.new.self k x within
          (λ same. c.in_ok-push_round.ensures.number ∙ here ∙ sym same) (λ differ. c.loop-session.invariant.numbers k x (omega (arith, long)));
      gone = λ k x below. set-at (λ n z. IsAfter drill c.args.round z) all i c.push_round.new.self k x within
          (λ same. c.in_ok-push_round.ensures.after) (λ differ. c.loop-session.invariant.gone k x (omega arith));
      left = λ k x above below. set-at (λ n z. IsAfter drill (c.args.round - 1) z) all i c.push_round.new.self k x within
          (λ same. absurd (omega arith)) (λ differ. c.loop-session.invariant.left k x (omega arith) (omega (arith, long)));
      pushed = c.in_ok-push_round.ensures.pushed
          ∙ ap (λ n. c.loop-session.script ++ session_lines drill.seed drill.next_vertex c.args.round n) here
          ∙ ap (λ s. s ++ session_lines drill.seed drill.next_vertex c.args.round i) c.loop-session.invariant.pushed
          ∙ numbers-more (session_lines drill.seed drill.next_vertex c.args.round) 0 i i c.args.script.now (omega arith);
    }
