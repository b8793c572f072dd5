use Rattle.std.proofs.Common.{◌≡◌, ◌∙◌, ◌+◌, ap}
use Rattle.rand_core.specs.Stream.{next_u64}
use Rattle.graph_drill.specs.Scripts.{word_of}
use Rattle.graph_drill.proofs.Rounds.{session-pushed}
use Rattle.graph_drill.proofs.drill_session.DrillSession.push_round.Goals as goal

pub returns-clause-pushed : goal.returns-clause-pushed
returns-clause-pushed c =
    let x = c.args.self.now in
    let drill = c.args.drill.now in
    let word : c.next_u64-word.result ≡ word_of drill.seed x.number c.args.round = ap (λ w. w.0) c.next_u64-word.ensures ∙ ap (λ s. (next_u64 s).0) c.requires.after.words in
    session-pushed drill x c.args.round c.next_u64-word.result (drill.next_vertex + c.from.result) c.label_of-l.result c.from-d.result c.saturating_sub.result c.in_ok-p.p _ _ _ _ _ _ c.requires.counted c.requires.after
    word (ap (λ n. drill.next_vertex + n) c.from.ensures) c.label_of-l.ensures c.from-d.ensures c.saturating_sub.ensures (c.in_ok-p.ensures ∙ c.to_be_bytes.ensures)
    c.in_ok-push.ensures c.in_ok-push-2.ensures c.in_ok-push_in_every.ensures c.in_ok-push_in_every-2.ensures c.in_ok-push-3.ensures
