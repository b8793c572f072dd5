-- Where no change is about the asked vertex, it stands as it did, and else it stands so in the graph of it alone.
use Rattle.std.proofs.Common.{◌∙◌, sym, ap}
use Rattle.graph_model.specs.Graph.{vertex_at, after, seen}
use Rattle.graph_model.proofs.Vertices.{after-other, after-same}
use Rattle.graph_model.proofs.graph.Graph.see.Goals as goal

pub returns-then-not-touch-clause-seen : goal.returns-then-not-touch-clause-seen
returns-then-not-touch-clause-seen c =
    let v = c.vertex-v.result in
    let own = c.args.own.now in
    let q = c.args.q.now in
    let stays = after-other v own c.args.self.now (sym c.if-not-touch.ensures) in
    c.in_ok-answer.ensures ∙ ap (λ n. seen (vertex_at n c.args.self.now) q) (sym c.vertex-v.ensures) ∙ ap (λ o. seen o q) (sym stays)
    ∙ ap (λ n. seen (vertex_at n (after own c.args.self.now)) q) c.vertex-v.ensures

pub returns-clause-seen : goal.returns-clause-seen
returns-clause-seen c =
    let v = c.vertex-v.result in
    let own = c.args.own.now in
    let q = c.args.q.now in
    let here = c.in_ok-apply_about.ensures.applied ∙ after-same v own c.in_ok-alone.alone c.args.self.now c.in_ok-alone.ensures in
    c.in_ok-answer-2.ensures ∙ ap (λ n. seen (vertex_at n c.apply_about.new.self) q) (sym c.vertex-v.ensures) ∙ ap (λ o. seen o q) here
    ∙ ap (λ n. seen (vertex_at n (after own c.args.self.now)) q) c.vertex-v.ensures
