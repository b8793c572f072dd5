use Rattle.std.proofs.Common.{◌≡◌, [], ◌∷◌, map}
use Rattle.std.specs.Prelude.{replicate}
use Rattle.request_text.specs.declared.request.Request.TheVariants.{Begin, Vertex}
use Rattle.graph_drill.specs.Scripts.{asked_by}
use Rattle.graph_drill.proofs.scripts.first.Given as goal

-- so many vertices were asked for
abbrev pub invariant-loop : goal.invariant-loop
invariant-loop l = l.script ≡ map (asked_by 0) (Begin ∷ replicate l.counter (Vertex []))
