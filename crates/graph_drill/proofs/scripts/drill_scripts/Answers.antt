use Rattle.std.proofs.Common.{◌<◌, List, sym, subst}
use Rattle.std.specs.List.{AllByRecursion}
use Rattle.request_text.specs.declared.request.Line.{Line}
use Rattle.request_text.specs.Limits.{AreWithinLimits}
use Rattle.graph_drill.proofs.Within.{first-within, second-within, second-below}
use Rattle.graph_drill.proofs.scripts.drill_scripts.Goals as goal

pub returns-clause-within : goal.returns-clause-within
returns-clause-within c few = (
  subst AreWithinLimits (sym c.in_ok-first.ensures) (first-within c.args.sessions),
  subst AreWithinLimits (sym c.in_ok-second.ensures) (second-within c.args.seed c.args.next_vertex c.args.sessions c.args.rounds c.requires few c.ranges.rounds.fits),
)

pub returns-clause-below : goal.returns-clause-below
returns-clause-below c =
    let AreBelow : List Line → Type 0 = λ lines. AllByRecursion (λ (line : Line). line.session < c.args.sessions) lines in
    subst AreBelow (sym c.in_ok-second.ensures) (second-below c.args.seed c.args.next_vertex c.args.sessions c.args.rounds)
