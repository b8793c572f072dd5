-- A run without faults, on a log and a script that are told.
use denote.Param.Send.{param_send, param_sync, arg_sync, given_send, given_sync}
use Rattle.std.proofs.Common.{subst, inl, inr, rules}
use Rattle.command_words.specs.Commands.{IsWithinCounts}
use Rattle.command_words.specs.declared.command.Command.{Command}
use Rattle.graph_cli.specs.TopCall.{CanCarryOut}
use Rattle.drill_runs.proofs.Complete.{refused_drill_done, ran_drill_done}
use Rattle.graph_cli.proofs.Complete.{refused_done, ran_done}
use Rattle.graph_cli.proofs.top_call.carry_out.Goals as goal

pub run-requires : goal.run-requires
run-requires g c κs within =
    let counts = subst IsWithinCounts c.in-Run.is c.requires.1.1.1.1.1.1.1.1.1.0 in
    (search rules, (search rules, (search rules, (search rules, (search rules, (search rules, (search rules, (search rules, (search rules, (counts.0, ((counts.2, counts.3), c.requires.1.1.1.1.1.1.1.1.1.1)))))))))))

pub returns-in-Run-clause-complete : goal.returns-in-Run-clause-complete
returns-in-Run-clause-complete g c = λ can source_calm sink_calm disk_calm.
    let told = g.D.Disk.told c.args.disk in
    let left = g.S.Source.left c.args.source.now in
    let run_can = subst (λ (x : Command). CanCarryOut x left told) c.in-Run.is can in
    elim c.run.ensures.ends [
      | inl refused ↦ refused_done _ _ _ _ _ _ _ _ refused.0.why run_can.0 run_can.1 source_calm disk_calm
      | inr ran ↦ ran_done _ _ _ _ _ _ _ _ ran.1 sink_calm disk_calm
    ]

pub drill-requires : goal.drill-requires
drill-requires g c κs within =
    let counts = subst IsWithinCounts c.in-Drill.is c.requires.1.1.1.1.1.1.1.1.1.0 in (
      search rules,
      (
        search rules,
        (
          search rules,
          (
            search rules,
            (
              param_send 1 _ (given_send 2 _ g.row.D c.requires.1.1.1.1.1.0),
              (
                param_sync 1 _ (arg_sync _ _ g.row.D (given_sync 2 g.row.D c.requires.1.1.1.1.1.1.0)),
                (
                  param_sync 2 _ (arg_sync _ _ g.row.G (given_sync 3 g.row.G c.requires.1.1.1.1.1.1.1.0)),
                  (
                    param_sync 3 _ (arg_sync _ _ g.row.R (given_sync 4 g.row.R c.requires.1.1.1.1.1.1.1.1.0)),
                    (counts.6, ((counts.1, counts.2), c.requires.1.1.1.1.1.1.1.1.1.1)),
                  ),
                ),
              ),
            ),
          ),
        ),
      ),
    )

pub returns-in-Drill-clause-complete : goal.returns-in-Drill-clause-complete
returns-in-Drill-clause-complete g c = λ can source_calm sink_calm disk_calm.
    let told = g.D.Disk.told c.args.disk in
    let left = g.S.Source.left c.args.source.now in
    let drill_can = subst (λ (x : Command). CanCarryOut x left told) c.in-Drill.is can in
    elim c.drill.ensures.ends [
      | inl refused ↦ refused_drill_done _ _ _ _ _ refused.0.why drill_can disk_calm
      | inr ran ↦ ran_drill_done g.K.Sink.written g.K.Sink.faults _ _ _ _ _ _ ran.1 sink_calm disk_calm
    ]
