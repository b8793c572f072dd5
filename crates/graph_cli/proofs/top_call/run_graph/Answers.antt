-- The command that was read is the one that the words are.
use Rattle.std.proofs.Common.{sym, subst}
use Rattle.command_words.specs.declared.command.Command.{Command}
use Rattle.command_words.proofs.Ones.{one_command}
use Rattle.run_ending.specs.declared.ended.Ended.{Ended}
use Rattle.graph_cli.specs.TopCall.{Ends, LacksNumbers, CanCarryOut, Keeps}
use Rattle.graph_cli.proofs.Nothing.{want_of_memory, keeps_nowhere}
use Rattle.graph_cli.proofs.top_call.run_graph.Goals as goal

pub returns-in-Ok-clause-carried_out : goal.returns-in-Ok-clause-carried_out
returns-in-Ok-clause-carried_out g c = λ command is.
    let same = one_command c.args.words.now c.in-Ok.command command c.in-Ok.ensures.command is in
    subst (λ (x : Command). Ends g.S.Source.left g.S.Source.faults g.K.Sink.written g.K.Sink.faults g.D.Disk.told g.D.Disk.moment g.D.Disk.images g.D.Disk.faults c.args.source.now c.carry_out.new.source c.args.sink.now c.carry_out.new.sink g.settled c.args.disk c.carry_out.result x) same c.carry_out.ensures.ends

pub returns-in-Ok-clause-complete : goal.returns-in-Ok-clause-complete
returns-in-Ok-clause-complete g c = λ command is can source_calm sink_calm disk_calm.
    let same = one_command c.args.words.now c.in-Ok.command command c.in-Ok.ensures.command is in
    c.carry_out.ensures.complete (subst (λ (x : Command). CanCarryOut x (g.S.Source.left c.args.source.now) (g.D.Disk.told c.args.disk)) (sym same) can) source_calm sink_calm disk_calm

pub returns-in-Err-NoMemory-clause-carried_out : goal.returns-in-Err-NoMemory-clause-carried_out
returns-in-Err-NoMemory-clause-carried_out g c = λ command is.
    subst (λ (x : Ended g.row.D.Denot). Ends g.S.Source.left g.S.Source.faults g.K.Sink.written g.K.Sink.faults g.D.Disk.told g.D.Disk.moment g.D.Disk.images g.D.Disk.faults c.args.source.now c.args.source.now c.args.sink.now c.args.sink.now g.settled c.args.disk x command) (sym c.without_run-in-Err-NoMemory.ensures)
    (want_of_memory g.S.Source.left g.S.Source.faults g.K.Sink.written g.K.Sink.faults g.D.Disk.told g.D.Disk.moment g.D.Disk.images g.D.Disk.faults c.args.source.now c.args.sink.now g.settled c.args.disk command)

pub returns-in-Ok-clause-keeps : goal.returns-in-Ok-clause-keeps
returns-in-Ok-clause-keeps g c = λ command is.
    let same = one_command c.args.words.now c.in-Ok.command command c.in-Ok.ensures.command is in
    subst (λ (x : Command). Keeps g.D.Disk.told g.D.Disk.moment g.D.Disk.images g.D.Disk.faults c.args.disk c.carry_out.result.disk x) same c.carry_out.ensures.keeps

pub returns-in-Err-NoMemory-clause-keeps : goal.returns-in-Err-NoMemory-clause-keeps
returns-in-Err-NoMemory-clause-keeps g c = λ command is.
    subst (λ (x : Ended g.row.D.Denot). Keeps g.D.Disk.told g.D.Disk.moment g.D.Disk.images g.D.Disk.faults c.args.disk x.disk command) (sym c.without_run-in-Err-NoMemory.ensures)
    (keeps_nowhere g.D.Disk.told g.D.Disk.moment g.D.Disk.images g.D.Disk.faults c.args.disk command)

pub returns-in-Ok-clause-usage : goal.returns-in-Ok-clause-usage
returns-in-Ok-clause-usage g c = λ usage command is.
    let same = one_command c.args.words.now c.in-Ok.command command c.in-Ok.ensures.command is in
    subst (λ (x : Command). LacksNumbers (g.D.Disk.told c.args.disk) x) same (c.carry_out.ensures.understood usage)
