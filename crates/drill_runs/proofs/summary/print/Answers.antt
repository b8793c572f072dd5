-- What a sink has after a flush that failed.
use Rattle.graph_drill.specs.Summary.{summary_text}
use Rattle.log_commands.proofs.Printing.{put_part}
use Rattle.drill_runs.proofs.summary.print.Goals as goal

pub returns-clause-part : goal.returns-clause-part
returns-clause-part g c =
    put_part c.flush.result (g.K.Sink.written c.args.sink.now) (g.K.Sink.written c.drill_text_through.new.sink) (g.K.Sink.written c.flush.new.sink)
    c.args.buffer.pending c.drill_text_through.new.outlet.pending (summary_text c.args.g.now c.args.commits)
    c.requires.empty c.drill_text_through.ensures.part c.in_ok-drill_text_through.ensures.printed c.flush.ensures.part
