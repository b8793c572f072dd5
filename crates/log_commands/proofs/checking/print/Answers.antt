-- What a sink has after a flush that failed.
use Rattle.graph_dump.specs.CheckText.{text_of_log}
use Rattle.log_commands.proofs.Printing.{put_part}
use Rattle.log_commands.proofs.checking.print.Goals as goal

pub returns-clause-part : goal.returns-clause-part
returns-clause-part g c =
    put_part c.flush.result (g.K.Sink.written c.args.sink.now) (g.K.Sink.written c.check_text_through.new.sink) (g.K.Sink.written c.flush.new.sink)
    c.args.buffer.pending c.check_text_through.new.outlet.pending (text_of_log c.args.log.now)
    c.requires.empty c.check_text_through.ensures.part c.in_ok-check_text_through.ensures.printed c.flush.ensures.part
