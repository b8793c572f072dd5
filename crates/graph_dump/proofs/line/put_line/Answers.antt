use Rattle.request_text.proofs.Putting.{PutSoFar-start, PutSoFar-step, PutSoFar-last, of_put}
use Rattle.graph_dump.specs.Lines.{named, line, newline}
use Rattle.graph_dump.proofs.line.put_line.Goals as goal

pub returns : goal.returns
returns g c =
    PutSoFar-last _ _ _ (line c.args.name.now c.args.numbers.now) newline _
    (PutSoFar-step _ _ _ _ (named c.args.name.now c.args.numbers.now) newline _ (PutSoFar-start _ _) c.in_ok-put_named.ensures)
    (of_put _ _ c.put.result newline c.put.ensures)
