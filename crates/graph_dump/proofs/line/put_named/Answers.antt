use Rattle.std.proofs.Common.{Ok, flat_map}
use Rattle.request_text.specs.Scripts.{number_word}
use Rattle.request_text.proofs.Putting.{PutSoFar-start, PutSoFar-step, PutSoFar-last, of_put}
use Rattle.graph_dump.specs.Lines.{named}
use Rattle.graph_dump.proofs.line.put_named.Goals as goal

pub returns : goal.returns
returns g c =
    PutSoFar-last _ _ _ (named c.args.name.now c.args.numbers.now) (flat_map number_word c.args.numbers.now) _
    (PutSoFar-step _ _ _ _ c.args.name.now _ _ (PutSoFar-start _ _) (of_put _ _ (Ok _) c.args.name.now c.in_ok-put.ensures)) c.put_numbers.ensures
