use Rattle.std.proofs.Common.{◌∷◌, ◌++◌, [], Ok, Err, ap}
use Rattle.std.specs.Prelude.{decimal}
use Rattle.request_text.specs.Scripts.{number_word}
use Rattle.request_text.proofs.Putting.{PutSoFar-start, PutSoFar-step, PutSoFar-last, PutSoFar-fault, of_put}
use Rattle.graph_drill.specs.Summary.{count_words}
use Rattle.graph_drill.proofs.summary.put_count.Goals as goal

pub returns-in_err-put-2 : goal.returns-in_err-put-2
returns-in_err-put-2 g c =
    PutSoFar-fault _ _ _ (count_words c.args.name.now c.args.n) (32 ∷ []) (decimal c.args.n) _ _ c.from_residual-in_err-put-2.ensures.0
    (PutSoFar-step _ _ _ _ c.args.name.now (number_word c.args.n) _ (PutSoFar-start _ _) (of_put _ _ (Ok _) c.args.name.now c.in_ok-put.ensures)) (of_put _ _ (Err _) (32 ∷ []) c.in_err-put-2.ensures)

pub returns : goal.returns
returns g c =
    PutSoFar-last _ _ _ (count_words c.args.name.now c.args.n) (decimal c.args.n) _
    (PutSoFar-step _ _ _ _ (32 ∷ []) (decimal c.args.n) _
    (PutSoFar-step _ _ _ _ c.args.name.now (number_word c.args.n) _ (PutSoFar-start _ _) (of_put _ _ (Ok _) c.args.name.now c.in_ok-put.ensures))
    (of_put _ _ (Ok _) (32 ∷ []) c.in_ok-put-2.ensures)) c.put_decimal.ensures
