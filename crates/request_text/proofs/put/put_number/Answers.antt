use Rattle.std.proofs.Common.{[], ◌∷◌, Ok, Err}
use Rattle.std.specs.Prelude.{decimal}
use Rattle.request_text.specs.Scripts.{number_word}
use Rattle.request_text.proofs.Putting.{PutSoFar-start, PutSoFar-step, PutSoFar-last, PutSoFar-fault, of_put}
use Rattle.request_text.proofs.put.put_number.Goals as goal

pub returns-in_err-put : goal.returns-in_err-put
returns-in_err-put g c =
    PutSoFar-fault _ _ _ (number_word c.args.n) (32 ∷ []) (decimal c.args.n) _ _ c.from_residual.ensures.0
    (PutSoFar-start _ _) (of_put _ _ (Err _) (32 ∷ []) c.in_err-put.ensures)

pub returns : goal.returns
returns g c =
    PutSoFar-last _ _ _ (number_word c.args.n) (decimal c.args.n) _
    (PutSoFar-step _ _ _ _ (32 ∷ []) _ _ (PutSoFar-start _ _) (of_put _ _ (Ok _) (32 ∷ []) c.in_ok-put.ensures)) c.put_decimal.ensures
