use Rattle.std.proofs.Common.{[], ◌∷◌, Ok, Err}
use Rattle.request_text.specs.Words.{payload_word}
use Rattle.request_text.specs.Scripts.{word}
use Rattle.request_text.proofs.Putting.{PutSoFar-start, PutSoFar-step, PutSoFar-last, PutSoFar-fault, of_put}
use Rattle.request_text.proofs.put.put_payload_word.Goals as goal

pub returns-in_err-put : goal.returns-in_err-put
returns-in_err-put g c =
    PutSoFar-fault _ _ _ (word (payload_word c.args.payload.now)) (32 ∷ []) (payload_word c.args.payload.now) _ _ c.from_residual.ensures.0
    (PutSoFar-start _ _) (of_put _ _ (Err _) (32 ∷ []) c.in_err-put.ensures)

pub returns : goal.returns
returns g c =
    PutSoFar-last _ _ _ (word (payload_word c.args.payload.now)) (payload_word c.args.payload.now) _
    (PutSoFar-step _ _ _ _ (32 ∷ []) _ _ (PutSoFar-start _ _) (of_put _ _ (Ok _) (32 ∷ []) c.in_ok-put.ensures)) c.put_payload.ensures
