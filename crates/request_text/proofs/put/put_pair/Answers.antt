use Rattle.std.proofs.Common.{[], ◌∷◌, Ok, Err}
use Rattle.request_text.specs.Words.{payload_word}
use Rattle.request_text.specs.Scripts.{number_word}
use Rattle.request_text.specs.ReplyText.{pair_word}
use Rattle.request_text.proofs.Putting.{PutSoFar-start, PutSoFar-step, PutSoFar-last, PutSoFar-fault, of_put}
use Rattle.request_text.proofs.put.put_pair.Goals as goal

pub returns-in_err-put_number : goal.returns-in_err-put_number
returns-in_err-put_number g c =
    PutSoFar-fault _ _ _ (pair_word c.args.pair.now) (number_word c.args.pair.now.d) (58 ∷ payload_word c.args.pair.now.p) _ _ c.from_residual.ensures.0
    (PutSoFar-start _ _) c.in_err-put_number.ensures

pub returns-in_err-put : goal.returns-in_err-put
returns-in_err-put g c =
    PutSoFar-fault _ _ _ (pair_word c.args.pair.now) (58 ∷ []) (payload_word c.args.pair.now.p) _ _ c.from_residual-in_err-put.ensures.0
    (PutSoFar-step _ _ _ _ (number_word c.args.pair.now.d) _ _ (PutSoFar-start _ _) c.in_ok-put_number.ensures)
    (of_put _ _ (Err _) (58 ∷ []) c.in_err-put.ensures)

pub returns : goal.returns
returns g c =
    PutSoFar-last _ _ _ (pair_word c.args.pair.now) (payload_word c.args.pair.now.p) _
    (PutSoFar-step _ _ _ _ (58 ∷ []) _ _
    (PutSoFar-step _ _ _ _ (number_word c.args.pair.now.d) (58 ∷ payload_word c.args.pair.now.p) _ (PutSoFar-start _ _) c.in_ok-put_number.ensures)
    (of_put _ _ (Ok _) (58 ∷ []) c.in_ok-put.ensures)) c.put_payload.ensures
