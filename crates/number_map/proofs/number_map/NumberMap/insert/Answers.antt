use Rattle.std.proofs.Common.{arith, ap, refl, get_or, length, None}
use Rattle.number_map.proofs.KeptLemmas.{with_put, kept_same, on_err}
use Rattle.number_map.proofs.number_map.NumberMap.insert.Goals as goal

pub returns-in_err-put_at-clause-unchanged : goal.returns-in_err-put_at-clause-unchanged
returns-in_err-put_at-clause-unchanged g c =
    let near = c.in_err-put_at.ensures.unchanged in
    on_err c.from_residual.result (kept_same _ _ (ap length near) (λ m. ap (λ xs. get_or xs m None) near) (λ m. refl))

pub returns-clause-kept : goal.returns-clause-kept
returns-clause-kept g c =
    let put = c.in_ok-put_at.ensures in let near = c.args.self.now.near in
    with_put _ _ _ _ put.long put.put
    (λ m behind within. c.if-not-is_near.ensures.before_far refl m (omega (arith, near.ok.0)) within) (λ m. refl)
