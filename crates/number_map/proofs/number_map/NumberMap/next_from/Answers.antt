use Rattle.std.proofs.Common.{◌≤◌, ◌∙◌, arith}
use Rattle.std.proofs.lemmas.Grind.{common_steps}
use Rattle.std.proofs.lemmas.Map.Keys.{le_from_not_gt}
use Rattle.number_map.proofs.KeptLemmas.{kept_near, kept_far, not_some, none_there, none_kept, not_gt}
use Rattle.number_map.proofs.number_map.NumberMap.next_from.Goals as goal

pub returns-in-Some-clause-kept : goal.returns-in-Some-clause-kept
returns-in-Some-clause-kept g c = grind (arith, common_steps, kept_near c.args.self.now c.loop-m.m)

pub loop-m-preserved : goal.loop-m-preserved
loop-m-preserved g c k from below =
    let none = not_some _ c.in_default.not-Some in
    grind (arith, common_steps, c.loop-m.invariant k from, none, kept_near c.args.self.now k)

pub returns-in-Some-next-clause-kept : goal.returns-in-Some-next-clause-kept
returns-in-Some-next-clause-kept g c =
    let entry = rw c.in-Some-next.ensures.steps at (c.range.ensures.in_range tt).1 in
    let from : c.max.result ≤ c.in-Some-next.m.now = le_from_not_gt _ _ entry.0.0 in
    kept_far c.args.self.now c.in-Some-next.m.now (omega (arith, c.args.self.now.near.ok.0)) ∙ entry.1

pub returns-in-Some-next-clause-first : goal.returns-in-Some-next-clause-first
returns-in-Some-next-clause-first g c m from below =
    let map = c.args.self.now in
    let least = rw c.in-Some-next.ensures.steps at (c.range.ensures.in_range tt).2 in
    none_kept map c.args.n m from (λ k above within. c.loop-m.invariant k above (omega (arith, map.near.ok.0)))
    (λ behind. none_there _ (λ there.
    let in_range = not_gt c.max.result m (omega (arith, map.near.ok.0)) in
    let past : c.in-Some-next.m.now ≤ m = le_from_not_gt _ _ (least m (in_range, tt) there) in
    omega arith))

pub returns-in-None-clause-none : goal.returns-in-None-clause-none
returns-in-None-clause-none g c m from =
    let map = c.args.self.now in
    none_kept map c.args.n m from (λ k above within. c.loop-m.invariant k above (omega (arith, map.near.ok.0)))
    (λ behind.
    let in_range = not_gt c.max.result m (omega (arith, map.near.ok.0)) in
    (c.range.ensures.in_range tt).5 c.in-None.ensures.steps.0 m (in_range, tt))
