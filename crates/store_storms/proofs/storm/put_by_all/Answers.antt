use Rattle.std.proofs.Common.{◌∙◌, length, sym, ap, subst}
use Rattle.std.specs.List.{All}
use Rattle.store_storms.specs.Putters.{IsAtStorm, IsFirst, numbers_of}
use Rattle.store_storms.proofs.Storms.{at_after, same_after, written_over}
use Rattle.store_storms.proofs.storm.put_by_all.Goals as goal

pub run_all-requires-clause-at : goal.run_all-requires-clause-at
run_all-requires-clause-at g c κs within =
    let b = c.args.store.now.board in
    subst (λ ws. All (λ w. IsAtStorm b.turns b.shards w) ws) (sym c.as_mut_slice.ensures.value) c.split_all.ensures.at

pub join_all-requires-clause-out : goal.join_all-requires-clause-out
join_all-requires-clause-out g c =
    let b = c.args.store.now.board in
    let is = written_over c.split_all.new.workers.len c.run_all.new.workers c.split_all.new.workers.items (c.run_all.ensures.len ∙ ap length c.as_mut_slice.ensures.value) (sym c.as_mut_slice.ensures.len ∙ ap length c.as_mut_slice.ensures.value) in
    subst (λ ns. IsFirst b.turns b.shards ns c.split_all.new.pass)
    (sym (ap numbers_of is ∙ same_after b.turns b.shards c.as_mut_slice.result.now c.run_all.new.workers c.run_all.ensures.len c.run_all.ensures.ran ∙ ap numbers_of c.as_mut_slice.ensures.value))
    c.split_all.ensures.out

pub join_all-requires-clause-at : goal.join_all-requires-clause-at
join_all-requires-clause-at g c =
    let b = c.args.store.now.board in
    let is = written_over c.split_all.new.workers.len c.run_all.new.workers c.split_all.new.workers.items (c.run_all.ensures.len ∙ ap length c.as_mut_slice.ensures.value) (sym c.as_mut_slice.ensures.len ∙ ap length c.as_mut_slice.ensures.value) in
    subst (λ ws. All (λ w. IsAtStorm b.turns b.shards w) ws) (sym is) (at_after b.turns b.shards c.as_mut_slice.result.now c.run_all.new.workers c.run_all.ensures.len c.run_all.ensures.ran)
