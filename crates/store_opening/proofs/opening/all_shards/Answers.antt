use Rattle.std.proofs.Common.{◌+◌, [], ◌∷◌, ◌∙◌, length, length-append, Some, sym, ap, subst}
use Rattle.turn_board.specs.declared.home.Home.TheVariants as home
use Rattle.store_opening.specs.Opened.{AllOpened, AreShards}
use Rattle.store_opening.proofs.Opens.{opened_shards, opened_next}
use Rattle.store_opening.proofs.opening.all_shards.Goals as goal

pub let_go-requires : goal.let_go-requires
let_go-requires g c = opened_shards c.args.base.now c.args.count c.args.log_most 0 c.loop-number.shards.values.items c.loop-number.invariant.opened

pub let_go-requires-in-Err : goal.let_go-requires-in-Err
let_go-requires-in-Err g c = subst (λ xs. AreShards xs) (sym c.in-Err.ensures.unchanged) (opened_shards c.args.base.now c.args.count c.args.log_most 0 c.loop-number.shards.values.items c.loop-number.invariant.opened)

pub loop-number-preserved : goal.loop-number-preserved
loop-number-preserved g c = record {
  opened = subst (λ xs. AllOpened c.args.base.now c.args.count c.args.log_most 0 xs) (sym c.in_default-push.ensures.added)
      (opened_next _ c.args.base.now c.args.count c.args.log_most c.loop-number.shards.values.items c.in-Ok.shard c.loop-number.number c.loop-number.invariant.len c.loop-number.invariant.opened
      (record { place = c.in-Ok.ensures.place; rows = c.in-Ok.ensures.rows }));
  len = ap length c.in_default-push.ensures.added ∙ length-append c.loop-number.shards.values.items (Some (home.Shard c.in-Ok.shard) ∷ []) ∙ ap (λ n. n + 1) c.loop-number.invariant.len;
}
