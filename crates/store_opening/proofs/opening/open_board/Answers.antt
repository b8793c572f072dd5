use Rattle.std.proofs.Common.{◌≤◌, sym, subst, ap, ◌∙◌}
use Rattle.store_opening.specs.Opened.{AreShards}
use Rattle.store_opening.proofs.Opens.{all_open, opened_shards, handed_back}
use Rattle.store_opening.proofs.opening.open_board.Goals as goal

pub make-requires : goal.make-requires
make-requires g c =
    let r = c.requires in
    let boxed = c.in-Ok-boxed.ensures.boxed in
    record {
      opens = all_open _ (λ w. g.W.ShowsLog.log w.value.value) (λ w. g.W.ShowsLog.moment w.value.value) c.args.base.now c.args.count c.args.log_most r.good r.lists r.some.0 r.some.1 r.most c.in-Ok.shards.values.items c.in-Ok.ensures.opened c.in-Ok.ensures.len
          c.in-Ok-new.clock (ap (λ h. h.part.clock) c.in-Ok-new.ensures.ok ∙ c.opened.ensures.clock) c.in-Ok-boxed.log r.log.0 (ap (λ w. g.W.ShowsLog.log w) boxed ∙ r.log.1)
          (subst (λ w. (g.W.ShowsLog.log w).moment ≤ g.W.ShowsLog.moment w) (sym boxed) r.in_time);
    }

pub let_go-requires : goal.let_go-requires
let_go-requires g c = opened_shards c.args.base.now c.args.count c.args.log_most 0 c.in-Ok.shards.values.items c.in-Ok.ensures.opened

pub let_go-requires-in-Err : goal.let_go-requires-in-Err
let_go-requires-in-Err g c = opened_shards c.args.base.now c.args.count c.args.log_most 0 c.in-Ok.shards.values.items c.in-Ok.ensures.opened

pub let_go-requires-in-Err-make : goal.let_go-requires-in-Err-make
let_go-requires-in-Err-make g c =
    let back = c.in-Err-make.field-0 in
    subst (λ xs. AreShards xs) (sym (handed_back back.shards.values.items c.in-Ok.shards.values.items back.clock c.in-Ok-new.clock back.log c.in-Ok-boxed.log c.in-Err-make.ensures.unchanged).0)
    (opened_shards c.args.base.now c.args.count c.args.log_most 0 c.in-Ok.shards.values.items c.in-Ok.ensures.opened)
