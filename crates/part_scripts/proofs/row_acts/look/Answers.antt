use Rattle.std.proofs.Common.{sym, subst, Some}
use Rattle.std.specs.Prelude.{Ok}
use Rattle.core_states.specs.declared.event.Act.TheVariants as act
use Rattle.core_states.specs.declared.event.CoreAnswer.{CoreAnswer}
use Rattle.shard_state.specs.Shards.{row_at, limits_with}
use Rattle.part_scripts.specs.Rows.{Did}
use Rattle.part_scripts.proofs.Acts.{limits_are, did_look}
use Rattle.part_scripts.proofs.row_acts.look.Goals as goal

pub returns : goal.returns
returns g c =
    let row = row_at g.L.EdgeLog.content c.args.shard.now c.args.v in
    subst (λ (says : CoreAnswer). Did (act.Look c.args.v) c.args.x.now row (Ok (Some says)) row) (sym c.looked.ensures)
    (did_look (limits_with c.args.shard.now.log_most) c.in-Some.who c.args.x.now c.args.v row c.look.result
    (limits_are c.args.shard.now.log_most c.requires.most) c.in-Some.ensures.speaks c.look.ensures.event)
