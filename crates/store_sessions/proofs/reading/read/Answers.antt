use Rattle.std.proofs.Common.{sym, subst}
use Rattle.core_states.specs.declared.event.Act.TheVariants as act
use Rattle.store_turns.specs.Grows.{told_if}
use Rattle.store_sessions.specs.Reading.{ReadTells}
use Rattle.store_sessions.proofs.Shown.{read_so}
use Rattle.store_sessions.proofs.reading.read.Goals as goal

pub returns : goal.returns
returns g c = let ts = told_if (λ _. act.Read c.args.query.now) c.read_by_shard.result in record {
  goes = (ts, subst (λ r. ReadTells c.args.query.now r ts) (sym c.shown.ensures) (read_so c.args.query.now c.read_by_shard.result c.read_by_shard.ensures.says), c.read_by_shard.ensures.goes);
}
