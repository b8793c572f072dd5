use Rattle.std.proofs.Common.{arith}
use Rattle.block_writing.specs.Filters.{filter_in}
use Rattle.block_trial.proofs.LogLemmas.{appended}
use Rattle.block_trial.proofs.logs.append_edges.Goals as goal

pub loop-d-preserved : goal.loop-d-preserved
loop-d-preserved c =
    let more = c.one_more-fill.ensures.entries in
    let longer = c.one_more-fill.ensures.props in
    let entries = c.loop-d.invariant.entries in
    let props = c.loop-d.invariant.props in
    let short = c.requires.payload in
    record {
      entries = omega (arith, more, entries);
      props = omega (arith, longer, props, short);
      log = λ before. appended c.args.order c.loop-d.fill.entries c.loop-d.fill.props c.one_more-fill.result.entries c.one_more-fill.result.props
          c.from.result 1 c.args.p.now (filter_in c.args.order c.append_entry.new.block) c.loop-d.block c.append_entry.new.block
          more longer c.append_entry.ensures.appended (c.loop-d.invariant.log before);
    }
