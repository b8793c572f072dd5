use Rattle.std.proofs.Common.{rules}
use Rattle.script_runs.proofs.anew.run_anew.Goals as goal

pub run_on_log-requires : goal.run_on_log-requires
run_on_log-requires g c κs within =
    (search rules, (search rules, (search rules, (search rules, (search rules, (search rules, (search rules, (c.requires.shards, (c.requires.workers, (search rules, (search rules, (search rules, c.requires.within))))))))))))
