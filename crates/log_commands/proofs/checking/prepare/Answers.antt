-- The line is that of the log that was recovered.
use Rattle.std.proofs.Common.{refl}
use Rattle.log_commands.proofs.checking.prepare.Goals as goal

pub returns-clause-checked : goal.returns-clause-checked
returns-clause-checked g c =
    let log = c.in_ok-log in
    record {
      recovered = log.log;
      log = record { lawful = log.ensures.lawful; within = log.ensures.durable.1; bytes = log.ensures.recovered };
      base_is = log.ensures.base;
      spelled = refl;
    }
