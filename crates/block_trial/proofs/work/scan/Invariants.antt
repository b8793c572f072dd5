use Rattle.std.proofs.Common.{IfSome}
use Rattle.edge_log.specs.declared.place.Place.{Place}
use Rattle.block_trial.specs.Logs.{HasPastPlace}
use Rattle.block_trial.proofs.work.scan.Given as goal

abbrev pub invariant-loop-part : goal.invariant-loop-part
invariant-loop-part l = IfSome l.next (λ (place : Place). HasPastPlace l.start place l.block)
