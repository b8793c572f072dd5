use Rattle.std.proofs.Common.{ℕ, subst, sym}
use Rattle.edge_log.specs.declared.place.Place.{Place}
use Rattle.block_trial.specs.Logs.{HasPastPlace}
use Rattle.block_trial.proofs.LogLemmas.{log-end}
use Rattle.block_trial.proofs.work.scan_log.Goals as goal

pub scan_all-requires : goal.scan_all-requires
scan_all-requires c =
    let place : Place = record { below = c.args.fill.entries; props = c.args.fill.props } in
    let P : ℕ → Type 0 = λ start. HasPastPlace start place c.args.block.now in
    subst P (sym c.props_start.ensures) (log-end c.args.order c.args.fill.entries c.args.fill.props c.args.block.now c.requires.log
    (λ start xs held long. c.is_past.ensures start xs held long c.if-not-is_past.false))
