use Rattle.std.proofs.Common.{ap, sym, ◌∙◌}
use Rattle.std.specs.Option.{option_copied}
use Rattle.shard_state.proofs.shard.Shard+L+L+Room.read.Goals as goal

pub read-requires-clause-stands : goal.read-requires-clause-stands
read-requires-clause-stands g c = c.requires.shard.rows.stand c.place-place.result c.in-Some.row.now (sym c.get.ensures ∙ ap option_copied c.in-Some.is)
