use Rattle.shard_state.proofs.Listing.{own-listed, others-listed}
use Rattle.shard_state.proofs.laws.the_rows_are_those_of_the_vertices.Goals as goal

pub returns-clause-own : goal.returns-clause-own
returns-clause-own g c base shard v among loaded own = own-listed g.L.EdgeLog.content base shard v among loaded own

pub returns-clause-others : goal.returns-clause-others
returns-clause-others g c base shard v among other = others-listed g.L.EdgeLog.content base shard v among other
