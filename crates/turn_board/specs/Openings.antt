-- The parts that a run starts with, for any number of shards, and its limits.
use Rattle.std.specs.Prelude.{ℕ}
use Rattle.graph_model.specs.declared.graph.Base.{Base}
use Rattle.core_states.specs.LogParts.{Found}
use Rattle.core_states.specs.RowEvents.{Limits}
use Rattle.graph_model.specs.Records.{transaction_most}
use Rattle.core_states.specs.Parts.{Parts, bare_parts}

-- each row is as the base has it, and no actor has done anything
abbrev pub opening_of : Base → Limits → Found → ℕ → Parts
opening_of base most found shards = bare_parts base most found shards

-- The limits of a store whose logs have so many bytes at most. Those of a transaction's changes are the same for every store.
abbrev pub limits_of : ℕ → Limits
limits_of log_most = record { txn = transaction_most; log = log_most }
