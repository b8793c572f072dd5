-- What is known at each gate of a log while it is decoded.
use Rattle.std.proofs.Common.{◌≡◌, ℕ, ◌<◌, List, ◌++◌, length, drop}
use Rattle.graph_model.specs.declared.record.Record.{Record}
use Rattle.group_codec.specs.declared.judge.Judge.{Judge}
use Rattle.group_codec.specs.Log.{log_bytes, records_of}
use Rattle.group_codec.specs.Judging.{KnowsLawful}

-- Up to the gate at this place the bytes are a log of so many groups, which the judge knows; these are their records.
pub record IsAtGate (bytes : List ℕ) (judge : Judge) (records : List Record) (place count : ℕ) (groups : List (List Record)) : Type 0 where
  pub stands : KnowsLawful judge groups
  pub known : records ≡ records_of groups
  pub counted : count ≡ length groups
  pub text : bytes ≡ log_bytes groups ++ drop place bytes
  pub long : place ≡ length (log_bytes groups)
  pub within : place < length bytes
