-- How the opening of a drill ends that is refused.
use Rattle.std.specs.Prelude.{ℕ, ◌+◌, ◌<◌, ◌≤◌, ◌^◌, List, Option, IsSomeAnd}
use Rattle.graph_model.specs.declared.record.Record.{Record}
use Rattle.graph_wal.specs.Log.{RecoversTo}
use Rattle.graph_recover.specs.Bases.{base_of}
use Rattle.log_commands.specs.declared.status.Status.{Status}
use Rattle.log_commands.specs.declared.status.Status.TheVariants as status
use Rattle.log_commands.specs.Opening.{HasLog, Unopened}

-- The disk holds a log, and behind its vertices there are not so many numbers left below 2^62.
pub record HasTooFewNumbers (told : Option (List ℕ)) (sessions : ℕ) : Type 0 where
  pub records : List Record
  pub durable : ℕ
  pub size : ℕ
  pub log : HasLog told records durable size
  pub few : 2 ^ 62 < (base_of records).next_vertex + sessions

-- Why no drill of so many sessions has run: no log was opened, or one was, which has too few numbers left.
abbrev pub Undrilled : ℕ → Status → Option (List ℕ) → ℕ → ℕ → Type 0
Undrilled sessions status.Usage told entry exit = HasTooFewNumbers told sessions
Undrilled sessions s told entry exit = Unopened s told entry exit

-- The disk tells a log, which has so many numbers left.
pub record CanDrill (told : Option (List ℕ)) (sessions : ℕ) : Type 0 where
  pub records : List Record
  pub tells : IsSomeAnd told (RecoversTo records)
  pub enough : (base_of records).next_vertex + sessions ≤ 2 ^ 62
