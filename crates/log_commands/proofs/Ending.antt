-- What the status of a command that was refused says.
use Rattle.std.proofs.Common.{◌≡◌, ℕ, ◌<◌, ◌≤◌, List, [], ◌∷◌, ◌++◌, length, refl, sym, ap, ◌∙◌, arith}
use Rattle.std.specs.Prelude.{Option, Some, None, IfSome, IsSomeAnd}
use Rattle.std.specs.Option.{unwrap_or}
use Rattle.io_edges.specs.Faults.{Rose}
use Rattle.graph_model.specs.declared.record.Record.{Record}
use Rattle.graph_model.specs.Records.{last_epoch}
use Rattle.group_codec.specs.Log.{log_head, groups_bytes, Recovers, FirstBad}
use Rattle.group_codec.proofs.Readings.{not-both, one-list}
use Rattle.graph_wal.specs.Log.{RecoversTo}
use Rattle.log_commands.specs.declared.status.Status.{Status}
use Rattle.log_commands.specs.declared.status.Status.TheVariants as status
use Rattle.log_commands.specs.Status.{HasPrinted, IsDoneOrNoMemory}
use Rattle.log_commands.specs.Opening.{HasLog, Unopened}
use Rattle.log_commands.specs.Dump.{IsAboveLast, Undumped, CanDump}
use Rattle.log_commands.specs.Check.{CanCheck}

-- a log has bytes
log-nonempty : (b : List ℕ) (r : List Record) (n : ℕ) → Recovers b r n → b ≡ [] → ⊥
log-nonempty [] r n is none = let text = is.3.text in cc
log-nonempty (x ∷ b) r n is none = cc

-- a command that opened no log did not print
pub unopened_silent : (s : Status) (told : Option (List ℕ)) (entry exit : ℕ) → Unopened s told entry exit → HasPrinted s → ⊥
unopened_silent status.Done told entry exit why printed = why
unopened_silent status.WriteFault told entry exit why printed = why
unopened_silent s told entry exit why printed = printed

-- where a log is told and the disk had no fault, a log that was not opened was not for want of memory
pub unopened_done : (s : Status) (told : Option (List ℕ)) (entry exit : ℕ) → Unopened s told entry exit → CanCheck told → (Rose entry exit → ⊥) → IsDoneOrNoMemory s
unopened_done status.NoLog None entry exit why can calm = can.1
unopened_done status.NoLog (Some b) entry exit why can calm = absurd (log-nonempty b can.0 can.1.0 can.1.1 why)
unopened_done (status.BadLog at group) None entry exit why can calm = can.1
unopened_done (status.BadLog at group) (Some b) entry exit why can calm = absurd (not-both b can.0 can.1.0 at group can.1.1 why.1)
unopened_done (status.DiskFault before after) told entry exit why can calm = absurd (calm why.rose)
unopened_done status.NoMemory told entry exit why can calm = tt
unopened_done s told entry exit why can calm = absurd why

-- a command that dumped no graph did not print
pub undumped_silent : (s : Status) (told : Option (List ℕ)) (asked : Option ℕ) (entry exit : ℕ) → Undumped s told asked entry exit → HasPrinted s → ⊥
undumped_silent status.Done told asked entry exit why printed = why
undumped_silent status.WriteFault told asked entry exit why printed = why
undumped_silent s told asked entry exit why printed = printed

-- a log has no epoch that is above its last one
above-none : (told : Option (List ℕ)) (wanted : Option ℕ) (asked last : ℕ) → IsAboveLast told wanted asked last → CanDump told wanted → ⊥
above-none None wanted asked last above can = can.tells
above-none (Some b) wanted asked last above can =
    let one = one-list b above.records can.records above.durable can.tells.0 above.log.bytes.0 can.tells.1 in
    let shown : unwrap_or wanted (last_epoch 0 can.records) ≡ asked = ap (λ w. unwrap_or w (last_epoch 0 can.records)) above.wanted_is in
    let same : last_epoch 0 above.records ≡ last_epoch 0 can.records = ap (last_epoch 0) one.0 in
    omega (arith, shown, same, above.last_is, above.above, can.within)

can-check : (told : Option (List ℕ)) (asked : Option ℕ) → CanDump told asked → CanCheck told
can-check told asked can = (can.records, can.tells)

-- where such a log is told and the disk had no fault, a graph that was not dumped was not for want of memory
pub undumped_done : (s : Status) (told : Option (List ℕ)) (asked : Option ℕ) (entry exit : ℕ) → Undumped s told asked entry exit → CanDump told asked → (Rose entry exit → ⊥) → IsDoneOrNoMemory s
undumped_done (status.BadEpoch wanted last) told asked entry exit why can calm = absurd (above-none told asked wanted last why can)
undumped_done status.Done told asked entry exit why can calm = absurd why
undumped_done status.Usage told asked entry exit why can calm = absurd why
undumped_done (status.BadScript line column) told asked entry exit why can calm = absurd why
undumped_done (status.BadLog at group) told asked entry exit why can calm = unopened_done (status.BadLog at group) told entry exit why (can-check told asked can) calm
undumped_done status.NoLog told asked entry exit why can calm = unopened_done status.NoLog told entry exit why (can-check told asked can) calm
undumped_done status.ReadFault told asked entry exit why can calm = absurd why
undumped_done status.WriteFault told asked entry exit why can calm = absurd why
undumped_done (status.DiskFault before after) told asked entry exit why can calm = absurd (calm why.rose)
undumped_done status.NoMemory told asked entry exit why can calm = tt
undumped_done (status.NotEmpty size) told asked entry exit why can calm = absurd why
undumped_done status.ScriptTooLong told asked entry exit why can calm = absurd why
