use Rattle.std.proofs.Common.{ℕ, List, ◌-◌, arith, Some, None}
use Rattle.disk_model.specs.Images.{Torn}
use Rattle.graph_wal.specs.Since.{Since}
use Rattle.graph_wal.specs.Log.{RecoversToEither}
use Rattle.graph_wal.proofs.Moments.{Since-weaken}
use Rattle.graph_wal.proofs.Standing.{ready-kept, ready-either, ready-opened}
use Rattle.graph_wal.proofs.wal.Wal.open_gate.Goals as goal

pub returns-in-Ok-clause-opened : goal.returns-in-Ok-clause-opened
returns-in-Ok-clause-opened g c = λ r h ready.
    let w = c.args.self.now in
    let told = g.D.Disk.told w.disk in
    let told' = g.D.Disk.told c.set_byte.new.disk in
    let left = g.D.Disk.images w.disk (g.D.Disk.moment w.disk) in
    let left' = g.D.Disk.images c.set_byte.new.disk (g.D.Disk.moment c.set_byte.new.disk) in
    record {
      long = ready.end_long;
      short = ready.end_short;
      log = ready-opened told told' w.durable c.args.end r h None left left' ready.log c.in-Ok.ensures.wrote c.in-Ok.ensures.firm;
    }

pub returns-in-Err-clause-attempted : goal.returns-in-Err-clause-attempted
returns-in-Err-clause-attempted g c = λ r h ready.
    let w = c.args.self.now in
    let told = g.D.Disk.told w.disk in
    let told' = g.D.Disk.told c.set_byte.new.disk in
    let left = g.D.Disk.images w.disk (g.D.Disk.moment w.disk) in
    let left' = g.D.Disk.images c.set_byte.new.disk (g.D.Disk.moment c.set_byte.new.disk) in
    let torn = c.set_byte.ensures.torn in
    record {
      long = ready.long;
      short = ready.short;
      log = ready-kept told told' w.durable c.args.end r h left left' ready.log c.set_byte.ensures.keeps.tells (λ b is. torn.each (g.D.Disk.moment c.set_byte.new.disk) b torn.later (omega arith) is);
    }

pub returns-in-Ok-clause-any_moment : goal.returns-in-Ok-clause-any_moment
returns-in-Ok-clause-any_moment g c = λ r h ready.
    let w = c.args.self.now in
    let told = g.D.Disk.told w.disk in
    let told' = g.D.Disk.told c.set_byte.new.disk in
    let left = g.D.Disk.images w.disk (g.D.Disk.moment w.disk) in
    let left' = g.D.Disk.images c.set_byte.new.disk (g.D.Disk.moment c.set_byte.new.disk) in
    ready-either told w.durable c.args.end r h left (Since g.D.Disk.moment g.D.Disk.images w.disk c.set_byte.new.disk (RecoversToEither r (Some h))) ready.log
    (λ each. Since-weaken g.D.Disk.moment g.D.Disk.images w.disk c.set_byte.new.disk (λ b. (d : List ℕ) × left d × Torn (w.durable - 1) 1 d b) (RecoversToEither r (Some h)) c.set_byte.ensures.torn each)

pub returns-in-Err-clause-any_moment : goal.returns-in-Err-clause-any_moment
returns-in-Err-clause-any_moment g c = λ r h ready.
    let w = c.args.self.now in
    let told = g.D.Disk.told w.disk in
    let told' = g.D.Disk.told c.set_byte.new.disk in
    let left = g.D.Disk.images w.disk (g.D.Disk.moment w.disk) in
    let left' = g.D.Disk.images c.set_byte.new.disk (g.D.Disk.moment c.set_byte.new.disk) in
    ready-either told w.durable c.args.end r h left (Since g.D.Disk.moment g.D.Disk.images w.disk c.set_byte.new.disk (RecoversToEither r (Some h))) ready.log
    (λ each. Since-weaken g.D.Disk.moment g.D.Disk.images w.disk c.set_byte.new.disk (λ b. (d : List ℕ) × left d × Torn (w.durable - 1) 1 d b) (RecoversToEither r (Some h)) c.set_byte.ensures.torn each)
