use Rattle.std.proofs.Common.{ℕ, List, ◌-◌, arith, sym, subst}
use Rattle.disk_model.specs.Images.{Torn}
use Rattle.graph_wal.specs.declared.wal.Attempt.{Attempt}
use Rattle.graph_wal.specs.declared.wal.Attempt.TheVariants as attempts
use Rattle.graph_wal.specs.Since.{Since}
use Rattle.graph_wal.specs.Log.{RecoversToEither}
use Rattle.graph_wal.proofs.Moments.{Since-weaken}
use Rattle.graph_wal.proofs.Standing.{LogAs, touched-joined, touched-kept, touched-closed, touched-either}
use Rattle.graph_wal.proofs.wal.Wal.close_gate.Goals as goal

pub set_byte-requires-clause-joined : goal.set_byte-requires-clause-joined
set_byte-requires-clause-joined g c =
    let w = c.args.self.now in
    let told = g.D.Disk.told w.disk in
    let left = g.D.Disk.images w.disk (g.D.Disk.moment w.disk) in
    let stands = c.requires.stands in
    touched-joined told w.durable stands.0 stands.1 left (g.met.D.Disk.reads_back w.disk) (subst (λ (x : Attempt). LogAs told w.durable x stands.0 stands.1 left) c.requires.touched stands.2.log)

pub returns-in-Ok-clause-stands : goal.returns-in-Ok-clause-stands
returns-in-Ok-clause-stands g c = λ r a stands.
    let w = c.args.self.now in
    let told = g.D.Disk.told w.disk in
    let told' = g.D.Disk.told c.set_byte.new.disk in
    let left = g.D.Disk.images w.disk (g.D.Disk.moment w.disk) in
    let left' = g.D.Disk.images c.set_byte.new.disk (g.D.Disk.moment c.set_byte.new.disk) in
    let log : LogAs told w.durable attempts.Touched r a left = subst (λ (x : Attempt). LogAs told w.durable x r a left) c.requires.touched stands.log in
    record { long = stands.long; short = stands.short; log = touched-closed told told' w.durable r a left left' (g.met.D.Disk.reads_back w.disk) log c.in-Ok.ensures.wrote c.in-Ok.ensures.firm }

pub returns-in-Err-clause-stands : goal.returns-in-Err-clause-stands
returns-in-Err-clause-stands g c = λ r a stands.
    let w = c.args.self.now in
    let told = g.D.Disk.told w.disk in
    let told' = g.D.Disk.told c.set_byte.new.disk in
    let left = g.D.Disk.images w.disk (g.D.Disk.moment w.disk) in
    let left' = g.D.Disk.images c.set_byte.new.disk (g.D.Disk.moment c.set_byte.new.disk) in
    let log : LogAs told w.durable attempts.Touched r a left = subst (λ (x : Attempt). LogAs told w.durable x r a left) c.requires.touched stands.log in
    let kept : LogAs told' w.durable attempts.Touched r a left' = touched-kept told told' w.durable r a left left' log c.set_byte.ensures.keeps.tells (λ b is. c.set_byte.ensures.torn.each (g.D.Disk.moment c.set_byte.new.disk) b c.set_byte.ensures.torn.later (omega arith) is) in
    record { long = stands.long; short = stands.short; log = subst (λ (x : Attempt). LogAs told' w.durable x r a left') (sym c.requires.touched) kept }

pub returns-in-Ok-clause-any_moment : goal.returns-in-Ok-clause-any_moment
returns-in-Ok-clause-any_moment g c = λ r a stands.
    let w = c.args.self.now in
    let told = g.D.Disk.told w.disk in
    let told' = g.D.Disk.told c.set_byte.new.disk in
    let left = g.D.Disk.images w.disk (g.D.Disk.moment w.disk) in
    let left' = g.D.Disk.images c.set_byte.new.disk (g.D.Disk.moment c.set_byte.new.disk) in
    let log : LogAs told w.durable attempts.Touched r a left = subst (λ (x : Attempt). LogAs told w.durable x r a left) c.requires.touched stands.log in
    touched-either told w.durable r a left (Since g.D.Disk.moment g.D.Disk.images w.disk c.set_byte.new.disk (RecoversToEither r a)) log
    (λ each. Since-weaken g.D.Disk.moment g.D.Disk.images w.disk c.set_byte.new.disk (λ b. (d : List ℕ) × left d × Torn (w.durable - 1) 1 d b) (RecoversToEither r a) c.set_byte.ensures.torn each)

pub returns-in-Err-clause-any_moment : goal.returns-in-Err-clause-any_moment
returns-in-Err-clause-any_moment g c = λ r a stands.
    let w = c.args.self.now in
    let told = g.D.Disk.told w.disk in
    let told' = g.D.Disk.told c.set_byte.new.disk in
    let left = g.D.Disk.images w.disk (g.D.Disk.moment w.disk) in
    let left' = g.D.Disk.images c.set_byte.new.disk (g.D.Disk.moment c.set_byte.new.disk) in
    let log : LogAs told w.durable attempts.Touched r a left = subst (λ (x : Attempt). LogAs told w.durable x r a left) c.requires.touched stands.log in
    touched-either told w.durable r a left (Since g.D.Disk.moment g.D.Disk.images w.disk c.set_byte.new.disk (RecoversToEither r a)) log
    (λ each. Since-weaken g.D.Disk.moment g.D.Disk.images w.disk c.set_byte.new.disk (λ b. (d : List ℕ) × left d × Torn (w.durable - 1) 1 d b) (RecoversToEither r a) c.set_byte.ensures.torn each)
