use Rattle.std.proofs.Common.{ℕ, List, arith, sym, subst}
use Rattle.disk_model.specs.Images.{CutShort}
use Rattle.graph_wal.specs.declared.wal.Attempt.{Attempt}
use Rattle.graph_wal.specs.declared.wal.Attempt.TheVariants as attempts
use Rattle.graph_wal.specs.Since.{Since}
use Rattle.graph_wal.specs.Log.{RecoversToEither}
use Rattle.graph_wal.proofs.Moments.{Since-weaken}
use Rattle.graph_wal.proofs.Standing.{LogAs, untouched-kept, untouched-cut, untouched-short, untouched-either}
use Rattle.graph_wal.proofs.wal.Wal.cut_rest.Goals as goal

pub returns-in-Ok-clause-stands : goal.returns-in-Ok-clause-stands
returns-in-Ok-clause-stands g c = λ r a stands.
    let w = c.args.self.now in
    let told = g.D.Disk.told w.disk in
    let told' = g.D.Disk.told c.cut_to.new.disk in
    let left = g.D.Disk.images w.disk (g.D.Disk.moment w.disk) in
    let left' = g.D.Disk.images c.cut_to.new.disk (g.D.Disk.moment c.cut_to.new.disk) in
    let log : LogAs told w.durable attempts.Untouched r a left = subst (λ (x : Attempt). LogAs told w.durable x r a left) c.requires.untouched stands.log in
    record { long = stands.long; short = stands.short; log = untouched-cut told told' w.durable r a a left left' (g.met.D.Disk.reads_back w.disk) log c.in-Ok.ensures.cut c.in-Ok.ensures.firm }

pub returns-in-Err-clause-stands : goal.returns-in-Err-clause-stands
returns-in-Err-clause-stands g c = λ r a stands.
    let w = c.args.self.now in
    let told = g.D.Disk.told w.disk in
    let told' = g.D.Disk.told c.cut_to.new.disk in
    let left = g.D.Disk.images w.disk (g.D.Disk.moment w.disk) in
    let left' = g.D.Disk.images c.cut_to.new.disk (g.D.Disk.moment c.cut_to.new.disk) in
    let log : LogAs told w.durable attempts.Untouched r a left = subst (λ (x : Attempt). LogAs told w.durable x r a left) c.requires.untouched stands.log in
    let kept : LogAs told' w.durable attempts.Untouched r a left' = untouched-kept told told' w.durable r a left left' log c.cut_to.ensures.keeps.tells (λ b is. c.cut_to.ensures.torn.each (g.D.Disk.moment c.cut_to.new.disk) b c.cut_to.ensures.torn.later (omega arith) is) in
    record { long = stands.long; short = stands.short; log = subst (λ (x : Attempt). LogAs told' w.durable x r a left') (sym c.requires.untouched) kept }

pub returns-in-Ok-clause-any_moment : goal.returns-in-Ok-clause-any_moment
returns-in-Ok-clause-any_moment g c = λ r a stands.
    let w = c.args.self.now in
    let told = g.D.Disk.told w.disk in
    let told' = g.D.Disk.told c.cut_to.new.disk in
    let left = g.D.Disk.images w.disk (g.D.Disk.moment w.disk) in
    let left' = g.D.Disk.images c.cut_to.new.disk (g.D.Disk.moment c.cut_to.new.disk) in
    let log : LogAs told w.durable attempts.Untouched r a left = subst (λ (x : Attempt). LogAs told w.durable x r a left) c.requires.untouched stands.log in
    untouched-either told w.durable r a left (Since g.D.Disk.moment g.D.Disk.images w.disk c.cut_to.new.disk (RecoversToEither r a)) log
    (λ each. Since-weaken g.D.Disk.moment g.D.Disk.images w.disk c.cut_to.new.disk (λ b. (d : List ℕ) × left d × CutShort w.durable d b) (RecoversToEither r a) c.cut_to.ensures.torn each)

pub returns-in-Err-clause-any_moment : goal.returns-in-Err-clause-any_moment
returns-in-Err-clause-any_moment g c = λ r a stands.
    let w = c.args.self.now in
    let told = g.D.Disk.told w.disk in
    let told' = g.D.Disk.told c.cut_to.new.disk in
    let left = g.D.Disk.images w.disk (g.D.Disk.moment w.disk) in
    let left' = g.D.Disk.images c.cut_to.new.disk (g.D.Disk.moment c.cut_to.new.disk) in
    let log : LogAs told w.durable attempts.Untouched r a left = subst (λ (x : Attempt). LogAs told w.durable x r a left) c.requires.untouched stands.log in
    untouched-either told w.durable r a left (Since g.D.Disk.moment g.D.Disk.images w.disk c.cut_to.new.disk (RecoversToEither r a)) log
    (λ each. Since-weaken g.D.Disk.moment g.D.Disk.images w.disk c.cut_to.new.disk (λ b. (d : List ℕ) × left d × CutShort w.durable d b) (RecoversToEither r a) c.cut_to.ensures.torn each)

pub returns-in-Ok-clause-no_rest : goal.returns-in-Ok-clause-no_rest
returns-in-Ok-clause-no_rest g c =
    let w = c.args.self.now in
    let told = g.D.Disk.told w.disk in
    let told' = g.D.Disk.told c.cut_to.new.disk in
    let left = g.D.Disk.images w.disk (g.D.Disk.moment w.disk) in
    let stands = c.requires.stands in
    let log : LogAs told w.durable attempts.Untouched stands.0 stands.1 left = subst (λ (x : Attempt). LogAs told w.durable x stands.0 stands.1 left) c.requires.untouched stands.2.log in
    untouched-short told told' w.durable stands.0 stands.1 left (g.met.D.Disk.reads_back w.disk) log c.in-Ok.ensures.cut
