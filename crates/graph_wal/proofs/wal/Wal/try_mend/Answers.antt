use Rattle.std.proofs.Common.{subst}
use Rattle.graph_wal.specs.declared.wal.Attempt.{Attempt}
use Rattle.graph_wal.specs.declared.wal.Attempt.TheVariants as attempts
use Rattle.graph_wal.specs.Since.{Since}
use Rattle.graph_wal.specs.Log.{RecoversToEither}
use Rattle.graph_wal.proofs.Moments.{Since-join, Since-start, SameFront-same}
use Rattle.graph_wal.proofs.Standing.{LogAs, mended-either}
use Rattle.graph_wal.proofs.Writes.{told-both}
use Rattle.graph_wal.proofs.wal.Wal.try_mend.Goals as goal

pub returns-in-Ok-clause-any_moment : goal.returns-in-Ok-clause-any_moment
returns-in-Ok-clause-any_moment g c = λ r a stands.
    let P = RecoversToEither r a in
    let old = c.args.self.now.disk in
    let mid = c.close_gate.new.self.disk in
    let new = c.cut_rest.new.self.disk in
    let moment = g.D.Disk.moment in
    let images = g.D.Disk.images in
    told-both (g.D.Disk.told old) (g.D.Disk.told mid) (Since moment images old mid P) (Since moment images mid new P) (Since moment images old new P) c.in-Ok.ensures.keeps.tells (c.in-Ok.ensures.any_moment r a stands) (c.cut_rest.ensures.any_moment r a (c.in-Ok.ensures.stands r a stands))
    (λ first second. Since-join moment images old mid new P first second)

pub returns-in-Mended-clause-any_moment : goal.returns-in-Mended-clause-any_moment
returns-in-Mended-clause-any_moment g c = λ r a stands.
    let w = c.args.self.now in
    let told = g.D.Disk.told w.disk in
    let left = g.D.Disk.images w.disk (g.D.Disk.moment w.disk) in
    let log : LogAs told w.durable attempts.Mended r a left = subst (λ (x : Attempt). LogAs told w.durable x r a left) c.in-Mended.is stands.log in
    mended-either told w.durable r a a left (Since g.D.Disk.moment g.D.Disk.images w.disk w.disk (RecoversToEither r a)) log
    (λ each. Since-start g.D.Disk.moment g.D.Disk.images w.disk (RecoversToEither r a) (λ b is. each b (b, is, SameFront-same w.durable b)))
