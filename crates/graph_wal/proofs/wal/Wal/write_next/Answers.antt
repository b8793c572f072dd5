use Rattle.std.proofs.Common.{Some}
use Rattle.group_commit.specs.Members.{records_at}
use Rattle.graph_wal.specs.Since.{Since}
use Rattle.graph_wal.specs.Log.{RecoversToEither}
use Rattle.graph_wal.proofs.Moments.{Since-join}
use Rattle.graph_wal.proofs.Writes.{told-both}
use Rattle.graph_wal.proofs.Standing.{stands-any}
use Rattle.graph_wal.proofs.wal.Wal.write_next.Goals as goal

pub open_gate-requires : goal.open_gate-requires
open_gate-requires g c =
    let ready = c.requires.ready in
    (ready.0, records_at c.args.epoch c.args.g.now, c.in-Ok.ensures.ready ready.0 ready.1 ready.2 ready.3)

pub returns-in-Ok-open_gate-clause-any_moment : goal.returns-in-Ok-open_gate-clause-any_moment
returns-in-Ok-open_gate-clause-any_moment g c = λ r a stands next.
    let h = records_at c.args.epoch c.args.g.now in
    let moment = g.D.Disk.moment in
    let images = g.D.Disk.images in
    let old = c.args.self.now.disk in
    let any = stands-any g.D.Disk.told moment images c.args.self.now r a (Some h) c.requires.mended stands in
    let P = RecoversToEither r (Some h) in
    let mid = c.stage.new.self.disk in
    let new = c.open_gate.new.self.disk in
    told-both (g.D.Disk.told old) (g.D.Disk.told mid) (Since moment images old mid P) (Since moment images mid new P) (Since moment images old new P) c.stage.ensures.keeps.tells (c.stage.ensures.any_moment r (Some h) any) (c.open_gate.ensures.any_moment r h (c.in-Ok.ensures.ready r a stands next))
    (λ first second. Since-join moment images old mid new P first second)

pub returns-in-Err-open_gate-clause-any_moment : goal.returns-in-Err-open_gate-clause-any_moment
returns-in-Err-open_gate-clause-any_moment g c = λ r a stands next.
    let h = records_at c.args.epoch c.args.g.now in
    let moment = g.D.Disk.moment in
    let images = g.D.Disk.images in
    let old = c.args.self.now.disk in
    let any = stands-any g.D.Disk.told moment images c.args.self.now r a (Some h) c.requires.mended stands in
    let P = RecoversToEither r (Some h) in
    let mid = c.stage.new.self.disk in
    let new = c.open_gate.new.self.disk in
    told-both (g.D.Disk.told old) (g.D.Disk.told mid) (Since moment images old mid P) (Since moment images mid new P) (Since moment images old new P) c.stage.ensures.keeps.tells (c.stage.ensures.any_moment r (Some h) any) (c.open_gate.ensures.any_moment r h (c.in-Ok.ensures.ready r a stands next))
    (λ first second. Since-join moment images old mid new P first second)

pub returns-in-Err-clause-attempted : goal.returns-in-Err-clause-attempted
returns-in-Err-clause-attempted g c = λ r a stands next.
    let h = records_at c.args.epoch c.args.g.now in
    c.in-Err.ensures.stands r (Some h) (stands-any g.D.Disk.told g.D.Disk.moment g.D.Disk.images c.args.self.now r a (Some h) c.requires.mended stands)

pub returns-in-Err-clause-any_moment : goal.returns-in-Err-clause-any_moment
returns-in-Err-clause-any_moment g c = λ r a stands next.
    let h = records_at c.args.epoch c.args.g.now in
    c.stage.ensures.any_moment r (Some h) (stands-any g.D.Disk.told g.D.Disk.moment g.D.Disk.images c.args.self.now r a (Some h) c.requires.mended stands)
