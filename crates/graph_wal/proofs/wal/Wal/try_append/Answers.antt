use Rattle.std.proofs.Common.{ℕ, List, ◌++◌, ◌⊎◌, inl, Some}
use Rattle.group_commit.specs.Members.{records_at}
use Rattle.graph_wal.specs.Since.{Since}
use Rattle.graph_wal.specs.Log.{RecoversTo, RecoversToEither}
use Rattle.graph_wal.proofs.Moments.{Since-join, Since-weaken}
use Rattle.graph_wal.proofs.Writes.{told-both, told-on, IfSome-map}
use Rattle.graph_wal.proofs.Standing.{either-way}
use Rattle.graph_wal.proofs.wal.Wal.try_append.Goals as goal

pub returns-in-Ok-clause-any_moment : goal.returns-in-Ok-clause-any_moment
returns-in-Ok-clause-any_moment g c = λ r a stands next.
    let h = records_at c.args.epoch c.args.g.now in
    let moment = g.D.Disk.moment in
    let images = g.D.Disk.images in
    let old = c.args.self.now.disk in
    let mid = c.try_mend.new.self.disk in
    let new = c.write_next.new.self.disk in
    let P : List ℕ → Type 0 = λ b. RecoversToEither r a b ⊎ RecoversTo (r ++ h) b in
    let told = g.D.Disk.told old in
    let told' = g.D.Disk.told mid in
    told-both told told' (Since moment images old mid (RecoversToEither r a)) (Since moment images mid new (RecoversToEither r (Some h))) (Since moment images old new P) c.in-Ok.ensures.keeps.tells (c.in-Ok.ensures.any_moment r a stands)
    (c.write_next.ensures.any_moment r a (c.in-Ok.ensures.stands r a stands) (told-on told told' _ c.in-Ok.ensures.keeps.tells next))
    (λ first second. Since-join moment images old mid new P (Since-weaken moment images old mid (RecoversToEither r a) P first (λ b is. inl is))
    (Since-weaken moment images mid new (RecoversToEither r (Some h)) P second (λ b is. either-way r h a b is)))

pub returns-in-Err-clause-any_moment : goal.returns-in-Err-clause-any_moment
returns-in-Err-clause-any_moment g c = λ r a stands next.
    let h = records_at c.args.epoch c.args.g.now in
    let moment = g.D.Disk.moment in
    let images = g.D.Disk.images in
    let old = c.args.self.now.disk in
    let new = c.try_mend.new.self.disk in
    let P : List ℕ → Type 0 = λ b. RecoversToEither r a b ⊎ RecoversTo (r ++ h) b in
    IfSome-map (g.D.Disk.told old) (Since moment images old new (RecoversToEither r a)) (Since moment images old new P) (c.in-Err.ensures.any_moment r a stands)
    (λ first. Since-weaken moment images old new (RecoversToEither r a) P first (λ b is. inl is))
