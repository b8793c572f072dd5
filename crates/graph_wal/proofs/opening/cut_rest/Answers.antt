use Rattle.std.proofs.Common.{ℕ, List}
use Rattle.disk_model.specs.Images.{CutShort, EachImage}
use Rattle.graph_wal.specs.Log.{RecoversTo}
use Rattle.graph_wal.proofs.Cutting.{cut-log, cut-recovers, each-on}
use Rattle.graph_wal.proofs.opening.cut_rest.Goals as goal

pub returns-in-Ok-clause-log : goal.returns-in-Ok-clause-log
returns-in-Ok-clause-log g c = λ r is. cut-log _ _ c.args.durable r is c.in-Ok.ensures.cut

pub returns-in-Ok-clause-any_moment : goal.returns-in-Ok-clause-any_moment
returns-in-Ok-clause-any_moment g c = λ r from firm each.
    let old = c.args.disk.now in
    let new = c.cut_to.new.disk in
    let left = g.D.Disk.images old (g.D.Disk.moment old) in
    cut-recovers (g.D.Disk.told old) c.args.durable r left (EachImage g.D.Disk.moment g.D.Disk.images new from (λ _ b. RecoversTo r b)) firm
    (λ more. each-on g.D.Disk.moment g.D.Disk.images old new from (RecoversTo r) (λ b. (d : List ℕ) × left d × CutShort c.args.durable d b) more each c.cut_to.ensures.torn)

pub returns-in-Err-clause-any_moment : goal.returns-in-Err-clause-any_moment
returns-in-Err-clause-any_moment g c = λ r from firm each.
    let old = c.args.disk.now in
    let new = c.cut_to.new.disk in
    let left = g.D.Disk.images old (g.D.Disk.moment old) in
    cut-recovers (g.D.Disk.told old) c.args.durable r left (EachImage g.D.Disk.moment g.D.Disk.images new from (λ _ b. RecoversTo r b)) firm
    (λ more. each-on g.D.Disk.moment g.D.Disk.images old new from (RecoversTo r) (λ b. (d : List ℕ) × left d × CutShort c.args.durable d b) more each c.cut_to.ensures.torn)
