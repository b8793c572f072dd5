use Rattle.std.proofs.Common.{◌≡◌, ℕ, subst, arith}
use Rattle.disk_model.proofs.GoingOn.{tells-same, GoesOn-passes, EachImage-passes}
use Rattle.graph_wal.specs.Log.{RecoversTo}
use Rattle.graph_wal.proofs.opening.settle.Goals as goal

pub returns-in-Ok-clause-any_moment : goal.returns-in-Ok-clause-any_moment
returns-in-Ok-clause-any_moment g c = λ r from since each.
    let old = c.args.disk.now in
    let new = c.sync.new.self in
    EachImage-passes g.D.Disk.moment g.D.Disk.images old new from (λ _ b. RecoversTo r b) c.sync.ensures.moment each
    (λ b left. each (g.D.Disk.moment old) b since (omega arith) (c.sync.ensures.images b left))

pub returns-in-Ok-clause-keeps : goal.returns-in-Ok-clause-keeps
returns-in-Ok-clause-keeps g c = GoesOn-passes g.D.Disk.told g.D.Disk.moment g.D.Disk.images g.D.Disk.faults _ _ (tells-same _ _ c.sync.ensures.told) c.sync.ensures.moment c.sync.ensures.count

pub returns-in-Err-clause-any_moment : goal.returns-in-Err-clause-any_moment
returns-in-Err-clause-any_moment g c = λ r from since each.
    let old = c.args.disk.now in
    let new = c.sync.new.self in
    EachImage-passes g.D.Disk.moment g.D.Disk.images old new from (λ _ b. RecoversTo r b) c.sync.ensures.moment each
    (λ b left. each (g.D.Disk.moment old) b since (omega arith) (c.sync.ensures.images b left))

pub returns-in-Err-clause-keeps : goal.returns-in-Err-clause-keeps
returns-in-Err-clause-keeps g c = GoesOn-passes g.D.Disk.told g.D.Disk.moment g.D.Disk.images g.D.Disk.faults _ _ (tells-same _ _ c.sync.ensures.told) c.sync.ensures.moment c.sync.ensures.count

pub returns-in-Ok-clause-none_new : goal.returns-in-Ok-clause-none_new
returns-in-Ok-clause-none_new g c =
    let old = c.args.disk.now in
    let new = c.sync.new.self in
    EachImage-passes g.D.Disk.moment g.D.Disk.images old new (g.D.Disk.moment old) (λ _ b. g.D.Disk.images old (g.D.Disk.moment old) b) c.sync.ensures.moment
    (λ m b since until left. let here : m ≡ g.D.Disk.moment old = omega arith in subst (λ (k : ℕ). g.D.Disk.images old k b) here left)
    (λ b left. c.sync.ensures.images b left)

pub returns-in-Err-clause-none_new : goal.returns-in-Err-clause-none_new
returns-in-Err-clause-none_new g c =
    let old = c.args.disk.now in
    let new = c.sync.new.self in
    EachImage-passes g.D.Disk.moment g.D.Disk.images old new (g.D.Disk.moment old) (λ _ b. g.D.Disk.images old (g.D.Disk.moment old) b) c.sync.ensures.moment
    (λ m b since until left. let here : m ≡ g.D.Disk.moment old = omega arith in subst (λ (k : ℕ). g.D.Disk.images old k b) here left)
    (λ b left. c.sync.ensures.images b left)
