use Rattle.std.proofs.Common.{◌≡◌, ℕ, List, [], ◌∷◌, ◌++◌, refl, sym, ◌∙◌, ap, subst, arith, Some}
use Rattle.group_codec.specs.Log.{Recovers}
use Rattle.disk_model.specs.Images.{EachImage}
use Rattle.disk_model.specs.Memory.{MemoryDisk, bytes_of, ImageAt}
use Rattle.group_commit.specs.Members.{records_at}
use Rattle.graph_wal.specs.declared.wal.Wal.{Wal}
use Rattle.graph_wal.specs.Log.{RecoversTo, IsSettled}
use Rattle.graph_wal.specs.Appends.{durable_group, tried, MayLeave}
use Rattle.graph_wal.proofs.Stories.{second-may, known}
use Rattle.graph_wal.proofs.laws.a_failed_append_is_replaced.Goals as goal

-- what a disk that a log was made on is adopted as
begun : (w : Wal MemoryDisk) (disk : MemoryDisk) (made : ℕ) → disk ≡ w.disk → made ≡ disk.moment → w.durable ≡ 9 → IsSettled (λ (d : MemoryDisk). Some (bytes_of d)) (λ (d : MemoryDisk). d.moment) ImageAt w [] → Recovers (bytes_of disk) [] 9 × EachImage (λ (d : MemoryDisk). d.moment) ImageAt disk made (λ _ c. RecoversTo [] c)
begun w disk made is when long settled =
    let recovers : Recovers (bytes_of disk) [] 9 = subst (λ (n : ℕ). Recovers (bytes_of disk) [] n) long (subst (λ (d : MemoryDisk). Recovers (bytes_of d) [] w.durable) (sym is) settled.1) in
    let only : (c : List ℕ) → ImageAt disk disk.moment c → c ≡ bytes_of disk = subst (λ (d : MemoryDisk). (c : List ℕ) → ImageAt d d.moment c → c ≡ bytes_of d) (sym is) settled.0 in (
      recovers,
      λ m c since until left. let now : m ≡ disk.moment = omega arith in
          (9, subst (λ (b : List ℕ). Recovers b [] 9) (sym (only c (subst (λ (k : ℕ). ImageAt disk k c) now left))) recovers),
    )

pub append_group-requires-2-clause-ready : goal.append_group-requires-2-clause-ready
append_group-requires-2-clause-ready c =
    let disk = c.into_disk-disk.result in
    let start = begun c.in-Ok.wal disk c.moment-made.result c.into_disk-disk.ensures c.moment-made.ensures c.in-Ok.ensures.durable c.in-Ok.ensures.settled in
    let l0 = c.adopt-wal.ensures.begun [] c.moment-made.result start.0 start.1 in
    let h1 = records_at 1 c.args.first.now in
    let x1 = durable_group h1 c.in-Ok-append_group.moment in
    let l1 = c.in-Ok-append_group.ensures.acknowledged c.moment-made.result [] [] [] l0 (refl, c.requires.first) in
    (h1 ++ [], l1.attempt, l1.stands, second-may c.args.first.now (records_at 2 c.args.failing.now) c.requires.members.0 c.requires.failing)

pub append_group-requires-3-clause-ready : goal.append_group-requires-3-clause-ready
append_group-requires-3-clause-ready c =
    let disk = c.into_disk-disk.result in
    let start = begun c.in-Ok.wal disk c.moment-made.result c.into_disk-disk.ensures c.moment-made.ensures c.in-Ok.ensures.durable c.in-Ok.ensures.settled in
    let l0 = c.adopt-wal.ensures.begun [] c.moment-made.result start.0 start.1 in
    let h1 = records_at 1 c.args.first.now in
    let x1 = durable_group h1 c.in-Ok-append_group.moment in
    let l1 = c.in-Ok-append_group.ensures.acknowledged c.moment-made.result [] [] [] l0 (refl, c.requires.first) in
    let h2 = records_at 2 c.args.failing.now in
    let l2 = c.in-Err-append_group-2.ensures.given_up c.moment-made.result [] (x1 ∷ []) [] l1 (second-may c.args.first.now h2 c.requires.members.0 c.requires.failing) in
    (h1 ++ [], l2.attempt, l2.stands, second-may c.args.first.now (records_at 2 c.args.last.now) c.requires.members.0 c.requires.last)

pub mend-requires : goal.mend-requires
mend-requires c =
    let disk = c.into_disk-disk.result in
    let start = begun c.in-Ok.wal disk c.moment-made.result c.into_disk-disk.ensures c.moment-made.ensures c.in-Ok.ensures.durable c.in-Ok.ensures.settled in
    let l0 = c.adopt-wal.ensures.begun [] c.moment-made.result start.0 start.1 in
    let h1 = records_at 1 c.args.first.now in
    let x1 = durable_group h1 c.in-Ok-append_group.moment in
    let l1 = c.in-Ok-append_group.ensures.acknowledged c.moment-made.result [] [] [] l0 (refl, c.requires.first) in
    let h2 = records_at 2 c.args.failing.now in
    let l2 = c.in-Err-append_group-2.ensures.given_up c.moment-made.result [] (x1 ∷ []) [] l1 (second-may c.args.first.now h2 c.requires.members.0 c.requires.failing) in
    let h3 = records_at 2 c.args.last.now in
    let x3 = durable_group h3 c.in-Ok-append_group-3.moment in
    let l3 = c.in-Ok-append_group-3.ensures.acknowledged c.moment-made.result [] (x1 ∷ []) (tried 1 h2 ∷ []) l2 (second-may c.args.first.now h3 c.requires.members.0 c.requires.last) in
    (h1 ++ (h3 ++ []), l3.attempt, l3.stands)

pub returns : goal.returns
returns c =
    let disk = c.into_disk-disk.result in
    let start = begun c.in-Ok.wal disk c.moment-made.result c.into_disk-disk.ensures c.moment-made.ensures c.in-Ok.ensures.durable c.in-Ok.ensures.settled in
    let l0 = c.adopt-wal.ensures.begun [] c.moment-made.result start.0 start.1 in
    let h1 = records_at 1 c.args.first.now in
    let x1 = durable_group h1 c.in-Ok-append_group.moment in
    let l1 = c.in-Ok-append_group.ensures.acknowledged c.moment-made.result [] [] [] l0 (refl, c.requires.first) in
    let h2 = records_at 2 c.args.failing.now in
    let l2 = c.in-Err-append_group-2.ensures.given_up c.moment-made.result [] (x1 ∷ []) [] l1 (second-may c.args.first.now h2 c.requires.members.0 c.requires.failing) in
    let h3 = records_at 2 c.args.last.now in
    let x3 = durable_group h3 c.in-Ok-append_group-3.moment in
    let l3 = c.in-Ok-append_group-3.ensures.acknowledged c.moment-made.result [] (x1 ∷ []) (tried 1 h2 ∷ []) l2 (second-may c.args.first.now h3 c.requires.members.0 c.requires.last) in
    let l4 = c.mend.ensures.kept c.moment-made.result [] (x1 ∷ x3 ∷ []) (tried 1 h2 ∷ []) l3 in
    let end = c.mend.new.self.disk in
    let same : c.into_disk.result ≡ end = c.into_disk.ensures in
    let each : EachImage (λ (d : MemoryDisk). d.moment) ImageAt c.into_disk.result c.moment-made.result (MayLeave [] (x1 ∷ x3 ∷ []) (tried 1 h2 ∷ [])) =
    subst (λ (d : MemoryDisk). EachImage (λ (e : MemoryDisk). e.moment) ImageAt d c.moment-made.result (MayLeave [] (x1 ∷ x3 ∷ []) (tried 1 h2 ∷ []))) (sym same) l4.crash in
    let firm : (b : List ℕ) → ImageAt c.into_disk.result c.into_disk.result.moment b → b ≡ bytes_of c.into_disk.result =
    subst (λ (d : MemoryDisk). (b : List ℕ) → ImageAt d d.moment b → b ≡ bytes_of d) (sym same) (c.in-Ok-mend.ensures.settled _ _ l3.stands).0 in
    let adopted : c.adopt-wal.result.disk.moment ≡ c.moment-made.result = ap (λ (d : MemoryDisk). d.moment) c.adopt-wal.ensures.disk ∙ sym c.moment-made.ensures in
    let last : c.into_disk.result.moment ≡ end.moment = ap (λ (d : MemoryDisk). d.moment) same in
    known c.into_disk.result c.moment-made.result c.in-Ok-append_group.moment c.in-Ok-append_group-3.moment h1 h2 h3 (
      omega (arith, adopted, c.append_group.ensures.keeps.later, c.in-Ok-append_group.ensures.moment),
      omega (arith, c.in-Ok-append_group.ensures.moment, c.append_group-2.ensures.keeps.later, c.append_group-3.ensures.keeps.later, c.in-Ok-append_group-3.ensures.moment),
      omega (arith, c.in-Ok-append_group-3.ensures.moment, c.mend.ensures.keeps.later, last),
    )
    each firm
