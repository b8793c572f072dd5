use Rattle.std.proofs.Common.{◌≡◌, ◌+◌, ◌++◌, [], ◌∷◌, length, sym, arith, length-append}
use Rattle.disk_model.proofs.GoingOn.{GoesOn-join}
use Rattle.graph_wal.specs.Pieces.{Wrote, members_bytes}
use Rattle.graph_wal.proofs.Moments.{KeepsFront-join}
use Rattle.graph_wal.proofs.Writes.{Wrote-join, Wrote-at, Wrote-joined, IfSome-at, OnOk-map, IfOk-map}
use Rattle.graph_wal.proofs.pieces.write_pieces.Goals as goal

pub returns-in-Err-write_members-clause-front : goal.returns-in-Err-write_members-clause-front
returns-in-Err-write_members-clause-front g c =
    λ n before. KeepsFront-join g.D.Disk.moment g.D.Disk.images _ _ _ n (c.in-Ok.ensures.front n before) (c.write_members.ensures.front n (omega (arith, c.in-Ok.ensures.end)))

pub returns-clause-end : goal.returns-clause-end
returns-clause-end g c =
    let front = c.args.front.now in
    let members = members_bytes c.args.g.now in
    IfOk-map c.put-2.result (λ n. n ≡ c.in-Ok-write_members.gate + 1) (λ n. n ≡ c.args.start + length (front ++ (members ++ 0 ∷ []))) c.put-2.ensures.end
    (λ n is. omega (arith, c.in-Ok.ensures.end, c.in-Ok-write_members.ensures.end, length-append front (members ++ 0 ∷ []), length-append members (0 ∷ [])))

pub returns-clause-wrote : goal.returns-clause-wrote
returns-clause-wrote g c =
    let front = c.args.front.now in
    let members = members_bytes c.args.g.now in
    let told = g.D.Disk.told c.args.disk.now in
    let new = g.D.Disk.told c.put-2.new.disk in
    OnOk-map c.put-2.result (Wrote (g.D.Disk.told c.write_members.new.disk) new c.in-Ok-write_members.gate (0 ∷ [])) (Wrote told new c.args.start (front ++ (members ++ 0 ∷ []))) c.put-2.ensures.wrote
    (λ gate. Wrote-join told (g.D.Disk.told c.put.new.disk) new c.args.start front (members ++ 0 ∷ []) c.requires.joined c.in-Ok.ensures.wrote
    (Wrote-at _ new _ _ (members ++ 0 ∷ []) c.in-Ok.ensures.end (Wrote-join _ _ new c.in-Ok.members members (0 ∷ []) (IfSome-at _ _ _ (sym c.in-Ok.ensures.end) (Wrote-joined _ _ c.args.start front c.requires.joined c.in-Ok.ensures.wrote)) c.in-Ok-write_members.ensures.wrote
    (Wrote-at _ new _ _ (0 ∷ []) c.in-Ok-write_members.ensures.end gate))))

pub returns-clause-front : goal.returns-clause-front
returns-clause-front g c =
    λ n before. KeepsFront-join g.D.Disk.moment g.D.Disk.images _ _ _ n
    (KeepsFront-join g.D.Disk.moment g.D.Disk.images _ _ _ n (c.in-Ok.ensures.front n before) (c.in-Ok-write_members.ensures.front n (omega (arith, c.in-Ok.ensures.end))))
    (c.put-2.ensures.front n (omega (arith, c.in-Ok.ensures.end, c.in-Ok-write_members.ensures.end)))

pub returns-in-Err-write_members-clause-keeps : goal.returns-in-Err-write_members-clause-keeps
returns-in-Err-write_members-clause-keeps g c = GoesOn-join g.D.Disk.told g.D.Disk.moment g.D.Disk.images g.D.Disk.faults _ _ _ c.in-Ok.ensures.keeps c.write_members.ensures.keeps

pub returns-clause-keeps : goal.returns-clause-keeps
returns-clause-keeps g c = GoesOn-join g.D.Disk.told g.D.Disk.moment g.D.Disk.images g.D.Disk.faults _ _ _ (GoesOn-join g.D.Disk.told g.D.Disk.moment g.D.Disk.images g.D.Disk.faults _ _ _ c.in-Ok.ensures.keeps c.in-Ok-write_members.ensures.keeps) c.put-2.ensures.keeps
