use Rattle.std.proofs.Common.{◌≡◌, ◌≤◌, ◌+◌, ◌++◌, List, ℕ, length, arith, ap, ◌∙◌}
use Rattle.disk_model.proofs.GoingOn.{GoesOn-join}
use Rattle.graph_model.specs.declared.record.Record.{Record}
use Rattle.group_codec.specs.Spelling.{head_bytes}
use Rattle.graph_wal.specs.Pieces.{Wrote, member_bytes}
use Rattle.graph_wal.proofs.Members.{count-within, length-spelled}
use Rattle.graph_wal.proofs.Moments.{KeepsFront-join}
use Rattle.graph_wal.proofs.Writes.{Wrote-join, Wrote-at, Wrote-bytes, OnOk-map, IfOk-map}
use Rattle.graph_wal.proofs.pieces.write_member.Goals as goal

pub overflow_cast-len : goal.overflow_cast-len
overflow_cast-len g c = omega (arith, c.len.ensures, ap (λ (r : Record). length r.changes) c.record-r.ensures, count-within c.args.m.now c.requires.within)

pub returns-in-Ok-clause-wrote : goal.returns-in-Ok-clause-wrote
returns-in-Ok-clause-wrote g c =
    let m = c.args.m.now in
    let head : c.record_head-head.result ≡ head_bytes m.draft.tid m.draft.read (length m.draft.changes) =
    c.record_head-head.ensures ∙ ap (λ (n : ℕ). head_bytes c.record-r.result.now.tid c.record-r.result.now.read n) c.len.ensures ∙ ap (λ (r : Record). head_bytes r.tid r.read (length r.changes)) c.record-r.ensures in
    let changes : c.as_slice.result.now ≡ m.bytes = c.as_slice.ensures ∙ c.bytes.ensures.bytes in
    let both : c.record_head-head.result ++ c.as_slice.result.now ≡ member_bytes m = ap (λ (l : List ℕ). l ++ c.as_slice.result.now) head ∙ ap (λ (l : List ℕ). head_bytes m.draft.tid m.draft.read (length m.draft.changes) ++ l) changes in
    OnOk-map c.put-in-Ok.result (Wrote (g.D.Disk.told c.put.new.disk) (g.D.Disk.told c.put-in-Ok.new.disk) c.in-Ok.behind c.as_slice.result.now) (Wrote (g.D.Disk.told c.args.disk.now) (g.D.Disk.told c.put-in-Ok.new.disk) c.args.place (member_bytes m)) c.put-in-Ok.ensures.wrote
    (λ wrote. Wrote-bytes _ _ c.args.place _ _ both (Wrote-join _ _ _ c.args.place _ _ c.requires.joined c.in-Ok.ensures.wrote (Wrote-at _ _ _ _ _ c.in-Ok.ensures.end wrote)))

pub returns-in-Ok-clause-small : goal.returns-in-Ok-clause-small
returns-in-Ok-clause-small g c =
    let m = c.args.m.now in
    IfOk-map c.put-in-Ok.result (λ n. n ≡ c.in-Ok.behind + length c.as_slice.result.now) (λ n. n ≤ c.args.place + 16777236) c.put-in-Ok.ensures.end
    (λ n is. omega (arith, c.in-Ok.ensures.end, ap length (c.as_slice.ensures ∙ c.bytes.ensures.bytes), length-spelled m c.bytes.ensures.spelled c.requires.within))

pub returns-in-Ok-clause-front : goal.returns-in-Ok-clause-front
returns-in-Ok-clause-front g c =
    λ n before. KeepsFront-join g.D.Disk.moment g.D.Disk.images _ _ _ n (c.put.ensures.front n before)
    (c.put-in-Ok.ensures.front n (omega (arith, c.in-Ok.ensures.end)))

pub returns-in-Ok-clause-keeps : goal.returns-in-Ok-clause-keeps
returns-in-Ok-clause-keeps g c = GoesOn-join g.D.Disk.told g.D.Disk.moment g.D.Disk.images g.D.Disk.faults _ _ _ c.in-Ok.ensures.keeps c.put-in-Ok.ensures.keeps
