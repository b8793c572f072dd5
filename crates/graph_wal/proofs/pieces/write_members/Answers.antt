use Rattle.std.proofs.Common.{rules, arith, sym}
use Rattle.disk_model.proofs.GoingOn.{GoesOn-same, GoesOn-join}
use Rattle.graph_wal.proofs.Members.{length-next, within-next, members-next}
use Rattle.graph_wal.proofs.Moments.{KeepsFront-start, KeepsFront-join}
use Rattle.graph_wal.proofs.Writes.{Wrote-join, Wrote-at, Wrote-bytes, Wrote-joined, IfSome-at}
use Rattle.graph_wal.proofs.pieces.write_members.Goals as goal

pub loop-i-init : goal.loop-i-init
loop-i-init g c = record {
  place = search rules;
  small = omega arith;
  within = c.requires.within;
  wrote = λ told wrote. wrote;
  joined = c.requires.joined;
  front = λ n before. KeepsFront-start g.D.Disk.moment g.D.Disk.images _ n;
  ahead = omega arith;
  keeps = GoesOn-same g.D.Disk.told g.D.Disk.moment g.D.Disk.images g.D.Disk.faults _;
  end = c.len-i-end.ensures.len;
  count = omega (arith, c.len-i-end.ensures.len, c.len-i-end.ensures.within);
}

pub write_member-requires-clause-within : goal.write_member-requires-clause-within
write_member-requires-clause-within g c = (within-next c.args.g.now c.loop-i.i c.member_at.result.now c.member_at.ensures c.loop-i.invariant.within).0

pub returns-in-Err-clause-front : goal.returns-in-Err-clause-front
returns-in-Err-clause-front g c =
    λ n before. KeepsFront-join g.D.Disk.moment g.D.Disk.images _ _ _ n (c.loop-i.invariant.front n before) (c.write_member.ensures.front n (omega (arith, c.loop-i.invariant.ahead)))

pub loop-i-preserved : goal.loop-i-preserved
loop-i-preserved g c =
    let m = c.member_at.result.now in
    let before = c.loop-i.invariant in
    let members = c.args.g.now in
    let i = c.loop-i.i in
    let end = c.in-Ok.ensures.end in
    let wrote = c.in-Ok.ensures.wrote in
    record {
      place = omega (arith, before.place, end, length-next members i m c.member_at.ensures);
      small = omega (arith, before.small, c.in-Ok.ensures.small);
      within = (within-next members i m c.member_at.ensures before.within).1;
      wrote = λ told rest. before.wrote told (Wrote-bytes _ told c.loop-i.place _ _ (sym (members-next members i m c.member_at.ensures)) (Wrote-join _ _ told c.loop-i.place _ _ before.joined wrote (Wrote-at _ told _ _ _ end rest)));
      joined = IfSome-at _ _ _ (sym end) (Wrote-joined _ _ c.loop-i.place _ before.joined wrote);
      front = λ n ahead. KeepsFront-join g.D.Disk.moment g.D.Disk.images _ _ _ n (before.front n ahead) (c.in-Ok.ensures.front n (omega (arith, before.ahead)));
      ahead = omega (arith, before.ahead, end);
      keeps = GoesOn-join g.D.Disk.told g.D.Disk.moment g.D.Disk.images g.D.Disk.faults _ _ _ before.keeps c.in-Ok.ensures.keeps;
      end = before.end;
      count = before.count;
    }

pub returns-in-Err-clause-keeps : goal.returns-in-Err-clause-keeps
returns-in-Err-clause-keeps g c = GoesOn-join g.D.Disk.told g.D.Disk.moment g.D.Disk.images g.D.Disk.faults _ _ _ c.loop-i.invariant.keeps c.write_member.ensures.keeps
