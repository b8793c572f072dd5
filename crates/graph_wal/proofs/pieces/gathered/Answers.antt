use Rattle.std.proofs.Common.{◌+◌, ◌++◌, List, ℕ, length, drop, arith, ap, sym, ◌∙◌, append_assoc, length-append}
use Rattle.graph_wal.specs.Pieces.{member_bytes, members_bytes}
use Rattle.graph_wal.proofs.Members.{members-next, length-next, within-next}
use Rattle.graph_wal.proofs.pieces.gathered.Goals as goal

pub gather_member-requires-clause-within : goal.gather_member-requires-clause-within
gather_member-requires-clause-within c = (within-next c.args.g.now c.loop-i.i c.member_at.result.now c.member_at.ensures c.loop-i.invariant.within).0

pub gather_member-requires-clause-fits : goal.gather_member-requires-clause-fits
gather_member-requires-clause-fits c =
    let rest = members_bytes (drop c.loop-i.i c.args.g.now) in
    omega (arith, ap length c.loop-i.invariant.gathered, length-append c.loop-i.gathered.items rest, length-append c.args.front.now (members_bytes c.args.g.now), length-next c.args.g.now c.loop-i.i c.member_at.result.now c.member_at.ensures, c.requires.fits)

pub loop-i-preserved : goal.loop-i-preserved
loop-i-preserved c =
    let before = c.loop-i.invariant in
    let members = c.args.g.now in
    let i = c.loop-i.i in
    let m = c.member_at.result.now in
    let rest = members_bytes (drop (i + 1) members) in
    record {
      gathered =
          ap (λ (l : List ℕ). l ++ rest) c.gather_member.ensures
          ∙ append_assoc c.loop-i.gathered.items (member_bytes m) rest
          ∙ ap (λ (l : List ℕ). c.loop-i.gathered.items ++ l) (sym (members-next members i m c.member_at.ensures))
          ∙ before.gathered;
      within = (within-next members i m c.member_at.ensures before.within).1;
      end = before.end;
    }
