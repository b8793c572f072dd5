use Rattle.std.proofs.Common.{◌≡◌, ◌+◌, ◌*◌, ◌≤◌, length, drop, Option, List, ℕ}
use Rattle.std.specs.Prelude.{IfSome}
use Rattle.disk_model.specs.Images.{GoesOn}
use Rattle.graph_wal.specs.Since.{KeepsFront}
use Rattle.graph_wal.specs.Pieces.{members_bytes, AreWithin, Wrote}
use Rattle.graph_wal.proofs.pieces.write_members.Given as goal

abbrev pub invariant-loop-i : goal.invariant-loop-i
invariant-loop-i g l = record {
  place : l.place + length (members_bytes (drop l.i l.g)) ≡ l.start + length (members_bytes l.g);
  small : l.place ≤ l.start + 16777236 * l.i;
  within : AreWithin (drop l.i l.g);
  wrote : (told : Option (List ℕ)) → Wrote (g.D.Disk.told l.disk) told l.place (members_bytes (drop l.i l.g)) → Wrote (g.D.Disk.told l.initial.disk) told l.start (members_bytes l.g);
  joined : IfSome (g.D.Disk.told l.disk) (λ b. l.place ≤ length b);
  front : (n : ℕ) → n ≤ l.start → KeepsFront g.D.Disk.moment g.D.Disk.images l.initial.disk l.disk n;
  ahead : l.start ≤ l.place;
  keeps : GoesOn g.D.Disk.told g.D.Disk.moment g.D.Disk.images g.D.Disk.faults l.initial.disk l.disk;
  end : l.i-end ≡ length l.g;
  count : length l.g ≤ 64;
}
