use Rattle.std.proofs.Common.{◌≡◌, ◌-◌, ◌≤◌, vec_len}
use Rattle.io_edges.specs.Faults.{NeverFalls}
use Rattle.disk_model.specs.Images.{Stays}
use Rattle.graph_recover.specs.Recovery.{IsFront}
use Rattle.graph_recover.proofs.reading.read_up_to.Given as goal

abbrev pub invariant-loop-bytes : goal.invariant-loop-bytes
invariant-loop-bytes g l = record {
  front : IsFront (g.D.Disk.told l.initial.disk) l.bytes.items;
  within : vec_len l.bytes ≤ l.most;
  told : g.D.Disk.told l.disk ≡ g.D.Disk.told l.initial.disk;
  images : Stays (g.D.Disk.moment l.initial.disk) (g.D.Disk.moment l.disk) (g.D.Disk.images l.initial.disk) (g.D.Disk.images l.disk);
  count : NeverFalls (g.D.Disk.faults l.initial.disk) (g.D.Disk.faults l.disk);
}

abbrev pub decreases-loop-bytes : goal.decreases-loop-bytes
decreases-loop-bytes g l = l.most - vec_len l.bytes
