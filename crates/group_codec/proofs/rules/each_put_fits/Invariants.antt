use Rattle.std.proofs.Common.{◌≡◌, take, true}
use Rattle.std.specs.List.{list_all}
use Rattle.group_codec.specs.Judging.{put_fits}
use Rattle.group_codec.proofs.rules.each_put_fits.Given as goal

abbrev pub invariant-loop-change : goal.invariant-loop-change
invariant-loop-change l = list_all (put_fits l.graph) (take l.change-index l.changes) ≡ true
