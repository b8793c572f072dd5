use Rattle.std.proofs.Common.{◌<◌, length, arith}
use Rattle.std.proofs.lemmas.List.Edits.{map_over_more}
use Rattle.vertex_versions.specs.Versions.{converted_version}
use Rattle.vertex_versions.proofs.older_versions.OlderVersions.convert.Goals as goal

pub loop-place-preserved : goal.loop-place-preserved
loop-place-preserved c =
    let old = c.self.inside.items.items in
    let i = c.loop-place.place in
    let within : i < length old = omega (arith, c.loop-place-test.true, c.self.invariant.0, c.self.inside.items.ok.0) in
    let f = converted_version c.args.tid c.args.epoch in
    let step = map_over_more f old c.loop-place.self-inside.items.items i c.index_mut-version.result.now within c.loop-place.invariant.items c.index_mut-version.ensures.value in
    record {
      items = rw c.converted-version.ensures step;
      len = c.loop-place.invariant.len;
      pending = c.loop-place.invariant.pending;
    }
