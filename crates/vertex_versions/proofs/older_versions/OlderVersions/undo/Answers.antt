use Rattle.std.proofs.Common.{◌≡◌, ◌<◌, ◌-◌, ◌∙◌, sym, suc, length, arith}
use Rattle.std.specs.Prelude.{Option, Some, None, IsSome, OnSome}
use Rattle.vertex_versions.proofs.Settled.{undone-remove, settled-remove, passed-remove, undone-passed}
use Rattle.vertex_versions.proofs.older_versions.OlderVersions.undo.Goals as goal

of_some : {A P : Type 0} (o : Option A) → IsSome o → OnSome o P → P
of_some (Some x) some p = p
of_some None some p = absurd (cc)

pub loop-place-preserved-then-is_by : goal.loop-place-preserved-then-is_by
loop-place-preserved-then-is_by c =
    let items = c.loop-place.self-inside.items in
    let i = c.loop-place.place in
    let n = c.loop-place.self-inside.pending in
    let within : i < length items.items = omega (arith, c.loop-place-test.true, c.loop-place.invariant.within, items.ok.0) in
    let some = c.remove.ensures.variant.1 (omega (arith, c.loop-place-test.true, c.loop-place.invariant.within)) in
    let taken = of_some c.remove.result some c.remove.ensures.items in
    let shorter = of_some c.remove.result some c.remove.ensures.len in
    let left : n ≡ suc (n - 1) = omega (arith, c.loop-place-test.true) in
    record {
      within = omega (arith, shorter, c.loop-place.invariant.within);
      settled = rw taken (settled-remove (n - 1) i items.items (omega (arith, c.loop-place-test.true)) within (rw left at c.loop-place.invariant.settled));
      passed = rw taken (passed-remove c.args.tid i items.items within c.loop-place.invariant.passed);
      undone = rw taken (undone-remove c.args.tid i items.items c.index.result.now within (sym c.index.ensures) (sym c.is_by.ensures ∙ c.if-is_by.true)) ∙ c.loop-place.invariant.undone;
    }

pub returns : goal.returns
returns c =
    sym (undone-passed c.args.tid c.loop-place.self-inside.pending c.loop-place.place c.loop-place.self-inside.items.items c.loop-place-test.false c.loop-place.invariant.settled c.loop-place.invariant.passed)
    ∙ c.loop-place.invariant.undone
