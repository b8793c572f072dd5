use Rattle.std.proofs.Common.{ℕ, ◌≡◌, ◌+◌, ◌<◌, List, [], ◌∷◌, ◌++◌, length, ap, ◌∙◌, sym, subst, arith}
use Rattle.std.proofs.Math.ListN.{set}
use Rattle.block_pool.specs.Index.{leaves_of, IsIndex}
use Rattle.block_pool.proofs.IndexFacts.{more_cells, shallow, deeper_index, kept_deeper, pushed_here}
use Rattle.block_pool.proofs.index.Index.push.Goals as goal

pub note-requires-clause-depth : goal.note-requires-clause-depth
note-requires-clause-depth c =
    shallow c.self.inside c.self.invariant (let v = ap length c.self.view_is in omega (arith, v, c.requires)) (c.if-self-power.true ∙ c.power.ensures)

pub note-requires-clause-index : goal.note-requires-clause-index
note-requires-clause-index c =
    let more : c.deref_mut.result.now ≡ more_cells c.self.inside.cells.items = c.deref_mut.ensures.value ∙ c.in_ok-cells-2.ensures ∙ ap more_cells c.deref.ensures.value in
    let some : 0 < c.self.inside.len = omega arith in
    let long = ap (λ (n : ℕ). n + 1) (sym c.self.inside.cells.ok.0) ∙ c.self.invariant.long some in
    subst (IsIndex (c.self.inside.depth + 1)) (sym more) (deeper_index c.self.inside.depth c.self.inside.cells.items long c.self.invariant.index).0

pub invariant_of-self-then-self-power : goal.invariant_of-self-then-self-power
invariant_of-self-then-self-power c =
    let more : c.deref_mut.result.now ≡ more_cells c.self.inside.cells.items = c.deref_mut.ensures.value ∙ c.in_ok-cells-2.ensures ∙ ap more_cells c.deref.ensures.value in
    (kept_deeper c.self.inside c.in_ok-cells-2.cells c.note.new.cells c.deref_mut.result.now c.args.cell c.self.invariant (omega arith) (let v = ap length c.self.view_is in omega (arith, v, c.requires))
    (c.if-self-power.true ∙ c.power.ensures) more (sym c.deref_mut.ensures.value) (c.note.auto.cells ∙ c.deref_mut.ensures.len) c.note.ensures.index c.note.ensures.leaves).0

pub returns-then-self-power-clause-pushed : goal.returns-then-self-power-clause-pushed
returns-then-self-power-clause-pushed c =
    let more : c.deref_mut.result.now ≡ more_cells c.self.inside.cells.items = c.deref_mut.ensures.value ∙ c.in_ok-cells-2.ensures ∙ ap more_cells c.deref.ensures.value in
    (kept_deeper c.self.inside c.in_ok-cells-2.cells c.note.new.cells c.deref_mut.result.now c.args.cell c.self.invariant (omega arith) (let v = ap length c.self.view_is in omega (arith, v, c.requires))
    (c.if-self-power.true ∙ c.power.ensures) more (sym c.deref_mut.ensures.value) (c.note.auto.cells ∙ c.deref_mut.ensures.len) c.note.ensures.index c.note.ensures.leaves).1
    ∙ ap (λ (xs : List ℕ). xs ++ c.args.cell ∷ []) c.self.view_is

pub returns-clause-pushed : goal.returns-clause-pushed
returns-clause-pushed c =
    pushed_here c.self.inside c.note-2.new.cells c.args.cell c.self.invariant (omega arith)
    (let l = c.self.invariant.len in omega (arith, l, c.if-self-power.false, c.power.ensures))
    (c.note-2.auto.cells ∙ c.deref_mut-2.ensures.len)
    (c.note-2.ensures.leaves ∙ ap (λ (xs : List ℕ). set (leaves_of c.self.inside.depth xs) c.self.inside.len c.args.cell) c.deref_mut-2.ensures.value)
    ∙ ap (λ (xs : List ℕ). xs ++ c.args.cell ∷ []) c.self.view_is
