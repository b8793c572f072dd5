use Rattle.std.proofs.Common.{ℕ, ◌≡◌, true, List, ap, sym, ◌∙◌, subst}
use Rattle.block_pool.specs.Trees.{Tree}
use Rattle.block_pool.specs.Pools.{ChunkContent}
use Rattle.block_pool.specs.Cells.{Holds, tree_of, has_free, taken}
use Rattle.block_pool.proofs.TreeFacts.{fits-taken, joined-taken}
use Rattle.block_pool.proofs.ChunkSteps.{free_below, kept_with}
use Rattle.block_pool.proofs.chunk.Chunk.take.Goals as goal

pub take_first-requires-clause-orders : goal.take_first-requires-clause-orders
take_first-requires-clause-orders c =
    let has : has_free c.self.inside.order c.args.from (tree_of c.self.inside.order c.self.inside.cells.items) ≡ true =
    subst (λ (x : ChunkContent). has_free x.order c.args.from x.tree ≡ true) (sym c.self.view_is) c.requires.free in
    (c.requires.below, free_below c.self.inside.order c.args.from (tree_of c.self.inside.order c.self.inside.cells.items) has, c.self.invariant.within)

pub invariant_of-self : goal.invariant_of-self
invariant_of-self c =
    let tree : Tree = tree_of c.self.inside.order c.self.inside.cells.items in
    let has : has_free c.self.inside.order c.args.from tree ≡ true =
    subst (λ (x : ChunkContent). has_free x.order c.args.from x.tree ≡ true) (sym c.self.view_is) c.requires.free in
    let held = c.take_first.ensures.tree tree (subst (λ (cells : List ℕ). Holds c.self.inside.order cells tree) (sym c.deref_mut.ensures.value) c.self.invariant.holds) has in
    (kept_with c.self.inside c.take_first.new.cells (taken c.self.inside.order c.args.from c.args.order tree) c.self.invariant (c.take_first.auto.cells ∙ c.deref_mut.ensures.len) held
    (fits-taken c.self.inside.order c.args.from c.args.order tree c.self.invariant.cut) (joined-taken c.self.inside.order c.args.from c.args.order tree c.self.invariant.joined)).0

pub returns-clause-taken : goal.returns-clause-taken
returns-clause-taken c =
    let tree : Tree = tree_of c.self.inside.order c.self.inside.cells.items in
    let has : has_free c.self.inside.order c.args.from tree ≡ true =
    subst (λ (x : ChunkContent). has_free x.order c.args.from x.tree ≡ true) (sym c.self.view_is) c.requires.free in
    let held = c.take_first.ensures.tree tree (subst (λ (cells : List ℕ). Holds c.self.inside.order cells tree) (sym c.deref_mut.ensures.value) c.self.invariant.holds) has in
    (kept_with c.self.inside c.take_first.new.cells (taken c.self.inside.order c.args.from c.args.order tree) c.self.invariant (c.take_first.auto.cells ∙ c.deref_mut.ensures.len) held
    (fits-taken c.self.inside.order c.args.from c.args.order tree c.self.invariant.cut) (joined-taken c.self.inside.order c.args.from c.args.order tree c.self.invariant.joined)).1.0
    ∙ ap (λ (x : ChunkContent). record { order = x.order; bytes = x.bytes; tree = taken x.order c.args.from c.args.order x.tree }) c.self.view_is

pub returns-clause-whole : goal.returns-clause-whole
returns-clause-whole c =
    let tree : Tree = tree_of c.self.inside.order c.self.inside.cells.items in
    let has : has_free c.self.inside.order c.args.from tree ≡ true =
    subst (λ (x : ChunkContent). has_free x.order c.args.from x.tree ≡ true) (sym c.self.view_is) c.requires.free in
    let held = c.take_first.ensures.tree tree (subst (λ (cells : List ℕ). Holds c.self.inside.order cells tree) (sym c.deref_mut.ensures.value) c.self.invariant.holds) has in
    (kept_with c.self.inside c.take_first.new.cells (taken c.self.inside.order c.args.from c.args.order tree) c.self.invariant (c.take_first.auto.cells ∙ c.deref_mut.ensures.len) held
    (fits-taken c.self.inside.order c.args.from c.args.order tree c.self.invariant.cut) (joined-taken c.self.inside.order c.args.from c.args.order tree c.self.invariant.joined)).1.1
