use Rattle.std.proofs.Common.{ℕ, ◌≡◌, true, List, ap, sym, ◌∙◌, subst}
use Rattle.block_pool.specs.Trees.{Tree}
use Rattle.block_pool.specs.Pools.{ChunkContent}
use Rattle.block_pool.specs.Cells.{Holds, tree_of, is_out_at, given}
use Rattle.block_pool.proofs.TreeFacts.{fits-given, joined-given}
use Rattle.block_pool.proofs.ChunkSteps.{out_below, kept_with}
use Rattle.block_pool.proofs.chunk.Chunk.give.Goals as goal

pub give_at-requires-clause-orders : goal.give_at-requires-clause-orders
give_at-requires-clause-orders c =
    let has : is_out_at c.self.inside.order c.args.order c.args.unit (tree_of c.self.inside.order c.self.inside.cells.items) ≡ true =
    subst (λ (x : ChunkContent). is_out_at x.order c.args.order c.args.unit x.tree ≡ true) (sym c.self.view_is) c.requires in
    (out_below c.self.inside.order c.args.order c.args.unit (tree_of c.self.inside.order c.self.inside.cells.items) has, c.self.invariant.within)

pub invariant_of-self : goal.invariant_of-self
invariant_of-self c =
    let tree : Tree = tree_of c.self.inside.order c.self.inside.cells.items in
    let has : is_out_at c.self.inside.order c.args.order c.args.unit tree ≡ true =
    subst (λ (x : ChunkContent). is_out_at x.order c.args.order c.args.unit x.tree ≡ true) (sym c.self.view_is) c.requires in
    let held = c.give_at.ensures tree (subst (λ (cells : List ℕ). Holds c.self.inside.order cells tree) (sym c.deref_mut.ensures.value) c.self.invariant.holds) has in
    (kept_with c.self.inside c.give_at.new.cells (given c.self.inside.order c.args.order c.args.unit tree) c.self.invariant (c.give_at.auto.cells ∙ c.deref_mut.ensures.len) held
    (fits-given c.self.inside.order c.args.order c.args.unit tree c.self.invariant.cut) (joined-given c.self.inside.order c.args.order c.args.unit tree c.self.invariant.joined)).0

pub returns-clause-given : goal.returns-clause-given
returns-clause-given c =
    let tree : Tree = tree_of c.self.inside.order c.self.inside.cells.items in
    let has : is_out_at c.self.inside.order c.args.order c.args.unit tree ≡ true =
    subst (λ (x : ChunkContent). is_out_at x.order c.args.order c.args.unit x.tree ≡ true) (sym c.self.view_is) c.requires in
    let held = c.give_at.ensures tree (subst (λ (cells : List ℕ). Holds c.self.inside.order cells tree) (sym c.deref_mut.ensures.value) c.self.invariant.holds) has in
    (kept_with c.self.inside c.give_at.new.cells (given c.self.inside.order c.args.order c.args.unit tree) c.self.invariant (c.give_at.auto.cells ∙ c.deref_mut.ensures.len) held
    (fits-given c.self.inside.order c.args.order c.args.unit tree c.self.invariant.cut) (joined-given c.self.inside.order c.args.order c.args.unit tree c.self.invariant.joined)).1.0
    ∙ ap (λ (x : ChunkContent). record { order = x.order; bytes = x.bytes; tree = given x.order c.args.order c.args.unit x.tree }) c.self.view_is

pub returns-clause-whole : goal.returns-clause-whole
returns-clause-whole c =
    let tree : Tree = tree_of c.self.inside.order c.self.inside.cells.items in
    let has : is_out_at c.self.inside.order c.args.order c.args.unit tree ≡ true =
    subst (λ (x : ChunkContent). is_out_at x.order c.args.order c.args.unit x.tree ≡ true) (sym c.self.view_is) c.requires in
    let held = c.give_at.ensures tree (subst (λ (cells : List ℕ). Holds c.self.inside.order cells tree) (sym c.deref_mut.ensures.value) c.self.invariant.holds) has in
    (kept_with c.self.inside c.give_at.new.cells (given c.self.inside.order c.args.order c.args.unit tree) c.self.invariant (c.give_at.auto.cells ∙ c.deref_mut.ensures.len) held
    (fits-given c.self.inside.order c.args.order c.args.unit tree c.self.invariant.cut) (joined-given c.self.inside.order c.args.order c.args.unit tree c.self.invariant.joined)).1.1
