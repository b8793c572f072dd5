use Rattle.std.proofs.Common.{ℕ, ◌≡◌, ◌<◌, ◌≤◌, ◌==◌, false, List, sym, ap, subst, ◌∙◌, arith}
use Rattle.std.specs.List.{list_any}
use Rattle.std.specs.Prelude.{All}
use Rattle.std.proofs.lemmas.Bool.{cases_lt}
use Rattle.std.proofs.Common.{inl, inr}
use Rattle.block_pool.specs.Blocks.{Area}
use Rattle.block_pool.specs.Pools.{ChunkContent, IsChunk, free_blocks, free_from}
use Rattle.block_pool.proofs.ChunkLists.{all_orders}
use Rattle.block_pool.proofs.TakeReady.{bits, none_large}
use Rattle.block_pool.proofs.pool.Pool.smallest.Goals as goal

pub returns-then-has-clause-found : goal.returns-then-has-clause-found
returns-then-has-clause-found c =
    let small : c.loop-j.j < 26 = c.loop-j-test.true in (
      c.loop-j.auto.j,
      (
        omega arith,
        ap (λ (xs : List ChunkContent). list_any (λ (g : Area). g.order == c.loop-j.j) (free_from 0 xs)) (sym c.self.view_is)
            ∙ sym (bits c.self.inside.chunks.items c.self.inside.index c.loop-j.j c.self.invariant.index (omega arith)) ∙ sym c.if-has.ensures,
      ),
    )

pub loop-j-preserved : goal.loop-j-preserved
loop-j-preserved c = λ i above below.
    let small : c.loop-j.j < 26 = c.loop-j-test.true in
    let here : list_any (λ (g : Area). g.order == c.loop-j.j) (free_blocks c.args.self.now) ≡ false =
    ap (λ (xs : List ChunkContent). list_any (λ (g : Area). g.order == c.loop-j.j) (free_from 0 xs)) (sym c.self.view_is)
    ∙ sym (bits c.self.inside.chunks.items c.self.inside.index c.loop-j.j c.self.invariant.index (omega arith)) ∙ sym c.if-has.ensures in
    elim (cases_lt i c.loop-j.j) [
      | inl before ↦ c.loop-j.invariant i above before
      | inr after ↦ let e : c.loop-j.j ≡ i = omega arith in subst (λ (k : ℕ). list_any (λ (g : Area). g.order == k) (free_blocks c.args.self.now) ≡ false) e here
    ]

pub returns-clause-none : goal.returns-clause-none
returns-clause-none c =
    let past : 26 ≤ c.loop-j.j = c.loop-j-test.false in
    let all = subst (λ (xs : List ChunkContent). All IsChunk xs) c.self.view_is c.self.invariant.whole in
    none_large c.args.order (free_blocks c.args.self.now) (all_orders 0 c.args.self.now all) (λ i above below. c.loop-j.invariant i above (omega arith))
