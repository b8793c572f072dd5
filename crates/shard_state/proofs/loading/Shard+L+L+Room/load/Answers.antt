-- The vertices of the base come one after another, and those that are the shard's are loaded.
use Rattle.std.proofs.Common.{◌+◌, ◌/◌, ◌%◌, ℕ, Some, refl, ap, sym, subst, ◌∙◌, arith}
use Rattle.shard_state.specs.Shards.{IsOf}
use Rattle.shard_state.proofs.OneRow.{place_tells}
use Rattle.shard_state.proofs.Loads.{IsLoadedUpTo, upto-none, upto-more, first-there, left-smaller, list-within, numbers-rise}
use Rattle.shard_state.proofs.loading.Shard+L+L+Room.load.Goals as goal
use Rattle.shard_state.proofs.loading.Shard+L+L+Room.load.Goals.{then-v-from+in_ok-open, else-v-from}

pub loop-next-init : goal.loop-next-init
loop-next-init g c =
    let graph = c.args.base.now.graph in
    let shard = c.in_ok-shard.shard in
    let next = c.next_vertex-next.ensures.next in
    record {
      shard = c.in_ok-shard.ensures.shard;
      is = c.in_ok-shard.ensures.is;
      whole = c.next_vertex-next.ensures.whole;
      loaded = subst (IsLoadedUpTo g.L.EdgeLog.content c.args.base.now shard) (sym next) (upto-none g.L.EdgeLog.content c.args.base.now shard (numbers-rise graph c.next_vertex-next.ensures.whole) c.in_ok-shard.ensures.empty);
      there = λ v is. first-there graph 0 v (sym next ∙ is);
    }

pub open-requires-clause-lists : goal.open-requires-clause-lists
open-requires-clause-lists g c l =
    let most = c.loop-next.invariant.is.2 in
    let within = list-within c.args.log_most c.args.base.now.graph c.in-Some.v l c.requires.lists in
    omega (arith, most, within)

pub loop-next-smaller : goal.loop-next-smaller
loop-next-smaller g c =
    let graph = c.args.base.now.graph in
    let v = c.in-Some.v in
    rw (c.vertex_after-next.ensures, c.in-Some.is) (left-smaller graph v (c.loop-next.invariant.there v c.in-Some.is))

pub loop-next-preserved : goal.loop-next-preserved
loop-next-preserved g c =
    let m = g.L.EdgeLog in
    let inv = c.loop-next.invariant in
    let base = c.args.base.now in
    let v = c.in-Some.v in
    let old = c.loop-next.shard in
    let after = c.vertex_after-next.ensures in
    let upto : IsLoadedUpTo m.content base old (Some v) = subst (IsLoadedUpTo m.content base old) c.in-Some.is inv.loaded in
    let up = numbers-rise base.graph inv.whole in
    elim c.if-v-from.branch [
      | then-v-from+in_ok-open w ↦ (
          let new = w.open.new.self in
          let ens = w.in_ok-open.ensures in
          let own : IsOf v old = ap (λ (k : ℕ). v % k) (inv.is.1 ∙ sym c.from.ensures) ∙ w.if-v-from.true ∙ c.from-in-Some.ensures ∙ sym inv.is.0 in
          rw (w.shard-is, after) (record {
            shard = ens.shard;
            is = (ens.same.number ∙ inv.is.0, ens.same.shards ∙ inv.is.1, ens.same.most ∙ inv.is.2);
            whole = inv.whole;
            loaded = upto-more m.content base old new v up upto ens.same.number ens.same.shards (λ it. (ens.opened, ens.loaded))
                (λ u of differ. (ens.others (u / old.shards) (place_tells v u old.shards old.number own of inv.shard.among differ), ens.keeps u of differ));
            there = λ k is. first-there base.graph (v + 1) k is;
          }))
      | else-v-from w ↦ (
          let other : IsOf v old → ⊥ = λ own. w.if-v-from.false (ap (λ (k : ℕ). v % k) (c.from.ensures ∙ sym inv.is.1) ∙ own ∙ inv.is.0 ∙ sym c.from-in-Some.ensures) in
          rw (w.shard-is, after) (record {
            shard = inv.shard;
            is = inv.is;
            whole = inv.whole;
            loaded = upto-more m.content base old old v up upto refl refl (λ own. absurd (other own)) (λ u of differ. (refl, refl));
            there = λ k is. first-there base.graph (v + 1) k is;
          }))
    ]
