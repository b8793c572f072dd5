use Rattle.std.proofs.Common.{◌<◌, ◌≤◌, ◌∙◌, length, length-set, arith, ap, refl, sym}
use Rattle.std.specs.BTreeMap as tree
use Rattle.std.specs.Ordering.{nat_cmp}
use Rattle.std.proofs.lemmas.Grind.{common_steps}
use Rattle.number_map.proofs.KeptLemmas.{kept_near, kept_far, with_near, with_far, kept_same, set_same}
use Rattle.number_map.proofs.number_map.NumberMap.get_mut.Goals as goal

pub returns-then-n-len : goal.returns-then-n-len
returns-then-n-len g c =
    let map = c.args.self.now in let slot = c.index_mut.result.now in
    let below : c.args.n < length map.near.items = omega (arith, map.near.ok.0) in
    let long = length-set map.near.items c.args.n slot in (
      (
        refl,
        (λ w there. with_near _ _ _ _ below refl (λ m. refl)),
        kept_same _ _ long (set_same map.near.items c.args.n slot _ below c.index_mut.ensures.value) (λ m. refl),
      ),
      record { lends = tt; value = grind (arith, common_steps, kept_near map c.args.n) },
    )

pub returns-else-n-len : goal.returns-else-n-len
returns-else-n-len g c =
    let map = c.args.self.now in let lent = c.get_mut.follows in
    let behind : length map.near.items ≤ c.args.n = omega (arith, map.near.ok.0) in
    let far = kept_far map c.args.n behind in (
      (
        refl,
        (λ w there. with_far _ _ _ _ behind (refl {a = map.near.items}) ((lent.holds w).3 (rw far at there)).0),
        kept_same _ _ refl (λ m. refl) (λ m. ap (λ far. tree.get nat_cmp far m) lent.holds-at-none),
      ),
      record { lends = tt; value = c.get_mut.ensures.value ∙ sym far },
    )
