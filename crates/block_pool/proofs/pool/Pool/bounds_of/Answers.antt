use Rattle.std.proofs.Common.{ℕ, ◌^◌, [], ap, arith}
use Rattle.block_pool.specs.Trees.{Free}
use Rattle.block_pool.proofs.PoolSteps.{known_fits}
use Rattle.block_pool.proofs.pool.Pool.bounds_of.Goals as goal

pub power-requires : goal.power-requires
power-requires c =
    let f = (known_fits c.self.inside.chunks.items c.args.self.now c.args.b.now c.self.view_is c.self.invariant.whole c.requires).1 in omega (arith, f.0, c.order.ensures)

pub overflow_mul-result : goal.overflow_mul-result
overflow_mul-result c =
    let f = (known_fits c.self.inside.chunks.items c.args.self.now c.args.b.now c.self.view_is c.self.invariant.whole c.requires).1 in
    let p = ap (λ (n : ℕ). 2 ^ n) c.order.ensures in
    record { fits = omega (arith, f.1.0, p, c.power.ensures) }

pub overflow_add-result : goal.overflow_add-result
overflow_add-result c =
    let f = (known_fits c.self.inside.chunks.items c.args.self.now c.args.b.now c.self.view_is c.self.invariant.whole c.requires).1 in
    let p = ap (λ (n : ℕ). 2 ^ n) c.order.ensures in
    record { fits = omega (arith, f.1.0, p, c.power.ensures, c.start-from.ensures) }

pub returns-clause-chunk : goal.returns-clause-chunk
returns-clause-chunk c = (known_fits c.self.inside.chunks.items c.args.self.now c.args.b.now c.self.view_is c.self.invariant.whole c.requires).0

pub returns-clause-within : goal.returns-clause-within
returns-clause-within c = (known_fits c.self.inside.chunks.items c.args.self.now c.args.b.now c.self.view_is c.self.invariant.whole c.requires).1.1.1 (record { order = 0; bytes = []; tree = Free })
