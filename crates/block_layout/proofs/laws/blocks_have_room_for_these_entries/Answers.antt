use Rattle.std.proofs.Common.{ℕ, ◌+◌, ◌-◌, ◌*◌, ◌/◌, ◌≤◌, refl, arith}
use Rattle.block_layout.specs.Sizes.{block_len, props_start}
use Rattle.block_layout.proofs.Blocked.{start_small}
use Rattle.block_layout.proofs.laws.blocks_have_room_for_these_entries.Goals as goal

fit : (room start n : ℕ) → start ≤ room → start + 28 * n ≤ room → n ≤ (room - start) / 28
fit room start n small within = omega arith

within : (room start n : ℕ) → start ≤ room → n ≤ (room - start) / 28 → start + 28 * n ≤ room
within room start n small few = omega arith

pub returns-clause-start : goal.returns-clause-start
returns-clause-start c = start_small

pub returns-clause-most : goal.returns-clause-most
returns-clause-most c = λ order n. (fit (block_len order) (props_start order) n (start_small order), within (block_len order) (props_start order) n (start_small order))

pub returns-clause-table : goal.returns-clause-table
returns-clause-table c = refl
