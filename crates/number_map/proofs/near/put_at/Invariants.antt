use Rattle.std.proofs.Common.{ℕ, ◌≡◌, ◌<◌, None, get_or, vec_len}
use Rattle.std.specs.Prelude.{vec_capacity}
use Rattle.number_map.proofs.near.put_at.Given as goal

abbrev pub invariant-loop-place : goal.invariant-loop-place
invariant-loop-place g l = record {
  long : vec_len l.near ≡ l._place;
  room : l.fn.place < vec_capacity l.near;
  same : (m : ℕ) → get_or l.near.items m None ≡ get_or l.fn.near.items m None;
}
