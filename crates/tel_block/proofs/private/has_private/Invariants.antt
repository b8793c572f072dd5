use Rattle.std.proofs.Common.{ℕ, ◌<◌, ◌≤◌, get_or}
use Rattle.tel_block.proofs.PrivateFacts.{IsNoneAt}
use Rattle.tel_block.proofs.private.has_private.Given as goal

abbrev pub invariant-loop-place : goal.invariant-loop-place
invariant-loop-place l = (k : ℕ) → k < l.place-index → IsNoneAt l.of l.bytes (get_or l.noted k 0)

abbrev pub invariant-loop-place-2 : goal.invariant-loop-place-2
invariant-loop-place-2 l = (n : ℕ) → l.from ≤ n → n < l.place → IsNoneAt l.of l.bytes n
