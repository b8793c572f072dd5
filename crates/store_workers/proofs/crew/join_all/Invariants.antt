use Rattle.std.proofs.Common.{◌≡◌, ◌≤◌, ◌++◌, ◌+◌, ℕ, List, length, reverse, vec_capacity}
use Rattle.graph_legal.specs.Lines.{Replied}
use Rattle.turn_board.specs.Board.{known}
use Rattle.turn_board.specs.Views.{View, start_of}
use Rattle.store_board.specs.Standing.{IsAtBoard}
use Rattle.store_workers.specs.Crews.{HasOut, AreNumbered, Ran}
use Rattle.store_workers.proofs.Crewing.{replies_in}
use Rattle.store_workers.proofs.crew.join_all.Given as goal

-- as many are out as are left
abbrev pub invariant-loop-worker : goal.invariant-loop-worker
invariant-loop-worker g l = record {
  stands : IsAtBoard l.store.board.turns l.store.board.shards l.pass;
  stand : AreNumbered (λ _ w. IsAtBoard l.store.board.turns l.store.board.shards w.pass) 0 l.workers.items;
  start : start_of (known l.pass) ≡ start_of (known l.fn.pass);
  out : (u : View) (n : ℕ) (lines : ℕ → List Replied) → HasOut u n lines (length l.fn.workers.items) (known l.fn.pass) → AreNumbered (Ran (start_of u) u.number lines) 0 l.fn.workers.items
      → HasOut u n lines (length l.workers.items) (known l.pass) × AreNumbered (Ran (start_of u) u.number lines) 0 l.workers.items;
  back : replies_in l.workers.items ++ reverse l.replies.items ≡ replies_in l.fn.workers.items;
  many : length l.replies.items + length l.workers.items ≡ length l.fn.workers.items;
  room : length l.fn.workers.items ≤ vec_capacity l.replies;
}

abbrev pub decreases-loop-worker : goal.decreases-loop-worker
decreases-loop-worker g l = goal.left-loop-worker g l
