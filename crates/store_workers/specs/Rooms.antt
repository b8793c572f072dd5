-- What a run of a script takes before the store is opened.
use Rattle.std.specs.Prelude.{◌≡◌, ℕ, ◌<◌, ◌≤◌, List, [], length, reverse, vec_capacity}
use Rattle.request_text.specs.declared.request.Line.{Line}
use Rattle.store_workers.specs.declared.room.ScriptRoom.{ScriptRoom}
use Rattle.worker_lines.specs.Lines.{AreOwners}
use Rattle.store_workers.specs.Crews.{AreNumbered, IsCrew}

-- Room for n workers of this script: a crew for each, the last one first, which of them each line is for, and room for the workers, for the replies of each, and for a reply to each line. It is not used yet.
pub record IsRoomFor {P : Type 0} (n : ℕ) (script : List Line) (room : ScriptRoom P) : Type 0 where
  pub crews : AreNumbered (IsCrew n script) 0 (reverse room.crews.items)
  pub len : length room.crews.items ≡ n
  pub owned : 0 < n → AreOwners n room.owners.items 0 script
  pub no_workers : room.workers.items ≡ []
  pub workers : n ≤ vec_capacity room.workers
  pub no_own : room.own.items ≡ []
  pub own : n ≤ vec_capacity room.own
  pub none : room.replies.items ≡ []
  pub replies : length script ≤ vec_capacity room.replies
