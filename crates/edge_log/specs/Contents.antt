-- The content of an edge log, and what each change makes of it.
use Rattle.std.specs.Prelude.{ℕ, ◌≤◌, List, [], ◌∷◌, length}
use Rattle.graph_model.specs.Records.{list_most}
use Rattle.edge_log.specs.Entries.{Entry, sizes, fresh_entry, converted, cleared, kept}
use Rattle.edge_log.specs.Places.{ended_at, oldest, TailIsBy}

-- The entries, newest first; how many of them, the oldest, are committed; and the epoch of the last commit. The entries above the committed ones are the tail.
pub record LogContent : Type 0 where
  pub entries : List Entry
  pub committed : ℕ
  pub epoch : ℕ

-- A log keeps within its limit.
pub record Fits (limit : ℕ) (content : LogContent) : Type 0 where
  pub committed : content.committed ≤ length content.entries
  pub within : sizes content.entries ≤ limit
  pub bounded : limit ≤ list_most

-- every entry of the tail was created by a transaction
abbrev pub HasTailOf : ℕ → LogContent → Type 0
HasTailOf t content = TailIsBy t content.committed content.entries

abbrev pub empty_content : LogContent
empty_content = record { entries = []; committed = 0; epoch = 0 }

abbrev pub with_appended : ℕ → ℕ → List ℕ → LogContent → LogContent
with_appended t d p content = record content { entries = fresh_entry d p t ∷ content.entries }

abbrev pub with_ended : ℕ → ℕ → LogContent → LogContent
with_ended n t content = record content { entries = ended_at content.entries n t }

-- after a transaction's commit at an epoch
abbrev pub with_converted : ℕ → ℕ → LogContent → LogContent
with_converted t e content = record { entries = converted t e content.entries; committed = length content.entries; epoch = e }

-- after a transaction was given up: the committed entries, with its end stamps taken off
abbrev pub with_undone : ℕ → LogContent → LogContent
with_undone t content = record content { entries = cleared t (oldest content.committed content.entries) }

-- without what no snapshot from h on sees
abbrev pub with_kept : ℕ → LogContent → LogContent
with_kept h content = record content { entries = kept h content.entries; committed = length (kept h (oldest content.committed content.entries)) }
