-- The blocks that logs take from their room, and what a change of one log leaves of the others.
use Rattle.std.specs.Prelude.{◌≡◌, ℕ, ◌+◌, ◌*◌, ◌^◌, Bool, ◌||◌, not, ◌==◌, nat_le, IsTrue, List, ◌++◌, Contains, All, IsPermutation}
use Rattle.std.specs.List.{list_all}
use Rattle.edge_log.specs.Contents.{LogContent}

-- a block of a room's memory, in a chunk, from the byte `start` on; its order says how long it is
pub record Block : Type 0 where
  pub chunk : ℕ
  pub start : ℕ
  pub order : ℕ

-- where a block ends
abbrev pub block_end : Block → ℕ
block_end b = b.start + 64 * 2 ^ b.order

-- no byte is in both blocks
abbrev pub are_apart : Block → Block → Bool
are_apart a b = not (a.chunk == b.chunk) || nat_le (block_end a) b.start || nat_le (block_end b) a.start

-- each block of one list is apart from each of another
abbrev pub AreApart : List Block → List Block → Type 0
AreApart xs ys = IsTrue (list_all (λ a. list_all (are_apart a) ys) xs)

-- each block of one list is one of another
abbrev pub AreAmong : List Block → List Block → Type 0
AreAmong xs ys = All (λ b. Contains ys b) xs

-- New blocks were taken from a room: they are apart from all that were out of it, and are out of it now.
pub record TakesNew (before after new : List Block) : Type 0 where
  pub apart : AreApart before new
  pub out : IsPermutation after (new ++ before)

-- Each log that stands in the old room, apart from these blocks, stands in the new room with the same content and the same room for an entry.
abbrev pub KeepsLogs : {L R : Type 0} → (L → R → Type 0) → (L → List Block) → (L → R → LogContent) → (L → R → ℕ) → List Block → R → R → Type 0
KeepsLogs {L} stands footprint content spare blocks old new =
    (log : L) → stands log old → AreApart blocks (footprint log) → stands log new × (content log new ≡ content log old) × (spare log new ≡ spare log old)

-- Each Old that stands in the old room, apart from these blocks, stands in the new room with the same content.
abbrev pub KeepsOlds : {O R : Type 0} → (O → R → Type 0) → (O → List Block) → (O → R → LogContent) → List Block → R → R → Type 0
KeepsOlds {O} stands footprint content blocks old new =
    (x : O) → stands x old → AreApart blocks (footprint x) → stands x new × (content x new ≡ content x old)
