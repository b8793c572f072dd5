-- What a read takes.
use Rattle.std.specs.Prelude.{◌≡◌, ◌↔◌, ℕ, ◌≤◌, ◌<◌, List, [], length, take, Option, IfSome}
use Rattle.std.specs.Io.KnownBytes.{prepend_known, IsAtEnd}

-- These bytes were taken off the front of those to come, where the source tells them.
abbrev pub TookBytes : Option (List ℕ) → Option (List ℕ) → List ℕ → Type 0
TookBytes left left' bytes = left ≡ prepend_known bytes left'

-- A read took as many bytes as it answers and put them at the front of the buffer; for a buffer with room
-- it answers none exactly at the end.
pub record ReadTakes (left left' : Option (List ℕ)) (buffer : List ℕ) (n : ℕ) : Type 0 where
  pub within : n ≤ length buffer
  pub took : TookBytes left left' (take n buffer)
  pub at_end : 0 < length buffer → IfSome left (λ bytes. (n ≡ 0) ↔ (bytes ≡ []))

-- So many bytes were taken.
pub record TookCount (left left' : Option (List ℕ)) (count : ℕ) : Type 0 where
  pub bytes : List ℕ
  pub len : length bytes ≡ count
  pub took : TookBytes left left' bytes

-- At most so many bytes were taken.
pub record TookAtMost (left left' : Option (List ℕ)) (most : ℕ) : Type 0 where
  pub count : ℕ
  pub within : count ≤ most
  pub took : TookCount left left' count

-- These bytes were taken, and no byte is left.
pub record ReadToEnd (left left' : Option (List ℕ)) (bytes : List ℕ) : Type 0 where
  pub took : TookBytes left left' bytes
  pub ended : IsAtEnd left'
