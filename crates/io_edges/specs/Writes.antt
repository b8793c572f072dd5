-- What a write appends.
use Rattle.std.specs.Prelude.{◌≡◌, ℕ, ◌≤◌, ◌<◌, List, length, take, Option}
use Rattle.std.specs.Io.KnownBytes.{append_known}

-- Exactly these bytes were appended, where the sink tells its bytes.
abbrev pub Appended : Option (List ℕ) → Option (List ℕ) → List ℕ → Type 0
Appended written written' bytes = written' ≡ append_known written bytes

-- A write appended the first n bytes of a piece, at least one where there is one.
pub record Writes (written written' : Option (List ℕ)) (bytes : List ℕ) (n : ℕ) : Type 0 where
  pub within : n ≤ length bytes
  pub some : 0 < length bytes → 0 < n
  pub appended : Appended written written' (take n bytes)

-- A prefix of these bytes was appended.
pub record AppendedPart (written written' : Option (List ℕ)) (bytes : List ℕ) : Type 0 where
  pub count : ℕ
  pub within : count ≤ length bytes
  pub appended : Appended written written' (take count bytes)
