-- Where a text is cut, and what its parts are read as.
use Rattle.std.specs.Prelude.{◌≡◌, ◌⊎◌, ◌+◌, ◌≤◌, ℕ, List, Option, length, slice_index_or, IfSome, Ok}
use Rattle.request_text.specs.declared.request.Line.{Line}
use Rattle.request_text.specs.Scripts.{script_of}

-- a place behind a newline, or the end
abbrev pub IsBorder : List ℕ → ℕ → Type 0
IsBorder bytes at = (at ≤ length bytes) × ((at ≡ length bytes) ⊎ ((n : ℕ) × (at ≡ n + 1) × (slice_index_or bytes n 0 ≡ 10)))

-- the lines that were read, if any, are the script that the bytes are
abbrev pub Reads : List ℕ → Option (List Line) → Type 0
Reads bytes read = IfSome read (λ script. script_of bytes ≡ Ok script)
