-- A text is read piece by piece.
use Rattle.std.proofs.Common.{◌≡◌, ℕ, List, [], ◌∷◌, ◌++◌, length, take, drop, append-nil, append_assoc, refl, sym, ap, ◌∙◌, Ok, arith}
use Rattle.request_text.specs.declared.request.Line.{Line}
use Rattle.request_text.specs.Scripts.{script_of}
use Rattle.script_reading.specs.Borders.{IsBorder}
use Rattle.script_reading.proofs.Halves.{halves-read}

-- These lines were read, and make with those of the rest the script that the bytes are, where the rest is a script.
pub record ReadSoFar (bytes rest : List ℕ) (lines : List Line) : Type 0 where
  pub with_rest : (more : List Line) → script_of rest ≡ Ok more → script_of bytes ≡ Ok (lines ++ more)

pub none-read : (bytes : List ℕ) (lines : List Line) → lines ≡ [] → ReadSoFar bytes bytes lines
none-read bytes lines none = record { with_rest = λ more read. read ∙ ap (λ (ls : List Line). Ok (ls ++ more)) (sym none) }

pub piece-read : (bytes rest : List ℕ) (at : ℕ) (lines piece : List Line) → IsBorder rest at → script_of (take at rest) ≡ Ok piece → ReadSoFar bytes rest lines → ReadSoFar bytes (drop at rest) (lines ++ piece)
piece-read bytes rest at lines piece border first so = record {
  with_rest = λ more read. so.with_rest (piece ++ more) (halves-read rest at piece more border first read) ∙ ap Ok (sym (append_assoc lines piece more));
}

pub all-read : (bytes rest : List ℕ) (lines : List Line) → length rest ≡ 0 → ReadSoFar bytes rest lines → script_of bytes ≡ Ok lines
all-read bytes [] lines none so = so.with_rest [] refl ∙ ap Ok (append-nil lines)
all-read bytes (byte ∷ rest) lines none so = absurd (omega (arith, none))
