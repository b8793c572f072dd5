-- Reading line by line.
use Rattle.std.proofs.Common.{◌≡◌, ◌+◌, List, [], ◌∷◌, ◌++◌, append_assoc, append-nil, refl, sym, ap, ◌∙◌, Result, Ok, Err}
use Rattle.request_text.specs.declared.request.Line.{Line}
use Rattle.std.proofs.Common.{ℕ, ◌≤◌, length, Option, Some, None, arith}
use Rattle.std.specs.Prelude.{unwrap_or}
use Rattle.std.specs.Borrow.{Bor}
use Rattle.request_text.specs.declared.refusal.LineRefusal.{LineRefusal}
use Rattle.request_text.specs.declared.refusal.LineRefusal.TheVariants as refusal
use Rattle.request_text.specs.Reading.{Refuses, RefusesText, at_line}
use Rattle.request_text.proofs.Splits.{rest_after}
use Rattle.request_text.specs.Scripts.{BadPlace, onto, lines_from, lines_of, line_of}

-- lines that were read, in front of what is read behind them
abbrev pub with_front : List Line → Result (List Line) BadPlace → Result (List Line) BadPlace
with_front front (Ok lines) = Ok (front ++ lines)
with_front front (Err place) = Err place

-- nothing in front changes nothing
pub with_front-nil : (read : Result (List Line) BadPlace) → with_front [] read ≡ read
with_front-nil (Ok lines) = refl
with_front-nil (Err place) = refl

-- one more line in front
pub with_front-onto : (front : List Line) (line : Line) (number : ℕ) (read : Result (List Line) BadPlace)
    → with_front front (onto (Ok line) number read) ≡ with_front (front ++ line ∷ []) read
with_front-onto front line number (Ok lines) = ap Ok (sym (append_assoc front (line ∷ []) lines))
with_front-onto front line number (Err place) = refl

-- a line that is read, in front of those behind it
pub lines_from-ok : (front : List Line) (number : ℕ) (bytes : List ℕ) (more : List (List ℕ)) (line : Line) → line_of bytes ≡ Ok line
    → with_front front (lines_from number (bytes ∷ more)) ≡ with_front (front ++ line ∷ []) (lines_from (number + 1) more)
lines_from-ok front number bytes more line read =
    ap (λ r. with_front front (onto r number (lines_from (number + 1) more))) read
    ∙ with_front-onto front line number (lines_from (number + 1) more)

-- a bad line is the first bad place
pub lines_from-err : (front : List Line) (number : ℕ) (bytes : List ℕ) (more : List (List ℕ)) (column : ℕ) → line_of bytes ≡ Err column
    → with_front front (lines_from number (bytes ∷ more)) ≡ Err (record { line = number; column = column })
lines_from-err front number bytes more column read =
    ap (λ r. with_front front (onto r number (lines_from (number + 1) more))) read

-- what stands after a cut, as it is borrowed
pub unwrap_or-rest : (after : Option (Bor (List ℕ))) (none : Bor (List ℕ)) → none.now ≡ [] → (unwrap_or after none).now ≡ rest_after after
unwrap_or-rest None none empty = empty
unwrap_or-rest (Some rest) none empty = refl

-- what the text is, as the lines so far and what the rest is, once one more line is read
pub reading-ok : (script : List Line) (number : ℕ) (rest bytes : List ℕ) (more : List (List ℕ)) (line : Line) (text : Result (List Line) BadPlace)
    → lines_of rest ≡ bytes ∷ more → line_of bytes ≡ Ok line
    → with_front script (lines_from number (lines_of rest)) ≡ text
    → with_front (script ++ line ∷ []) (lines_from (number + 1) more) ≡ text
reading-ok script number rest bytes more line text cut read so_far =
    sym (lines_from-ok script number bytes more line read)
    ∙ sym (ap (λ lines. with_front script (lines_from number lines)) cut) ∙ so_far

-- what the text is, once a line is bad
pub reading-err : (script : List Line) (number : ℕ) (rest bytes : List ℕ) (more : List (List ℕ)) (e : LineRefusal) (text : Result (List Line) BadPlace)
    → lines_of rest ≡ bytes ∷ more → Refuses e (line_of bytes)
    → with_front script (lines_from number (lines_of rest)) ≡ text
    → RefusesText (at_line number e) text
reading-err script number rest bytes more refusal.NoMemory text cut refused so_far = tt
reading-err script number rest bytes more (refusal.Column column) text cut refused so_far =
    sym so_far ∙ ap (λ lines. with_front script (lines_from number lines)) cut
    ∙ lines_from-err script number bytes more column refused

-- what the text is, once nothing is left
pub reading-end : (script : List Line) (number : ℕ) (rest : List ℕ) (text : Result (List Line) BadPlace)
    → length rest ≤ 0 → with_front script (lines_from number (lines_of rest)) ≡ text → text ≡ Ok script
reading-end script number [] text none so_far = sym so_far ∙ ap Ok (append-nil script)
reading-end script number (b ∷ rest) text none so_far = absurd (omega arith)
