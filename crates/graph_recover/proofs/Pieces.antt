-- Bytes read of a disk, a piece behind the bytes so far.
use Rattle.std.proofs.Common.{◌≡◌, ℕ, ◌+◌, ◌-◌, ◌<◌, ◌≤◌, List, ◌++◌, length, take, sym, ◌∙◌, ap, arith, append_assoc, subst, length-append, take-take, length-take-le}
use Rattle.std.proofs.lemmas.List.{take-append-le, take_all}
use Rattle.std.proofs.Math.Seq.{take-append-add, take-append_seam, take-add}
use Rattle.std.specs.Prelude.{Option, Some, None}
use Rattle.disk_model.specs.Images.{ReadsAt}
use Rattle.graph_recover.specs.Recovery.{IsFront}

-- a list whose first items are those of xs, and then ys
take-at : (at n : ℕ) (xs ys : List ℕ) → length xs ≡ at → take (at + n) (xs ++ ys) ≡ xs ++ take n ys
take-at at n xs ys is_at = subst (λ (k : ℕ). take (k + n) (xs ++ ys) ≡ xs ++ take n ys) is_at (take-append-add xs ys n)

-- the front of a list in which a piece was written behind the first bytes
take-written : (at n room : ℕ) (whole piece post rest : List ℕ) → at ≤ length whole → n ≤ length piece → at + n ≤ room → take (at + n) (take room ((take at whole ++ (piece ++ post)) ++ rest)) ≡ take at whole ++ take n piece
take-written at n room whole piece post rest in_whole in_piece in_room =
    take-take (at + n) room ((take at whole ++ (piece ++ post)) ++ rest) in_room
    ∙ ap (take (at + n)) (append_assoc (take at whole) (piece ++ post) rest)
    ∙ take-at at n (take at whole) ((piece ++ post) ++ rest) (length-take-le at whole in_whole)
    ∙ ap (λ xs. take at whole ++ xs)
    (ap (take n) (append_assoc piece post rest) ∙ take-append-le n piece (post ++ rest) in_piece)

-- Bytes from the front of a disk, and what was read behind them, are its front.
pub IsFront-read : (told : Option (List ℕ)) (old : List ℕ) (at n room : ℕ) (whole piece post rest : List ℕ) → IsFront told old → length old ≡ at → take at whole ≡ old → length whole ≡ room → length piece ≡ room - at → at ≤ room → ReadsAt told at piece n →
    IsFront told (take (at + n) (take room ((take at whole ++ (piece ++ post)) ++ rest)))
IsFront-read None old at n room whole piece post rest front is_at kept whole-len piece-len in_room read = tt
IsFront-read (Some b) old at n room whole piece post rest front is_at kept whole-len piece-len in_room read =
    let x = take (at + n) (take room ((take at whole ++ (piece ++ post)) ++ rest)) in
    let is : x ≡ old ++ take n piece = take-written at n room whole piece post rest (omega arith) read.within (omega (arith, read.within)) ∙ ap (λ xs. xs ++ take n piece) kept in
    let long : length x ≡ at + n = ap length is ∙ length-append old (take n piece) ∙ omega (arith, is_at, length-take-le n piece read.within) in
    is ∙ ap (λ xs. xs ++ take n piece) (front ∙ ap (λ k. take k b) is_at) ∙ ap (λ xs. take at b ++ xs) read.bytes
    ∙ sym (take-add at n b) ∙ ap (λ k. take k b) (sym long)

-- a list that was made longer begins as it did
pub take-longer : (at end : ℕ) (old whole more : List ℕ) → length old ≡ at → at < end → whole ≡ take end old ++ more → take at whole ≡ old
take-longer at end old whole more is_at longer is =
    let all : take end old ≡ old = take_all end old (omega arith) in
    ap (take at) (is ∙ ap (λ xs. xs ++ more) all) ∙ subst (λ (k : ℕ). take k (old ++ more) ≡ old) is_at (take-append_seam old more)
