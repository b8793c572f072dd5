-- Bytes taken by several reads.
use Rattle.std.proofs.Common.{◌≡◌, ℕ, ◌+◌, ◌-◌, ◌<◌, ◌≤◌, List, [], ◌++◌, length, take, refl, sym, ◌∙◌, ap, arith, append_assoc, subst, length-append, take-take, length-take-le}
use Rattle.std.proofs.lemmas.List.{append-nil, take-append-le}
use Rattle.std.proofs.Math.Seq.{take-append-add}
use Rattle.std.specs.Prelude.{Option, Some, None, IfSome}
use Rattle.std.specs.Io.KnownBytes.{prepend_known}
use Rattle.io_edges.specs.Faults.{NeverFalls}
use Rattle.io_edges.specs.Reads.{TookBytes, ReadTakes, TookCount, ReadToEnd}

-- taking twice is taking both
pub prepend_known-append : (left : Option (List ℕ)) (xs ys : List ℕ) → prepend_known xs (prepend_known ys left) ≡ prepend_known (xs ++ ys) left
prepend_known-append None xs ys = refl
prepend_known-append (Some l) xs ys = ap Some (sym (append_assoc xs ys l))

-- taking nothing changes nothing
pub prepend_known-nil : (left : Option (List ℕ)) → prepend_known [] left ≡ left
prepend_known-nil None = refl
prepend_known-nil (Some l) = refl

-- nothing was taken where the source stayed
pub Took-same : (a : Option (List ℕ)) → TookBytes a a []
Took-same a = sym (prepend_known-nil a)

-- these bytes and then those are both, in order
pub Took-Took : (a b c : Option (List ℕ)) (xs ys : List ℕ) → TookBytes a b xs → TookBytes b c ys → TookBytes a c (xs ++ ys)
Took-Took a b c xs ys first second =
    first ∙ ap (prepend_known xs) second ∙ prepend_known-append c xs ys

-- The first bytes of the buffer are those taken so far, the buffer is at most one byte longer than allowed,
-- and the count of faults has not fallen.
pub record HasRead (left left' : Option (List ℕ)) (faults faults' : ℕ) (buffer : List ℕ) (at most : ℕ) : Type 0 where
  pub filled : at ≤ length buffer
  pub within : length buffer ≤ most + 1
  pub took : TookBytes left left' (take at buffer)
  pub count : NeverFalls faults faults'

-- the front of two lists in a row, where the first has this length
take-append-at : (at n : ℕ) (xs ys : List ℕ) → length xs ≡ at → take (at + n) (xs ++ ys) ≡ xs ++ take n ys
take-append-at at n xs ys is-at =
    subst (λ (k : ℕ). take (k + n) (xs ++ ys) ≡ xs ++ take n ys) is-at (take-append-add xs ys n)

-- the front of a list in which a piece was written behind the first bytes
take-written : (at n room : ℕ) (whole piece post rest : List ℕ) → at ≤ length whole → n ≤ length piece → at + n ≤ room → take (at + n) (take room ((take at whole ++ (piece ++ post)) ++ rest)) ≡ take at whole ++ take n piece
take-written at n room whole piece post rest in_whole in_piece in_room =
    take-take (at + n) room ((take at whole ++ (piece ++ post)) ++ rest) in_room
    ∙ ap (take (at + n)) (append_assoc (take at whole) (piece ++ post) rest)
    ∙ take-append-at at n (take at whole) ((piece ++ post) ++ rest) (length-take-le at whole in_whole)
    ∙ ap (λ xs. take at whole ++ xs)
    (ap (take n) (append_assoc piece post rest) ∙ take-append-le n piece (post ++ rest) in_piece)

-- its length
length-written : (at room : ℕ) (whole piece post rest : List ℕ) → length whole ≡ room → length piece ≡ room - at → at ≤ room → length (take room ((take at whole ++ (piece ++ post)) ++ rest)) ≡ room
length-written at room whole piece post rest whole-len piece-len in_room =
    let front : length (take at whole) ≡ at = length-take-le at whole (omega arith) in
    let long : room ≤ length ((take at whole ++ (piece ++ post)) ++ rest) =
    omega (arith, length-append (take at whole ++ (piece ++ post)) rest, length-append (take at whole) (piece ++ post), length-append piece post) in
    length-take-le room ((take at whole ++ (piece ++ post)) ++ rest) long

-- a read into the room behind the bytes taken so far takes more of them
pub HasRead-read : (a b c : Option (List ℕ)) (f f' f'' : ℕ) (old : List ℕ) (at n room most : ℕ) (whole piece post rest : List ℕ) → HasRead a b f f' old at most → take at whole ≡ take at old → length whole ≡ room → length piece ≡ room - at → at ≤ room → room ≤ most + 1 → ReadTakes b c piece n → NeverFalls f' f'' → HasRead a c f f'' (take room ((take at whole ++ (piece ++ post)) ++ rest)) (at + n) most
HasRead-read a b c f f' f'' old at n room most whole piece post rest before kept whole-len piece-len in_room within read count =
    let len : length (take room ((take at whole ++ (piece ++ post)) ++ rest)) ≡ room = length-written at room whole piece post rest whole-len piece-len in_room in
    let fits : at + n ≤ room = omega (arith, read.within) in
    record {
      filled = rw len fits;
      within = rw len within;
      took = rw (take-written at n room whole piece post rest (omega arith) read.within fits)
          (rw kept (Took-Took a b c (take at old) (take n piece) before.took read.took));
      count = omega (arith, before.count, count);
    }

-- more bytes than allowed are one more than allowed
pub HasRead-too_long : (a b : Option (List ℕ)) (f f' : ℕ) (buffer : List ℕ) (at most : ℕ) → HasRead a b f f' buffer at most → most < at → TookCount a b (most + 1)
HasRead-too_long a b f f' buffer at most has more =
    record {
      bytes = take at buffer;
      len = length-take-le at buffer has.filled ∙ (omega (arith, has.filled, has.within));
      took = has.took;
    }

-- what was read to the end is all that was left, where the source tells it
pub ReadToEnd-bytes : (left left' : Option (List ℕ)) (bytes : List ℕ) → ReadToEnd left left' bytes → IfSome left (λ all. bytes ≡ all)
ReadToEnd-bytes None left' bytes read = tt
ReadToEnd-bytes (Some all) None bytes read = let took = read.took in cc
ReadToEnd-bytes (Some all) (Some rest) bytes read =
    let took : Some all ≡ Some (bytes ++ rest) = read.took in
    let ended : rest ≡ [] = read.ended in
    let same : all ≡ bytes ++ rest = cc in
    sym (same ∙ ap (λ l. bytes ++ l) ended ∙ append-nil bytes)

-- and nothing is left
pub ReadToEnd-end : (left left' : Option (List ℕ)) (bytes : List ℕ) → ReadToEnd left left' bytes → IfSome left (λ _. left' ≡ Some [])
ReadToEnd-end None left' bytes read = tt
ReadToEnd-end (Some all) None bytes read = let took = read.took in cc
ReadToEnd-end (Some all) (Some rest) bytes read = let ended : rest ≡ [] = read.ended in ap Some ended
