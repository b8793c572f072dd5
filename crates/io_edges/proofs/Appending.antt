-- Bytes appended by several calls.
use Rattle.std.proofs.Common.{◌≡◌, ℕ, ◌+◌, ◌-◌, ◌≤◌, List, [], ◌++◌, length, take, drop, take-add, refl, sym, ◌∙◌, ap, arith, append_assoc, length-append}
use Rattle.std.proofs.lemmas.List.{append-nil, length-drop, take-append-le}
use Rattle.std.proofs.Math.Seq.{take-length, take-append-add}
use Rattle.std.specs.Prelude.{Option, Some, None, Result, Ok, Err, OnOk, OnErr}
use Rattle.std.specs.Io.KnownBytes.{append_known}
use Rattle.io_edges.specs.Faults.{NeverFalls}
use Rattle.io_edges.specs.Writes.{Appended, AppendedPart, Writes}

-- appending twice is appending both
pub append_known-append : (written : Option (List ℕ)) (xs ys : List ℕ) → append_known (append_known written xs) ys ≡ append_known written (xs ++ ys)
append_known-append None xs ys = refl
append_known-append (Some w) xs ys = ap Some (append_assoc w xs ys)

-- appending nothing changes nothing
pub append_known-nil : (written : Option (List ℕ)) → append_known written [] ≡ written
append_known-nil None = refl
append_known-nil (Some w) = ap Some (append-nil w)

-- nothing was appended where the sink stayed
pub Appended-same : (a : Option (List ℕ)) → Appended a a []
Appended-same a = sym (append_known-nil a)

-- these bytes and then those are both, in order
pub Appended-Appended : (a b c : Option (List ℕ)) (xs ys : List ℕ) → Appended a b xs → Appended b c ys → Appended a c (xs ++ ys)
Appended-Appended a b c xs ys first second =
    second ∙ ap (λ w. append_known w ys) first ∙ append_known-append a xs ys

-- the first bytes of a piece are a part of it
pub Appended-take : (a b : Option (List ℕ)) (xs : List ℕ) (n : ℕ) → n ≤ length xs → Appended a b (take n xs) → AppendedPart a b xs
Appended-take a b xs n within appended = record { count = n; within = within; appended = appended }

-- nothing is a part of any piece
pub AppendedPart-same : (a : Option (List ℕ)) (xs : List ℕ) → AppendedPart a a xs
AppendedPart-same a xs = record { count = 0; within = omega arith; appended = Appended-same a }

-- all of a piece is a part of it
pub Appended-part : (a b : Option (List ℕ)) (xs : List ℕ) → Appended a b xs → AppendedPart a b xs
Appended-part a b xs appended =
    record { count = length xs; within = omega arith; appended = rw take-length appended }

-- what was appended is a part of the piece, whether all of it was or not
pub AppendedPart-either : {T E : Type 0} (r : Result T E) (a b : Option (List ℕ)) (xs : List ℕ) → OnOk r (Appended a b xs) → OnErr r (AppendedPart a b xs) → AppendedPart a b xs
AppendedPart-either (Ok x) a b xs all part = Appended-part a b xs all
AppendedPart-either (Err e) a b xs all part = part

-- a part of a piece is a part of a longer one
pub AppendedPart-more : (a b : Option (List ℕ)) (xs ys : List ℕ) → AppendedPart a b xs → AppendedPart a b (xs ++ ys)
AppendedPart-more a b xs ys part =
    record { count = part.count; within = omega (arith, part.within, length-append xs ys); appended = rw (take-append-le part.count xs ys part.within) part.appended }

-- a piece and then a part of the next one are a part of both
pub Appended-AppendedPart : (a b c : Option (List ℕ)) (xs ys : List ℕ) → Appended a b xs → AppendedPart b c ys → AppendedPart a c (xs ++ ys)
Appended-AppendedPart a b c xs ys first part =
    record {
      count = length xs + part.count;
      within = omega (arith, part.within, length-append xs ys);
      appended = rw take-append-add (Appended-Appended a b c xs (take part.count ys) first part.appended);
    }

-- The first bytes of a piece have been appended, and the count of faults has not fallen.
pub record HasWritten (written written' : Option (List ℕ)) (faults faults' : ℕ) (bytes : List ℕ) (at : ℕ) : Type 0 where
  pub within : at ≤ length bytes
  pub appended : Appended written written' (take at bytes)
  pub count : NeverFalls faults faults'

-- what stands from a place on, as a slice that runs to the end
pub take-drop-rest : (at : ℕ) (xs : List ℕ) → take (length xs - at) (drop at xs) ≡ drop at xs
take-drop-rest at xs = rw (← length-drop at xs) (take-length (drop at xs))

-- a write of the rest of a piece appends more of its first bytes
pub HasWritten-write : (a b c : Option (List ℕ)) (f f' f'' : ℕ) (bytes : List ℕ) (at n : ℕ) → HasWritten a b f f' bytes at → Writes b c (take (length bytes - at) (drop at bytes)) n → NeverFalls f' f'' → HasWritten a c f f'' bytes (at + n)
HasWritten-write a b c f f' f'' bytes at n before write kept =
    let rest : Writes b c (drop at bytes) n = rw (take-drop-rest at bytes) at write in
    record {
      within = omega (arith, rest.within, before.within, length-drop at bytes);
      appended = rw take-add (Appended-Appended a b c (take at bytes) (take n (drop at bytes)) before.appended rest.appended);
      count = omega (arith, before.count, kept);
    }
