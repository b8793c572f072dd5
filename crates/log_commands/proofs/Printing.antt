-- What printing leaves in a sink.
use Rattle.std.proofs.Common.{◌≡◌, List, [], ◌++◌, ℕ}
use Rattle.std.proofs.lemmas.List.{append-nil}
use Rattle.std.specs.Prelude.{Option, Result, Ok, Err, OnErr}
use Rattle.std.specs.Io.KnownBytes.{append_known}
use Rattle.io_edges.specs.Writes.{Appended, AppendedPart}
use Rattle.io_edges.proofs.Putting.{Put-AppendedPart}

-- where nothing was pending, a put and then a part of what is pending are a part of the put
pub put_part : {T E : Type 0} (r : Result T E) (a b c : Option (List ℕ)) (p p' xs : List ℕ) → p ≡ [] → AppendedPart a b (p ++ xs) → Appended (append_known a p) (append_known b p') xs → OnErr r (AppendedPart b c p') → OnErr r (AppendedPart a c xs)
put_part (Ok x) a b c p p' xs none part put more = tt
put_part (Err e) a b c p p' xs none part put more =
    let both : AppendedPart a c (p ++ (xs ++ [])) =
    Put-AppendedPart a b c p p' xs [] part put (rw (append-nil p') more) in
    rw (none, append-nil xs) at both
