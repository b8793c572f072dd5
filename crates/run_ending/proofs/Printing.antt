-- What printing leaves in a sink.
use Rattle.std.proofs.Common.{◌≡◌, List, [], ◌++◌, ℕ}
use Rattle.std.specs.Prelude.{Option, Result, OnErr}
use Rattle.std.specs.Io.KnownBytes.{append_known}
use Rattle.io_edges.specs.Writes.{Appended, AppendedPart}
use Rattle.log_commands.proofs.Printing as printing

-- where nothing was pending, a put and then a part of what is pending are a part of the put
pub put_part : {T E : Type 0} (r : Result T E) (a b c : Option (List ℕ)) (p p' xs : List ℕ) → p ≡ [] → AppendedPart a b (p ++ xs) → Appended (append_known a p) (append_known b p') xs → OnErr r (AppendedPart b c p') → OnErr r (AppendedPart a c xs)
put_part r a b c p p' xs none part put more = printing.put_part r a b c p p' xs none part put more
