-- What reading takes off a source.
use Rattle.std.proofs.Common.{◌≢◌, ℕ, ◌+◌, ◌≤◌, List, [], length, refl, arith}
use Rattle.std.specs.Prelude.{Option, Result, Ok, Err, IfOk, IfErr, IsErrOf}
use Rattle.io_edges.specs.Reads.{ReadToEnd, TookCount, TookAtMost}
use Rattle.io_edges.proofs.Taking.{Took-same}
use Rattle.io_edges.specs.declared.reading.ReadRefusal.{ReadRefusal}
use Rattle.io_edges.specs.declared.reading.ReadRefusal.TheVariants.{NoMemory, ReadFault, TooLong}

-- where at most so many bytes are allowed, at most one more is taken
pub took_at_most : (r : Result (List ℕ) ReadRefusal) (left left' : Option (List ℕ)) (most : ℕ) → IfOk r (ReadToEnd left left') → IfOk r (λ bytes. length bytes ≤ most) → (IsErrOf r TooLong → TookCount left left' (most + 1)) → IfErr r (λ refusal. refusal ≢ TooLong → TookAtMost left left' most) → TookAtMost left left' (most + 1)
took_at_most (Ok bytes) left left' most read within long taken =
    record { count = length bytes; within = omega arith; took = record { bytes = bytes; len = refl; took = read.took } }
took_at_most (Err TooLong) left left' most read within long taken =
    record { count = most + 1; within = omega arith; took = long refl }
took_at_most (Err ReadFault) left left' most read within long taken =
    let some : TookAtMost left left' most = taken (λ same. cc same) in
    record { count = some.count; within = omega (arith, some.within); took = some.took }
took_at_most (Err NoMemory) left left' most read within long taken =
    let some : TookAtMost left left' most = taken (λ same. cc same) in
    record { count = some.count; within = omega (arith, some.within); took = some.took }

-- nothing was taken where the source stayed
pub took_nothing : (left : Option (List ℕ)) (most : ℕ) → TookAtMost left left most
took_nothing left most =
    record { count = 0; within = omega arith; took = record { bytes = []; len = refl; took = Took-same left } }
