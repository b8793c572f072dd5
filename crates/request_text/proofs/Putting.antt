-- Texts that are put piece by piece.
use Rattle.std.proofs.Common.{◌≡◌, ℕ, List, [], ◌++◌, append_assoc, append-nil, refl, sym, ap, subst, ◌∙◌, arith, Result, Ok, Err}
use Rattle.std.specs.Prelude.{IsErr, OnOk, OnErr}
use Rattle.std.specs.Io.KnownBytes.{append_known}
use Rattle.io_edges.specs.Faults.{NeverFalls, Rose}
use Rattle.io_edges.specs.Writes.{Appended, AppendedPart}
use Rattle.io_edges.specs.declared.write_fault.WriteFault.{WriteFault}
use Rattle.io_edges.proofs.Appending.{append_known-nil, append_known-append, AppendedPart-same, AppendedPart-more}
use Rattle.io_edges.proofs.Putting.{Put-AppendedPart}
use Rattle.io_edges.proofs.Counts.{NeverFalls-Rose}
use Rattle.request_text.specs.Printing.{Outflow, Puts}

-- The text up to its rest was put.
pub record PutSoFar (before after : Outflow) (text rest : List ℕ) : Type 0 where
  pub done : List ℕ
  pub parts : text ≡ done ++ rest
  pub put : Appended (append_known before.written before.pending) (append_known after.written after.pending) done
  pub part : AppendedPart before.written after.written (before.pending ++ done)
  pub count : NeverFalls before.faults after.faults

-- nothing of the text was put yet
pub PutSoFar-start : (s : Outflow) (text : List ℕ) → PutSoFar s s text text
PutSoFar-start s text =
    record {
      done = [];
      parts = refl;
      put = sym (append_known-nil (append_known s.written s.pending));
      part = AppendedPart-same s.written (s.pending ++ []);
      count = omega arith;
    }

-- one more piece was put
pub PutSoFar-step : (a b c : Outflow) (text piece rest : List ℕ) (u : Unit {0}) → PutSoFar a b text (piece ++ rest) → Puts b c (Ok u) piece → PutSoFar a c text rest
PutSoFar-step a b c text piece rest u so_far more =
    record {
      done = so_far.done ++ piece;
      parts = so_far.parts ∙ sym (append_assoc so_far.done piece rest);
      put = more.put ∙ ap (λ w. append_known w piece) so_far.put ∙ append_known-append (append_known a.written a.pending) so_far.done piece;
      part = Put-AppendedPart a.written b.written c.written a.pending b.pending so_far.done piece so_far.part so_far.put more.part;
      count = omega (arith, so_far.count, more.count);
    }

-- the last piece was put, or was not
pub PutSoFar-last : (a b c : Outflow) (text rest : List ℕ) (r : Result (Unit {0}) WriteFault) → PutSoFar a b text rest → Puts b c r rest → Puts a c r text
PutSoFar-last a b c text rest (Ok u) so_far more =
    let step = PutSoFar-step a b c text rest [] u (rw (append-nil rest) so_far) more in
    let whole : text ≡ step.done = step.parts ∙ append-nil step.done in
    rw whole (record { put = step.put; write_fault = tt; part = step.part; emptied = tt; count = step.count })
PutSoFar-last a b c text rest (Err e) so_far more =
    let part = Put-AppendedPart a.written b.written c.written a.pending b.pending so_far.done rest so_far.part so_far.put more.part in
    record {
      put = tt;
      write_fault = NeverFalls-Rose a.faults b.faults c.faults so_far.count more.write_fault;
      part = rw so_far.parts part;
      emptied = more.emptied;
      count = omega (arith, so_far.count, more.count);
    }

-- a piece before the last was not put
pub PutSoFar-fault : (a b c : Outflow) (text piece rest : List ℕ) (e : WriteFault) (r : Result (Unit {0}) WriteFault) → IsErr r → PutSoFar a b text (piece ++ rest) → Puts b c (Err e) piece → Puts a c r text
PutSoFar-fault a b c text piece rest e (Ok u) failed so_far more = cc failed
PutSoFar-fault a b c text piece rest e (Err d) failed so_far more =
    PutSoFar-last a b c text (piece ++ rest) (Err d) so_far
    (record {
      put = tt;
      write_fault = more.write_fault;
      part = rw (← append_assoc b.pending piece rest) (AppendedPart-more b.written c.written (b.pending ++ piece) rest more.part);
      emptied = more.emptied;
      count = more.count;
    })

-- all of the text was put
pub PutSoFar-end : (a b : Outflow) (text : List ℕ) (u : Unit {0}) → PutSoFar a b text [] → Puts a b (Ok u) text
PutSoFar-end a b text u so_far =
    let whole : text ≡ so_far.done = so_far.parts ∙ append-nil so_far.done in
    rw whole (record { put = so_far.put; write_fault = tt; part = so_far.part; emptied = tt; count = so_far.count })

-- what one put of an outlet says
pub of_put : (a b : Outflow) (r : Result (Unit {0}) WriteFault) (bytes : List ℕ)
    → record {
      put : OnOk r (Appended (append_known a.written a.pending) (append_known b.written b.pending) bytes);
      write_fault : OnErr r (Rose a.faults b.faults);
      part : AppendedPart a.written b.written (a.pending ++ bytes);
      emptied : OnErr r (b.pending ≡ []);
      count : NeverFalls a.faults b.faults;
    }
    → Puts a b r bytes
of_put a b r bytes h = record { put = h.put; write_fault = h.write_fault; part = h.part; emptied = h.emptied; count = h.count }

-- the rest, said another way
pub PutSoFar-rest : (a b : Outflow) (text rest rest' : List ℕ) → rest ≡ rest' → PutSoFar a b text rest → PutSoFar a b text rest'
PutSoFar-rest a b text rest rest' same so_far = let P : List ℕ → Type 0 = λ r. PutSoFar a b text r in subst P same so_far
