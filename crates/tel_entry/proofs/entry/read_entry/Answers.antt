use Rattle.std.proofs.Common.{◌≡◌, ◌≤◌, ◌++◌, ℕ, List, length, drop, sym, ap, ◌∙◌, arith}
use Rattle.tel_entry.specs.declared.entry.Entry.{Entry}
use Rattle.tel_entry.specs.Layouts.{u32_bytes, u64_bytes, entry_bytes}
use Rattle.tel_entry.proofs.Fronts.{entry-one, entry_bytes-append}
use Rattle.tel_entry.proofs.FieldReads.{AreBytes, read_first, read_u64_at, read_u32_at}
use Rattle.tel_entry.proofs.entry.read_entry.Goals as goal

-- the four fields, one after another, are the entry
fields : (buf : List ℕ) (e : Entry) →
    buf ≡ u64_bytes e.d ++ drop 8 buf → drop 8 buf ≡ u64_bytes e.created ++ drop 16 buf →
    drop 16 buf ≡ u64_bytes e.ended ++ drop 24 buf → drop 24 buf ≡ u32_bytes e.len ++ drop 28 buf → buf ≡ entry_bytes e ++ drop 28 buf
fields buf e d created ended len =
    d ∙ ap (λ r. u64_bytes e.d ++ r) (created ∙ ap (λ r. u64_bytes e.created ++ r) (ended ∙ ap (λ r. u64_bytes e.ended ++ r) len))
    ∙ sym (entry_bytes-append e (drop 28 buf))

pub returns-clause-read : goal.returns-clause-read
returns-clause-read c =
    let buf : List ℕ = c.args.buf.now in
    let within : 28 ≤ length buf = c.requires in
    let bytes : AreBytes buf = λ i. omega (arith, c.type_inv.buf i) in
    fields buf _
    (read_first c.read_u64.result buf bytes (omega arith) c.read_u64.ensures)
    (read_u64_at 8 c.read_u64-2.result buf bytes (omega arith) c.read_u64-2.ensures)
    (read_u64_at 16 c.read_u64-3.result buf bytes (omega arith) c.read_u64-3.ensures)
    (read_u32_at 24 c.read_u32.result buf bytes (omega arith) c.read_u32.ensures)

pub returns-clause-only : goal.returns-clause-only
returns-clause-only c = λ e rest fits is.
    (entry-one _ e (drop 28 c.args.buf.now) rest
    (record { d = c.read_u64.type_inv; created = c.read_u64-2.type_inv; ended = c.read_u64-3.type_inv; len = c.read_u32.type_inv })
    fits (sym (returns-clause-read c) ∙ is)).0
