use Rattle.std.proofs.Common.{◌≡◌, ◌≤◌, ◌∷◌, ◌++◌, ℕ, List, length, drop, sym, ap, ◌∙◌, arith}
use Rattle.tel_entry.specs.declared.header.Header.{Header}
use Rattle.tel_entry.specs.Layouts.{u16_bytes, u32_bytes, u64_bytes, header_bytes}
use Rattle.tel_entry.proofs.Fronts.{header-one, header_bytes-append}
use Rattle.tel_entry.proofs.FieldReads.{AreBytes, read_first, read_u64_at, read_u32_at, read_u16_at, read_byte_at}
use Rattle.tel_entry.proofs.header.read_header.Goals as goal

-- the eight fields, one after another, are the header
fields : (buf : List ℕ) (h : Header) →
    buf ≡ u64_bytes h.source ++ drop 8 buf → drop 8 buf ≡ u16_bytes h.label ++ drop 10 buf →
    drop 10 buf ≡ h.order ∷ drop 11 buf → drop 11 buf ≡ h.flags ∷ drop 12 buf →
    drop 12 buf ≡ u64_bytes h.epoch ++ drop 20 buf → drop 20 buf ≡ u32_bytes h.entries ++ drop 24 buf →
    drop 24 buf ≡ u32_bytes h.props ++ drop 28 buf → drop 28 buf ≡ u64_bytes h.previous ++ drop 36 buf → buf ≡ header_bytes h ++ drop 36 buf
fields buf h source label order flags epoch entries props previous =
    source ∙ ap (λ r. u64_bytes h.source ++ r) (label ∙ ap (λ r. u16_bytes h.label ++ r) (order ∙ ap (λ r. h.order ∷ r) (flags ∙ ap (λ r. h.flags ∷ r)
    (epoch ∙ ap (λ r. u64_bytes h.epoch ++ r) (entries ∙ ap (λ r. u32_bytes h.entries ++ r) (props ∙ ap (λ r. u32_bytes h.props ++ r) previous))))))
    ∙ sym (header_bytes-append h (drop 36 buf))

pub returns-clause-read : goal.returns-clause-read
returns-clause-read c =
    let buf : List ℕ = c.args.buf.now in
    let within : 36 ≤ length buf = c.requires in
    let bytes : AreBytes buf = λ i. omega (arith, c.type_inv.buf i) in
    fields buf _
    (read_first c.read_u64.result buf bytes (omega arith) c.read_u64.ensures)
    (read_u16_at 8 c.read_u16.result buf bytes (omega arith) c.read_u16.ensures)
    (read_byte_at 10 buf (omega arith))
    (read_byte_at 11 buf (omega arith))
    (read_u64_at 12 c.read_u64-2.result buf bytes (omega arith) c.read_u64-2.ensures)
    (read_u32_at 20 c.read_u32.result buf bytes (omega arith) c.read_u32.ensures)
    (read_u32_at 24 c.read_u32-2.result buf bytes (omega arith) c.read_u32-2.ensures)
    (read_u64_at 28 c.read_u64-3.result buf bytes (omega arith) c.read_u64-3.ensures)

pub returns-clause-only : goal.returns-clause-only
returns-clause-only c = λ h rest fits is.
    (header-one _ h (drop 36 c.args.buf.now) rest
    (record {
      source = c.read_u64.type_inv;
      label = c.read_u16.type_inv;
      order = omega (arith, c.type_inv.buf 10);
      flags = omega (arith, c.type_inv.buf 11);
      epoch = c.read_u64-2.type_inv;
      entries = c.read_u32.type_inv;
      props = c.read_u32-2.type_inv;
      previous = c.read_u64-3.type_inv;
    })
    fits (sym (returns-clause-read c) ∙ is)).0
