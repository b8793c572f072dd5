-- Headers and entries at the front of bytes.
use Rattle.std.proofs.Common.{◌≡◌, ℕ, List, ◌∷◌, ◌++◌, length, sym, ◌∙◌, arith, append_assoc, length-append}
use Rattle.tel_entry.specs.declared.header.Header.{Header}
use Rattle.tel_entry.specs.declared.entry.Entry.{Entry}
use Rattle.tel_entry.specs.Layouts.{u16_bytes, u32_bytes, u64_bytes, header_bytes, entry_bytes, HeaderFits, EntryFits}
use Rattle.tel_entry.proofs.Numbers.{length-u16, length-u32, length-u64, u64_one, u32_one, u16_one}

pub length-header_bytes : (h : Header) → length (header_bytes h) ≡ 36
length-header_bytes h =
    simp (length-append, length-u64, length-u32, length-u16) (omega arith)

pub length-entry_bytes : (e : Entry) → length (entry_bytes e) ≡ 28
length-entry_bytes e = simp (length-append, length-u64, length-u32) (omega arith)

-- the bytes of an entry in front of others, field by field
pub entry_bytes-append : (e : Entry) (r : List ℕ) → entry_bytes e ++ r ≡ u64_bytes e.d ++ (u64_bytes e.created ++ (u64_bytes e.ended ++ (u32_bytes e.len ++ r)))
entry_bytes-append e r = simp append_assoc

pub header_bytes-append : (h : Header) (r : List ℕ) →
    header_bytes h ++ r ≡ u64_bytes h.source ++ (u16_bytes h.label ++ (h.order ∷ (h.flags ∷ (u64_bytes h.epoch ++ (u32_bytes h.entries ++ (u32_bytes h.props ++ (u64_bytes h.previous ++ r)))))))
header_bytes-append h r = simp append_assoc

same_entry : (d c n l d' c' n' l' : ℕ) → d ≡ d' → c ≡ c' → n ≡ n' → l ≡ l' →
    ◌≡◌ {A = Entry} (record { d = d; created = c; ended = n; len = l }) (record { d = d'; created = c'; ended = n'; len = l' })
same_entry d c n l d' c' n' l' e1 e2 e3 e4 = cc

same_header : (s l o f e n p v s' l' o' f' e' n' p' v' : ℕ) → s ≡ s' → l ≡ l' → o ≡ o' → f ≡ f' → e ≡ e' → n ≡ n' → p ≡ p' → v ≡ v' →
    ◌≡◌ {A = Header} (record { source = s; label = l; order = o; flags = f; epoch = e; entries = n; props = p; previous = v })
    (record { source = s'; label = l'; order = o'; flags = f'; epoch = e'; entries = n'; props = p'; previous = v' })
same_header s l o f e n p v s' l' o' f' e' n' p' v' e1 e2 e3 e4 e5 e6 e7 e8 = cc

heads : (x y : ℕ) (xs ys : List ℕ) → x ∷ xs ≡ y ∷ ys → (x ≡ y) × (xs ≡ ys)
heads x y xs ys e = ((cc), (cc))

-- no two entries stand at the front of the same bytes
pub entry-one : (e f : Entry) (r s : List ℕ) → EntryFits e → EntryFits f → entry_bytes e ++ r ≡ entry_bytes f ++ s → (e ≡ f) × (r ≡ s)
entry-one e f r s fe ff eq =
    let parts = sym (entry_bytes-append e r) ∙ eq ∙ entry_bytes-append f s in
    let d = u64_one e.d f.d _ _ fe.d ff.d parts in
    let created = u64_one e.created f.created _ _ fe.created ff.created d.1 in
    let ended = u64_one e.ended f.ended _ _ fe.ended ff.ended created.1 in
    let len = u32_one e.len f.len r s fe.len ff.len ended.1 in
    (same_entry e.d e.created e.ended e.len f.d f.created f.ended f.len d.0 created.0 ended.0 len.0, len.1)

-- no two headers stand at the front of the same bytes
pub header-one : (g h : Header) (r s : List ℕ) → HeaderFits g → HeaderFits h → header_bytes g ++ r ≡ header_bytes h ++ s → (g ≡ h) × (r ≡ s)
header-one g h r s fg fh eq =
    let parts = sym (header_bytes-append g r) ∙ eq ∙ header_bytes-append h s in
    let source = u64_one g.source h.source _ _ fg.source fh.source parts in
    let label = u16_one g.label h.label _ _ fg.label fh.label source.1 in
    let order = heads g.order h.order _ _ label.1 in
    let flags = heads g.flags h.flags _ _ order.1 in
    let epoch = u64_one g.epoch h.epoch _ _ fg.epoch fh.epoch flags.1 in
    let entries = u32_one g.entries h.entries _ _ fg.entries fh.entries epoch.1 in
    let props = u32_one g.props h.props _ _ fg.props fh.props entries.1 in
    let previous = u64_one g.previous h.previous r s fg.previous fh.previous props.1 in (
      same_header g.source g.label g.order g.flags g.epoch g.entries g.props g.previous h.source h.label h.order h.flags h.epoch h.entries h.props h.previous
          source.0 label.0 order.0 flags.0 epoch.0 entries.0 props.0 previous.0,
      previous.1,
    )
