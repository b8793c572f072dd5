-- The numbers of an entry, read from its bytes.
use Rattle.std.proofs.Common.{◌≡◌, ℕ, ◌+◌, ◌-◌, ◌^◌, ◌<◌, List, [], ◌∷◌, ◌++◌, length, drop, refl, sym, ap, ◌∙◌, arith, drop-drop}
use Rattle.std.proofs.lemmas.Bool.Decides.{nat_tests}
use Rattle.std.proofs.lemmas.List.{drop_at}
use Rattle.byteorder.specs.Endian.{big_number}
use Rattle.stamps.specs.declared.stamp.Stamp.{Stamp}
use Rattle.stamps.specs.declared.stamp.Stamp.TheVariants.{Never, At, By}
use Rattle.edge_log.specs.Entries.{Entry, payload_sum}
use Rattle.tel_entry.specs.declared.entry.Entry.{Entry as RawEntry}
use Rattle.tel_entry.specs.Layouts.{u32_bytes, u64_bytes, entry_bytes, EntryFits}
use Rattle.tel_entry.specs.RawStamps.{stamp_of, raw_of, HasRaw}
use Rattle.tel_entry.proofs.Fronts.{entry_bytes-append}
use Rattle.tel_entry.proofs.Numbers.{length-u64, u64_read, u32_read}
use Rattle.block_layout.specs.Sizes.{bytes_at}
use Rattle.block_layout.specs.Rows.{raw_entry, HasRow}
use Rattle.block_layout.specs.Blocks.{HoldsEntries}
use Rattle.block_layout.specs.Reads.{raw_in, entry_with, row_start, raw_at, entries_in}
use Rattle.block_layout.proofs.Held.{held-next, held-older, held-row}

-- a stamp's number has 64 bits
pub raw_of-fits : (s : Stamp) → HasRaw s → raw_of s < 2 ^ 64
raw_of-fits Never has = omega arith
raw_of-fits (At e) has = (let h = has.1 in omega arith)
raw_of-fits (By t) has = (let h : t < 2 ^ 63 = has in omega arith)

pub stamp_of-raw_of : (s : Stamp) → HasRaw s → stamp_of (raw_of s) ≡ s
stamp_of-raw_of Never has = refl
stamp_of-raw_of (At e) has = (let a = has.0 in let b = has.1 in grind (arith, nat_tests))
stamp_of-raw_of (By t) has = (let a : t < 2 ^ 63 = has in grind (arith, nat_tests))

pub raw_entry-fits : (x : Entry) → HasRow x → EntryFits (raw_entry x)
raw_entry-fits x has = record { d = has.d; created = raw_of-fits x.created has.created; ended = raw_of-fits x.ended has.ended; len = (let l = has.len in omega arith) }

same_raw : (d c n l d' c' n' l' : ℕ) → d ≡ d' → c ≡ c' → n ≡ n' → l ≡ l' →
    ◌≡◌ {A = RawEntry} (record { d = d; created = c; ended = n; len = l }) (record { d = d'; created = c'; ended = n'; len = l' })
same_raw d c n l d' c' n' l' e1 e2 e3 e4 = cc

-- the numbers at the front of bytes that begin with an entry are the entry's
pub raw_in-front : (e : RawEntry) (bytes rest : List ℕ) → EntryFits e → bytes ≡ entry_bytes e ++ rest → raw_in bytes ≡ e
unfolding raw_in
raw_in-front e bytes rest fits is =
    let b3 : List ℕ = u32_bytes e.len ++ rest in
    let b2 : List ℕ = u64_bytes e.ended ++ b3 in
    let b1 : List ℕ = u64_bytes e.created ++ b2 in
    let whole : bytes ≡ u64_bytes e.d ++ b1 = is ∙ entry_bytes-append e rest in
    let at8 : drop 8 bytes ≡ b1 = ap (drop 8) whole ∙ drop_at (u64_bytes e.d) b1 8 (length-u64 e.d) in
    let at16 : drop 16 bytes ≡ b2 = sym (drop-drop 8 8 bytes) ∙ ap (drop 8) at8 ∙ drop_at (u64_bytes e.created) b2 8 (length-u64 e.created) in
    let at24 : drop 24 bytes ≡ b3 = sym (drop-drop 8 16 bytes) ∙ ap (drop 8) at16 ∙ drop_at (u64_bytes e.ended) b3 8 (length-u64 e.ended) in
    same_raw _ _ _ _ e.d e.created e.ended e.len
    (ap (big_number 8) whole ∙ u64_read e.d b1 fits.d)
    (ap (big_number 8) at8 ∙ u64_read e.created b2 fits.created)
    (ap (big_number 8) at16 ∙ u64_read e.ended b3 fits.ended)
    (ap (big_number 4) at24 ∙ u32_read e.len rest fits.len)

-- the newest entry's numbers
pub raw_at-held : (start : ℕ) (x : Entry) (xs : List Entry) (bytes : List ℕ) → HoldsEntries start (x ∷ xs) bytes → raw_at (length xs) bytes ≡ raw_entry x
raw_at-held start x xs bytes held = raw_in-front (raw_entry x) (drop (row_start (length xs) bytes) bytes) _ (raw_entry-fits x held.fit.0) (held-row start x xs bytes held)

same_entry : (d d' : ℕ) (p p' : List ℕ) (c c' n n' : Stamp) → d ≡ d' → p ≡ p' → c ≡ c' → n ≡ n' →
    ◌≡◌ {A = Entry} (record { d = d; p = p; created = c; ended = n }) (record { d = d'; p = p'; created = c'; ended = n' })
same_entry d d' p p' c c' n n' e1 e2 e3 e4 = cc

pub entry_with-raw : (x : Entry) → HasRow x → entry_with (raw_entry x) x.p ≡ x
entry_with-raw x has = same_entry x.d x.d x.p x.p _ x.created _ x.ended refl refl (stamp_of-raw_of x.created has.created) (stamp_of-raw_of x.ended has.ended)

pub read_back : (start : ℕ) (xs : List Entry) (bytes : List ℕ) → HoldsEntries start xs bytes → entries_in start (length xs) (payload_sum xs) bytes ≡ xs
read_back start [] bytes held = refl
read_back start (x ∷ xs) bytes held =
    let next = held-next start x xs bytes held in
    let raw = raw_at-held start x xs bytes held in
    let below : (length x.p + payload_sum xs) - length x.p ≡ payload_sum xs = omega arith in
    ap (λ (r : RawEntry). entry_with r (bytes_at (start + ((length x.p + payload_sum xs) - r.len)) r.len bytes) ∷ entries_in start (length xs) ((length x.p + payload_sum xs) - r.len) bytes) raw
    ∙ ap (λ (b : ℕ). entry_with (raw_entry x) (bytes_at (start + b) (length x.p) bytes) ∷ entries_in start (length xs) b bytes) below
    ∙ ap (λ (p : List ℕ). entry_with (raw_entry x) p ∷ entries_in start (length xs) (payload_sum xs) bytes) next.payload
    ∙ ap (λ (y : Entry). y ∷ entries_in start (length xs) (payload_sum xs) bytes) (entry_with-raw x held.fit.0)
    ∙ ap (λ (ys : List Entry). x ∷ ys) (read_back start xs bytes (held-older start x xs bytes held))
