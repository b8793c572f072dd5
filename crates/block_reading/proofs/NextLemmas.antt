-- The next entry of a scan, from its row.
use Rattle.std.proofs.Common.{◌≡◌, ℕ, zero, suc, ◌+◌, ◌-◌, ◌<◌, ◌≤◌, List, [], ◌∷◌, ◌++◌, length, take, drop, get_or, min, refl, sym, ap, ◌∙◌, subst, ⊎_elim, inl, inr, arith, length-take, length-drop, append_assoc, Bool, true, false, Some}
use Rattle.std.specs.Prelude.{◌⊎◌, if◌then◌else◌}
use Rattle.std.proofs.lemmas.Bool.{cases_lt}
use Rattle.std.proofs.lemmas.List.{get_or-take}
use Rattle.graph_model.specs.declared.pairs.Pair.{Pair}
use Rattle.stamps.specs.Stamps.{Reader}
use Rattle.edge_log.specs.declared.place.Place.{Place}
use Rattle.edge_log.specs.Entries.{Entry, visible, shown, pair_of, payload_sum}
use Rattle.edge_log.specs.Places.{entry_at}
use Rattle.edge_log.specs.Parts.{part_most}
use Rattle.tel_entry.specs.declared.entry.Entry.{Entry as RawEntry}
use Rattle.tel_entry.specs.Layouts.{entry_bytes}
use Rattle.tel_entry.specs.RawStamps.{raw_visible}
use Rattle.block_reading.proofs.NewestLemmas.{visible-raw}
use Rattle.block_layout.specs.Rows.{raw_entry}
use Rattle.block_layout.specs.Blocks.{HoldsEntries}
use Rattle.block_layout.specs.Reads.{raw_in}
use Rattle.block_layout.proofs.Held.{HoldsNext, held-next}
use Rattle.block_reading.specs.RowLists.{row_list}
use Rattle.block_reading.specs.Places.{entries_below, HoldsBelow}
use Rattle.block_reading.proofs.RowLemmas.{length-row_list}
use Rattle.block_reading.proofs.ShownLemmas.{raw_in-row, row_list-take}
use Rattle.block_reading.proofs.BelowLemmas.{length-entries_in, held-drop, entry_at-drop}

-- The row at an index of those that a scan looks at was read.
pub record ReadsNext (start : ℕ) (place : Place) (bytes : List ℕ) (rows : List (List ℕ)) (i : ℕ) (raw : RawEntry) : Type 0 where
  pub holds : HoldsBelow start place bytes
  pub are : rows ≡ row_list (take (min place.below part_most) (entries_below start place bytes))
  pub within : i < length rows
  pub is : raw ≡ raw_in (get_or rows i [])

-- The entry at an index of those below a place.
pub record IsNext (start : ℕ) (xs : List Entry) (i : ℕ) (raw : RawEntry) (x : Entry) (bytes : List ℕ) : Type 0 where
  pub left : drop i xs ≡ x ∷ drop (i + 1) xs
  pub is : raw ≡ raw_entry x
  pub held : HoldsNext start x (drop (i + 1) xs) bytes

row_of : (xs : List Entry) (i : ℕ) → i < length xs → (x : Entry) × ((drop i xs ≡ x ∷ drop (i + 1) xs) × (get_or (row_list xs) i [] ≡ entry_bytes (raw_entry x)))
row_of [] i within = absurd (omega arith)
row_of (x ∷ xs) zero within =
    let one : 0 + 1 ≡ suc 0 = omega arith in
    (x, (ap (λ (n : ℕ). x ∷ drop n (x ∷ xs)) (sym one), refl))
row_of (x ∷ xs) (suc i) within =
    let rest = row_of xs i (omega arith) in
    let one : suc i + 1 ≡ suc (i + 1) = omega arith in
    (rest.0, (rest.1.0 ∙ ap (λ (n : ℕ). rest.0 ∷ drop n (x ∷ xs)) (sym one), rest.1.1))

-- no more rows are looked at than there are entries, nor more than 64
pub looked-within : (start : ℕ) (place : Place) (bytes : List ℕ) (rows : List (List ℕ)) → rows ≡ row_list (take (min place.below part_most) (entries_below start place bytes)) →
    length rows ≡ min place.below part_most
looked-within start place bytes rows are =
    let xs : List Entry = entries_below start place bytes in
    let n = length-entries_in start place.below place.props bytes in
    ap length are ∙ length-row_list (take (min place.below part_most) xs) ∙ length-take (min place.below part_most) xs
    ∙ (let e : min (min place.below part_most) (length xs) ≡ min place.below part_most = omega (arith, n) in e)

pub next_read : (start : ℕ) (place : Place) (bytes : List ℕ) (rows : List (List ℕ)) (i : ℕ) (raw : RawEntry) → ReadsNext start place bytes rows i raw →
    (x : Entry) × IsNext start (entries_below start place bytes) i raw x bytes
next_read start place bytes rows i raw reads =
    let xs : List Entry = entries_below start place bytes in
    let k : ℕ = min place.below part_most in
    let n : length xs ≡ place.below = length-entries_in start place.below place.props bytes in
    let long : length rows ≡ k = looked-within start place bytes rows reads.are in
    let low : i < k = (let w = reads.within in omega arith) in
    let within : i < length xs = omega arith in
    let row = row_of xs i within in
    let same : get_or rows i [] ≡ entry_bytes (raw_entry row.0) =
    ap (λ (rs : List (List ℕ)). get_or rs i []) (reads.are ∙ sym (row_list-take k xs)) ∙ get_or-take k (row_list xs) i [] low ∙ row.1.1 in
    let P : List Entry → Type 0 = λ ys. HoldsEntries start ys bytes in
    let held : HoldsEntries start (row.0 ∷ drop (i + 1) xs) bytes = subst P row.1.0 (held-drop start i xs bytes reads.holds.entries) in
    let next = held-next start row.0 (drop (i + 1) xs) bytes held in (
      row.0,
      record {
        left = row.1.0;
        is = reads.is ∙ ap raw_in same ∙ raw_in-row row.0 next.fits;
        held = next;
      },
    )

-- the payload bytes that are left, with those of the next entry
pub next-sum : (start : ℕ) (xs : List Entry) (i : ℕ) (raw : RawEntry) (x : Entry) (bytes : List ℕ) → IsNext start xs i raw x bytes →
    payload_sum (drop i xs) ≡ raw.len + payload_sum (drop (i + 1) xs)
next-sum start xs i raw x bytes next =
    ap payload_sum next.left ∙ ap (λ (r : RawEntry). r.len + payload_sum (drop (i + 1) xs)) (sym next.is)

-- the payload of the next entry ends where those that are left do, within the bytes
pub next-ends : (start : ℕ) (xs : List Entry) (i : ℕ) (raw : RawEntry) (x : Entry) (bytes : List ℕ) → IsNext start xs i raw x bytes →
    start + payload_sum (drop i xs) ≤ length bytes
next-ends start xs i raw x bytes next =
    let w = next.held.within in
    let s : payload_sum (drop i xs) ≡ length x.p + payload_sum (drop (i + 1) xs) = ap payload_sum next.left in
    omega arith

-- the bytes that are cut out are its payload
pub next-payload : (start : ℕ) (xs : List Entry) (i : ℕ) (raw : RawEntry) (x : Entry) (bytes : List ℕ) (props : ℕ) → IsNext start xs i raw x bytes → props ≡ payload_sum (drop i xs) →
    take (start + props - (start + (props - raw.len))) (drop (start + (props - raw.len)) bytes) ≡ x.p
next-payload start xs i raw x bytes props next is =
    let sum = next-sum start xs i raw x bytes next in
    let len : raw.len ≡ length x.p = ap (λ (r : RawEntry). r.len) next.is in
    let low : start + (props - raw.len) ≡ start + payload_sum (drop (i + 1) xs) = omega (arith, sum, is) in
    let cut : start + props - (start + (props - raw.len)) ≡ length x.p = omega (arith, sum, is, len) in
    ap (λ (n : ℕ). take n (drop (start + (props - raw.len)) bytes)) cut
    ∙ ap (λ (n : ℕ). take (length x.p) (drop n bytes)) low ∙ next.held.payload

-- the next entry stands at the place above those that are left then
pub next-at : (start : ℕ) (xs : List Entry) (i : ℕ) (raw : RawEntry) (x : Entry) (bytes : List ℕ) → IsNext start xs i raw x bytes → i < length xs →
    entry_at xs (length xs - i - 1) ≡ Some x
next-at start xs i raw x bytes next within =
    let n : length (drop (i + 1) xs) ≡ length xs - i - 1 = (let d = length-drop (i + 1) xs in omega arith) in
    ap (entry_at xs) (sym n) ∙ entry_at-drop i xs x (drop (i + 1) xs) next.left

-- it is visible where its numbers say so
pub next-seen : (start : ℕ) (xs : List Entry) (i : ℕ) (raw : RawEntry) (x : Entry) (bytes : List ℕ) (e : ℕ) (who : Reader) → IsNext start xs i raw x bytes →
    visible x e who ≡ raw_visible raw.created raw.ended e who
next-seen start xs i raw x bytes e who next = sym (visible-raw x raw e who next.held.fits next.is)

pub next-shown-seen : (start : ℕ) (xs : List Entry) (i : ℕ) (raw : RawEntry) (x : Entry) (bytes : List ℕ) (e : ℕ) (who : Reader) (pairs : List Pair) → IsNext start xs i raw x bytes →
    raw_visible raw.created raw.ended e who ≡ true → pairs ++ shown (drop i xs) e who ≡ (pairs ++ pair_of x ∷ []) ++ shown (drop (i + 1) xs) e who
next-shown-seen start xs i raw x bytes e who pairs next seen =
    let here : visible x e who ≡ true = next-seen start xs i raw x bytes e who next ∙ seen in
    ap (λ (ys : List Entry). pairs ++ shown ys e who) next.left
    ∙ ap (λ (b : Bool). pairs ++ (if b then pair_of x ∷ shown (drop (i + 1) xs) e who else shown (drop (i + 1) xs) e who)) here
    ∙ sym (append_assoc pairs (pair_of x ∷ []) (shown (drop (i + 1) xs) e who))

pub next-shown-unseen : (start : ℕ) (xs : List Entry) (i : ℕ) (raw : RawEntry) (x : Entry) (bytes : List ℕ) (e : ℕ) (who : Reader) (pairs : List Pair) → IsNext start xs i raw x bytes →
    raw_visible raw.created raw.ended e who ≡ false → pairs ++ shown (drop i xs) e who ≡ pairs ++ shown (drop (i + 1) xs) e who
next-shown-unseen start xs i raw x bytes e who pairs next unseen =
    let here : visible x e who ≡ false = next-seen start xs i raw x bytes e who next ∙ unseen in
    ap (λ (ys : List Entry). pairs ++ shown ys e who) next.left
    ∙ ap (λ (b : Bool). pairs ++ (if b then pair_of x ∷ shown (drop (i + 1) xs) e who else shown (drop (i + 1) xs) e who)) here

-- the smaller of two numbers is one of them
pub looked_all : (i n : ℕ) → i ≡ min n part_most → (i ≡ n) ⊎ (i ≡ part_most)
looked_all i n is =
    ⊎_elim
    (λ (few : n < part_most). inl (omega arith))
    (λ (many : part_most ≤ n). inr (omega arith))
    (cases_lt n part_most)

-- the entry at an index, as the bytes hold it, where its numbers were read
pub next_at : (start : ℕ) (xs : List Entry) (k : ℕ) (bytes : List ℕ) → HoldsEntries start xs bytes → k < length xs →
    (x : Entry) × ((entry_at xs (length xs - k - 1) ≡ Some x) × ((raw : RawEntry) → raw ≡ raw_entry x → IsNext start xs k raw x bytes))
next_at start xs k bytes held within =
    let row = row_of xs k within in
    let P : List Entry → Type 0 = λ ys. HoldsEntries start ys bytes in
    let next = held-next start row.0 (drop (k + 1) xs) bytes (subst P row.1.0 (held-drop start k xs bytes held)) in
    let n : length (drop (k + 1) xs) ≡ length xs - k - 1 = (let d = length-drop (k + 1) xs in omega arith) in (
      row.0,
      (
        ap (entry_at xs) (sym n) ∙ entry_at-drop k xs row.0 (drop (k + 1) xs) row.1.0,
        λ raw is. record { left = row.1.0; is = is; held = next },
      ),
    )
