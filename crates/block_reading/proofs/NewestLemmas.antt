-- The newest visible entry of a destination, found row by row.
use Rattle.std.proofs.Common.{◌≡◌, ℕ, zero, suc, ◌+◌, ◌<◌, true, false, List, [], ◌∷◌, ◌++◌, length, drop, get_or, sym, ap, ◌∙◌, arith, append-nil, Some}
use Rattle.std.specs.Prelude.{◌&&◌, not}
use Rattle.std.proofs.lemmas.Bool.Decides.{nat_tests}
use Rattle.stamps.specs.Stamps.{Reader, counts}
use Rattle.edge_log.specs.Entries.{Entry, visible}
use Rattle.edge_log.specs.Places.{newest_place}
use Rattle.tel_entry.specs.declared.entry.Entry.{Entry as RawEntry}
use Rattle.tel_entry.specs.Layouts.{entry_bytes, EntryFits}
use Rattle.tel_entry.specs.RawStamps.{stamp_of, raw_of, raw_visible}
use Rattle.block_layout.specs.Rows.{raw_entry, HasRow, HaveRows}
use Rattle.block_layout.proofs.Raw.{raw_entry-fits, stamp_of-raw_of}
use Rattle.block_reading.specs.RowLists.{row_list}

-- The row at an index is that of the entry there.
pub record IsRow (xs : List Entry) (i : ℕ) (raw : RawEntry) (x : Entry) : Type 0 where
  pub has : HasRow x
  pub is : raw ≡ raw_entry x
  pub left : drop i xs ≡ x ∷ drop (i + 1) xs

-- what is read of a row is what an entry has
abbrev pub ReadsRow : List ℕ → RawEntry → Type 0
ReadsRow bytes raw = (e : RawEntry) (rest : List ℕ) → EntryFits e → bytes ≡ entry_bytes e ++ rest → raw ≡ e

-- the row that is read at an index
pub row_read : (xs : List Entry) (i : ℕ) (d : List ℕ) (raw : RawEntry) → HaveRows xs → i < length xs → ReadsRow (get_or (row_list xs) i d) raw →
    (x : Entry) × IsRow xs i raw x
row_read [] i d raw has within reads = absurd (omega arith)
row_read (x ∷ xs) zero d raw has within reads =
    let one : 0 + 1 ≡ suc 0 = omega arith in (
      x,
      record {
        has = has.0;
        is = reads (raw_entry x) [] (raw_entry-fits x has.0) (sym (append-nil (entry_bytes (raw_entry x))));
        left = ap (λ (n : ℕ). x ∷ drop n (x ∷ xs)) (sym one);
      },
    )
row_read (x ∷ xs) (suc i) d raw has within reads =
    let rest = row_read xs i d raw has.1 (omega arith) reads in
    let one : suc i + 1 ≡ suc (i + 1) = omega arith in (
      rest.0,
      record {
        has = rest.1.has;
        is = rest.1.is;
        left = rest.1.left ∙ ap (λ (n : ℕ). rest.0 ∷ drop n (x ∷ xs)) (sym one);
      },
    )

-- visible by its numbers is visible
pub visible-raw : (x : Entry) (raw : RawEntry) (e : ℕ) (who : Reader) → HasRow x → raw ≡ raw_entry x → raw_visible raw.created raw.ended e who ≡ visible x e who
visible-raw x raw e who has is =
    ap (λ (r : RawEntry). raw_visible r.created r.ended e who) is
    ∙ ap (λ s. counts s e who && not (counts (stamp_of (raw_of x.ended)) e who)) (stamp_of-raw_of x.created has.created)
    ∙ ap (λ s. counts x.created e who && not (counts s e who)) (stamp_of-raw_of x.ended has.ended)

pub found : (xs : List Entry) (i d e : ℕ) (who : Reader) (raw : RawEntry) (x : Entry) → IsRow xs i raw x → raw.d ≡ d → raw_visible raw.created raw.ended e who ≡ true →
    newest_place (drop i xs) d e who ≡ Some (length (drop (i + 1) xs))
found xs i d e who raw x row same seen =
    let shown : visible x e who ≡ true = sym (visible-raw x raw e who row.has row.is) ∙ seen in
    let to : x.d ≡ d = ap (λ (r : RawEntry). r.d) (sym row.is) ∙ same in
    ap (λ (ys : List Entry). newest_place ys d e who) row.left ∙ here x (drop (i + 1) xs) shown to
  where
    here : (x : Entry) (rest : List Entry) → visible x e who ≡ true → x.d ≡ d → newest_place (x ∷ rest) d e who ≡ Some (length rest)
    here x rest shown to = grind (arith, nat_tests, shown, to)

pub passed_other : (xs : List Entry) (i d e : ℕ) (who : Reader) (raw : RawEntry) (x : Entry) → IsRow xs i raw x → (raw.d ≡ d → ⊥) →
    newest_place (drop (i + 1) xs) d e who ≡ newest_place (drop i xs) d e who
passed_other xs i d e who raw x row other =
    let to : x.d ≡ d → ⊥ = λ s. other (ap (λ (r : RawEntry). r.d) row.is ∙ s) in
    sym (ap (λ (ys : List Entry). newest_place ys d e who) row.left ∙ past x (drop (i + 1) xs) to)
  where
    past : (x : Entry) (rest : List Entry) → (x.d ≡ d → ⊥) → newest_place (x ∷ rest) d e who ≡ newest_place rest d e who
    past x rest to = grind (arith, nat_tests, to)

pub passed_unseen : (xs : List Entry) (i d e : ℕ) (who : Reader) (raw : RawEntry) (x : Entry) → IsRow xs i raw x → raw_visible raw.created raw.ended e who ≡ false →
    newest_place (drop (i + 1) xs) d e who ≡ newest_place (drop i xs) d e who
passed_unseen xs i d e who raw x row unseen =
    let hidden : visible x e who ≡ false = sym (visible-raw x raw e who row.has row.is) ∙ unseen in
    sym (ap (λ (ys : List Entry). newest_place ys d e who) row.left ∙ past x (drop (i + 1) xs) hidden)
  where
    past : (x : Entry) (rest : List Entry) → visible x e who ≡ false → newest_place (x ∷ rest) d e who ≡ newest_place rest d e who
    past x rest hidden = grind (arith, nat_tests, hidden)
