-- The edges that are read from rows and a range of payloads.
use Rattle.std.proofs.Common.{◌≡◌, ℕ, zero, suc, ◌+◌, ◌-◌, Bool, true, false, List, [], ◌∷◌, ◌++◌, length, take, drop, refl, sym, ap, ◌∙◌, arith, append-nil, length-append}
use Rattle.std.specs.Prelude.{if◌then◌else◌}
use Rattle.std.proofs.lemmas.List.{take_at, drop_at}
use Rattle.graph_model.specs.declared.pairs.Pair.{Pair}
use Rattle.stamps.specs.Stamps.{Reader}
use Rattle.edge_log.specs.Entries.{Entry, visible, shown, pair_of, payload_sum}
use Rattle.tel_entry.specs.declared.entry.Entry.{Entry as RawEntry}
use Rattle.tel_entry.specs.Layouts.{entry_bytes}
use Rattle.block_layout.specs.Rows.{raw_entry, HasRow, HaveRows, payloads_of}
use Rattle.block_layout.specs.Reads.{raw_in}
use Rattle.block_layout.proofs.Raw.{raw_entry-fits, raw_in-front}
use Rattle.block_reading.specs.RowLists.{row_list, lens_of, with_shown, shown_in}
use Rattle.block_reading.proofs.NewestLemmas.{visible-raw}

-- the numbers of an entry's own row
pub raw_in-row : (x : Entry) → HasRow x → raw_in (entry_bytes (raw_entry x)) ≡ raw_entry x
raw_in-row x has = raw_in-front (raw_entry x) (entry_bytes (raw_entry x)) [] (raw_entry-fits x has) (sym (append-nil (entry_bytes (raw_entry x))))

pub lens-row_list : (xs : List Entry) → HaveRows xs → lens_of (row_list xs) ≡ payload_sum xs
lens-row_list [] have = refl
lens-row_list (x ∷ xs) have =
    ap (λ (r : RawEntry). r.len + lens_of (row_list xs)) (raw_in-row x have.0) ∙ ap (λ (n : ℕ). length x.p + n) (lens-row_list xs have.1)

pub row_list-take : (k : ℕ) (xs : List Entry) → take k (row_list xs) ≡ row_list (take k xs)
row_list-take zero xs = refl
row_list-take (suc k) [] = refl
row_list-take (suc k) (x ∷ xs) = ap (λ (rs : List (List ℕ)). entry_bytes (raw_entry x) ∷ rs) (row_list-take k xs)

-- the edges of the newest entries, and those of the others
pub shown-split : (k : ℕ) (xs : List Entry) (e : ℕ) (who : Reader) → shown xs e who ≡ shown (take k xs) e who ++ shown (drop k xs) e who
shown-split zero xs e who = refl
shown-split (suc k) [] e who = refl
shown-split (suc k) (x ∷ xs) e who = by_test (visible x e who) (shown-split k xs e who)
  where
    by_test : (b : Bool) → shown xs e who ≡ shown (take k xs) e who ++ shown (drop k xs) e who →
        (if b then pair_of x ∷ shown xs e who else shown xs e who) ≡ (if b then pair_of x ∷ shown (take k xs) e who else shown (take k xs) e who) ++ shown (drop k xs) e who
    by_test true rest = ap (λ (ps : List Pair). pair_of x ∷ ps) rest
    by_test false rest = rest

-- what rows show with their payloads as the range is what their entries show
pub shown_in-row_list : (xs : List Entry) (e : ℕ) (who : Reader) → HaveRows xs → shown_in (row_list xs) (payloads_of xs) e who ≡ shown xs e who
shown_in-row_list [] e who have = refl
shown_in-row_list (x ∷ xs) e who have =
    let range : List ℕ = payloads_of xs ++ x.p in
    let cut : length range - length x.p ≡ length (payloads_of xs) = omega (arith, length-append (payloads_of xs) x.p) in
    ap (λ (r : RawEntry). with_shown r (drop (length range - r.len) range) e who (shown_in (row_list xs) (take (length range - r.len) range) e who)) (raw_in-row x have.0)
    ∙ ap (λ (n : ℕ). with_shown (raw_entry x) (drop n range) e who (shown_in (row_list xs) (take n range) e who)) cut
    ∙ ap (λ (ys : List ℕ). with_shown (raw_entry x) ys e who (shown_in (row_list xs) (take (length (payloads_of xs)) range) e who)) (drop_at (payloads_of xs) x.p (length (payloads_of xs)) refl)
    ∙ ap (λ (ys : List ℕ). with_shown (raw_entry x) x.p e who (shown_in (row_list xs) ys e who)) (take_at (payloads_of xs) x.p (length (payloads_of xs)) refl)
    ∙ ap (with_shown (raw_entry x) x.p e who) (shown_in-row_list xs e who have.1)
    ∙ ap (λ (b : Bool). if b then pair_of x ∷ shown xs e who else shown xs e who) (visible-raw x (raw_entry x) e who have.0 refl)
