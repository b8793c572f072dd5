-- What a look at one row makes of a part.
use Rattle.std.proofs.Common.{◌≡◌, ℕ, ◌+◌, ◌-◌, ◌<◌, ◌≤◌, Bool, true, false, List, [], ◌∷◌, ◌++◌, length, take, drop, get_or, refl, sym, ap, ◌∙◌, arith, append_assoc}
use Rattle.std.specs.Prelude.{if◌then◌else◌}
use Rattle.std.proofs.lemmas.List.{at_drop_more, length-take-le, length_push}
use Rattle.graph_model.specs.declared.pairs.Pair.{Pair}
use Rattle.stamps.specs.Stamps.{Reader}
use Rattle.edge_log.specs.Parts.{PartContent, pairs_with, with_next}
use Rattle.tel_entry.specs.declared.entry.Entry.{Entry as RawEntry}
use Rattle.tel_entry.specs.RawStamps.{raw_visible}
use Rattle.block_layout.specs.Reads.{raw_in}
use Rattle.block_reading.specs.RowLists.{lens_of, with_shown, shown_in}

shown-after : (b : Bool) (d : ℕ) (p : List ℕ) (pairs rest : List Pair) →
    pairs ++ (if b then record { d = d; p = p } ∷ rest else rest) ≡ pairs_with b d p pairs ++ rest
shown-after true d p pairs rest = sym (append_assoc pairs (record { d = d; p = p } ∷ []) rest)
shown-after false d p pairs rest = refl

length-pairs_with : (b : Bool) (d : ℕ) (p : List ℕ) (pairs : List Pair) → length (pairs_with b d p pairs) ≤ length pairs + 1
length-pairs_with true d p pairs = omega (arith, length_push {X = Pair} pairs (record { d = d; p = p }))
length-pairs_with false d p pairs = omega arith

-- A look at the next row: the part before and after, with the numbers of the row.
pub record TakesRow (rows : List (List ℕ)) (i e : ℕ) (who : Reader) (raw : RawEntry) (old new : PartContent) : Type 0 where
  pub within : i < length rows
  pub is : raw ≡ raw_in (get_or rows i [])
  pub fits : lens_of (drop i rows) ≤ length old.range
  pub next : new ≡ with_next raw.d raw.len (raw_visible raw.created raw.ended e who) old

pub row_lens : (rows : List (List ℕ)) (i : ℕ) (raw : RawEntry) → i < length rows → raw ≡ raw_in (get_or rows i []) →
    lens_of (drop i rows) ≡ raw.len + lens_of (drop (i + 1) rows)
row_lens rows i raw within is = at_drop_more lens_of rows i [] within ∙ ap (λ (r : RawEntry). r.len + lens_of (drop (i + 1) rows)) (sym is)

pub taken-pairs : (rows : List (List ℕ)) (i e : ℕ) (who : Reader) (raw : RawEntry) (old new : PartContent) → TakesRow rows i e who raw old new →
    new.pairs ++ shown_in (drop (i + 1) rows) new.range e who ≡ old.pairs ++ shown_in (drop i rows) old.range e who
taken-pairs rows i e who raw old new takes =
    let rest : List (List ℕ) = drop (i + 1) rows in
    let cut : ℕ = length old.range - raw.len in
    let seen : Bool = raw_visible raw.created raw.ended e who in
    ap (λ (p : PartContent). p.pairs ++ shown_in rest p.range e who) takes.next
    ∙ sym (shown-after seen raw.d (drop cut old.range) old.pairs (shown_in rest (take cut old.range) e who))
    ∙ ap (λ (r : RawEntry). old.pairs ++ with_shown r (drop (length old.range - r.len) old.range) e who (shown_in rest (take (length old.range - r.len) old.range) e who)) takes.is
    ∙ ap (λ (ps : List Pair). old.pairs ++ ps) (sym (at_drop_more (λ (rs : List (List ℕ)). shown_in rs old.range e who) rows i [] takes.within))

pub taken-few : (rows : List (List ℕ)) (i e : ℕ) (who : Reader) (raw : RawEntry) (old new : PartContent) → TakesRow rows i e who raw old new →
    length new.pairs ≤ length old.pairs + 1
taken-few rows i e who raw old new takes =
    let same : length new.pairs ≡ length (with_next raw.d raw.len (raw_visible raw.created raw.ended e who) old).pairs = ap (λ (p : PartContent). length p.pairs) takes.next in
    let few = length-pairs_with (raw_visible raw.created raw.ended e who) raw.d (drop (length old.range - raw.len) old.range) old.pairs in
    omega (arith, same, few)

pub taken-within : (rows : List (List ℕ)) (i e : ℕ) (who : Reader) (raw : RawEntry) (old new : PartContent) → TakesRow rows i e who raw old new →
    lens_of (drop (i + 1) rows) ≤ length new.range
taken-within rows i e who raw old new takes =
    let fits = takes.fits in
    let lens = row_lens rows i raw takes.within takes.is in
    let long : length new.range ≡ length old.range - raw.len =
    ap (λ (p : PartContent). length p.range) takes.next ∙ length-take-le (length old.range - raw.len) old.range (omega arith) in
    omega (arith, lens, long)
