-- A header in front of a filter without bits.
use Rattle.std.proofs.Common.{◌≡◌, ℕ, ◌+◌, ◌-◌, ◌≤◌, List, [], ◌++◌, length, take, drop, refl, sym, ap, ◌∙◌, subst, arith, length-append, length-drop}
use Rattle.std.proofs.lemmas.List.{take_at, drop_at}
use Rattle.tel_entry.specs.declared.header.Header.{Header}
use Rattle.tel_entry.specs.Layouts.{header_bytes, HeaderFits}
use Rattle.tel_entry.proofs.Fronts.{length-header_bytes}
use Rattle.edge_bloom.specs.Filters.{HasBitsOf}
use Rattle.block_layout.specs.Sizes.{block_len, filter_len, flags_of, props_start}
use Rattle.block_layout.specs.Blocks.{IsBlock}
use Rattle.block_layout.specs.Writes.{overwritten}
use Rattle.block_layout.proofs.Windows.{length-overwritten, drop-written}
use Rattle.block_layout.proofs.Blocked.{start_small, block-none}
use Rattle.block_writing.specs.Filters.{filter_in}
use borrow.Rule.Slice.PartMut.{put_mid}
use Rattle.block_writing.proofs.Overwrites.{put_mid-overwritten}

-- the bytes with a filter, and then with a header
abbrev begun_bytes : Header → List ℕ → List ℕ → List ℕ
begun_bytes h filter block = header_bytes h ++ drop 36 (overwritten 36 filter block)

filter-begun : (order : ℕ) (h : Header) (block filter : List ℕ) → length block ≡ block_len order → length filter ≡ filter_len order →
    filter_in order (begun_bytes h filter block) ≡ filter
filter-begun order h block filter long len =
    let small = start_small order in
    ap (take (filter_len order)) (drop_at (header_bytes h) (drop 36 (overwritten 36 filter block)) 36 (length-header_bytes h) ∙ drop-written 36 filter block (omega (arith, long, len)))
    ∙ take_at filter (drop (36 + length filter) block) (filter_len order) len

length-begun : (order : ℕ) (h : Header) (block filter : List ℕ) → length block ≡ block_len order → length filter ≡ filter_len order →
    length (begun_bytes h filter block) ≡ block_len order
length-begun order h block filter long len =
    let small = start_small order in
    let a = length-append (header_bytes h) (drop 36 (overwritten 36 filter block)) in
    let b = length-header_bytes h in
    let c = length-drop 36 (overwritten 36 filter block) in
    let d : length (overwritten 36 filter block) ≡ length block = length-overwritten 36 filter block (omega (arith, long, len)) in
    omega (arith, a, b, c, d, long, small)

-- what the calls that begin a block have written
pub record Begins (order : ℕ) (h : Header) (block filter new : List ℕ) : Type 0 where
  pub small : order ≤ 25
  pub long : length block ≡ block_len order
  pub ordered : h.order ≡ order
  pub flagged : h.flags ≡ flags_of order
  pub none : HasBitsOf filter []
  pub len : length filter ≡ filter_len order
  pub is : new ≡ header_bytes h ++ drop 36 (put_mid 36 (props_start order - 36) block filter)

begins-is : (order : ℕ) (h : Header) (block filter new : List ℕ) → Begins order h block filter new → new ≡ begun_bytes h filter block
begins-is order h block filter new b =
    b.is ∙ ap (λ (ys : List ℕ). header_bytes h ++ drop 36 ys)
    (put_mid-overwritten 36 (props_start order - 36) block filter (let l = b.len in omega (arith, l)))

pub begins-filter : (order : ℕ) (h : Header) (block filter new : List ℕ) → Begins order h block filter new → filter_in order new ≡ filter
begins-filter order h block filter new b = ap (filter_in order) (begins-is order h block filter new b) ∙ filter-begun order h block filter b.long b.len

pub begins-none : (order : ℕ) (h : Header) (block filter new : List ℕ) → Begins order h block filter new → HasBitsOf (filter_in order new) []
begins-none order h block filter new b =
    let P : List ℕ → Type 0 = λ ys. HasBitsOf ys [] in subst P (sym (begins-filter order h block filter new b)) b.none

pub begins-block : (order : ℕ) (h : Header) (block filter new : List ℕ) → Begins order h block filter new → HeaderFits h → IsBlock order h (filter_in order new) [] new
begins-block order h block filter new b fits =
    let is = begins-is order h block filter new b in
    block-none order h (filter_in order new) new b.small (ap length is ∙ length-begun order h block filter b.long b.len) fits b.ordered b.flagged
    (ap (take 36) is ∙ take_at (header_bytes h) (drop 36 (overwritten 36 filter block)) 36 (length-header_bytes h))
    refl (begins-none order h block filter new b)
