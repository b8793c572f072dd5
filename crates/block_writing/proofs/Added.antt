-- A destination more in the filter of a block, and an entry more.
use Rattle.std.proofs.Common.{◌≡◌, ℕ, ◌+◌, ◌-◌, ◌*◌, ◌^◌, ◌≤◌, Bool, true, IsTrue, List, [], ◌∷◌, length, take, drop, sym, ap, ◌∙◌, subst, arith, length-drop}
use Rattle.std.specs.Prelude.{if◌then◌else◌, nat_le}
use Rattle.std.proofs.Math.Pow.{pow_mono}
use Rattle.std.proofs.lemmas.Nat.{pow-add}
use Rattle.std.proofs.lemmas.Bool.Decides.{nat_tests}
use Rattle.std.proofs.lemmas.List.{length-take-le}
use Rattle.stamps.specs.declared.stamp.Stamp.TheVariants.{Never}
use Rattle.edge_log.specs.Entries.{Entry, payload_sum}
use Rattle.tel_entry.specs.declared.header.Header.{Header}
use Rattle.tel_entry.specs.declared.entry.Entry.{Entry as RawEntry}
use Rattle.tel_entry.specs.Layouts.{entry_bytes}
use Rattle.tel_entry.proofs.Fronts.{length-entry_bytes}
use Rattle.edge_bloom.specs.Filters.{IsFilter, HasBitsOf}
use Rattle.block_layout.specs.Sizes.{has_filter, filter_len, props_start}
use Rattle.block_layout.specs.Rows.{raw_entry, HasRow}
use Rattle.block_layout.specs.Blocks.{KnowsAll, IsBlock}
use Rattle.block_layout.specs.Reads.{row_start}
use Rattle.block_layout.specs.Writes.{overwritten}
use Rattle.block_layout.proofs.Windows.{length-overwritten, window-before, window-written}
use Rattle.block_layout.proofs.Blocked.{block-filter, block-appended, knows-added}
use borrow.Rule.Slice.PartMut.{put_mid}
use Rattle.block_writing.specs.Filters.{filter_in}
use Rattle.block_writing.proofs.Overwrites.{put_mid-overwritten}

-- the filter of a block is as long as its order says
pub length-filter_in : (order : ℕ) (block : List ℕ) → props_start order ≤ length block → length (filter_in order block) ≡ filter_len order
length-filter_in order block room = (let d = length-drop 36 block in length-take-le (filter_len order) (drop 36 block) (omega arith))

-- bytes of that length are a filter
pub filter-whole : (order : ℕ) (filter : List ℕ) → order ≤ 25 → IsTrue (has_filter order) → length filter ≡ filter_len order → IsFilter filter
filter-whole order filter small has long =
    let len : length filter ≡ 4 * 2 ^ order = long ∙ ap (λ (t : Bool). if t then 4 * 2 ^ order else 0) has in
    let three : 3 ≤ order = (let t : nat_le 3 order ≡ true = has in grind (arith, nat_tests)) in
    let low : 2 ^ 3 ≤ 2 ^ order = pow_mono three in
    let high : 2 ^ order ≤ 2 ^ 25 = pow_mono small in
    record {
      power = (2 + order, len ∙ sym (pow-add 2 2 order));
      least = omega arith;
      most = omega arith;
    }

-- the part of a block that is its filter, and what is written to it
pub filter-part : (order start : ℕ) (block : List ℕ) → start ≡ props_start order → take (start - 36) (drop 36 block) ≡ filter_in order block
filter-part order start block is =
    let n : start - 36 ≡ filter_len order = omega (arith, is) in
    ap (λ (k : ℕ). take k (drop 36 block)) n

pub part-written : (order start : ℕ) (new block : List ℕ) → start ≡ props_start order → length new ≡ filter_len order →
    put_mid 36 (start - 36) block new ≡ overwritten 36 new block
part-written order start new block is long = put_mid-overwritten 36 (start - 36) block new (omega (arith, is, long))

-- what is written to the filter stands there
pub filter_in-written : (order : ℕ) (new block : List ℕ) → props_start order ≤ length block → length new ≡ filter_len order →
    filter_in order (overwritten 36 new block) ≡ new
filter_in-written order new block room long = window-written 36 (filter_len order) new block long (omega (arith, long))

-- a write behind the filter leaves it
pub filter_in-behind : (order from : ℕ) (new block : List ℕ) → props_start order ≤ from → from + length new ≤ length block →
    filter_in order (overwritten from new block) ≡ filter_in order block
filter_in-behind order from new block behind within = window-before 36 (filter_len order) from new block behind within

-- the filter knows one destination more
pub block-added : (order : ℕ) (h : Header) (f new : List ℕ) (xs : List Entry) (block : List ℕ) (d : ℕ) → IsBlock order h f xs block →
    length new ≡ filter_len order → ((ds : List ℕ) → HasBitsOf f ds → HasBitsOf new (d ∷ ds)) → IsBlock order h new xs (overwritten 36 new block)
block-added order h f new xs block d b long added =
    let x : Entry = record { d = d; p = []; created = Never; ended = Never } in
    let known : KnowsAll order new xs = λ has. (let k = knows-added order f new x xs added b.known has in (k.0, (k.1.0, k.1.1.1))) in
    block-filter order h f new xs block b long known

-- What an appended entry writes: its payload, and then its row.
abbrev pub with_written : ℕ → ℕ → RawEntry → List ℕ → List ℕ → List ℕ
with_written at place e p block = overwritten (row_start place (overwritten at p block)) (entry_bytes e) (overwritten at p block)

pub filter_in-appended : (order at place : ℕ) (e : RawEntry) (p block : List ℕ) → props_start order ≤ at → at + length p + 28 * (place + 1) ≤ length block →
    filter_in order (with_written at place e p block) ≡ filter_in order block
filter_in-appended order at place e p block behind within =
    let long : length (overwritten at p block) ≡ length block = length-overwritten at p block (omega arith) in
    let len = length-entry_bytes e in
    filter_in-behind order (row_start place (overwritten at p block)) (entry_bytes e) (overwritten at p block) (omega (arith, long)) (omega (arith, long, len))
    ∙ filter_in-behind order at p block behind (omega arith)

pub block-put : (order : ℕ) (h : Header) (f : List ℕ) (xs : List Entry) (x : Entry) (e : RawEntry) (n props : ℕ) (p block : List ℕ) → IsBlock order h f xs block →
    KnowsAll order f (x ∷ xs) → HasRow x → raw_entry x ≡ e → x.p ≡ p → length xs ≡ n → payload_sum xs ≡ props →
    props_start order + (props + length p) + 28 * (n + 1) ≤ length block →
    IsBlock order h f (x ∷ xs) (with_written (props_start order + props) n e p block)
block-put order h f xs x e n props p block b known fits row payload count sum within =
    let at : ℕ = props_start order + payload_sum xs in
    let size : length x.p ≡ length p = ap length payload in
    let long : length (overwritten at x.p block) ≡ length block = length-overwritten at x.p block (omega arith) in
    let is : overwritten (row_start (length xs) block) (entry_bytes (raw_entry x)) (overwritten at x.p block) ≡ with_written (props_start order + props) n e p block =
    ap (λ (k : ℕ). overwritten (k - 28 * (length xs + 1)) (entry_bytes (raw_entry x)) (overwritten at x.p block)) (sym long)
    ∙ ap (λ (k : ℕ). with_written at k (raw_entry x) x.p block) count
    ∙ ap (λ (k : ℕ). with_written (props_start order + k) n (raw_entry x) x.p block) sum
    ∙ ap (λ (r : RawEntry). with_written (props_start order + props) n r x.p block) row
    ∙ ap (λ (q : List ℕ). with_written (props_start order + props) n e q block) payload in
    let P : List ℕ → Type 0 = λ ys. IsBlock order h f (x ∷ xs) ys in
    subst P is (block-appended order h f x xs block b fits known (omega arith))
