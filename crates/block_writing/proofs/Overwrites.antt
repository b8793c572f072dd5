-- A write to a part of a slice, as a write from a place on.
use Rattle.std.proofs.Common.{◌≡◌, ℕ, ◌+◌, ◌-◌, List, ◌++◌, length, take, drop, sym, ap, ◌∙◌, arith, append-nil, drop-drop, length-drop, length-take}
use Rattle.std.proofs.lemmas.List.{take_all, drop_all}
use Rattle.byteorder.specs.Endian.{big_bytes}
use Rattle.tel_entry.specs.Layouts.{u64_bytes}
use Rattle.tel_entry.proofs.Numbers.{length-u64}
use Rattle.block_layout.specs.Writes.{overwritten}
use borrow.Rule.Slice.PartMut.{put_mid}

pub put_mid-overwritten : (a k : ℕ) (bytes new : List ℕ) → length new ≡ k → put_mid a k bytes new ≡ overwritten a new bytes
put_mid-overwritten a k bytes new long =
    ap (λ (ys : List ℕ). take a bytes ++ (new ++ ys)) (drop-drop k a bytes ∙ ap (λ (n : ℕ). drop (a + n) bytes) (sym long))

-- a part up to the end is the rest
pub to_end : (a : ℕ) (bytes : List ℕ) → take (length bytes - a) (drop a bytes) ≡ drop a bytes
to_end a bytes = take_all (length bytes - a) (drop a bytes) (let h = length-drop a bytes in omega (arith, h))

-- what is written to the whole of a part stands there
pub part-overwritten : (a k n : ℕ) (bytes new part : List ℕ) → k ≡ n → length new ≡ n → part ≡ new ++ drop n (take k (drop a bytes)) →
    put_mid a k bytes part ≡ overwritten a new bytes
part-overwritten a k n bytes new part same long is =
    let few = length-take k (drop a bytes) in
    let whole : part ≡ new = is ∙ ap (λ (ys : List ℕ). new ++ ys) (drop_all n (take k (drop a bytes)) (omega (arith, few))) ∙ append-nil new in
    ap (λ (ys : List ℕ). put_mid a k bytes ys) whole ∙ put_mid-overwritten a k bytes new (long ∙ sym same)

-- a number of eight bytes
pub u64-overwritten : (a k x : ℕ) (bytes part : List ℕ) → k ≡ 8 → part ≡ big_bytes 8 x ++ drop 8 (take k (drop a bytes)) →
    put_mid a k bytes part ≡ overwritten a (u64_bytes x) bytes
unfolding u64_bytes
u64-overwritten a k x bytes part same is = part-overwritten a k 8 bytes (u64_bytes x) part same (length-u64 x) is
