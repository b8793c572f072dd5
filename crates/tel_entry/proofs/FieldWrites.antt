-- Fields written one after another, from the front on.
use Rattle.std.proofs.Common.{◌≡◌, ℕ, ◌+◌, ◌-◌, ◌<◌, ◌≤◌, List, [], ◌∷◌, ◌++◌, length, take, drop, get_or, sym, ap, ◌∙◌, arith, append_assoc, length-append, drop-drop, length-drop, append-nil, add-one, drop-cons}
use Rattle.std.proofs.Math.ListN.{set}
use Rattle.std.proofs.Math.Seq.{take-append_seam, drop-append_seam, set-append_seam}
use Rattle.std.proofs.lemmas.List.{take_all, nil_from_length}
use Rattle.byteorder.specs.Endian.{big_bytes}
use Rattle.tel_entry.specs.Layouts.{u16_bytes, u32_bytes, u64_bytes}
use Rattle.tel_entry.proofs.Numbers.{length-u16, length-u32, length-u64}
use borrow.Rule.Slice.PartMut.{put_mid, post_of}

-- The first n bytes are these; the others are as they were.
pub record IsWritten (n : ℕ) (front old now : List ℕ) : Type 0 where
  pub is : now ≡ front ++ drop n old
  pub long : length front ≡ n
  pub within : n ≤ length old

length-written : (n : ℕ) (front old now : List ℕ) → IsWritten n front old now → length now ≡ length old
length-written n front old now w =
    ap length w.is ∙ length-append front (drop n old) ∙ (let h = length-drop n old in let l = w.long in let b = w.within in omega (arith, h, l, b))

take-written : (n : ℕ) (front old now : List ℕ) → IsWritten n front old now → take n now ≡ front
take-written n front old now w =
    ap (λ (k : ℕ). take k now) (sym w.long) ∙ ap (take (length front)) w.is ∙ take-append_seam front (drop n old)

drop-written : (n : ℕ) (front old now : List ℕ) → IsWritten n front old now → drop n now ≡ drop n old
drop-written n front old now w =
    ap (λ (k : ℕ). drop k now) (sym w.long) ∙ ap (drop (length front)) w.is ∙ drop-append_seam front (drop n old)

none_behind : (n : ℕ) (xs : List ℕ) → post_of n (length xs - n) xs ≡ []
none_behind n xs = nil_from_length (drop (length xs - n) (drop n xs)) (let a = length-drop (length xs - n) (drop n xs) in let b = length-drop n xs in omega (arith, a, b))

-- a field more, written to the rest of the bytes
write_more : {n : ℕ} {front old now : List ℕ} (m : ℕ) (field part : List ℕ) → IsWritten n front old now → length field ≡ m → n + m ≤ length old →
    part ≡ field ++ drop m (take (length now - n) (drop n now)) →
    IsWritten (n + m) (front ++ field) old (put_mid n (length now - n) now part)
write_more {n} {front} {old} {now} m field part w long within is =
    let len = length-written n front old now w in
    let whole : take (length now - n) (drop n now) ≡ drop n now = take_all (length now - n) (drop n now) (let h = length-drop n now in omega (arith, h)) in
    let tail : part ≡ field ++ drop (n + m) old =
    is ∙ ap (λ (ys : List ℕ). field ++ drop m ys) (whole ∙ drop-written n front old now w) ∙ ap (λ (ys : List ℕ). field ++ ys) (drop-drop m n old) in
    let rest : post_of n (length now - n) now ≡ [] = none_behind n now in
    record {
      is = ap (λ (ys : List ℕ). take n now ++ (part ++ ys)) rest ∙ ap (λ (ys : List ℕ). take n now ++ ys) (append-nil part)
          ∙ ap (λ (ys : List ℕ). ys ++ part) (take-written n front old now w)
          ∙ ap (λ (ys : List ℕ). front ++ ys) tail ∙ sym (append_assoc front field (drop (n + m) old));
      long = length-append front field ∙ (let a = w.long in omega (arith, a, long));
      within = within;
    }

-- a byte more
pub write_byte : {n : ℕ} {front old now : List ℕ} (x : ℕ) → IsWritten n front old now → n + 1 ≤ length old →
    IsWritten (n + 1) (front ++ x ∷ []) old (set now n x)
write_byte {n} {front} {old} {now} x w within =
    let here : n < length old = omega arith in
    let cell : drop n old ≡ get_or old n 0 ∷ drop (n + 1) old = rw (add-one, drop-cons old n 0) in
    record {
      is = ap (λ (k : ℕ). set now k x) (sym w.long) ∙ ap (λ (ys : List ℕ). set ys (length front) x) (w.is ∙ ap (λ (ys : List ℕ). front ++ ys) cell)
          ∙ set-append_seam front (get_or old n 0) (drop (n + 1) old) x ∙ sym (append_assoc front (x ∷ []) (drop (n + 1) old));
      long = length-append front (x ∷ []) ∙ (let a = w.long in omega (arith, a));
      within = within;
    }

-- the first field has eight bytes
pub write_first : (x : ℕ) (old : List ℕ) {now : List ℕ} → 8 ≤ length old → now ≡ big_bytes 8 x ++ drop 8 old → IsWritten 8 (u64_bytes x) old now
unfolding u64_bytes
write_first x old within is = record { is = is; long = length-u64 x; within = within }

-- a number more, of eight, four or two bytes
pub write_u64_more : {n : ℕ} {front old now : List ℕ} (x : ℕ) (part : List ℕ) → IsWritten n front old now → n + 8 ≤ length old →
    part ≡ big_bytes 8 x ++ drop 8 (take (length now - n) (drop n now)) →
    IsWritten (n + 8) (front ++ u64_bytes x) old (put_mid n (length now - n) now part)
unfolding u64_bytes
write_u64_more x part w within is = write_more 8 (u64_bytes x) part w (length-u64 x) within is

pub write_u32_more : {n : ℕ} {front old now : List ℕ} (x : ℕ) (part : List ℕ) → IsWritten n front old now → n + 4 ≤ length old →
    part ≡ big_bytes 4 x ++ drop 4 (take (length now - n) (drop n now)) →
    IsWritten (n + 4) (front ++ u32_bytes x) old (put_mid n (length now - n) now part)
unfolding u32_bytes
write_u32_more x part w within is = write_more 4 (u32_bytes x) part w (length-u32 x) within is

pub write_u16_more : {n : ℕ} {front old now : List ℕ} (x : ℕ) (part : List ℕ) → IsWritten n front old now → n + 2 ≤ length old →
    part ≡ big_bytes 2 x ++ drop 2 (take (length now - n) (drop n now)) →
    IsWritten (n + 2) (front ++ u16_bytes x) old (put_mid n (length now - n) now part)
unfolding u16_bytes
write_u16_more x part w within is = write_more 2 (u16_bytes x) part w (length-u16 x) within is
