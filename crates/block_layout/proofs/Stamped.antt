-- What a write to the row of an entry makes of the entries that the bytes hold.
use Rattle.std.proofs.Common.{◌≡◌, ℕ, ◌+◌, ◌-◌, ◌*◌, ◌<◌, ◌≤◌, List, [], ◌∷◌, ◌++◌, length, take, drop, refl, sym, ap, ◌∙◌, subst, ⊎_elim, arith, append_assoc, length-append, drop-drop, Some}
use Rattle.std.proofs.lemmas.Bool.{cases_eq}
use Rattle.std.proofs.lemmas.Bool.Decides.{nat_tests}
use Rattle.std.proofs.lemmas.List.{take_at, drop_at, take-take, drop-take}
use Rattle.stamps.specs.declared.stamp.Stamp.{Stamp}
use Rattle.edge_log.specs.Entries.{Entry, payload_sum}
use Rattle.edge_log.specs.Places.{entry_at}
use Rattle.tel_entry.specs.Layouts.{u32_bytes, u64_bytes, entry_bytes}
use Rattle.tel_entry.specs.RawStamps.{raw_of, HasRaw}
use Rattle.tel_entry.proofs.Numbers.{length-u32, length-u64}
use Rattle.tel_entry.proofs.Fronts.{length-entry_bytes}
use Rattle.block_layout.specs.Sizes.{bytes_at}
use Rattle.block_layout.specs.Rows.{raw_entry, HasRow}
use Rattle.block_layout.specs.Blocks.{HoldsEntries}
use Rattle.block_layout.specs.Reads.{row_start}
use Rattle.block_layout.specs.Writes.{overwritten, with_entry, created_as, ended_as}
use Rattle.block_layout.proofs.Windows.{length-overwritten, window-before, window-behind, window-written, window-join}
use Rattle.block_layout.proofs.Held.{held-next, held-older, held_more}
use Rattle.block_layout.proofs.AtPlaces.{entry_at-within, at_newest, at_older, row-at, row-fits, row-within}
use Rattle.block_layout.proofs.Written.{held-free}

-- The window of n bytes from a place on is three lists, one after another.
record IsThree (at n i j : ℕ) (front mid back bytes : List ℕ) : Type 0 where
  is : bytes_at at n bytes ≡ front ++ (mid ++ back)
  front_len : length front ≡ i
  mid_len : length mid ≡ j
  len : i + (j + length back) ≡ n
  within : at + n ≤ length bytes

three-front : (at n i j : ℕ) (front mid back bytes : List ℕ) → IsThree at n i j front mid back bytes → bytes_at at i bytes ≡ front
three-front at n i j front mid back bytes three =
    let l = three.len in
    sym (take-take i n (drop at bytes) (omega arith)) ∙ ap (take i) three.is ∙ take_at front (mid ++ back) i three.front_len

three-back : (at n i j : ℕ) (front mid back bytes : List ℕ) → IsThree at n i j front mid back bytes → bytes_at (at + i + j) (length back) bytes ≡ back
three-back at n i j front mid back bytes three =
    let l = three.len in
    let k : ℕ = length back in
    let place : at + i + j ≡ at + (i + j) = omega arith in
    let whole : (i + j) + k ≡ n = omega arith in
    ap (λ (a : ℕ). bytes_at a k bytes) place ∙ ap (take k) (sym (drop-drop (i + j) at bytes))
    ∙ sym (drop-take (i + j) k (drop at bytes)) ∙ ap (λ (m : ℕ). drop (i + j) (take m (drop at bytes))) whole
    ∙ ap (drop (i + j)) (three.is ∙ sym (append_assoc front mid back))
    ∙ drop_at (front ++ mid) back (i + j) (let a = length-append front mid in let b = three.front_len in let c = three.mid_len in omega arith)

-- the middle one is written
three-written : (at n i j : ℕ) (front mid back new bytes : List ℕ) → IsThree at n i j front mid back bytes → length new ≡ j →
    bytes_at at n (overwritten (at + i) new bytes) ≡ front ++ (new ++ back)
three-written at n i j front mid back new bytes three long =
    let l = three.len in
    let w = three.within in
    let k : ℕ = length back in
    let whole : n ≡ i + (j + k) = omega arith in
    let within : (at + i) + length new ≤ length bytes = omega arith in
    let b : List ℕ = overwritten (at + i) new bytes in
    ap (λ (m : ℕ). bytes_at at m b) whole ∙ window-join at i (j + k) b
    ∙ ap (λ (ys : List ℕ). bytes_at at i b ++ ys) (window-join (at + i) j k b)
    ∙ ap (λ (ys : List ℕ). ys ++ (bytes_at (at + i) j b ++ bytes_at (at + i + j) k b))
    (window-before at i (at + i) new bytes (omega arith) within ∙ three-front at n i j front mid back bytes three)
    ∙ ap (λ (ys : List ℕ). front ++ (ys ++ bytes_at (at + i + j) k b)) (window-written (at + i) j new bytes long within)
    ∙ ap (λ (ys : List ℕ). front ++ (new ++ ys))
    (window-behind (at + i + j) k (at + i) new bytes (omega arith) within ∙ three-back at n i j front mid back bytes three)

-- The entries where that at a place is another one with the same payload.
length-with_entry : (n : ℕ) (y : Entry) (xs : List Entry) → length (with_entry n y xs) ≡ length xs
length-with_entry n y [] = refl
length-with_entry n y (x ∷ xs) = grind (arith, nat_tests, length-with_entry n y xs)

-- What is written to the row of the entry x at a place makes it the entry y.
pub record Rewrites (n : ℕ) (x y : Entry) (from : ℕ) (new bytes : List ℕ) : Type 0 where
  pub fits : HasRow y
  pub payload : y.p ≡ x.p
  pub begins : row_start n bytes ≤ from
  pub ends : from + length new ≤ row_start n bytes + 28
  pub row : bytes_at (row_start n bytes) 28 (overwritten from new bytes) ≡ entry_bytes (raw_entry y)

with_newest : (y x : Entry) (xs : List Entry) → with_entry (length xs) y (x ∷ xs) ≡ y ∷ xs
with_newest y x xs = grind (arith, nat_tests)

with_older : (n : ℕ) (y x : Entry) (xs : List Entry) → n < length xs → with_entry n y (x ∷ xs) ≡ x ∷ with_entry n y xs
with_older n y x xs within = grind (arith, nat_tests)

sum-with_entry : (n : ℕ) (x y : Entry) (xs : List Entry) → entry_at xs n ≡ Some x → y.p ≡ x.p → payload_sum (with_entry n y xs) ≡ payload_sum xs
sum-with_entry n x y [] at same = refl
sum-with_entry n x y (z ∷ xs) at same =
    let len : length y.p ≡ length x.p = ap length same in
    grind (arith, nat_tests, sum-with_entry n x y xs)

-- the newest entry is rewritten
rewrite_newest : (start : ℕ) (x y : Entry) (xs : List Entry) (from : ℕ) (new bytes : List ℕ) → HoldsEntries start (x ∷ xs) bytes →
    Rewrites (length xs) x y from new bytes → HoldsEntries start (y ∷ xs) (overwritten from new bytes)
rewrite_newest start x y xs from new bytes held writes =
    let next = held-next start x xs bytes held in
    let older = held-older start x xs bytes held in
    let w = next.within in
    let b = writes.begins in
    let e = writes.ends in
    let len : length y.p ≡ length x.p = ap length writes.payload in
    let within : from + length new ≤ length bytes = omega arith in
    let long : length (overwritten from new bytes) ≡ length bytes = length-overwritten from new bytes within in
    held_more start y xs (overwritten from new bytes)
    (held-free start from new xs bytes older (omega arith) (omega arith))
    (record {
      fits = writes.fits;
      within = omega arith;
      payload = window-before (start + payload_sum xs) (length y.p) from new bytes (omega arith) within
          ∙ ap (λ (m : ℕ). bytes_at (start + payload_sum xs) m bytes) len ∙ next.payload ∙ sym writes.payload;
      row = ap (λ (m : ℕ). bytes_at (m - 28 * (length xs + 1)) 28 (overwritten from new bytes)) long ∙ writes.row;
    })

-- the newest entry stays where an older one is rewritten
rewrite_older : (start n : ℕ) (x : Entry) (xs ys : List Entry) (from : ℕ) (new bytes : List ℕ) → HoldsEntries start (x ∷ xs) bytes → n < length xs →
    row_start n bytes ≤ from → from + length new ≤ row_start n bytes + 28 → length ys ≡ length xs → payload_sum ys ≡ payload_sum xs →
    HoldsEntries start ys (overwritten from new bytes) → HoldsEntries start (x ∷ ys) (overwritten from new bytes)
rewrite_older start n x xs ys from new bytes held within begins ends len sum older =
    let next = held-next start x xs bytes held in
    let w = next.within in
    let inside : from + length new ≤ length bytes = omega arith in
    let long : length (overwritten from new bytes) ≡ length bytes = length-overwritten from new bytes inside in
    let place : length (overwritten from new bytes) - 28 * (length ys + 1) ≡ row_start (length xs) bytes = omega arith in
    held_more start x ys (overwritten from new bytes) older
    (record {
      fits = next.fits;
      within = omega arith;
      payload = ap (λ (m : ℕ). bytes_at (start + m) (length x.p) (overwritten from new bytes)) sum
          ∙ window-before (start + payload_sum xs) (length x.p) from new bytes (omega arith) inside ∙ next.payload;
      row = ap (λ (m : ℕ). bytes_at m 28 (overwritten from new bytes)) place
          ∙ window-before (row_start (length xs) bytes) 28 from new bytes (omega arith) inside ∙ next.row;
    })

pub held-rewritten : (start n : ℕ) (x y : Entry) (xs : List Entry) (from : ℕ) (new bytes : List ℕ) → HoldsEntries start xs bytes → entry_at xs n ≡ Some x →
    Rewrites n x y from new bytes → HoldsEntries start (with_entry n y xs) (overwritten from new bytes)
held-rewritten start n x y [] from new bytes held at writes = absurd (cc at)
held-rewritten start n x y (z ∷ xs) from new bytes held at writes =
    let P : List Entry → Type 0 = λ ys. HoldsEntries start ys (overwritten from new bytes) in
    ⊎_elim
    (λ (here : n ≡ length xs).
    let same : x ≡ z = (let a = at_newest z xs in let b : entry_at (z ∷ xs) (length xs) ≡ Some x = ap (entry_at (z ∷ xs)) (sym here) ∙ at in cc) in
    let W : Entry → ℕ → Type 0 = λ w m. Rewrites m w y from new bytes in
    let writes' : Rewrites (length xs) z y from new bytes = subst (λ (w : Entry). W w (length xs)) same (subst (λ (m : ℕ). W x m) here writes) in
    subst P (sym (ap (λ (m : ℕ). with_entry m y (z ∷ xs)) here ∙ with_newest y z xs)) (rewrite_newest start z y xs from new bytes held writes'))
    (λ other.
    let w = entry_at-within (z ∷ xs) n x at in
    let below : n < length xs = omega arith in
    let at' : entry_at xs n ≡ Some x = sym (at_older z xs n below) ∙ at in
    let older = held-rewritten start n x y xs from new bytes (held-older start z xs bytes held) at' writes in
    subst P (sym (with_older n y z xs below))
    (rewrite_older start n z xs (with_entry n y xs) from new bytes held below writes.begins writes.ends (length-with_entry n y xs) (sum-with_entry n x y xs at' writes.payload) older))
    (cases_eq n (length xs))

row_bytes : (start n : ℕ) (xs : List Entry) (x : Entry) (bytes : List ℕ) → HoldsEntries start xs bytes → entry_at xs n ≡ Some x →
    bytes_at (row_start n bytes) 28 bytes ≡ entry_bytes (raw_entry x)
row_bytes start n xs x bytes held at = ap (take 28) (row-at start n xs x bytes held at) ∙ take_at (entry_bytes (raw_entry x)) _ 28 (length-entry_bytes (raw_entry x))

-- the row of an entry, in three about its beginning and about its end
created_three : (start n : ℕ) (xs : List Entry) (x : Entry) (bytes : List ℕ) → HoldsEntries start xs bytes → entry_at xs n ≡ Some x →
    IsThree (row_start n bytes) 28 8 8 (u64_bytes x.d) (u64_bytes (raw_of x.created)) (u64_bytes (raw_of x.ended) ++ u32_bytes (length x.p)) bytes
created_three start n xs x bytes held at =
    let w = row-within start n xs x bytes held at in
    let a = length-append (u64_bytes (raw_of x.ended)) (u32_bytes (length x.p)) in
    let b = length-u64 (raw_of x.ended) in
    let c = length-u32 (length x.p) in
    record {
      is = row_bytes start n xs x bytes held at;
      front_len = length-u64 x.d;
      mid_len = length-u64 (raw_of x.created);
      len = omega (arith, a, b, c);
      within = omega arith;
    }

ended_three : (start n : ℕ) (xs : List Entry) (x : Entry) (bytes : List ℕ) → HoldsEntries start xs bytes → entry_at xs n ≡ Some x →
    IsThree (row_start n bytes) 28 16 8 (u64_bytes x.d ++ u64_bytes (raw_of x.created)) (u64_bytes (raw_of x.ended)) (u32_bytes (length x.p)) bytes
ended_three start n xs x bytes held at =
    let w = row-within start n xs x bytes held at in
    let a = length-append (u64_bytes x.d) (u64_bytes (raw_of x.created)) in
    let b = length-u64 (raw_of x.created) in
    let c = length-u32 (length x.p) in
    let d = length-u64 x.d in
    record {
      is = row_bytes start n xs x bytes held at ∙ sym (append_assoc (u64_bytes x.d) (u64_bytes (raw_of x.created)) (u64_bytes (raw_of x.ended) ++ u32_bytes (length x.p)));
      front_len = omega (arith, a, b, d);
      mid_len = length-u64 (raw_of x.ended);
      len = omega (arith, c);
      within = omega arith;
    }

-- a stamp of the entry at a place is the stamp of the entry that stands there then
created-with_entry : (n : ℕ) (s : Stamp) (xs : List Entry) (x : Entry) → entry_at xs n ≡ Some x → created_as n s xs ≡ with_entry n (record x { created = s }) xs
created-with_entry n s [] x at = refl
created-with_entry n s (z ∷ xs) x at = grind (arith, nat_tests, created-with_entry n s xs x)

ended-with_entry : (n : ℕ) (s : Stamp) (xs : List Entry) (x : Entry) → entry_at xs n ≡ Some x → ended_as n s xs ≡ with_entry n (record x { ended = s }) xs
ended-with_entry n s [] x at = refl
ended-with_entry n s (z ∷ xs) x at = grind (arith, nat_tests, ended-with_entry n s xs x)

pub held-created : (start n : ℕ) (s : Stamp) (xs : List Entry) (x : Entry) (bytes : List ℕ) → HoldsEntries start xs bytes → entry_at xs n ≡ Some x → HasRaw s →
    HoldsEntries start (created_as n s xs) (overwritten (row_start n bytes + 8) (u64_bytes (raw_of s)) bytes)
held-created start n s xs x bytes held at has =
    let P : List Entry → Type 0 = λ ys. HoldsEntries start ys (overwritten (row_start n bytes + 8) (u64_bytes (raw_of s)) bytes) in
    let fits = row-fits start n xs x bytes held at in
    let long = length-u64 (raw_of s) in
    subst P (sym (created-with_entry n s xs x at))
    (held-rewritten start n x (record x { created = s }) xs (row_start n bytes + 8) (u64_bytes (raw_of s)) bytes held at
    (record {
      fits = record { d = fits.d; created = has; ended = fits.ended; len = fits.len };
      payload = refl;
      begins = omega arith;
      ends = omega (arith, long);
      row = three-written (row_start n bytes) 28 8 8 _ _ _ (u64_bytes (raw_of s)) bytes (created_three start n xs x bytes held at) long;
    }))

pub held-ended : (start n : ℕ) (s : Stamp) (xs : List Entry) (x : Entry) (bytes : List ℕ) → HoldsEntries start xs bytes → entry_at xs n ≡ Some x → HasRaw s →
    HoldsEntries start (ended_as n s xs) (overwritten (row_start n bytes + 16) (u64_bytes (raw_of s)) bytes)
held-ended start n s xs x bytes held at has =
    let P : List Entry → Type 0 = λ ys. HoldsEntries start ys (overwritten (row_start n bytes + 16) (u64_bytes (raw_of s)) bytes) in
    let fits = row-fits start n xs x bytes held at in
    let long = length-u64 (raw_of s) in
    subst P (sym (ended-with_entry n s xs x at))
    (held-rewritten start n x (record x { ended = s }) xs (row_start n bytes + 16) (u64_bytes (raw_of s)) bytes held at
    (record {
      fits = record { d = fits.d; created = fits.created; ended = has; len = fits.len };
      payload = refl;
      begins = omega arith;
      ends = omega (arith, long);
      row = three-written (row_start n bytes) 28 16 8 _ _ _ (u64_bytes (raw_of s)) bytes (ended_three start n xs x bytes held at) long
          ∙ append_assoc (u64_bytes x.d) (u64_bytes (raw_of x.created)) (u64_bytes (raw_of s) ++ u32_bytes (length x.p));
    }))
