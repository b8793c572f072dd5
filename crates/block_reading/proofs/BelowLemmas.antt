-- The entries below a place, and those that are left after some were looked at.
use Rattle.std.proofs.Common.{◌≡◌, ℕ, zero, suc, ◌+◌, ◌-◌, ◌<◌, ◌≤◌, List, [], ◌∷◌, ◌++◌, length, take, drop, refl, sym, ap, ◌∙◌, subst, ⊎_elim, arith, append_assoc, append-nil, length-drop, Some}
use Rattle.std.proofs.lemmas.Bool.{cases_lt}
use Rattle.std.proofs.lemmas.List.{drop_at, length-take-le}
use Rattle.edge_log.specs.declared.place.Place.{Place}
use Rattle.edge_log.specs.Entries.{Entry, payload_sum}
use Rattle.edge_log.specs.Places.{entry_at, oldest, IsPlaceIn}
use Rattle.block_layout.specs.Sizes.{bytes_at}
use Rattle.block_layout.specs.Rows.{HaveRows, payloads_of}
use Rattle.block_layout.specs.Blocks.{HoldsEntries}
use Rattle.block_layout.specs.Reads.{entries_in}
use Rattle.block_layout.proofs.Windows.{window-join}
use Rattle.block_layout.proofs.Held.{held-older, length-payloads_of}
use Rattle.block_layout.proofs.Raw.{read_back}
use Rattle.block_layout.proofs.AtPlaces.{held-oldest, length-oldest, oldest_all, oldest_older, at_newest, at_older, entry_at-within}
use Rattle.block_reading.specs.Places.{entries_below, HoldsBelow, HasPlace}

pub length-entries_in : (start n props : ℕ) (bytes : List ℕ) → length (entries_in start n props bytes) ≡ n
length-entries_in start zero props bytes = refl
length-entries_in start (suc n) props bytes = ap suc (length-entries_in start n _ bytes)

pub held-drop : (start k : ℕ) (xs : List Entry) (bytes : List ℕ) → HoldsEntries start xs bytes → HoldsEntries start (drop k xs) bytes
held-drop start zero xs bytes held = held
held-drop start (suc k) [] bytes held = held
held-drop start (suc k) (x ∷ xs) bytes held = held-drop start k xs bytes (held-older start x xs bytes held)

-- the oldest n entries are what is left of all
pub oldest-drop : (n : ℕ) (xs : List Entry) → n ≤ length xs → oldest n xs ≡ drop (length xs - n) xs
oldest-drop n [] within = (let z : 0 - n ≡ 0 = omega arith in rw z refl)
oldest-drop n (x ∷ xs) within =
    ⊎_elim
    (λ (above : length xs < n).
    let none : length (x ∷ xs) - n ≡ 0 = omega arith in
    let here : length (x ∷ xs) ≤ n = omega arith in
    oldest_all (x ∷ xs) n here ∙ sym (ap (λ (k : ℕ). drop k (x ∷ xs)) none))
    (λ (below : n ≤ length xs).
    let more : length (x ∷ xs) - n ≡ suc (length xs - n) = omega arith in
    oldest_older x xs n below ∙ oldest-drop n xs below ∙ sym (ap (λ (k : ℕ). drop k (x ∷ xs)) more))
    (cases_lt (length xs) n)

-- the newest of what is left stands at the place above the rest
pub entry_at-drop : (k : ℕ) (xs : List Entry) (x : Entry) (rest : List Entry) → drop k xs ≡ x ∷ rest → entry_at xs (length rest) ≡ Some x
entry_at-drop zero xs x rest is = ap (λ (ys : List Entry). entry_at ys (length rest)) is ∙ at_newest x rest
entry_at-drop (suc k) [] x rest is = absurd (cc)
entry_at-drop (suc k) (y ∷ xs) x rest is =
    let at = entry_at-drop k xs x rest is in
    at_older y xs (length rest) (entry_at-within xs (length rest) x at) ∙ at

pub sum-split : (k : ℕ) (xs : List Entry) → payload_sum xs ≡ payload_sum (take k xs) + payload_sum (drop k xs)
sum-split zero xs = omega arith
sum-split (suc k) [] = omega arith
sum-split (suc k) (x ∷ xs) = omega (arith, sum-split k xs)

pub payloads-split : (k : ℕ) (xs : List Entry) → payloads_of xs ≡ payloads_of (drop k xs) ++ payloads_of (take k xs)
payloads-split zero xs = sym (append-nil (payloads_of xs))
payloads-split (suc k) [] = refl
payloads-split (suc k) (x ∷ xs) =
    ap (λ (ys : List ℕ). ys ++ x.p) (payloads-split k xs) ∙ append_assoc (payloads_of (drop k xs)) (payloads_of (take k xs)) x.p

pub have-take : (k : ℕ) (xs : List Entry) → HaveRows xs → HaveRows (take k xs)
have-take zero xs have = tt
have-take (suc k) [] have = tt
have-take (suc k) (x ∷ xs) have = (have.0, have-take k xs have.1)

-- the payloads of the newest k entries lie behind those of the others
pub newest-payloads : (start k : ℕ) (xs : List Entry) (bytes : List ℕ) → HoldsEntries start xs bytes →
    bytes_at (start + payload_sum (drop k xs)) (payload_sum (take k xs)) bytes ≡ payloads_of (take k xs)
newest-payloads start k xs bytes held =
    let w = held.within in
    let sum = sum-split k xs in
    let m : ℕ = payload_sum (drop k xs) in
    let n : ℕ = payload_sum (take k xs) in
    let whole : m + n ≡ payload_sum xs = omega arith in
    let d = length-drop start bytes in
    let long : length (bytes_at start m bytes) ≡ m = length-take-le m (drop start bytes) (omega arith) in
    sym (drop_at (bytes_at start m bytes) (bytes_at (start + m) n bytes) m long)
    ∙ ap (drop m) (sym (window-join start m n bytes) ∙ ap (λ (j : ℕ). bytes_at start j bytes) whole ∙ held.payloads ∙ payloads-split k xs)
    ∙ drop_at (payloads_of (drop k xs)) (payloads_of (take k xs)) m (length-payloads_of (drop k xs))

-- below a place of a log stand the entries that are read there
pub below-read : (start : ℕ) (place : Place) (xs : List Entry) (bytes : List ℕ) → HoldsEntries start xs bytes → IsPlaceIn xs place →
    entries_below start place bytes ≡ oldest place.below xs
below-read start place xs bytes held is =
    let ys : List Entry = oldest place.below xs in
    let n : place.below ≡ length ys = sym (length-oldest xs place.below is.within) in
    ap (λ (k : ℕ). entries_in start k place.props bytes) n
    ∙ ap (λ (k : ℕ). entries_in start (length ys) k bytes) is.props
    ∙ read_back start ys bytes (held-oldest start place.below xs bytes held)

pub below-held : (start : ℕ) (place : Place) (bytes : List ℕ) → HasPlace start place bytes → HoldsBelow start place bytes
below-held start place bytes has =
    let xs : List Entry = has.0 in
    let read = below-read start place xs bytes has.1.0 has.1.1 in
    let P : List Entry → Type 0 = λ ys. HoldsEntries start ys bytes in
    record {
      entries = subst P (sym read) (held-oldest start place.below xs bytes has.1.0);
      props = ap payload_sum read ∙ sym has.1.1.props;
    }
