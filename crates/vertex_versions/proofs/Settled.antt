-- Where only the newest versions may be private, only these change when a transaction ends.
use Rattle.std.proofs.Common.{◌≡◌, ℕ, zero, suc, ◌<◌, ◌≤◌, ◌++◌, Bool, true, false, not, List, [], ◌∷◌, length, take, drop, map, get_or, min, refl, ap, sym, ◌∙◌, arith}
use Rattle.std.specs.List.{list_all, list_any, remove}
use Rattle.std.proofs.lemmas.Bool.{and_parts}
use Rattle.stamps.specs.declared.stamp.Stamp.{Stamp}
use Rattle.stamps.specs.declared.stamp.Stamp.TheVariants.{Never, At, By}
use Rattle.stamps.specs.Stamps.{is_by, is_private, converted_stamp}
use Rattle.vertex_versions.specs.declared.version.Version.{Version}
use Rattle.vertex_versions.specs.Versions.{converted_version, converted_versions, undone_versions}
use Rattle.vertex_versions.specs.Pending.{AreSettledFrom}

abbrev is_settled : Version → Bool
is_settled x = not (is_private x.created)

abbrev is_anothers : ℕ → Version → Bool
is_anothers t x = not (is_by t x.created)

same_stamp : (t e : ℕ) (s : Stamp) → not (is_private s) ≡ true → converted_stamp t e s ≡ s
same_stamp t e Never h = refl
same_stamp t e (At s) h = refl
same_stamp t e (By u) h = absurd (cc)

not_by : (t : ℕ) (s : Stamp) → not (is_private s) ≡ true → is_by t s ≡ false
not_by t Never h = refl
not_by t (At s) h = refl
not_by t (By u) h = absurd (cc)

same_version : (t e : ℕ) (x : Version) → is_settled x ≡ true → converted_version t e x ≡ x
same_version t e x h = ap (λ s. record { created = s; content = x.content }) (same_stamp t e x.created h)

same_versions : (t e : ℕ) (xs : List Version) → list_all is_settled xs ≡ true → converted_versions t e xs ≡ xs
same_versions t e [] h = refl
same_versions t e (x ∷ xs) h =
    let parts = and_parts (is_settled x) (list_all is_settled xs) h in
    rw (same_version t e x parts.0, same_versions t e xs parts.1)

-- the versions that may be private are converted, and the others stay
pub converted_settled : (t e n : ℕ) (xs : List Version) → AreSettledFrom n xs → map (converted_version t e) (take n xs) ++ drop n xs ≡ converted_versions t e xs
converted_settled t e zero [] h = refl
converted_settled t e (suc n) [] h = refl
converted_settled t e zero (x ∷ xs) h = sym (same_versions t e (x ∷ xs) h)
converted_settled t e (suc n) (x ∷ xs) h = ap (λ ys. converted_version t e x ∷ ys) (converted_settled t e n xs h)

-- the older ones still are settled
pub settled_converted : (t e n : ℕ) (xs : List Version) → AreSettledFrom n xs → AreSettledFrom n (converted_versions t e xs)
settled_converted t e zero [] h = refl
settled_converted t e (suc n) [] h = refl
settled_converted t e zero (x ∷ xs) h = ap (list_all is_settled) (same_versions t e (x ∷ xs) h) ∙ h
settled_converted t e (suc n) (x ∷ xs) h = settled_converted t e n xs h

-- one version may be private where one of the newest may
pub private_newest : (n : ℕ) (xs : List Version) → AreSettledFrom n xs → list_any (λ x. is_private x.created) (take n xs) ≡ list_any (λ x. is_private x.created) xs
private_newest zero [] h = refl
private_newest (suc n) [] h = refl
private_newest zero (x ∷ xs) h = sym (none (x ∷ xs) h)
  where
    none : (xs : List Version) → list_all is_settled xs ≡ true → list_any (λ x. is_private x.created) xs ≡ false
    none [] h = refl
    none (x ∷ xs) h =
        let parts = and_parts (is_settled x) (list_all is_settled xs) h in
        let rest = none xs parts.1 in
        grind (arith, parts.0, rest)
private_newest (suc n) (x ∷ xs) h = let rest = private_newest n xs h in grind (arith, rest)

-- where none is, all are settled
pub settled_none : (xs : List Version) → list_any (λ x. is_private x.created) xs ≡ false → AreSettledFrom 0 xs
settled_none [] h = refl
settled_none (x ∷ xs) h = let rest = settled_none xs (grind (arith, h)) in grind (arith, h, rest)

-- a version of the transaction is taken out
pub undone-remove : (t i : ℕ) (xs : List Version) (x : Version) → i < length xs → get_or xs i x ≡ x → is_by t x.created ≡ true → undone_versions t (remove xs i) ≡ undone_versions t xs
undone-remove t i [] x lt is by = absurd (omega arith)
undone-remove t zero (y ∷ xs) x lt is by = grind (arith, is, by)
undone-remove t (suc i) (y ∷ xs) x lt is by = let rest = undone-remove t i xs x (omega arith) is by in grind (arith, rest)

pub settled-remove : (n i : ℕ) (xs : List Version) → i ≤ n → i < length xs → AreSettledFrom (suc n) xs → AreSettledFrom n (remove xs i)
settled-remove n i [] lt within h = absurd (omega arith)
settled-remove n zero (x ∷ xs) lt within h = h
settled-remove zero (suc i) (x ∷ xs) lt within h = absurd (omega arith)
settled-remove (suc n) (suc i) (x ∷ xs) lt within h = settled-remove n i xs (omega arith) (omega arith) h

pub passed-remove : (t i : ℕ) (xs : List Version) → i < length xs → list_all (is_anothers t) (take i xs) ≡ true → list_all (is_anothers t) (take i (remove xs i)) ≡ true
passed-remove t i [] lt h = absurd (omega arith)
passed-remove t zero (x ∷ xs) lt h = refl
passed-remove t (suc i) (x ∷ xs) lt h =
    let parts = and_parts (is_anothers t x) (list_all (is_anothers t) (take i xs)) h in
    let rest = passed-remove t i xs (omega arith) parts.1 in
    grind (arith, parts.0, rest)

-- a version of another is passed
pub passed_more : (t i : ℕ) (xs : List Version) (x : Version) → i < length xs → get_or xs i x ≡ x → is_by t x.created ≡ false → list_all (is_anothers t) (take i xs) ≡ true → list_all (is_anothers t) (take (suc i) xs) ≡ true
passed_more t i [] x lt is by h = absurd (omega arith)
passed_more t zero (y ∷ xs) x lt is by h = grind (arith, is, by)
passed_more t (suc i) (y ∷ xs) x lt is by h =
    let parts = and_parts (is_anothers t y) (list_all (is_anothers t) (take i xs)) h in
    let rest = passed_more t i xs x (omega arith) is by parts.1 in
    grind (arith, parts.0, rest)

-- what is left are all that are not the transaction's
pub undone-passed : (t n i : ℕ) (xs : List Version) → n ≤ i → AreSettledFrom n xs → list_all (is_anothers t) (take i xs) ≡ true → undone_versions t xs ≡ xs
undone-passed t n i [] le h passed = refl
undone-passed t n zero (x ∷ xs) le h passed = others (x ∷ xs) (grind (arith, h))
  where
    others : (xs : List Version) → list_all is_settled xs ≡ true → undone_versions t xs ≡ xs
    others [] h = refl
    others (x ∷ xs) h =
        let parts = and_parts (is_settled x) (list_all is_settled xs) h in
        let rest = others xs parts.1 in
        grind (arith, not_by t x.created parts.0, rest)
undone-passed t zero (suc i) (x ∷ xs) le h passed =
    let parts = and_parts (is_settled x) (list_all is_settled xs) h in
    let rest = undone-passed t 0 0 xs (omega arith) parts.1 refl in
    grind (arith, not_by t x.created parts.0, rest)
undone-passed t (suc n) (suc i) (x ∷ xs) le h passed =
    let parts = and_parts (is_anothers t x) (list_all (is_anothers t) (take i xs)) passed in
    let rest = undone-passed t n i xs (omega arith) h parts.1 in
    grind (arith, parts.0, rest)

settled-all : (n : ℕ) (xs : List Version) → length xs ≤ n → AreSettledFrom n xs
settled-all zero [] le = refl
settled-all (suc n) [] le = refl
settled-all zero (x ∷ xs) le = absurd (omega arith)
settled-all (suc n) (x ∷ xs) le = settled-all n xs (omega arith)

settled-take : (n m : ℕ) (xs : List Version) → AreSettledFrom n xs → AreSettledFrom n (take m xs)
settled-take zero zero xs h = refl
settled-take (suc n) zero xs h = refl
settled-take n (suc m) [] h = h
settled-take zero (suc m) (x ∷ xs) h =
    let parts = and_parts (is_settled x) (list_all is_settled xs) h in
    let rest = settled-take 0 m xs parts.1 in
    grind (arith, parts.0, rest)
settled-take (suc n) (suc m) (x ∷ xs) h = settled-take n m xs h

-- the newest versions after a cut
pub settled_cut : (n m k : ℕ) (xs : List Version) → k ≡ min n m → AreSettledFrom n xs → AreSettledFrom k (take m xs)
settled_cut n zero k [] least h = settled-all k [] (omega arith)
settled_cut n (suc m) k [] least h = settled-all k [] (omega arith)
settled_cut zero m zero (x ∷ xs) least h = settled-take 0 m (x ∷ xs) h
settled_cut zero m (suc k) (x ∷ xs) least h = absurd (omega arith)
settled_cut (suc n) zero k (x ∷ xs) least h = settled-all k [] (omega arith)
settled_cut (suc n) (suc m) zero (x ∷ xs) least h = absurd (omega arith)
settled_cut (suc n) (suc m) (suc k) (x ∷ xs) least h = settled_cut n m k xs (omega arith) h
