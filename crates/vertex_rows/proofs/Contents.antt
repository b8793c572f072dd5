-- What the end of the owner's transaction leaves of a log.
use Rattle.std.proofs.Common.{◌≡◌, ℕ, ◌<◌, ◌≤◌, ◌&&◌, Bool, true, false, not, List, [], ◌∷◌, length, refl, ap, sym, ◌∙◌, arith}
use Rattle.std.specs.Prelude.{◌==◌, Option, Some, None, IsSomeAnd}
use Rattle.std.proofs.Math.Nat.{lt_of_not-le}
use Rattle.std.specs.List.{list_all}
use Rattle.std.proofs.lemmas.Bool.{and_parts}
use Rattle.std.proofs.lemmas.Bool.Decides.{nat_tests}
use Rattle.stamps.specs.declared.stamp.Stamp.{Stamp}
use Rattle.stamps.specs.declared.stamp.Stamp.TheVariants.{Never, At, By}
use Rattle.stamps.specs.Stamps.{Reader, Txn, counts, is_by, converted_stamp, cleared_stamp}
use Rattle.edge_log.specs.Entries.{Entry, visible, fresh_entry, converted, cleared, has_entry_of}
use Rattle.edge_log.specs.Places.{oldest, newest_place, entry_at, ended_at, TailIsBy}
use Rattle.edge_log.specs.Contents.{LogContent, with_appended, with_ended, with_undone}
use Rattle.core_rows.specs.Rows.{committed_log, ended_log, ended_where}
use Rattle.vertex_rows.specs.Owned.{EndsNever, is_known, is_past_stamp, IsOwned, IsAllPast}

abbrev past_entry : ℕ → Entry → Bool
past_entry e x = is_past_stamp e x.created && is_past_stamp e x.ended

abbrev known_entry : ℕ → ℕ → Entry → Bool
known_entry t e x = is_known t e x.created && is_known t e x.ended

-- one stamp
past-converted : (t e : ℕ) (s : Stamp) → is_known t e s ≡ true → is_past_stamp e (converted_stamp t e s) ≡ true
past-converted t e Never h = refl
past-converted t e (At s) h = h
past-converted t e (By u) h = grind (arith, nat_tests, h)

past-cleared : (t e : ℕ) (s : Stamp) → is_known t e s ≡ true → is_past_stamp e (cleared_stamp t s) ≡ true
past-cleared t e Never h = refl
past-cleared t e (At s) h = h
past-cleared t e (By u) h = grind (arith, nat_tests, h)

past-others : (t e : ℕ) (s : Stamp) → is_known t e s ≡ true → is_by t s ≡ false → is_past_stamp e s ≡ true
past-others t e Never h other = refl
past-others t e (At s) h other = h
past-others t e (By u) h other = absurd (cc)

known-past : (t e : ℕ) (s : Stamp) → is_past_stamp e s ≡ true → is_known t e s ≡ true
known-past t e Never h = refl
known-past t e (At s) h = h
known-past t e (By u) h = absurd (cc)

others-past : (t e : ℕ) (s : Stamp) → is_past_stamp e s ≡ true → is_by t s ≡ false
others-past t e Never h = refl
others-past t e (At s) h = refl
others-past t e (By u) h = absurd (cc)

kept-cleared : (t e : ℕ) (s : Stamp) → is_past_stamp e s ≡ true → cleared_stamp t s ≡ s
kept-cleared t e Never h = refl
kept-cleared t e (At s) h = refl
kept-cleared t e (By u) h = absurd (cc)

-- all entries
all-converted : (t e : ℕ) (xs : List Entry) → list_all (known_entry t e) xs ≡ true → list_all (past_entry e) (converted t e xs) ≡ true
all-converted t e [] h = refl
all-converted t e (x ∷ xs) h =
    let parts = and_parts (known_entry t e x) (list_all (known_entry t e) xs) h in
    let stamps = and_parts (is_known t e x.created) (is_known t e x.ended) parts.0 in
    let rest = all-converted t e xs parts.1 in
    rw (past-converted t e x.created stamps.0, past-converted t e x.ended stamps.1) rest

all-cleared : (t e : ℕ) (xs : List Entry) → list_all (known_entry t e) xs ≡ true → list_all (λ x. is_past_stamp e x.created) xs ≡ true → list_all (past_entry e) (cleared t xs) ≡ true
all-cleared t e [] h base = refl
all-cleared t e (x ∷ xs) h base =
    let parts = and_parts (known_entry t e x) (list_all (known_entry t e) xs) h in
    let stamps = and_parts (is_known t e x.created) (is_known t e x.ended) parts.0 in
    let bases = and_parts (is_past_stamp e x.created) (list_all (λ y. is_past_stamp e y.created) xs) base in
    let rest = all-cleared t e xs parts.1 bases.1 in
    rw (bases.0, past-cleared t e x.ended stamps.1) rest

all-others : (t e : ℕ) (xs : List Entry) → list_all (known_entry t e) xs ≡ true → has_entry_of t xs ≡ false → list_all (past_entry e) xs ≡ true
all-others t e [] h none = refl
all-others t e (x ∷ xs) h none =
    let parts = and_parts (known_entry t e x) (list_all (known_entry t e) xs) h in
    let stamps = and_parts (is_known t e x.created) (is_known t e x.ended) parts.0 in
    let rest = all-others t e xs parts.1 (grind (arith, none)) in
    let created = past-others t e x.created stamps.0 (grind (arith, none)) in
    let ended = past-others t e x.ended stamps.1 (grind (arith, none)) in
    rw (created, ended) rest

all-known : (t e : ℕ) (xs : List Entry) → list_all (past_entry e) xs ≡ true → list_all (known_entry t e) xs ≡ true
all-known t e [] h = refl
all-known t e (x ∷ xs) h =
    let parts = and_parts (past_entry e x) (list_all (past_entry e) xs) h in
    let stamps = and_parts (is_past_stamp e x.created) (is_past_stamp e x.ended) parts.0 in
    rw (known-past t e x.created stamps.0, known-past t e x.ended stamps.1) (all-known t e xs parts.1)

all-created : (e : ℕ) (xs : List Entry) → list_all (past_entry e) xs ≡ true → list_all (λ x. is_past_stamp e x.created) xs ≡ true
all-created e [] h = refl
all-created e (x ∷ xs) h =
    let parts = and_parts (past_entry e x) (list_all (past_entry e) xs) h in
    let stamps = and_parts (is_past_stamp e x.created) (is_past_stamp e x.ended) parts.0 in
    rw stamps.0 (all-created e xs parts.1)

none_of : (t e : ℕ) (xs : List Entry) → list_all (past_entry e) xs ≡ true → has_entry_of t xs ≡ false
none_of t e [] h = refl
none_of t e (x ∷ xs) h =
    let parts = and_parts (past_entry e x) (list_all (past_entry e) xs) h in
    let stamps = and_parts (is_past_stamp e x.created) (is_past_stamp e x.ended) parts.0 in
    rw (others-past t e x.created stamps.0, others-past t e x.ended stamps.1) (none_of t e xs parts.1)

same-cleared : (t e : ℕ) (xs : List Entry) → list_all (past_entry e) xs ≡ true → cleared t xs ≡ xs
same-cleared t e [] h = refl
same-cleared t e (x ∷ xs) h =
    let parts = and_parts (past_entry e x) (list_all (past_entry e) xs) h in
    let stamps = and_parts (is_past_stamp e x.created) (is_past_stamp e x.ended) parts.0 in
    rw (kept-cleared t e x.ended stamps.1, same-cleared t e xs parts.1) refl

length-converted : (t e : ℕ) (xs : List Entry) → length (converted t e xs) ≡ length xs
length-converted t e [] = refl
length-converted t e (x ∷ xs) = omega (arith, length-converted t e xs)

length-cleared : (t : ℕ) (xs : List Entry) → length (cleared t xs) ≡ length xs
length-cleared t [] = refl
length-cleared t (x ∷ xs) = omega (arith, length-cleared t xs)

oldest_all : (n : ℕ) (xs : List Entry) → length xs ≤ n → oldest n xs ≡ xs
oldest_all n [] le = refl
oldest_all n (x ∷ xs) le = grind (arith, nat_tests)

length-oldest : (n : ℕ) (xs : List Entry) → n ≤ length xs → length (oldest n xs) ≡ n
length-oldest n [] le = omega arith
length-oldest n (x ∷ xs) le = let rest = length-oldest n xs in grind (arith, nat_tests, rest)

all-oldest : (p : Entry → Bool) (n : ℕ) (xs : List Entry) → list_all p xs ≡ true → list_all p (oldest n xs) ≡ true
all-oldest p n [] h = refl
all-oldest p n (x ∷ xs) h =
    let parts = and_parts (p x) (list_all p xs) h in
    let rest = all-oldest p n xs parts.1 in
    grind (arith, nat_tests, rest, h)

own_number : (t : ℕ) → (t == t) ≡ true
own_number t = grind (arith, nat_tests)

-- a tail without an entry of its transaction is empty
tail_none : (t n : ℕ) (xs : List Entry) → TailIsBy t n xs → has_entry_of t xs ≡ false → length xs ≤ n
tail_none t n [] tail none = omega arith
tail_none t n (x ∷ xs) tail none =
    let less : length xs < n = lt_of_not-le (λ le. not_own t x xs (tail.0 le) none) in
    omega arith
  where
    not_own : (t : ℕ) (x : Entry) (xs : List Entry) → x.created ≡ By t → has_entry_of t (x ∷ xs) ≡ false → ⊥
    not_own t x xs own none =
        let here : is_by t x.created ≡ true = ap (is_by t) own ∙ own_number t in
        let told : true ≡ false = grind (arith, here, none) in
        cc

pub past_known : (t e : ℕ) (c : LogContent) → IsAllPast e c → IsOwned t e c
past_known t e c past = record {
  committed = omega (arith, past.committed);
  tail = no_tail t c.committed c.entries (omega (arith, past.committed));
  base = all-oldest (λ x. is_past_stamp e x.created) c.committed c.entries (all-created e c.entries past.past);
  known = all-known t e c.entries past.past;
}
  where
    no_tail : (t n : ℕ) (xs : List Entry) → length xs ≤ n → TailIsBy t n xs
    no_tail t n [] le = tt
    no_tail t n (x ∷ xs) le = (λ more. absurd (omega (arith, more, le)), no_tail t n xs (omega arith))

-- after the commit, or after the transaction was given up, all is past
pub committed-past : (t e : ℕ) (c : LogContent) → IsOwned t e c → IsAllPast e (committed_log t e c)
committed-past t e c owned = by_test (has_entry_of t c.entries) refl
  where
    by_test : (b : Bool) → has_entry_of t c.entries ≡ b → IsAllPast e (committed_log t e c)
    by_test true some = rw some (record {
      committed = sym (length-converted t e c.entries);
      past = all-converted t e c.entries owned.known;
    })
    by_test false none = rw none (record {
      committed = omega (arith, owned.committed, tail_none t c.committed c.entries owned.tail none);
      past = all-others t e c.entries owned.known none;
    })

pub undone-past : (t e : ℕ) (c : LogContent) → IsOwned t e c → IsAllPast e (with_undone t c)
undone-past t e c owned = record {
  committed = sym (length-cleared t (oldest c.committed c.entries) ∙ length-oldest c.committed c.entries owned.committed);
  past = all-cleared t e (oldest c.committed c.entries) (all-oldest (known_entry t e) c.committed c.entries owned.known) owned.base;
}

-- where all is past, the end of a transaction changes nothing
pub committed-same : (t e f : ℕ) (c : LogContent) → IsAllPast e c → committed_log t f c ≡ c
committed-same t e f c past = rw (none_of t e c.entries past.past) refl

pub undone-same : (t e : ℕ) (c : LogContent) → IsAllPast e c → with_undone t c ≡ c
undone-same t e c past =
    let all : oldest c.committed c.entries ≡ c.entries = oldest_all c.committed c.entries (omega (arith, past.committed)) in
    rw (all, same-cleared t e c.entries past.past) refl

-- what is past at an epoch is past at a later one
later_stamp : (e f : ℕ) (s : Stamp) → e ≤ f → is_past_stamp e s ≡ true → is_past_stamp f s ≡ true
later_stamp e f Never le h = refl
later_stamp e f (At s) le h = grind (arith, nat_tests, h, le)
later_stamp e f (By u) le h = absurd (cc)

later_known : (t e f : ℕ) (s : Stamp) → e ≤ f → is_known t e s ≡ true → is_known t f s ≡ true
later_known t e f Never le h = refl
later_known t e f (At s) le h = grind (arith, nat_tests, h, le)
later_known t e f (By u) le h = h

later_created : (e f : ℕ) (xs : List Entry) → e ≤ f → list_all (λ x. is_past_stamp e x.created) xs ≡ true → list_all (λ x. is_past_stamp f x.created) xs ≡ true
later_created e f [] le h = refl
later_created e f (x ∷ xs) le h =
    let parts = and_parts (is_past_stamp e x.created) (list_all (λ y. is_past_stamp e y.created) xs) h in
    rw (later_stamp e f x.created le parts.0) (later_created e f xs le parts.1)

later_entries : (t e f : ℕ) (xs : List Entry) → e ≤ f → list_all (known_entry t e) xs ≡ true → list_all (known_entry t f) xs ≡ true
later_entries t e f [] le h = refl
later_entries t e f (x ∷ xs) le h =
    let parts = and_parts (known_entry t e x) (list_all (known_entry t e) xs) h in
    let stamps = and_parts (is_known t e x.created) (is_known t e x.ended) parts.0 in
    rw (later_known t e f x.created le stamps.0, later_known t e f x.ended le stamps.1) (later_entries t e f xs le parts.1)

later_past : (e f : ℕ) (xs : List Entry) → e ≤ f → list_all (past_entry e) xs ≡ true → list_all (past_entry f) xs ≡ true
later_past e f [] le h = refl
later_past e f (x ∷ xs) le h =
    let parts = and_parts (past_entry e x) (list_all (past_entry e) xs) h in
    let stamps = and_parts (is_past_stamp e x.created) (is_past_stamp e x.ended) parts.0 in
    rw (later_stamp e f x.created le stamps.0, later_stamp e f x.ended le stamps.1) (later_past e f xs le parts.1)

pub owned_later : (t e f : ℕ) (c : LogContent) → e ≤ f → IsOwned t e c → IsOwned t f c
owned_later t e f c le owned = record {
  committed = owned.committed;
  tail = owned.tail;
  base = later_created e f (oldest c.committed c.entries) le owned.base;
  known = later_entries t e f c.entries le owned.known;
}

pub past_later : (e f : ℕ) (c : LogContent) → e ≤ f → IsAllPast e c → IsAllPast f c
past_later e f c le past = record { committed = past.committed; past = later_past e f c.entries le past.past }

-- what the owner does in a log stays the owner's
length-ended : (n t : ℕ) (xs : List Entry) → length (ended_at xs n t) ≡ length xs
length-ended n t [] = refl
length-ended n t (x ∷ xs) = let rest = length-ended n t xs in grind (arith, nat_tests, rest)

tail-ended : (t n k : ℕ) (xs : List Entry) → TailIsBy t n xs → TailIsBy t n (ended_at xs k t)
tail-ended t n k [] tail = tt
tail-ended t n k (x ∷ xs) tail = by_test (k == length xs) refl (tail-ended t n k xs tail.1)
  where
    by_test : (b : Bool) → (k == length xs) ≡ b → TailIsBy t n (ended_at xs k t) → TailIsBy t n (ended_at (x ∷ xs) k t)
    by_test true here rest = rw here tail
    by_test false past rest = rw past (λ le. tail.0 (omega (arith, le, length-ended k t xs)), rest)

created-ended : (t e k : ℕ) (xs : List Entry) → list_all (λ x. is_past_stamp e x.created) (ended_at xs k t) ≡ list_all (λ x. is_past_stamp e x.created) xs
created-ended t e k [] = refl
created-ended t e k (x ∷ xs) = let rest = created-ended t e k xs in grind (arith, nat_tests, rest)

base-ended : (t e n k : ℕ) (xs : List Entry) → list_all (λ x. is_past_stamp e x.created) (oldest n xs) ≡ true → list_all (λ x. is_past_stamp e x.created) (oldest n (ended_at xs k t)) ≡ true
base-ended t e n k [] h = refl
base-ended t e n k (x ∷ xs) h =
    let rest = base-ended t e n k xs in
    let created = created-ended t e k xs in
    let len = length-ended k t xs in
    grind (arith, nat_tests, h, rest, created, len)

known-ended : (t e k : ℕ) (xs : List Entry) → list_all (known_entry t e) xs ≡ true → list_all (known_entry t e) (ended_at xs k t) ≡ true
known-ended t e k [] h = refl
known-ended t e k (x ∷ xs) h =
    let parts = and_parts (known_entry t e x) (list_all (known_entry t e) xs) h in
    let stamps = and_parts (is_known t e x.created) (is_known t e x.ended) parts.0 in
    let rest = known-ended t e k xs parts.1 in
    let own = own_number t in
    grind (arith, nat_tests, rest, own, stamps.0, stamps.1, parts.1)

pub owned-ended : (t e k : ℕ) (c : LogContent) → IsOwned t e c → IsOwned t e (with_ended k t c)
owned-ended t e k c owned = record {
  committed = omega (arith, owned.committed, length-ended k t c.entries);
  tail = tail-ended t c.committed k c.entries owned.tail;
  base = base-ended t e c.committed k c.entries owned.base;
  known = known-ended t e k c.entries owned.known;
}

pub owned-ended_log : (t e d read : ℕ) (c : LogContent) → IsOwned t e c → IsOwned t e (ended_log d read t c)
owned-ended_log t e d read c owned = by_place (newest_place c.entries d read (Txn t))
  where
    by_place : (o : Option ℕ) → IsOwned t e (ended_where o t c)
    by_place None = owned
    by_place (Some place) = owned-ended t e place c owned

pub owned-appended : (t e d : ℕ) (p : List ℕ) (c : LogContent) → IsOwned t e c → IsOwned t e (with_appended t d p c)
owned-appended t e d p c owned = record {
  committed = omega (arith, owned.committed);
  tail = (λ le. refl, owned.tail);
  base = base_stays c.committed c.entries owned.committed owned.base;
  known = rw (own_number t) owned.known;
}
  where
    base_stays : (n : ℕ) (xs : List Entry) → n ≤ length xs → list_all (λ x. is_past_stamp e x.created) (oldest n xs) ≡ true → list_all (λ x. is_past_stamp e x.created) (oldest n (fresh_entry d p t ∷ xs)) ≡ true
    base_stays n xs le h = grind (arith, nat_tests, le, h)

-- an edge that the owner sees, whose snapshot is not before the last commit, was not ended
place_within : (xs : List Entry) (d read : ℕ) (who : Reader) (place : ℕ) → newest_place xs d read who ≡ Some place → place < length xs
place_within [] d read who place at = absurd (cc)
place_within (x ∷ xs) d read who place at = let rest = place_within xs d read who place in grind (arith, nat_tests, rest, at)

visible_never : (t e read : ℕ) (x : Entry) → e ≤ read → known_entry t e x ≡ true → visible x read (Txn t) ≡ true → x.ended ≡ Never
visible_never t e read x le known seen =
    let stamps = and_parts (is_known t e x.created) (is_known t e x.ended) known in
    let sides = and_parts (counts x.created read (Txn t)) (not (counts x.ended read (Txn t))) seen in
    by_stamp x.ended stamps.1 sides.1
  where
    by_stamp : (s : Stamp) → is_known t e s ≡ true → not (counts s read (Txn t)) ≡ true → s ≡ Never
    by_stamp Never known uncounted = refl
    by_stamp (At s) known uncounted = absurd (contradiction (grind (arith, nat_tests, known, uncounted, le)))
      where
        contradiction : true ≡ false → ⊥
        contradiction told = cc
    by_stamp (By u) known uncounted = absurd (contradiction (grind (arith, nat_tests, known, uncounted)))
      where
        contradiction : true ≡ false → ⊥
        contradiction told = cc

ends_never : (t e read : ℕ) (xs : List Entry) (d place : ℕ) → e ≤ read → list_all (known_entry t e) xs ≡ true → newest_place xs d read (Txn t) ≡ Some place → IsSomeAnd (entry_at xs place) (λ entry. entry.ended ≡ Never)
ends_never t e read [] d place le known at = absurd (cc)
ends_never t e read (x ∷ xs) d place le known at =
    by_test (visible x read (Txn t) && x.d == d) refl (ends_never t e read xs d place le (and_parts (known_entry t e x) (list_all (known_entry t e) xs) known).1)
  where
    by_test : (b : Bool) → (visible x read (Txn t) && x.d == d) ≡ b → (newest_place xs d read (Txn t) ≡ Some place → IsSomeAnd (entry_at xs place) (λ entry. entry.ended ≡ Never)) → IsSomeAnd (entry_at (x ∷ xs) place) (λ entry. entry.ended ≡ Never)
    by_test true here rest =
        let found : Some (length xs) ≡ Some place = rw here at at in
        let is : length xs ≡ place = cc in
        let test : (place == length xs) ≡ true = grind (arith, nat_tests, is) in
        rw test (visible_never t e read x le (and_parts (known_entry t e x) (list_all (known_entry t e) xs) known).0 (and_parts (visible x read (Txn t)) (x.d == d) here).0)
    by_test false past rest =
        let found : newest_place xs d read (Txn t) ≡ Some place = rw past at at in
        let within = place_within xs d read (Txn t) place found in
        let test : (place == length xs) ≡ false = grind (arith, nat_tests, within) in
        rw test (rest found)

pub owned-ends_never : (t e read : ℕ) (c : LogContent) → e ≤ read → IsOwned t e c → EndsNever read t c
owned-ends_never t e read c le owned d place at = ends_never t e read c.entries d place le owned.known at
