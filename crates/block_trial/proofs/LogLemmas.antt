-- What a log in a block becomes by the calls on it, and its places.
use Rattle.std.proofs.Common.{◌≡◌, ℕ, ◌+◌, ◌<◌, ◌≤◌, true, inl, inr, List, [], ◌∷◌, length, refl, sym, ap, subst, ◌∙◌, arith, Option, Some, None, IfSome}
use Rattle.std.specs.Prelude.{◌⊎◌}
use Rattle.std.proofs.lemmas.Bool.{cases_eq}
use Rattle.std.proofs.lemmas.Bool.Decides.{nat_tests}
use Rattle.edge_log.specs.declared.place.Place.{Place}
use Rattle.edge_log.specs.Entries.{Entry, fresh_entry, converted, payload_sum}
use Rattle.edge_log.specs.Places.{entry_at, ended_at, IsPlaceIn}
use Rattle.edge_log.proofs.EntryLemmas.{length-ended_at, length-converted, payloads-ended_at, payloads-converted}
use Rattle.stamps.specs.declared.stamp.Stamp.{Stamp}
use Rattle.stamps.specs.declared.stamp.Stamp.TheVariants.{Never, At, By}
use Rattle.stamps.specs.Stamps.{Nobody, counts}
use Rattle.tel_entry.specs.RawStamps.{private_from, raw_of, HasRaw, IsPastRaw}
use Rattle.tel_entry.specs.declared.header.Header.{Header}
use Rattle.block_layout.specs.Sizes.{props_start}
use Rattle.block_layout.specs.Blocks.{HoldsEntries, IsBlock}
use Rattle.block_layout.proofs.AtPlaces.{oldest_all, at_newest, at_older, entry_at-within}
use Rattle.block_layout.specs.Rows.{raw_entry, HaveRows}
use Rattle.block_reading.specs.Past.{is_past, ArePast, IsPastRow}
use Rattle.block_writing.specs.Headers.{committed_header}
use Rattle.block_writing.specs.Changed.{AreReached}
use Rattle.block_trial.specs.Logs.{IsLog, HasPastPlace}

-- from the place 0 on each entry is reached
all-reached : (t : ℕ) (xs : List Entry) → AreReached t [] 0 xs
all-reached t [] = tt
all-reached t (x ∷ xs) = ((λ own. grind (arith, nat_tests)), all-reached t xs)

-- an entry more
pub appended : (order n sum m all d t : ℕ) (p f : List ℕ) (old new : List ℕ) → m ≡ n + 1 → all ≡ sum + length p →
    ((h : Header) (filter : List ℕ) (xs : List Entry) → IsBlock order h filter xs old → length xs ≡ n → payload_sum xs ≡ sum →
    IsBlock order h f (fresh_entry d p t ∷ xs) new) → IsLog order n sum old → IsLog order m all new
appended order n sum m all d t p f old new more longer is log = record {
  header = log.header;
  filter = f;
  edges = fresh_entry d p t ∷ log.edges;
  block = is log.header log.filter log.edges log.block log.entries log.props;
  entries = (let e = log.entries in omega (arith, e, more));
  props = (let e = log.props in omega (arith, e, longer));
}

-- an entry that is ended
pub ended : (order n sum place t : ℕ) (old new : List ℕ) → place < n →
    ((order : ℕ) (h : Header) (filter : List ℕ) (xs : List Entry) → IsBlock order h filter xs old → place < length xs →
    IsBlock order h filter (ended_at xs place t) new) → IsLog order n sum old → IsLog order n sum new
ended order n sum place t old new there is log = record {
  header = log.header;
  filter = log.filter;
  edges = ended_at log.edges place t;
  block = is order log.header log.filter log.edges log.block (let e = log.entries in omega (arith, e, there));
  entries = length-ended_at log.edges place t ∙ log.entries;
  props = payloads-ended_at log.edges place t ∙ log.props;
}

-- a commit
pub committed : (order n sum t e : ℕ) (old new : List ℕ) →
    ((order : ℕ) (h : Header) (filter : List ℕ) (xs : List Entry) → IsBlock order h filter xs old → length xs ≡ n → AreReached t [] 0 xs →
    IsBlock order (committed_header e n sum h) filter (converted t e xs) new) → IsLog order n sum old → IsLog order n sum new
committed order n sum t e old new is log = record {
  header = committed_header e n sum log.header;
  filter = log.filter;
  edges = converted t e log.edges;
  block = is order log.header log.filter log.edges log.block log.entries (all-reached t log.edges);
  entries = length-converted t e log.edges ∙ log.entries;
  props = payloads-converted t e log.edges ∙ log.props;
}

-- the end of a log is a place of it
pub log-end : (order n sum : ℕ) (bytes : List ℕ) → IsLog order n sum bytes → ((start : ℕ) (xs : List Entry) → HoldsEntries start xs bytes → length xs ≡ n → ArePast 5 xs) →
    HasPastPlace (props_start order) (record { below = n; props = sum }) bytes
log-end order n sum bytes log past =
    let most : length log.edges ≤ n = (let e = log.entries in omega (arith, e)) in
    let least : n ≤ length log.edges = (let e = log.entries in omega (arith, e)) in
    let place : IsPlaceIn log.edges (record { below = n; props = sum }) = record { within = least; props = sym log.props ∙ ap payload_sum (sym (oldest_all log.edges n most)) } in
    (log.edges, (log.block.entries, (place, past (props_start order) log.edges log.block.entries log.entries)))

-- where a part goes on is a place too
pub next-place : (start : ℕ) (xs : List Entry) (bytes : List ℕ) (next : Option Place) → HoldsEntries start xs bytes → ArePast 5 xs → IfSome next (IsPlaceIn xs) →
    IfSome next (λ (q : Place). HasPastPlace start q bytes)
next-place start xs bytes None held past is = tt
next-place start xs bytes (Some q) held past is = (xs, (held, (is, past)))

-- an entry whose numbers are of the past is so
number-created : (e : ℕ) (s : Stamp) → HasRaw s → IsPastRaw e (raw_of s) → counts s e Nobody ≡ true
number-created e Never has past = absurd (let some = past.some in omega (arith, some))
number-created e (At n) has past = (let low = past.past in grind (arith, nat_tests, low))
number-created e (By t) has past = absurd (let low = past.epoch in omega (arith, low))

number-ended : (e : ℕ) (s : Stamp) → HasRaw s → raw_of s ≤ e → raw_of s < private_from → is_past e s ≡ true
number-ended e Never has past epoch = refl
number-ended e (At n) has past epoch = grind (arith, nat_tests, past)
number-ended e (By t) has past epoch = absurd (omega (arith, epoch))

-- the numbers of the entry at a place are of the past
abbrev pub IsPastAt : ℕ → List ℕ → ℕ → Type 0
IsPastAt e bytes n = (start : ℕ) (xs : List Entry) (x : Entry) → HoldsEntries start xs bytes → entry_at xs n ≡ Some x → IsPastRow e (raw_entry x)

pub past-behind : (e : ℕ) (bytes : List ℕ) (p : ℕ) → IsPastAt e bytes p → ((n : ℕ) → n < p → IsPastAt e bytes n) → (n : ℕ) → n < p + 1 → IsPastAt e bytes n
past-behind e bytes p here so_far n within = by_place (cases_eq n p)
  where
    by_place : (n ≡ p) ⊎ (n ≡ p → ⊥) → IsPastAt e bytes n
    by_place (inl same) = subst (λ (j : ℕ). IsPastAt e bytes j) (sym same) here
    by_place (inr other) = so_far n (omega (arith, other, within))

-- where the numbers at each place are, all entries are of the past
pub past-each : (e : ℕ) (xs : List Entry) → HaveRows xs → ((n : ℕ) (x : Entry) → entry_at xs n ≡ Some x → IsPastRow e (raw_entry x)) → ArePast e xs
past-each e [] have each = tt
past-each e (x ∷ xs) have each =
    let row : IsPastRow e (raw_entry x) = each (length xs) x (at_newest x xs) in (
      record {
        created = number-created e x.created have.0.created row.created;
        ended = number-ended e x.ended have.0.ended row.ended row.epoch;
      },
      past-each e xs have.1 (λ n y at. each n y (at_older x xs n (entry_at-within xs n y at) ∙ at)),
    )
