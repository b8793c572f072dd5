-- The edges of a part, one by one, and what a scan has read so far.
use Rattle.std.proofs.Common.{◌≡◌, ℕ, zero, suc, ◌+◌, ◌<◌, ◌≤◌, List, [], ◌∷◌, ◌++◌, length, take, refl, ap, sym, ◌∙◌, arith, append_assoc, append-nil}
use Rattle.std.specs.Prelude.{Option, Some, None, IsSomeAnd}
use Rattle.std.specs.Option.{option_map}
use Rattle.std.specs.List.{slice_get}
use Rattle.std.proofs.lemmas.List.{take_more}
use Rattle.std.proofs.lemmas.List.Sums.{sum_by-cons}
use Rattle.std.proofs.lemmas.Option.{slice_get_within, get_or_from_slice_get}
use Rattle.graph_model.specs.declared.pairs.Pair.{Pair}
use Rattle.graph_model.specs.Graph.{pair_to}
use Rattle.stamps.specs.Stamps.{Reader}
use Rattle.edge_log.specs.Entries.{Entry, shown}
use Rattle.edge_log.specs.Places.{entry_at, newest_place, oldest}
use Rattle.edge_log.specs.Parts.{payload_bytes}
use Rattle.edge_log.proofs.PlaceLemmas.{pair_to-place, oldest_none}

-- a payload is no longer than all of them together
pub payload-within : (xs : List Pair) (i : ℕ) (x : Pair) → slice_get xs i ≡ Some x → length x.p ≤ payload_bytes xs
payload-within [] i x at = absurd (cc)
payload-within (y ∷ xs) zero x at =
    let same : y ≡ x = cc in
    omega (arith, sum_by-cons (λ (z : Pair). length z.p) y xs, ap (λ (z : Pair). length z.p) same)
payload-within (y ∷ xs) (suc i) x at = omega (arith, sum_by-cons (λ (z : Pair). length z.p) y xs, payload-within xs i x at)

-- the edge with the destination and the payload of a place stands there
pub edge_at : (xs : List Pair) (i d : ℕ) (p : List ℕ) → Some d ≡ option_map (λ x. x.d) (slice_get xs i) → Some p ≡ option_map (λ x. x.p) (slice_get xs i) → slice_get xs i ≡ Some (record { d = d; p = p })
edge_at xs i d p has_d has_p = by_edge (slice_get xs i) has_d has_p
  where
    by_edge : (o : Option Pair) → Some d ≡ option_map (λ x. x.d) o → Some p ≡ option_map (λ x. x.p) o → o ≡ Some (record { d = d; p = p })
    by_edge None has_d has_p = absurd (cc)
    by_edge (Some x) has_d has_p =
        let same_d : x.d ≡ d = cc in
        let same_p : x.p ≡ p = cc in
        ap (λ k. Some (record { d = k; p = x.p })) same_d ∙ ap (λ q. Some (record { d = d; p = q })) same_p

-- within the part an edge stands at each place
pub stands_within : (xs : List Pair) (i : ℕ) → slice_get xs i ≡ None → i < length xs → ⊥
stands_within [] i none lt = absurd (omega (arith, lt))
stands_within (x ∷ xs) zero none lt = let there : Some x ≡ None = none in (cc)
stands_within (x ∷ xs) (suc i) none lt = stands_within xs i none (omega (arith, lt))

-- one edge more
pub edges_more : (front xs pairs new : List Pair) (i : ℕ) (x : Pair) → slice_get xs i ≡ Some x → pairs ≡ front ++ take i xs → new ≡ pairs ++ x ∷ [] → new ≡ front ++ take (i + 1) xs
edges_more front xs pairs new i x at before pushed =
    let here : take (i + 1) xs ≡ take i xs ++ x ∷ [] = take_more xs i x (slice_get_within xs i x at) ∙ ap (λ y. take i xs ++ y ∷ []) (get_or_from_slice_get xs i x x at) in
    pushed ∙ ap (λ ys. ys ++ x ∷ []) before ∙ append_assoc front (take i xs) (x ∷ []) ∙ ap (λ ys. front ++ ys) (sym here)

-- below the first entry nothing is shown
pub shown_from_start : (entries : List Entry) (n e : ℕ) (who : Reader) → n ≡ 0 → shown (oldest n entries) e who ≡ []
shown_from_start entries n e who start = ap (λ k. shown (oldest k entries) e who) start ∙ ap (λ xs. shown xs e who) (oldest_none entries)

-- where no entry is left, the edges so far are all
pub edges_all : (entries : List Entry) (pairs : List Pair) (n e : ℕ) (who : Reader) → n ≡ 0 → shown entries e who ≡ pairs ++ shown (oldest n entries) e who → pairs ≡ shown entries e who
edges_all entries pairs n e who start so_far = sym (so_far ∙ ap (λ xs. pairs ++ xs) (shown_from_start entries n e who start) ∙ append-nil pairs)

-- the edges of a part follow those so far
pub edges_next : (entries : List Entry) (pairs part new : List Pair) (n m e : ℕ) (who : Reader) → shown entries e who ≡ pairs ++ shown (oldest n entries) e who → new ≡ pairs ++ part → shown (oldest n entries) e who ≡ part ++ shown (oldest m entries) e who →
    shown entries e who ≡ new ++ shown (oldest m entries) e who
edges_next entries pairs part new n m e who so_far pushed here =
    so_far ∙ ap (λ xs. pairs ++ xs) here ∙ sym (append_assoc pairs part (shown (oldest m entries) e who)) ∙ ap (λ xs. xs ++ shown (oldest m entries) e who) (sym pushed)

pub no_pairs : (pairs : List Pair) → length pairs ≤ 0 → pairs ≡ []
no_pairs [] few = refl
no_pairs (x ∷ pairs) few = absurd (omega (arith, few))

-- the payload at the place of the newest visible entry is that of the edge that is shown
pub payload_at_place : (entries : List Entry) (d e n : ℕ) (who : Reader) (p : List ℕ) → newest_place entries d e who ≡ Some n → IsSomeAnd (entry_at entries n) (λ x. p ≡ x.p) → Some p ≡ option_map (λ x. x.p) (pair_to d (shown entries e who))
payload_at_place entries d e n who p found holds = by_entry (entry_at entries n) refl holds
  where
    by_entry : (o : Option Entry) → entry_at entries n ≡ o → IsSomeAnd o (λ x. p ≡ x.p) → Some p ≡ option_map (λ x. x.p) (pair_to d (shown entries e who))
    by_entry None at said = absurd said
    by_entry (Some x) at said = ap Some said ∙ sym (ap (option_map (λ y. y.p)) (pair_to-place entries d e n who x found at))
