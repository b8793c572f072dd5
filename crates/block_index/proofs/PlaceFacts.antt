-- An entry at a place, and an index of the entries below it.
use Rattle.std.proofs.Common.{◌≡◌, ◌≢◌, ◌⊎◌, inl, inr, ℕ, ◌+◌, ◌<◌, ◌≤◌, List, [], ◌∷◌, length, sym, subst, arith, Some}
use Rattle.std.proofs.lemmas.Bool.{cases_eq}
use Rattle.std.proofs.lemmas.Bool.Decides.{nat_tests}
use Rattle.edge_log.specs.Entries.{Entry}
use Rattle.edge_log.specs.Places.{entry_at, oldest}
use Rattle.edge_log.proofs.PlaceLemmas.{oldest_all, oldest_more}
use Rattle.place_index.specs.declared.place_index.PlaceIndex.{PlaceIndex}
use Rattle.place_index.specs.Chains.{IsIndexOf}
use Rattle.block_index.specs.Noted.{destinations, IsIndexed}

-- an entry stands at each place that there is
pub at-place : (xs : List Entry) (n : ℕ) → n < length xs → (x : Entry) × (entry_at xs n ≡ Some x)
at-place [] n within = absurd (omega (arith, within))
at-place (x ∷ xs) n within = by_place (cases_eq n (length xs)) (λ before. at-place xs n before)
  where
    by_place : (n ≡ length xs) ⊎ (n ≢ length xs) → (n < length xs → (y : Entry) × (entry_at xs n ≡ Some y)) → (y : Entry) × (entry_at (x ∷ xs) n ≡ Some y)
    by_place (inl last) rest = (x, grind (arith, nat_tests, last))
    by_place (inr other) rest =
        let before : n < length xs = omega (arith, within, other) in
        let more = rest before in
        let at = more.1 in
        (more.0, grind (arith, nat_tests, before, at))

pub all-of : (index : PlaceIndex) (n : ℕ) (xs : List Entry) → length xs ≤ n → IsIndexed index xs → IsIndexed index (oldest n xs)
all-of index n xs long is = subst (λ (ys : List Entry). IsIndexed index ys) (sym (oldest_all xs n long)) is

pub more-of : (index : PlaceIndex) (n d : ℕ) (xs : List Entry) (x : Entry) → entry_at xs n ≡ Some x → d ≡ x.d → IsIndexed index (oldest (n + 1) xs) → IsIndexOf index (d ∷ destinations (oldest n xs))
more-of index n d xs x at same is =
    subst (λ (e : ℕ). IsIndexOf index (e ∷ destinations (oldest n xs))) (sym same) (subst (λ (ys : List Entry). IsIndexed index ys) (oldest_more xs n x at) is)
