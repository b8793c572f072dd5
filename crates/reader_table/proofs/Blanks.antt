-- Leaves that stand for no row have nothing.
use Rattle.std.proofs.Common.{ℕ, zero, suc, ◌≡◌, ◌+◌, ◌*◌, ◌<◌, ◌≤◌, List, [], ◌∷◌, take, get_or, refl, sym, ap, ◌∙◌, inl, inr, arith}
use Rattle.std.specs.Prelude.{replicate}
use Rattle.std.proofs.Math.ListN.{set}
use Rattle.std.proofs.lemmas.Bool.{cases_lt}
use Rattle.std.proofs.lemmas.List.{get_or-replicate, get_or_past, length-replicate, get_or-set_other}
use Rattle.reader_table.specs.declared.least.Least.{Least}
use Rattle.reader_table.specs.Leasts.{nothing, both, least_of}
use Rattle.reader_table.specs.Nodes.{IsGathered}

-- a node of nodes that all have nothing
pub blank_at : (n k : ℕ) → get_or (replicate n nothing) k nothing ≡ nothing
blank_at n k = elim (cases_lt k n) [
  | inl below ↦ get_or-replicate n k nothing nothing below
  | inr above ↦ get_or_past (replicate n nothing) k nothing (let h = length-replicate n nothing in omega (arith, h))
]

pub blank_gathered : (n but : ℕ) → IsGathered but (replicate n nothing)
blank_gathered n but = λ k above within other.
    blank_at n k
    ∙ ap (λ (x : Least). both x nothing) (sym (blank_at n (2 * k)))
    ∙ ap (λ (x : Least). both (get_or (replicate n nothing) (2 * k) nothing) x) (sym (blank_at n (2 * k + 1)))

all_blank : (xs : List Least) → ((k : ℕ) → get_or xs k nothing ≡ nothing) → least_of xs ≡ nothing
all_blank [] blank = refl
all_blank (x ∷ xs) blank = ap (λ (y : Least). both y (least_of xs)) (blank 0) ∙ ap (both nothing) (all_blank xs (λ k. blank (suc k)))

-- what some leaves have, where those behind have nothing
pub least_of-take : (n : ℕ) (xs : List Least) → ((k : ℕ) → n ≤ k → get_or xs k nothing ≡ nothing) → least_of xs ≡ least_of (take n xs)
least_of-take n [] blank = elim n as (λ m. nothing ≡ least_of (take m [])) [ zero ↦ refl | suc m ↦ refl ]
least_of-take zero (x ∷ xs) blank = all_blank (x ∷ xs) (λ k. blank k (omega arith))
least_of-take (suc n) (x ∷ xs) blank = ap (both x) (least_of-take n xs (λ k h. blank (suc k) (omega arith)))

-- a leaf that was set, and those behind it
pub blank-set : (n m : ℕ) (xs : List Least) (at : ℕ) (v : Least) → at < m → n ≤ m → ((k : ℕ) → n ≤ k → get_or xs k nothing ≡ nothing) → (k : ℕ) → m ≤ k → get_or (set xs at v) k nothing ≡ nothing
blank-set n m xs at v within more blank k above = get_or-set_other xs at k v nothing (λ (e : k ≡ at). omega arith) ∙ blank k (omega arith)
