-- How many bytes the payloads of the older entries have.
use Rattle.std.proofs.Common.{◌≡◌, ◌≢◌, ◌⊎◌, inl, inr, ℕ, ◌+◌, ◌<◌, ◌≤◌, List, [], ◌∷◌, ◌++◌, length, take, get_or, sym, ap, subst, ◌∙◌, arith, length-append, Some}
use Rattle.std.proofs.Math.ListN.{get_or-append}
use Rattle.std.proofs.Math.Seq.{get_or-append_seam}
use Rattle.std.proofs.lemmas.Bool.{cases_eq, cases_lt}
use Rattle.std.proofs.lemmas.Bool.Decides.{nat_tests}
use Rattle.std.proofs.lemmas.List.{get_or-take, length-take-le}
use Rattle.edge_log.specs.Entries.{Entry, payload_sum}
use Rattle.edge_log.specs.Places.{entry_at, oldest}
use Rattle.edge_log.proofs.PlaceLemmas.{oldest_all, oldest_more, length-oldest, entry_at-within}
use Rattle.block_index.specs.Noted.{TellProps, AreProps}

-- only the numbers of the places that there are count
tell-same : (props more : List ℕ) (xs : List Entry) → ((k : ℕ) → k < length xs → get_or more k 0 ≡ get_or props k 0) → TellProps props xs → TellProps more xs
tell-same props more [] same tell = tt
tell-same props more (x ∷ xs) same tell =
    (same (length xs) (omega (arith)) ∙ tell.0, tell-same props more xs (λ k below. same k (omega (arith, below))) tell.1)

-- after an entry more
pub props-pushed : (props new : List ℕ) (sum : ℕ) (x : Entry) (xs : List Entry) → AreProps props xs → sum ≡ payload_sum xs → new ≡ props ++ (sum ∷ []) → AreProps new (x ∷ xs)
props-pushed props new sum x xs are total is =
    let long = are.0 in
    let here : get_or new (length xs) 0 ≡ payload_sum xs =
    ap (λ (ns : List ℕ). get_or ns (length xs) 0) is ∙ ap (λ (n : ℕ). get_or (props ++ (sum ∷ [])) n 0) (sym long) ∙ get_or-append_seam props sum [] 0 ∙ total in
    let kept : (k : ℕ) → k < length xs → get_or new k 0 ≡ get_or props k 0 =
    λ k below. ap (λ (ns : List ℕ). get_or ns k 0) is ∙ get_or-append props (sum ∷ []) 0 k (omega (arith, below, long)) in
    ((let more = ap length is ∙ length-append props (sum ∷ []) in omega (arith, more, long)), (here, tell-same props new xs kept are.1))

oldest-last : (y : Entry) (ys : List Entry) (p : ℕ) → p ≡ length ys → oldest p (y ∷ ys) ≡ ys
oldest-last y ys p last = let all = oldest_all ys p (omega (arith, last)) in grind (arith, nat_tests, last, all)

oldest-fewer : (y : Entry) (ys : List Entry) (p : ℕ) → p < length ys + 1 → oldest p (y ∷ ys) ≡ oldest p ys
oldest-fewer y ys p fewer = grind (arith, nat_tests, fewer)

-- of older entries
tell-oldest : (props : List ℕ) (n : ℕ) (xs : List Entry) → TellProps props xs → TellProps props (oldest n xs)
tell-oldest props n [] tell = tt
tell-oldest props n (x ∷ xs) tell = by_place (cases_lt n (length xs + 1)) (tell-oldest props n xs tell.1)
  where
    by_place : (n < length xs + 1) ⊎ (length xs + 1 ≤ n) → TellProps props (oldest n xs) → TellProps props (oldest n (x ∷ xs))
    by_place (inl fewer) rest = subst (λ (ys : List Entry). TellProps props ys) (sym (oldest-fewer x xs n fewer)) rest
    by_place (inr all) rest = subst (λ (ys : List Entry). TellProps props ys) (sym (oldest_all (x ∷ xs) n (omega (arith, all)))) tell

-- after the newest were taken back
pub props-oldest : (props new : List ℕ) (n : ℕ) (xs : List Entry) → AreProps props xs → n ≤ length xs → new ≡ take n props → AreProps new (oldest n xs)
props-oldest props new n xs are fewer is =
    let long = are.0 in
    let left = length-oldest xs n fewer in (
      (let cut = ap length is ∙ length-take-le n props (omega (arith, long, fewer)) in omega (arith, cut, left)),
      tell-same props new (oldest n xs) (λ k below. ap (λ (ns : List ℕ). get_or ns k 0) is ∙ get_or-take n props k 0 (omega (arith, below, left))) (tell-oldest props n xs are.1),
    )

-- what they tell of the entry at a place
pub props-at : (props : List ℕ) (n : ℕ) (xs : List Entry) (x : Entry) → TellProps props xs → entry_at xs n ≡ Some x → get_or props n 0 ≡ payload_sum (oldest n xs)
props-at props n [] x tell at = absurd (cc at)
props-at props n (y ∷ xs) x tell at = by_place (cases_eq n (length xs)) (λ there. props-at props n xs x tell.1 there)
  where
    entry_at-before : n < length xs → entry_at (y ∷ xs) n ≡ entry_at xs n
    entry_at-before before = grind (arith, nat_tests, before)

    by_place : (n ≡ length xs) ⊎ (n ≢ length xs) → (entry_at xs n ≡ Some x → get_or props n 0 ≡ payload_sum (oldest n xs)) → get_or props n 0 ≡ payload_sum (oldest n (y ∷ xs))
    by_place (inl last) rest = ap (λ (k : ℕ). get_or props k 0) last ∙ tell.0 ∙ ap payload_sum (sym (oldest-last y xs n last))
    by_place (inr other) rest =
        let within = entry_at-within (y ∷ xs) n x at in
        let before : n < length xs = omega (arith, within, other) in
        rest (sym (entry_at-before before) ∙ at) ∙ ap payload_sum (sym (oldest-fewer y xs n (omega (arith, before))))

-- with the payload of the entry at a place itself
pub sum-above : (props : List ℕ) (n : ℕ) (xs : List Entry) (x : Entry) → AreProps props xs → entry_at xs n ≡ Some x → payload_sum (oldest (n + 1) xs) ≡ get_or props n 0 + length x.p
sum-above props n xs x are at = let below = props-at props n xs x are.1 at in let more = ap payload_sum (oldest_more xs n x at) in omega (arith, below, more)
