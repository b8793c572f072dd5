-- The log of a list, while its edges are appended.
use Rattle.std.proofs.Common.{◌≡◌, ℕ, zero, suc, ◌+◌, ◌<◌, ◌≤◌, true, List, [], ◌∷◌, length, drop, refl, sym, ap, ◌∙◌, arith, inl, inr}
use Rattle.std.specs.Prelude.{◌&&◌, IsTrue, Some, None, Bool, false, Result, Ok, Err, OnOk, is_err}
use Rattle.std.specs.List.{list_all, slice_get}
use Rattle.std.proofs.lemmas.Bool.Decides.{nat_tests}
use Rattle.std.proofs.lemmas.List.Sums.{sum_by-cons}
use Rattle.std.proofs.lemmas.Option.{slice_get_cases}
use Rattle.graph_model.specs.declared.pairs.Pair.{Pair}
use Rattle.graph_model.specs.Change.{edge_size}
use Rattle.graph_model.specs.Records.{list_size}
use Rattle.edge_log.specs.Entries.{sizes, entry_size, fresh_entry}
use Rattle.edge_log.specs.Places.{TailIsBy}
use Rattle.edge_log.specs.Contents.{HasTailOf}
use Rattle.core_rows.specs.Openings.{opened_entries, opened_log}
use Rattle.core_rows.proofs.OpenedLogs.{pending_entries, pending_log}
use Rattle.vertex_rows.specs.Owned.{IsAllPast, is_past_stamp}

-- the entries take what the edges do
pub sizes-pending : (xs : List Pair) → sizes (pending_entries xs) ≡ list_size xs
sizes-pending [] = refl
sizes-pending (x ∷ xs) =
    let rest = sizes-pending xs in
    let entries : sizes (pending_entries (x ∷ xs)) ≡ edge_size x.p + sizes (pending_entries xs) = sum_by-cons entry_size (fresh_entry x.d x.p 0) (pending_entries xs) in
    let pairs : list_size (x ∷ xs) ≡ edge_size x.p + list_size xs = sum_by-cons (λ (y : Pair). edge_size y.p) x xs in
    omega (arith, rest, entries, pairs)

list_size-drop : (xs : List Pair) (n : ℕ) → list_size (drop n xs) ≤ list_size xs
list_size-drop [] zero = omega arith
list_size-drop [] (suc n) = omega arith
list_size-drop (x ∷ xs) zero = omega arith
list_size-drop (x ∷ xs) (suc n) =
    let rest = list_size-drop xs n in
    let pairs : list_size (x ∷ xs) ≡ edge_size x.p + list_size xs = sum_by-cons (λ (y : Pair). edge_size y.p) x xs in
    omega (arith, rest, pairs)

-- the next edge has room
pub next-fits : (xs : List Pair) (n m most : ℕ) (x : Pair) → drop n xs ≡ x ∷ drop m xs → list_size xs ≤ most → sizes (pending_entries (drop m xs)) + edge_size x.p ≤ most
next-fits xs n m most x here within =
    let below = list_size-drop xs n in
    let same : list_size (drop n xs) ≡ list_size (x ∷ drop m xs) = ap list_size here in
    let parts : list_size (x ∷ drop m xs) ≡ edge_size x.p + list_size (drop m xs) = sum_by-cons (λ (y : Pair). edge_size y.p) x (drop m xs) in
    let sums = sizes-pending (drop m xs) in
    omega (arith, below, same, parts, sums, within)

-- all of it is private to number 0
tail-from : (xs : List Pair) → TailIsBy 0 0 (pending_entries xs)
tail-from [] = tt
tail-from (x ∷ xs) = (λ le. refl, tail-from xs)

pub tail-pending : (xs : List Pair) → HasTailOf 0 (pending_log xs)
tail-pending xs = tail-from xs

-- an edge stands at each place
pub some_there : (xs : List Pair) (i : ℕ) → None ≡ slice_get xs i → i < length xs → ⊥
some_there xs i none lt = elim (slice_get_cases xs i).1 [
  | inl (x, within, at, here) ↦ some_none x (none ∙ at)
  | inr (over, at) ↦ absurd (omega arith)
]
  where
    some_none : (x : Pair) → None ≡ Some x → ⊥
    some_none x e = cc e

-- Of an opened log everything is past.
length-opened : (e : ℕ) (xs : List Pair) → length (opened_entries e xs) ≡ length xs
length-opened e [] = refl
length-opened e (x ∷ xs) = omega (arith, length-opened e xs)

past-entries : (e : ℕ) (xs : List Pair) → IsTrue (list_all (λ x. is_past_stamp e x.created && is_past_stamp e x.ended) (opened_entries e xs))
past-entries e [] = refl
past-entries e (x ∷ xs) = let rest = past-entries e xs in grind (arith, nat_tests, rest)

pub past-opened : (e : ℕ) (xs : List Pair) → IsAllPast e (opened_log e xs)
past-opened e xs = record { committed = sym (length-opened e xs); past = past-entries e xs }

-- what holds of a call that did not fail
pub unless_err : {A E P : Type 0} (r : Result A E) (failed : Bool) → failed ≡ is_err r → failed ≡ false → OnOk r P → P
unless_err (Ok x) failed is not p = p
unless_err (Err e) failed is not p = let told : true ≡ false = sym is ∙ not in absurd (cc)
