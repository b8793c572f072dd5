-- The filter of a block, and what its no says.
use Rattle.std.proofs.Common.{◌≡◌, ℕ, ◌+◌, ◌*◌, ◌^◌, ◌≤◌, Bool, true, false, IsTrue, List, [], ◌∷◌, length, take, drop, refl, sym, ap, ◌∙◌, arith, length-drop, Some, None}
use Rattle.std.specs.Prelude.{◌==◌, ◌&&◌, if◌then◌else◌, nat_le}
use Rattle.std.specs.List.{list_any, AllByRecursion}
use Rattle.std.proofs.Math.Pow.{pow_mono}
use Rattle.std.proofs.lemmas.Nat.{pow-add}
use Rattle.std.proofs.lemmas.Bool.{eqb-true}
use Rattle.std.proofs.lemmas.Bool.Decides.{nat_tests}
use Rattle.std.proofs.lemmas.List.{length-take-le}
use Rattle.stamps.specs.Stamps.{Reader}
use Rattle.edge_log.specs.Entries.{Entry, visible}
use Rattle.edge_log.specs.Places.{newest_place}
use Rattle.edge_bloom.specs.Filters.{IsFilter}
use Rattle.block_layout.specs.Sizes.{block_len, filter_len, bytes_at}

-- the bytes of a block where its filter stands are one
pub filter-bytes : (order : ℕ) (bytes : List ℕ) → 3 ≤ order → order ≤ 25 → length bytes ≡ block_len order → IsFilter (bytes_at 36 (filter_len order) bytes)
filter-bytes order bytes least most long =
    let has : nat_le 3 order ≡ true = grind (arith, nat_tests) in
    let low : 2 ^ 3 ≤ 2 ^ order = pow_mono least in
    let high : 2 ^ order ≤ 2 ^ 25 = pow_mono most in
    let d = length-drop 36 bytes in
    let len : length (bytes_at 36 (filter_len order) bytes) ≡ 4 * 2 ^ order =
    ap (λ (t : Bool). length (take (if t then 4 * 2 ^ order else 0) (drop 36 bytes))) has ∙ length-take-le (4 * 2 ^ order) (drop 36 bytes) (omega arith) in
    record {
      power = (2 + order, len ∙ sym (pow-add 2 2 order));
      least = omega arith;
      most = omega arith;
    }

-- a destination that is not among those of all entries has no entry
pub newest-unknown : (ds : List ℕ) (xs : List Entry) (d e : ℕ) (who : Reader) → (IsTrue (list_any (λ y. y == d) ds) → ⊥) →
    AllByRecursion (λ x. IsTrue (list_any (λ y. y == x.d) ds)) xs → newest_place xs d e who ≡ None
newest-unknown ds [] d e who unknown all = refl
newest-unknown ds (x ∷ xs) d e who unknown all = by_test (x.d == d) refl (newest-unknown ds xs d e who unknown all.1)
  where
    by_test : (b : Bool) → (x.d == d) ≡ b → newest_place xs d e who ≡ None → (if visible x e who && (x.d == d) then Some (length xs) else newest_place xs d e who) ≡ None
    by_test true is rest = absurd (unknown (ap (λ (n : ℕ). list_any (λ y. y == n) ds) (sym (eqb-true x.d d is)) ∙ all.0))
    by_test false is rest = grind (arith, is, rest)
