-- What a write to a node leaves gathered.
use Rattle.std.proofs.Common.{ℕ, ◌≡◌, ◌≢◌, ◌+◌, ◌*◌, ◌/◌, ◌<◌, ◌≤◌, List, length, get_or, sym, ap, subst, ◌∙◌, inl, inr, arith}
use Rattle.std.proofs.Math.ListN.{set}
use Rattle.std.proofs.lemmas.Bool.{cases_eq}
use Rattle.std.proofs.lemmas.List.{length-set, get_or-set_same, get_or-set_other}
use Rattle.reader_table.specs.declared.least.Least.{Least}
use Rattle.reader_table.specs.Leasts.{nothing, both}
use Rattle.reader_table.specs.Nodes.{IsGathered}

-- two nodes that were not written
below : (nodes : List Least) (at k : ℕ) (v : Least) → 2 * k ≢ at → 2 * k + 1 ≢ at →
    both (get_or nodes (2 * k) nothing) (get_or nodes (2 * k + 1) nothing) ≡ both (get_or (set nodes at v) (2 * k) nothing) (get_or (set nodes at v) (2 * k + 1) nothing)
below nodes at k v first second =
    ap (λ (x : Least). both x (get_or nodes (2 * k + 1) nothing)) (sym (get_or-set_other nodes at (2 * k) v nothing first))
    ∙ ap (λ (x : Least). both (get_or (set nodes at v) (2 * k) nothing) x) (sym (get_or-set_other nodes at (2 * k + 1) v nothing second))

-- a write to a leaf
pub gathered-leaf : (nodes : List Least) (at : ℕ) (v : Least) → 0 < at → length nodes ≤ 2 * at + 1 → IsGathered 0 nodes → IsGathered (at / 2) (set nodes at v)
gathered-leaf nodes at v some leaf gathered = λ k above within other.
    let n = length-set nodes at v in
    get_or-set_other nodes at k v nothing (λ (e : k ≡ at). omega (arith, n))
    ∙ gathered k above (omega (arith, n)) (λ (e : k ≡ 0). omega arith)
    ∙ below nodes at k v (λ (e : 2 * k ≡ at). other (omega arith)) (λ (e : 2 * k + 1 ≡ at). other (omega arith))

-- a write of what the two nodes below have
pub gathered-node : (nodes : List Least) (at : ℕ) (v : Least) → 0 < at → 2 * at + 1 < length nodes →
    v ≡ both (get_or nodes (2 * at) nothing) (get_or nodes (2 * at + 1) nothing) → IsGathered at nodes → IsGathered (at / 2) (set nodes at v)
gathered-node nodes at v some inner is gathered = λ k above within other.
    let n = length-set nodes at v in
    let z : List Least = set nodes at v in
    elim (cases_eq k at) [
      | inl e ↦
          subst (λ (j : ℕ). get_or z j nothing ≡ both (get_or z (2 * j) nothing) (get_or z (2 * j + 1) nothing)) (sym e) (
          get_or-set_same nodes at v nothing (omega arith) ∙ is
          ∙ below nodes at at v (λ (h : 2 * at ≡ at). omega arith) (λ (h : 2 * at + 1 ≡ at). omega arith)
          )
      | inr ne ↦
          get_or-set_other nodes at k v nothing ne
          ∙ gathered k above (omega (arith, n)) ne
          ∙ below nodes at k v (λ (e : 2 * k ≡ at). other (omega arith)) (λ (e : 2 * k + 1 ≡ at). other (omega arith))
    ]
