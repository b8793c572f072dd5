-- The lengths of changes that are joined.
use Rattle.std.proofs.Common.{◌≡◌, ℕ, ◌+◌, ◌≤◌, List, [], ◌∷◌, ◌++◌, length, sum_by, arith}
use Rattle.std.proofs.lemmas.List.Sums.{sum_by-cons, sum_by-append}
use Rattle.graph_model.specs.declared.change.Change.{Change}
use Rattle.graph_model.specs.declared.change.Change.TheVariants.{New, Set, Drop, Put, Del}
use Rattle.graph_model.specs.Change.{encoded_len, encoded_lens}

pub lens_append : (xs ys : List Change) → encoded_lens (xs ++ ys) ≡ encoded_lens xs + encoded_lens ys
lens_append xs ys = sum_by-append encoded_len xs ys

some_bytes : (c : Change) → 1 ≤ encoded_len c
some_bytes (New v p) = omega arith
some_bytes (Set v p) = omega arith
some_bytes (Drop v) = omega arith
some_bytes (Put v l d p) = omega arith
some_bytes (Del v l d) = omega arith

pub few_changes : (xs : List Change) → length xs ≤ encoded_lens xs
few_changes [] = omega arith
few_changes (x ∷ xs) =
    let more = sum_by-cons encoded_len x xs in
    let one = some_bytes x in
    let rest = few_changes xs in
    omega (arith, more, one, rest)
