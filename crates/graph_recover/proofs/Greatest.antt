-- The greatest of numbers: of two lists, and as a bound.
use Rattle.std.proofs.Common.{◌≡◌, ℕ, ◌<◌, ◌≤◌, max, true, ◌&&◌, List, [], ◌∷◌, ◌++◌, map, length, arith, lit<}
use Rattle.std.specs.Prelude.{nat_lt, nat_le}
use Rattle.std.specs.List.{list_all}
use Rattle.std.proofs.lemmas.Bool.{and_parts, ltb-true, leb-true}
use Rattle.graph_model.specs.declared.record.Record.{Record}
use Rattle.graph_model.specs.Change.{encoded_lens}
use Rattle.graph_model.specs.Records.{number_end, transaction_most, has_destination, is_record, made_vertices, all_changes}
use Rattle.graph_recover.specs.Bases.{greatest_of}

pub greatest_of-append : (xs ys : List ℕ) → greatest_of (xs ++ ys) ≡ max (greatest_of xs) (greatest_of ys)
greatest_of-append [] ys = omega arith
greatest_of-append (x ∷ xs) ys = let rest = greatest_of-append xs ys in omega (arith, rest)

-- what a record keeps of its numbers
pub record-numbers : (epoch next : ℕ) (r : Record) → is_record epoch next r ≡ true → (next ≤ r.tid) × (r.tid < number_end) × (epoch ≤ r.read) × (r.read < r.epoch) × (r.epoch < number_end)
record-numbers epoch next r ok =
    let one = and_parts (nat_le next r.tid && nat_lt r.tid number_end && nat_le epoch r.read && nat_lt r.read r.epoch && nat_lt r.epoch number_end && nat_lt 0 (length r.changes) && nat_le (encoded_lens r.changes) transaction_most) (list_all has_destination r.changes) ok in
    let two = and_parts (nat_le next r.tid && nat_lt r.tid number_end && nat_le epoch r.read && nat_lt r.read r.epoch && nat_lt r.epoch number_end && nat_lt 0 (length r.changes)) (nat_le (encoded_lens r.changes) transaction_most) one.0 in
    let three = and_parts (nat_le next r.tid && nat_lt r.tid number_end && nat_le epoch r.read && nat_lt r.read r.epoch && nat_lt r.epoch number_end) (nat_lt 0 (length r.changes)) two.0 in
    let four = and_parts (nat_le next r.tid && nat_lt r.tid number_end && nat_le epoch r.read && nat_lt r.read r.epoch) (nat_lt r.epoch number_end) three.0 in
    let five = and_parts (nat_le next r.tid && nat_lt r.tid number_end && nat_le epoch r.read) (nat_lt r.read r.epoch) four.0 in
    let six = and_parts (nat_le next r.tid && nat_lt r.tid number_end) (nat_le epoch r.read) five.0 in
    let seven = and_parts (nat_le next r.tid) (nat_lt r.tid number_end) six.0 in
    (leb-true next r.tid seven.0, ltb-true r.tid number_end seven.1, leb-true epoch r.read six.1, ltb-true r.read r.epoch five.1, ltb-true r.epoch number_end four.1)

-- the numbers of records are below the end
pub numbers-below : (rs : List Record) → list_all (is_record 0 1) rs ≡ true → greatest_of (map (λ r. r.tid) rs) < number_end
numbers-below [] each = lit< tt
numbers-below (r ∷ rs) each =
    let parts = and_parts (is_record 0 1 r) (list_all (is_record 0 1) rs) each in
    let one = record-numbers 0 1 r parts.0 in
    let rest = numbers-below rs parts.1 in
    omega (arith, one.1, rest)

vertices-below : (vs : List ℕ) → list_all (λ v. nat_le 1 v && nat_lt v number_end) vs ≡ true → greatest_of vs < number_end
vertices-below [] each = lit< tt
vertices-below (v ∷ vs) each =
    let parts = and_parts (nat_le 1 v && nat_lt v number_end) (list_all (λ w. nat_le 1 w && nat_lt w number_end) vs) each in
    let one = ltb-true v number_end (and_parts (nat_le 1 v) (nat_lt v number_end) parts.0).1 in
    let rest = vertices-below vs parts.1 in
    omega (arith, one, rest)

-- and so are those of the vertices that they made
pub made-below : (rs : List Record) → list_all (λ v. nat_le 1 v && nat_lt v number_end) (made_vertices (all_changes rs)) ≡ true → greatest_of (made_vertices (all_changes rs)) < number_end
made-below rs = vertices-below (made_vertices (all_changes rs))
