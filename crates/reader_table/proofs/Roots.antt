-- The root has the least of the leaves.
use Rattle.std.proofs.Common.{ℕ, zero, suc, ◌≡◌, ◌+◌, ◌*◌, ◌<◌, ◌≤◌, List, [], ◌∷◌, ◌++◌, length, take, drop, get_or, refl, sym, ap, ◌∙◌, arith}
use Rattle.std.proofs.lemmas.List.{length-drop, drop_more, take_more, take_all, get_or-drop}
use Rattle.reader_table.specs.declared.least.Least.{Least}
use Rattle.reader_table.specs.Leasts.{nothing, both, least_of}
use Rattle.reader_table.specs.Nodes.{IsGathered}

same_least : (a b : Least) → a.read ≡ b.read → a.tid ≡ b.tid → a.closed ≡ b.closed → a ≡ b
same_least a b r t c = λ i. record { read = r i; tid = t i; closed = c i }

-- of two and a third, the order does not matter
swapped : (a b c : Least) → both a (both b c) ≡ both b (both a c)
swapped a b c = same_least (both a (both b c)) (both b (both a c)) (omega arith) (omega arith) (omega arith)

grouped : (a b c : Least) → both (both a b) c ≡ both b (both a c)
grouped a b c = same_least (both (both a b) c) (both b (both a c)) (omega arith) (omega arith) (omega arith)

pub least_of-push : (xs : List Least) (y : Least) → least_of (xs ++ y ∷ []) ≡ both y (least_of xs)
least_of-push [] y = refl
least_of-push (x ∷ xs) y = ap (both x) (least_of-push xs y) ∙ swapped x y (least_of xs)

-- One node is taken out, and the two below it come in.
window : (nodes : List Least) (m j : ℕ) → m ≡ j + 1 → 2 * m + 1 < length nodes →
    get_or nodes m nothing ≡ both (get_or nodes (2 * m) nothing) (get_or nodes (2 * m + 1) nothing) →
    least_of (take (m + 1) (drop (m + 1) nodes)) ≡ least_of (get_or nodes m nothing ∷ take j (drop (m + 1) nodes))
window nodes m j next within is =
    let rest : List Least = drop (m + 1) nodes in
    let n = length-drop (m + 1) nodes in
    let a : Least = get_or nodes (2 * m) nothing in
    let b : Least = get_or nodes (2 * m + 1) nothing in
    let t : List Least = take j rest in
    let first : get_or rest j nothing ≡ a = get_or-drop (m + 1) nodes j nothing ∙ ap (λ (k : ℕ). get_or nodes k nothing) (let e : m + 1 + j ≡ 2 * m = omega arith in e) in
    let second : get_or rest (j + 1) nothing ≡ b = get_or-drop (m + 1) nodes (j + 1) nothing ∙ ap (λ (k : ℕ). get_or nodes k nothing) (let e : m + 1 + (j + 1) ≡ 2 * m + 1 = omega arith in e) in
    let one : take (j + 1) rest ≡ t ++ a ∷ [] = take_more rest j nothing (omega (arith, n)) ∙ ap (λ (x : Least). t ++ x ∷ []) first in
    let two : take (j + 1 + 1) rest ≡ (t ++ a ∷ []) ++ b ∷ [] =
    take_more rest (j + 1) nothing (omega (arith, n)) ∙ ap (λ (xs : List Least). xs ++ get_or rest (j + 1) nothing ∷ []) one ∙ ap (λ (x : Least). (t ++ a ∷ []) ++ x ∷ []) second in
    let count : m + 1 ≡ j + 1 + 1 = omega arith in
    ap (λ (k : ℕ). least_of (take k rest)) count ∙ ap least_of two
    ∙ least_of-push (t ++ a ∷ []) b ∙ ap (both b) (least_of-push t a)
    ∙ sym (grouped a b (least_of t)) ∙ ap (λ (x : Least). both x (least_of t)) (sym is)

opened_window : (nodes : List Least) (m j : ℕ) → m ≡ j + 1 → m < length nodes → take m (drop m nodes) ≡ get_or nodes m nothing ∷ take j (drop (m + 1) nodes)
opened_window nodes m j next within =
    let e : m ≡ suc j = omega arith in
    ap (take m) (drop_more nodes m nothing within) ∙ ap (λ (k : ℕ). take k (get_or nodes m nothing ∷ drop (m + 1) nodes)) e

-- what the nodes from m up to 2m have, the root has
pub window_root : (nodes : List Least) (j : ℕ) → 2 * (j + 1) ≤ length nodes → IsGathered 0 nodes →
    least_of (take (j + 1) (drop (j + 1) nodes)) ≡ both (get_or nodes 1 nothing) nothing
window_root nodes zero long gathered = ap least_of (opened_window nodes 1 0 refl (omega arith))
window_root nodes (suc j) long gathered =
    let m : ℕ = j + 1 in
    let e : suc j ≡ j + 1 = omega arith in
    ap (λ (k : ℕ). least_of (take (k + 1) (drop (k + 1) nodes))) e
    ∙ window nodes m j refl (omega arith) (gathered m (omega arith) (omega arith) (λ (h : m ≡ 0). omega arith))
    ∙ ap least_of (sym (opened_window nodes m j refl (omega arith)))
    ∙ window_root nodes j (omega arith) gathered

-- what all leaves have, the root has
pub leaves_root : (nodes : List Least) (room : ℕ) → 0 < room → length nodes ≡ room + room → IsGathered 0 nodes →
    least_of (drop room nodes) ≡ both (get_or nodes 1 nothing) nothing
leaves_root nodes zero some long gathered = absurd (omega arith)
leaves_root nodes (suc j) some long gathered =
    let e : suc j ≡ j + 1 = omega arith in
    let n = length-drop (suc j) nodes in
    ap least_of (sym (take_all (suc j) (drop (suc j) nodes) (omega (arith, n))))
    ∙ ap (λ (k : ℕ). least_of (take k (drop k nodes))) e ∙ window_root nodes j (omega arith) gathered
