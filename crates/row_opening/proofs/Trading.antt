-- Blocks that are taken from a room and given back to it.
use Rattle.std.proofs.Common.{◌≡◌, ℕ, zero, suc, ◌<◌, ◌++◌, Bool, true, false, List, [], ◌∷◌, length, get_or, refl, sym, ap, ◌∙◌, arith, append-nil, append_assoc}
use Rattle.std.specs.Prelude.{◌==◌, ◌&&◌, if◌then◌else◌, sum_by, Contains, IsPermutation}
use Rattle.std.specs.List.{list_all}
use Rattle.std.proofs.lemmas.Bool.{and_parts, and_from}
use Rattle.std.proofs.lemmas.Bool.Decides.{nat_tests}
use Rattle.std.proofs.lemmas.List.Folds.{list_all-append}
use Rattle.std.proofs.lemmas.List.Sums.{sum_by-append, sum_by-cons}
use Rattle.std.proofs.lemmas.List.Sorted.{sum_by-IsPermutation}
use Rattle.edge_log.specs.Rooms.{Block, are_apart, AreApart, AreAmong, TakesNew}
use Rattle.edge_log.proofs.BlockLemmas.{apart_sym, apart_among}
use Rattle.vertex_rows.specs.Blocks.{StaysApart, Trades, footprints_of}

pub traded-none : (out : List Block) → Trades out out [] []
traded-none out size = refl

pub traded-new : (before after new : List Block) → TakesNew before after new → Trades before after [] new
traded-new before after new taken size =
    let out = sum_by-IsPermutation size after (new ++ before) taken.out in
    let parts = sum_by-append size new before in
    omega (arith, out, parts)

pub traded-given : (before after given : List Block) → IsPermutation before (given ++ after) → Trades before after given []
traded-given before after given moved size =
    let out = sum_by-IsPermutation size before (given ++ after) moved in
    let parts = sum_by-append size given after in
    omega (arith, out, parts)

-- what was taken is given for others
pub traded-then : (a b c given between taken : List Block) → Trades a b given between → Trades b c between taken → Trades a c given taken
traded-then a b c given between taken first after size =
    let one = first size in
    let two = after size in
    omega (arith, one, two)

-- more is taken
pub traded-more : (a b c xs ys : List Block) → Trades a b [] xs → Trades b c [] ys → Trades a c [] (xs ++ ys)
traded-more a b c xs ys first after size =
    let one = first size in
    let two = after size in
    let parts = sum_by-append size xs ys in
    omega (arith, one, two, parts)

-- and given
pub traded-less : (a b c xs ys zs : List Block) → Trades a b zs (xs ++ ys) → Trades b c ys [] → Trades a c zs xs
traded-less a b c xs ys zs first after size =
    let one = first size in
    let two = after size in
    let parts = sum_by-append size xs ys in
    omega (arith, one, two, parts)

-- how often a block is among others
is_same : Block → Block → Bool
is_same b c = (b.chunk == c.chunk) && ((b.start == c.start) && (b.order == c.order))

count_of : Block → Block → ℕ
count_of b c = if is_same b c then 1 else 0

same_self : (b : Block) → is_same b b ≡ true
unfolding is_same
same_self b = grind (arith, nat_tests)

same_is : (b c : Block) → is_same b c ≡ true → c ≡ b
unfolding is_same
same_is b c same =
    let first = and_parts (b.chunk == c.chunk) ((b.start == c.start) && (b.order == c.order)) same in
    let rest = and_parts (b.start == c.start) (b.order == c.order) first.1 in
    let chunk : c.chunk ≡ b.chunk = grind (arith, nat_tests, first.0) in
    let start : c.start ≡ b.start = grind (arith, nat_tests, rest.0) in
    let order : c.order ≡ b.order = grind (arith, nat_tests, rest.1) in
    ap (λ (n : ℕ). record { chunk = n; start = c.start; order = c.order }) chunk
    ∙ ap (λ (n : ℕ). record { chunk = b.chunk; start = n; order = c.order }) start
    ∙ ap (λ (n : ℕ). record { chunk = b.chunk; start = b.start; order = n }) order

one_of : (b x : Block) → x ≡ b → count_of b x ≡ 1
unfolding count_of
one_of b x e = ap (λ c. if is_same b c then 1 else 0) e ∙ ap (λ (t : Bool). if t then 1 else 0) (same_self b)

zero_of : (b x : Block) → is_same b x ≡ false → count_of b x ≡ 0
unfolding count_of
zero_of b x other = ap (λ (t : Bool). if t then 1 else 0) other

counted : (b : Block) (xs : List Block) → Contains xs b → 0 < sum_by (count_of b) xs
counted b [] found = absurd (omega (arith, found.1))
counted b (x ∷ xs) (zero, lt, at) = omega (arith, one_of b x at, sum_by-cons (count_of b) x xs)
counted b (x ∷ xs) (suc n, lt, at) =
    let rest = counted b xs (n, omega (arith, lt), at) in
    omega (arith, rest, sum_by-cons (count_of b) x xs)

found_in : (b : Block) (xs : List Block) → 0 < sum_by (count_of b) xs → Contains xs b
found_in b [] some = absurd (omega (arith, some))
found_in b (x ∷ xs) some = by_test (is_same b x) refl (found_in b xs)
  where
    by_test : (t : Bool) → is_same b x ≡ t → (0 < sum_by (count_of b) xs → Contains xs b) → Contains (x ∷ xs) b
    by_test true same further = (0, omega arith, same_is b x same)
    by_test false other further =
        let rest = further (omega (arith, some, zero_of b x other, sum_by-cons (count_of b) x xs)) in
        (suc rest.0, omega (arith, rest.1), rest.2)

-- Where blocks were only taken, all that were out are.
pub traded-among : (before after taken : List Block) → Trades before after [] taken → AreAmong before after
traded-among before after taken traded i d lt =
    let b = get_or before i d in
    let here : 0 < sum_by (count_of b) before = counted b before (i, lt, at_itself before i d lt) in
    let sums = traded (count_of b) in
    found_in b after (omega (arith, here, sums))
  where
    at_itself : (xs : List Block) (i : ℕ) (d : Block) → i < length xs → get_or xs i (get_or xs i d) ≡ get_or xs i d
    at_itself [] i d lt = absurd (omega (arith, lt))
    at_itself (x ∷ xs) zero d lt = refl
    at_itself (x ∷ xs) (suc i) d lt = at_itself xs i d (omega (arith, lt))

-- blocks that are apart from two lists
pub apart-both : (out xs ys : List Block) → AreApart out xs → AreApart out ys → AreApart out (xs ++ ys)
apart-both out xs ys one two =
    apart_sym (xs ++ ys) out
    (list_all-append (λ a. list_all (are_apart a) out) xs ys
    ∙ and_from (list_all (λ a. list_all (are_apart a) out) xs) (list_all (λ a. list_all (are_apart a) out) ys) (apart_sym out xs one) (apart_sym out ys two))

-- and two lists that are apart from others
pub apart-parts : (xs ys others : List Block) → AreApart (xs ++ ys) others → AreApart xs others × AreApart ys others
apart-parts xs ys others apart =
    and_parts (list_all (λ a. list_all (are_apart a) others) xs) (list_all (λ a. list_all (are_apart a) others) ys)
    (sym (list_all-append (λ a. list_all (are_apart a) others) xs ys) ∙ apart)

-- what was taken stays apart from what was out before, wherever it moves
pub fresh-stays : (before between old new : List Block) → AreApart before old → Trades before between [] old → StaysApart between old new → AreApart before new
fresh-stays before between old new apart traded stays =
    apart_sym new before (stays before (traded-among before between old traded) (apart_sym before old apart))

-- what is taken next is apart from what was out before
pub fresh-more : (before between xs ys : List Block) → AreApart before xs → Trades before between [] xs → AreApart between ys → AreApart before (xs ++ ys)
fresh-more before between xs ys apart traded next =
    apart-both before xs ys apart (apart_among before between ys (traded-among before between xs traded) next)

-- the blocks of the logs with one more
pub footprints-more : {L : Type 0} (footprint : L → List Block) (logs : List L) (x : L) → footprints_of footprint (logs ++ x ∷ []) ≡ footprints_of footprint logs ++ footprint x
footprints-more footprint [] x = append-nil (footprint x)
footprints-more footprint (y ∷ logs) x = ap (λ bs. footprint y ++ bs) (footprints-more footprint logs x) ∙ sym (append_assoc (footprint y) (footprints_of footprint logs) (footprint x))
