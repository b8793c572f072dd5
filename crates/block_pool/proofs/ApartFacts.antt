-- The blocks that are out of a pool are apart, since the halves of a part are.
use Rattle.std.proofs.Common.{ℕ, zero, suc, ◌≡◌, ◌+◌, ◌≤◌, Bool, true, false, ◌&&◌, ◌||◌, ◌==◌, List, [], ◌∷◌, ◌++◌, refl, ap, ◌∙◌, arith}
use Rattle.std.specs.Prelude.{nat_le, not}
use Rattle.std.specs.List.{list_all}
use Rattle.std.proofs.lemmas.Bool.{and_parts, eqb-true, eq-eqb, ne_eqb}
use Rattle.std.proofs.lemmas.Bool.Decides.{nat_tests}
use Rattle.std.proofs.lemmas.List.Folds.{list_all-append}
use Rattle.block_pool.specs.Blocks.{Area, len_of, area_end, are_apart}
use Rattle.block_pool.specs.Trees.{Tree, Free, Out, Split, out_of}
use Rattle.block_pool.specs.Pools.{ChunkContent, out_from, are_all_apart}
use Rattle.block_pool.proofs.TreeFacts.{and-intro}
use Rattle.block_pool.proofs.Halves.{pow-suc2}

-- a block lies in a chunk between two bytes
abbrev inside : ℕ → ℕ → ℕ → Area → Bool
inside c s e a = a.chunk == c && (nat_le s a.start && nat_le (area_end a) e)

le_true : (m n : ℕ) → m ≤ n → nat_le m n ≡ true
le_true m n h = grind (arith, nat_tests)

true_le : (m n : ℕ) → nat_le m n ≡ true → m ≤ n
true_le m n h = grind (arith, nat_tests)

each : (p q : Area → Bool) (xs : List Area) → ((a : Area) → p a ≡ true → q a ≡ true) → list_all p xs ≡ true → list_all q xs ≡ true
each p q [] f h = refl
each p q (x ∷ xs) f h = let parts = and_parts (p x) (list_all p xs) h in and-intro (q x) (list_all q xs) (f x parts.0) (each p q xs f parts.1)

cross : (p q : Area → Bool) (xs ys : List Area) → ((a b : Area) → p a ≡ true → q b ≡ true → are_apart a b ≡ true) → list_all p xs ≡ true → list_all q ys ≡ true →
    list_all (λ a. list_all (are_apart a) ys) xs ≡ true
cross p q xs ys f hx hy = each p (λ a. list_all (are_apart a) ys) xs (λ a pa. each q (are_apart a) ys (λ b qb. f a b pa qb) hy) hx

all_apart-append : (xs ys : List Area) → are_all_apart xs ≡ true → are_all_apart ys ≡ true → list_all (λ a. list_all (are_apart a) ys) xs ≡ true → are_all_apart (xs ++ ys) ≡ true
all_apart-append [] ys hx hy h = hy
all_apart-append (x ∷ xs) ys hx hy h =
    let px = and_parts (list_all (are_apart x) xs) (are_all_apart xs) hx in
    let ph = and_parts (list_all (are_apart x) ys) (list_all (λ a. list_all (are_apart a) ys) xs) h in
    and-intro (list_all (are_apart x) (xs ++ ys)) (are_all_apart (xs ++ ys))
    (list_all-append (are_apart x) xs ys ∙ and-intro (list_all (are_apart x) xs) (list_all (are_apart x) ys) px.0 ph.0)
    (all_apart-append xs ys px.1 hy ph.1)

widen : (c s e s' e' : ℕ) (a : Area) → s ≤ s' → e' ≤ e → inside c s' e' a ≡ true → inside c s e a ≡ true
widen c s e s' e' a hs he h =
    let p = and_parts (a.chunk == c) (nat_le s' a.start && nat_le (area_end a) e') h in
    let q = and_parts (nat_le s' a.start) (nat_le (area_end a) e') p.1 in
    let lo = true_le s' a.start q.0 in
    let hi = true_le (area_end a) e' q.1 in
    and-intro (a.chunk == c) (nat_le s a.start && nat_le (area_end a) e) p.0
    (and-intro (nat_le s a.start) (nat_le (area_end a) e) (le_true s a.start (omega (arith, lo, hs))) (le_true (area_end a) e (omega (arith, hi, he))))

twice_len : (o : ℕ) → len_of (suc o) ≡ len_of o + len_of o
twice_len o = let p = pow-suc2 o in omega (arith, p)

-- the blocks of a part lie in it
of_part : (o c s : ℕ) (t : Tree) → list_all (inside c s (s + len_of o)) (out_of c o s t) ≡ true
of_part o c s Free = refl
of_part o c s Out = and-intro (inside c s (s + len_of o) (record { chunk = c; start = s; order = o })) true
    (and-intro (c == c) (nat_le s s && nat_le (s + len_of o) (s + len_of o)) (eq-eqb c c refl) (and-intro (nat_le s s) (nat_le (s + len_of o) (s + len_of o)) (le_true s s (omega arith)) (le_true (s + len_of o) (s + len_of o) (omega arith)))) refl
of_part zero c s (Split l u) = refl
of_part (suc o) c s (Split l u) =
    let e = twice_len o in
    list_all-append (inside c s (s + len_of (suc o))) (out_of c o s l) (out_of c o (s + len_of o) u)
    ∙ and-intro (list_all (inside c s (s + len_of (suc o))) (out_of c o s l)) (list_all (inside c s (s + len_of (suc o))) (out_of c o (s + len_of o) u))
    (each (inside c s (s + len_of o)) (inside c s (s + len_of (suc o))) (out_of c o s l) (λ a h. widen c s (s + len_of (suc o)) s (s + len_of o) a (omega arith) (omega (arith, e)) h) (of_part o c s l))
    (each (inside c (s + len_of o) (s + len_of o + len_of o)) (inside c s (s + len_of (suc o))) (out_of c o (s + len_of o) u) (λ a h. widen c s (s + len_of (suc o)) (s + len_of o) (s + len_of o + len_of o) a (omega arith) (omega (arith, e)) h) (of_part o c (s + len_of o) u))

or-true-r : (a b : Bool) → b ≡ true → (a || b) ≡ true
or-true-r true b h = refl
or-true-r false b h = h

before_after : (c s m e : ℕ) (a b : Area) → inside c s m a ≡ true → inside c m e b ≡ true → are_apart a b ≡ true
before_after c s m e a b ha hb =
    let pa = and_parts (a.chunk == c) (nat_le s a.start && nat_le (area_end a) m) ha in
    let qa = and_parts (nat_le s a.start) (nat_le (area_end a) m) pa.1 in
    let pb = and_parts (b.chunk == c) (nat_le m b.start && nat_le (area_end b) e) hb in
    let qb = and_parts (nat_le m b.start) (nat_le (area_end b) e) pb.1 in
    let lo = true_le (area_end a) m qa.1 in
    let hi = true_le m b.start qb.0 in
    or-true-r (not (a.chunk == b.chunk)) (nat_le (area_end a) b.start || nat_le (area_end b) a.start)
    (ap (λ (t : Bool). t || nat_le (area_end b) a.start) (le_true (area_end a) b.start (omega (arith, lo, hi))))

part_apart : (o c s : ℕ) (t : Tree) → are_all_apart (out_of c o s t) ≡ true
part_apart o c s Free = refl
part_apart o c s Out = refl
part_apart zero c s (Split l u) = refl
part_apart (suc o) c s (Split l u) =
    all_apart-append (out_of c o s l) (out_of c o (s + len_of o) u) (part_apart o c s l) (part_apart o c (s + len_of o) u)
    (cross (inside c s (s + len_of o)) (inside c (s + len_of o) (s + len_of o + len_of o)) (out_of c o s l) (out_of c o (s + len_of o) u)
    (λ a b ha hb. before_after c s (s + len_of o) (s + len_of o + len_of o) a b ha hb) (of_part o c s l) (of_part o c (s + len_of o) u))

-- the blocks of later chunks
later : (n : ℕ) (xs : List ChunkContent) → list_all (λ a. nat_le n a.chunk) (out_from n xs) ≡ true
later n [] = refl
later n (x ∷ xs) =
    list_all-append (λ a. nat_le n a.chunk) (out_of n x.order 0 x.tree) (out_from (suc n) xs)
    ∙ and-intro (list_all (λ a. nat_le n a.chunk) (out_of n x.order 0 x.tree)) (list_all (λ a. nat_le n a.chunk) (out_from (suc n) xs))
    (each (inside n 0 (0 + len_of x.order)) (λ a. nat_le n a.chunk) (out_of n x.order 0 x.tree)
    (λ a h. let p = and_parts (a.chunk == n) (nat_le 0 a.start && nat_le (area_end a) (0 + len_of x.order)) h in let e = eqb-true a.chunk n p.0 in le_true n a.chunk (omega (arith, e))) (of_part x.order n 0 x.tree))
    (each (λ a. nat_le (suc n) a.chunk) (λ a. nat_le n a.chunk) (out_from (suc n) xs) (λ a h. let q = true_le (suc n) a.chunk h in le_true n a.chunk (omega (arith, q))) (later (suc n) xs))

other_chunk : (n e : ℕ) (a b : Area) → inside n 0 e a ≡ true → nat_le (suc n) b.chunk ≡ true → are_apart a b ≡ true
other_chunk n e a b ha hb =
    let p = and_parts (a.chunk == n) (nat_le 0 a.start && nat_le (area_end a) e) ha in
    let i = eqb-true a.chunk n p.0 in
    let q = true_le (suc n) b.chunk hb in
    ap (λ (t : Bool). not t || (nat_le (area_end a) b.start || nat_le (area_end b) a.start)) (ne_eqb a.chunk b.chunk (λ (h : a.chunk ≡ b.chunk). absurd (omega (arith, i, q, h))))

pub all_apart : (n : ℕ) (xs : List ChunkContent) → are_all_apart (out_from n xs) ≡ true
all_apart n [] = refl
all_apart n (x ∷ xs) =
    all_apart-append (out_of n x.order 0 x.tree) (out_from (suc n) xs) (part_apart x.order n 0 x.tree) (all_apart (suc n) xs)
    (cross (inside n 0 (0 + len_of x.order)) (λ b. nat_le (suc n) b.chunk) (out_of n x.order 0 x.tree) (out_from (suc n) xs)
    (λ a b ha hb. other_chunk n (0 + len_of x.order) a b ha hb) (of_part x.order n 0 x.tree) (later (suc n) xs))
