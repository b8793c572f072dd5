-- Blocks that are apart: the other way round, and from fewer blocks.
use Rattle.std.proofs.Common.{◌≡◌, ℕ, ◌<◌, true, List, length, get_or, subst, arith}
use Rattle.std.proofs.lemmas.Bool.Decides.{nat_tests}
use Rattle.std.proofs.lemmas.List.Sums.{AllPass-from_list_all, list_all-from_AllPass}
use Rattle.std.specs.List.{list_all}
use Rattle.edge_log.specs.Rooms.{Block, are_apart, AreApart, AreAmong}

-- lists of blocks are apart exactly where each two blocks are
pub apart_at : (xs ys : List Block) → AreApart xs ys → (i j : ℕ) (d e : Block) → i < length xs → j < length ys → are_apart (get_or xs i d) (get_or ys j e) ≡ true
apart_at xs ys apart i j d e li lj =
    AllPass-from_list_all (are_apart (get_or xs i d)) ys (AllPass-from_list_all (λ a. list_all (are_apart a) ys) xs apart i d li) j e lj

pub apart_from : (xs ys : List Block) → ((i j : ℕ) (d e : Block) → i < length xs → j < length ys → are_apart (get_or xs i d) (get_or ys j e) ≡ true) → AreApart xs ys
apart_from xs ys each =
    list_all-from_AllPass (λ a. list_all (are_apart a) ys) xs (λ i d li. list_all-from_AllPass (are_apart (get_or xs i d)) ys (λ j e lj. each i j d e li lj))

are_apart_sym : (a b : Block) → are_apart a b ≡ true → are_apart b a ≡ true
are_apart_sym a b apart = grind (arith, nat_tests, apart)

pub apart_sym : (xs ys : List Block) → AreApart xs ys → AreApart ys xs
apart_sym xs ys apart = apart_from ys xs (λ i j d e li lj. are_apart_sym (get_or xs j e) (get_or ys i d) (apart_at xs ys apart j i e d lj li))

-- what is apart from all of ys is apart from those among them
pub apart_among : (xs ys zs : List Block) → AreAmong xs ys → AreApart ys zs → AreApart xs zs
apart_among xs ys zs among apart = apart_from xs zs (λ i j d e li lj.
    let found = among i d li in
    subst (λ b. are_apart b (get_or zs j e) ≡ true) found.2 (apart_at ys zs apart found.0 j (get_or xs i d) e found.1 lj))
