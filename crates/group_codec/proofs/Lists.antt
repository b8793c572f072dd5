-- Tests over all items of a list, and over some item.
use Rattle.std.proofs.Common.{◌≡◌, Bool, true, false, not, ◌&&◌, ◌||◌, List, [], ◌∷◌, ◌++◌, map, refl, sym, ap, ◌∙◌, arith}
use Rattle.std.specs.List.{list_any, list_all}
use Rattle.std.proofs.lemmas.Bool.{and_parts, and_from}
use Rattle.std.proofs.lemmas.Bool.Decides.{nat_tests}
use Rattle.std.proofs.lemmas.List.Folds.{list_all-append}

pub all_same : {X : Type 0} (p q : X → Bool) (xs : List X) → ((x : X) → p x ≡ q x) → list_all p xs ≡ list_all q xs
all_same p q [] same = refl
all_same p q (x ∷ xs) same = let here = same x in let rest = all_same p q xs same in (cc)

-- where another test holds of all
pub all_same_where : {X : Type 0} (k p q : X → Bool) (xs : List X) → list_all k xs ≡ true → ((x : X) → k x ≡ true → p x ≡ q x) → list_all p xs ≡ list_all q xs
all_same_where k p q [] h same = refl
all_same_where k p q (x ∷ xs) h same =
    let parts = and_parts (k x) (list_all k xs) h in
    let here = same x parts.0 in
    let rest = all_same_where k p q xs parts.1 same in (cc)

-- and where one test gives the other
pub all_more : {X : Type 0} (p q : X → Bool) (xs : List X) → ((x : X) → p x ≡ true → q x ≡ true) → list_all p xs ≡ true → list_all q xs ≡ true
all_more p q [] more h = refl
all_more p q (x ∷ xs) more h =
    let parts = and_parts (p x) (list_all p xs) h in
    and_from (q x) (list_all q xs) (more x parts.0) (all_more p q xs more parts.1)

pub all_both : {X : Type 0} (p q : X → Bool) (xs : List X) → list_all (λ x. p x && q x) xs ≡ (list_all p xs && list_all q xs)
all_both p q [] = refl
all_both p q (x ∷ xs) = let rest = all_both p q xs in grind (arith, nat_tests)

pub any_same : {X : Type 0} (p q : X → Bool) (xs : List X) → ((x : X) → p x ≡ q x) → list_any p xs ≡ list_any q xs
any_same p q [] same = refl
any_same p q (x ∷ xs) same = let here = same x in let rest = any_same p q xs same in (cc)

any_never : {X : Type 0} (xs : List X) → list_any (λ x. false) xs ≡ false
any_never [] = refl
any_never (x ∷ xs) = any_never xs

any_either : {X : Type 0} (p q : X → Bool) (xs : List X) → (list_any p xs || list_any q xs) ≡ list_any (λ x. p x || q x) xs
any_either p q [] = refl
any_either p q (x ∷ xs) = let rest = any_either p q xs in grind (arith, nat_tests)

-- some of these with some of those, whichever is named first
pub any_any : {X Y : Type 0} (f : X → Y → Bool) (xs : List X) (ys : List Y) → list_any (λ x. list_any (f x) ys) xs ≡ list_any (λ y. list_any (λ x. f x y) xs) ys
any_any f [] ys = sym (any_never ys)
any_any f (x ∷ xs) ys =
    ap (λ b. list_any (f x) ys || b) (any_any f xs ys) ∙ any_either (f x) (λ y. list_any (λ z. f z y) xs) ys

pub not_any : {X : Type 0} (p : X → Bool) (xs : List X) → list_all (λ x. not (p x)) xs ≡ not (list_any p xs)
not_any p [] = refl
not_any p (x ∷ xs) = let rest = not_any p xs in grind (arith, nat_tests)

pub any_map : {X Y : Type 0} (h : X → Y) (p : Y → Bool) (xs : List X) → list_any p (map h xs) ≡ list_any (λ x. p (h x)) xs
any_map h p [] = refl
any_map h p (x ∷ xs) = ap (λ b. p (h x) || b) (any_map h p xs)

-- all of a front
pub all_front : {X : Type 0} (p : X → Bool) (xs ys : List X) → list_all p (xs ++ ys) ≡ true → list_all p xs ≡ true
all_front p xs ys h = (and_parts (list_all p xs) (list_all p ys) (sym (list_all-append p xs ys) ∙ h)).0

pub all_back : {X : Type 0} (p : X → Bool) (xs ys : List X) → list_all p (xs ++ ys) ≡ true → list_all p ys ≡ true
all_back p xs ys h = (and_parts (list_all p xs) (list_all p ys) (sym (list_all-append p xs ys) ∙ h)).1

-- no item passes the one test that is among those that pass the other, told from either list
all_split : {X : Type 0} (t f g : X → Bool) (xs : List X) → list_all (λ x. not (t x && (f x || g x))) xs ≡ (list_all (λ x. not (f x && t x)) xs && list_all (λ x. not (t x && g x)) xs)
all_split t f g [] = refl
all_split t f g (x ∷ xs) =
    let rest = all_split t f g xs in
    join (t x) (f x) (g x) (list_all (λ z. not (t z && (f z || g z))) xs) (list_all (λ z. not (f z && t z)) xs) (list_all (λ z. not (t z && g z)) xs) rest
  where
    join : (a b c d e h : Bool) → d ≡ (e && h) → (not (a && (b || c)) && d) ≡ ((not (b && a) && e) && (not (a && c) && h))
    join a b c d e h s = grind (arith, nat_tests)

all_never : {X : Type 0} (t : X → Bool) (xs : List X) → list_all (λ x. not (t x && false)) xs ≡ true
all_never t [] = refl
all_never t (x ∷ xs) = let rest = all_never t xs in go (t x) rest
  where
    go : {b : Bool} (a : Bool) → b ≡ true → (not (a && false) && b) ≡ true
    go true e = e
    go false e = e

pub all_none : {X Y : Type 0} (t : X → Bool) (f : Y → X → Bool) (xs : List X) (ys : List Y) →
    list_all (λ x. not (t x && list_any (λ y. f y x) ys)) xs ≡ list_all (λ y. not (list_any (λ x. f y x && t x) xs)) ys
all_none t f xs [] = all_never t xs
all_none t f xs (y ∷ ys) =
    all_split t (f y) (λ x. list_any (λ z. f z x) ys) xs
    ∙ ap (λ b. b && list_all (λ x. not (t x && list_any (λ z. f z x) ys)) xs) (not_any (λ x. f y x && t x) xs)
    ∙ ap (λ b. not (list_any (λ x. f y x && t x) xs) && b) (all_none t f xs ys)
