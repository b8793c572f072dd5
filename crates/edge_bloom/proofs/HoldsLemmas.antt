-- What a filter that has the bits of some destinations answers.
use Rattle.std.proofs.Common.{ℕ, ◌≡◌, ◌*◌, Bool, true, false, ◌||◌, ◌==◌, IsTrue, List, [], ◌∷◌, length, refl, ap, sym, ◌∙◌, subst}
use Rattle.std.proofs.Math.Bool.{or_comm}
use Rattle.std.proofs.lemmas.Bool.{eqb-true, eq-eqb}
use Rattle.std.specs.List.{list_any}
use Rattle.edge_bloom.specs.Filters.{HasBitsOf, bits_of, is_set, is_place_of, holds, first_place, second_place, third_place}

-- with the bits of one destination more
pub has_more : (old new : List ℕ) (d : ℕ) (ds : List ℕ) → length new ≡ length old →
    ((b : ℕ) → is_set new b ≡ (is_set old b || is_place_of (bits_of old) d b)) → HasBitsOf old ds → HasBitsOf new (d ∷ ds)
has_more old new d ds len bits had b =
    let P : ℕ → Type 0 = λ n. is_set new b ≡ (is_place_of (8 * n) d b || list_any (λ e. is_place_of (8 * n) e b) ds) in
    subst P (sym len)
    (bits b ∙ ap (λ (t : Bool). t || is_place_of (bits_of old) d b) (had b)
    ∙ or_comm (list_any (λ e. is_place_of (bits_of old) e b) ds) (is_place_of (bits_of old) d b))

or-true-l : (a b : Bool) → a ≡ true → (a || b) ≡ true
or-true-l a b e = ap (λ (t : Bool). t || b) e

or-true-r : (a b : Bool) → b ≡ true → (a || b) ≡ true
or-true-r true b e = refl
or-true-r false b e = e

-- a bit of a destination that is among them is a bit of one of them
place_among : (m d b : ℕ) (ds : List ℕ) → is_place_of m d b ≡ true → list_any (λ e. e == d) ds ≡ true → list_any (λ e. is_place_of m e b) ds ≡ true
place_among m d b [] place among = among
place_among m d b (x ∷ xs) place among =
    elim (x == d) as (λ t. (x == d) ≡ t → (t || list_any (λ e. e == d) xs) ≡ true → (is_place_of m x b || list_any (λ e. is_place_of m e b) xs) ≡ true) [
      | true ↦ λ e h. or-true-l _ _ (ap (λ (y : ℕ). is_place_of m y b) (eqb-true x d e) ∙ place)
      | false ↦ λ e h. or-true-r _ _ (place_among m d b xs place h)
    ] refl among

first_is : (m d : ℕ) → is_place_of m d (first_place m d) ≡ true
first_is m d = or-true-l _ _ (eq-eqb (first_place m d) (first_place m d) refl)

second_is : (m d : ℕ) → is_place_of m d (second_place m d) ≡ true
second_is m d = or-true-r _ _ (or-true-l _ _ (eq-eqb (second_place m d) (second_place m d) refl))

third_is : (m d : ℕ) → is_place_of m d (third_place m d) ≡ true
third_is m d = or-true-r _ _ (or-true-r _ _ (eq-eqb (third_place m d) (third_place m d) refl))

-- all three bits of a destination that is among them are set
pub holds-among : (filter : List ℕ) (d : ℕ) (ds : List ℕ) → HasBitsOf filter ds → IsTrue (list_any (λ e. e == d) ds) → holds filter d ≡ true
holds-among filter d ds has among =
    let m : ℕ = bits_of filter in
    let first = has (first_place m d) ∙ place_among m d (first_place m d) ds (first_is m d) among in
    let second = has (second_place m d) ∙ place_among m d (second_place m d) ds (second_is m d) among in
    let third = has (third_place m d) ∙ place_among m d (third_place m d) ds (third_is m d) among in
    rw (first, second, third) refl
