-- Which blocks are out where one is out more than before.
use Rattle.std.proofs.Common.{ℕ, zero, suc, ◌≡◌, ◌<◌, List, ◌∷◌, ◌++◌, length, get_or, refl, sym, subst, inl, inr, arith}
use Rattle.std.specs.Prelude.{Contains}
use Rattle.std.proofs.lemmas.List.Elements.{Contains-append_cases, Contains-append_left, Contains-append_right}
use Rattle.block_pool.specs.Blocks.{Area, HasOneMore}

head_in : (b : Area) (xs : List Area) → Contains (b ∷ xs) b
head_in b xs = (0, omega arith, refl)

tail_in : (a b : Area) (xs : List Area) → Contains xs a → Contains (b ∷ xs) a
tail_in a b xs has = (suc has.0, (let h = has.1 in omega (arith, h)), has.2)

tail_of : (a b : Area) (xs : List Area) → Contains (b ∷ xs) a → (a ≡ b → ⊥) → Contains xs a
tail_of a b xs has other = at has.0 has.1 has.2
  where
    at : (k : ℕ) → k < length (b ∷ xs) → get_or (b ∷ xs) k a ≡ a → Contains xs a
    at zero within is = absurd (other (sym is))
    at (suc k) within is = (k, omega arith, is)

-- the one is among them
pub more_has : (b : Area) (old new : List Area) → HasOneMore b old new → Contains new b
more_has b old new more = subst (λ (xs : List Area). Contains xs b) (sym more.new_is) (Contains-append_right more.before (b ∷ more.after) b (head_in b more.after))

-- those of before are
pub more_keeps : (b : Area) (old new : List Area) → HasOneMore b old new → (a : Area) → Contains old a → Contains new a
more_keeps b old new more a has =
    let was : Contains (more.before ++ more.after) a = subst (λ (xs : List Area). Contains xs a) more.old_is has in
    subst (λ (xs : List Area). Contains xs a) (sym more.new_is) (elim (Contains-append_cases more.before more.after a was) [
      | inl h ↦ Contains-append_left more.before (b ∷ more.after) a h
      | inr h ↦ Contains-append_right more.before (b ∷ more.after) a (tail_in a b more.after h)
    ])

-- and no others
pub less_keeps : (b : Area) (old new : List Area) → HasOneMore b old new → (a : Area) → Contains new a → (a ≡ b → ⊥) → Contains old a
less_keeps b old new more a has other =
    let is : Contains (more.before ++ b ∷ more.after) a = subst (λ (xs : List Area). Contains xs a) more.new_is has in
    subst (λ (xs : List Area). Contains xs a) (sym more.old_is) (elim (Contains-append_cases more.before (b ∷ more.after) a is) [
      | inl h ↦ Contains-append_left more.before more.after a h
      | inr h ↦ Contains-append_right more.before more.after a (tail_of a b more.after h other)
    ])
