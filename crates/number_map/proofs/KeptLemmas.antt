-- What a map of numbers keeps once its vector or its ordered map has changed.
use Rattle.std.proofs.Common.{ℕ, ◌≡◌, ◌+◌, ◌<◌, ◌≤◌, false, List, Option, Some, None, length, get_or, refl, arith}
use Rattle.std.specs.Prelude.{nat_eq, max, slice_set, if◌then◌else◌, IsSome, Result, Ok, Err, OnErr}
use Rattle.std.specs.BTreeMap as tree
use Rattle.std.specs.Ordering.{nat_cmp, is_gt}
use Rattle.std.proofs.lemmas.Bool.Decides.{nat_tests}
use Rattle.std.proofs.lemmas.Grind.{common_steps, elements}
use Rattle.number_map.specs.declared.number_map.NumberMap.{NumberMap}
use Rattle.number_map.specs.KeptAt.{kept_at, IsWith}

-- a number below the vector's length
pub kept_near : {T : Type 0} (map : NumberMap T) (n : ℕ) → n < length map.near.items → kept_at map n ≡ get_or map.near.items n None
unfolding kept_at
kept_near map n below = grind (arith, nat_tests)

-- a number behind the vector
pub kept_far : {T : Type 0} (map : NumberMap T) (n : ℕ) → length map.near.items ≤ n → kept_at map n ≡ tree.get nat_cmp map.far n
unfolding kept_at
kept_far map n behind = grind (arith, nat_tests)

-- a value is written at a place of the vector
pub with_near : {T : Type 0} (old new : NumberMap T) (n : ℕ) (value : Option T) → n < length old.near.items → new.near.items ≡ slice_set old.near.items n value → ((m : ℕ) → tree.get nat_cmp new.far m ≡ tree.get nat_cmp old.far m) → IsWith n value old new
unfolding kept_at
with_near old new n value below near far m = grind (arith, nat_tests, common_steps, far m)

-- a value is written in the ordered map
pub with_far : {T : Type 0} (old new : NumberMap T) (n : ℕ) (value : Option T) → length old.near.items ≤ n → new.near.items ≡ old.near.items → ((m : ℕ) → tree.get nat_cmp new.far m ≡ (if tree.is_at (nat_cmp n) m then value else tree.get nat_cmp old.far m)) → IsWith n value old new
unfolding kept_at
with_far old new n value behind near far m = grind (arith, nat_tests, common_steps, far m)

-- a value is put at a place up to which the vector grows, and no far number is within it
pub with_put : {T : Type 0} (old new : NumberMap T) (n : ℕ) (value : Option T) → length new.near.items ≡ max (length old.near.items) (n + 1) → ((m : ℕ) → get_or new.near.items m None ≡ (if nat_eq m n then value else get_or old.near.items m None)) → ((m : ℕ) → length old.near.items ≤ m → m ≤ n → tree.get nat_cmp old.far m ≡ None) → ((m : ℕ) → tree.get nat_cmp new.far m ≡ tree.get nat_cmp old.far m) → IsWith n value old new
unfolding kept_at
with_put old new n value long near before far m = grind (arith, nat_tests, common_steps, near m, before m, far m)

-- nothing that the vector or the ordered map tells is changed
pub kept_same : {T : Type 0} (old new : NumberMap T) → length new.near.items ≡ length old.near.items → ((m : ℕ) → get_or new.near.items m None ≡ get_or old.near.items m None) → ((m : ℕ) → tree.get nat_cmp new.far m ≡ tree.get nat_cmp old.far m) → (m : ℕ) → kept_at new m ≡ kept_at old m
unfolding kept_at
kept_same old new long near far m = grind (arith, nat_tests, near m, far m)

-- an element that is written over itself
pub set_same : {A : Type 0} (xs : List A) (i : ℕ) (x d : A) → i < length xs → x ≡ get_or xs i x → (m : ℕ) → get_or (slice_set xs i x) m d ≡ get_or xs m d
set_same xs i x d below is m = grind (arith, elements)

-- what holds whatever the result is
pub on_err : {A E P : Type 0} (r : Result A E) → P → OnErr r P
on_err (Ok x) p = tt
on_err (Err e) p = p

-- what has no value is nothing
pub not_some : {A : Type 0} (o : Option A) → ((x : A) → o ≡ Some x → ⊥) → o ≡ None
not_some None h = refl
not_some (Some x) h = absurd (h x refl)

-- what is not there
pub none_there : {A : Type 0} (o : Option A) → (IsSome o → ⊥) → o ≡ None
none_there None h = refl
none_there (Some x) h = absurd (h refl)

-- nothing is kept where neither the vector nor the ordered map has anything
pub none_kept : {T : Type 0} (map : NumberMap T) (n m : ℕ) → n ≤ m → ((k : ℕ) → n ≤ k → k < length map.near.items → kept_at map k ≡ None) → (length map.near.items ≤ m → tree.get nat_cmp map.far m ≡ None) → kept_at map m ≡ None
none_kept map n m from near far = grind (arith, nat_tests, near m, far, kept_far map m)

pub not_gt : (a b : ℕ) → a ≤ b → is_gt (nat_cmp a b) ≡ false
not_gt a b h = grind (arith, nat_tests)
