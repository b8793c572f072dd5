-- A call that is held up has looked sixteen times, and there are such calls.
use Rattle.std.proofs.Common.{ℕ, zero, suc, ◌+◌, ◌≤◌, List, [], ◌∷◌, refl, ap, arith, inl}
use Rattle.core_states.specs.declared.event.Act.TheVariants as act
use Rattle.core_states.specs.declared.event.CoreAnswer.TheVariants as answer
use Rattle.core_calls.specs.Events.{Told, told}
use Rattle.core_calls.specs.Calls.{First, InVain, Leaves, Nothing, IsHeldUp}
use Rattle.core_calls.specs.Looks.{looks}

in_vain : (n v : ℕ) (Rest : List Told → Type 0) → ((es : List Told) → Rest es → 1 ≤ looks es) → (es : List Told) → InVain n v Rest es → n + 1 ≤ looks es
in_vain zero v Rest f es r = omega (arith, f es r)
in_vain (suc n) v Rest f es r =
    let ih = in_vain n v Rest f r.1.0 r.1.2 in
    let e = ap looks r.1.1 in
    omega (arith, ih, e)

pub sixteen : (v u : ℕ) (es : List Told) → IsHeldUp v u es → 16 ≤ looks es
sixteen v u es h = in_vain 15 v (First (act.Look v) (answer.Held u) (Leaves Nothing)) (λ xs r. let e = ap looks r.1 in omega (arith, e)) es h

-- so many looks, and then the end
abbrev vain : ℕ → List Told → List Told
vain zero es = es
vain (suc n) es = told (act.Look 5) (answer.Held 2) ∷ vain n es

vain_is : (n : ℕ) (Rest : List Told → Type 0) (es : List Told) → Rest es → InVain n 5 Rest (vain n es)
vain_is zero Rest es r = r
vain_is (suc n) Rest es r = (2, (vain n es, refl, vain_is n Rest es r))

pub held_up : (es : List Told) × IsHeldUp 5 2 es
held_up =
    let last = told act.End answer.Done ∷ [] in
    (vain 15 (told (act.Look 5) (answer.Held 2) ∷ last), vain_is 15 (First (act.Look 5) (answer.Held 2) (Leaves Nothing)) (told (act.Look 5) (answer.Held 2) ∷ last) (last, refl, inl (refl, refl)))
