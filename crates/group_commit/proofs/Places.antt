-- Places that all hold a member.
use Rattle.std.proofs.Common.{◌≡◌, ℕ, zero, suc, ◌≤◌, List, [], ◌∷◌, length, refl, arith, Option, Some, None, ap, sym, ◌∙◌, ◌+◌, ◌++◌, length-append, append-nil}
use Rattle.std.specs.Prelude.{slice_get, reverse, take, drop, IsSome}
use Rattle.std.specs.List.{refill}
use Rattle.std.specs.Option.{option_to_list}
use Rattle.std.proofs.lemmas.List.{reverse-append, length-reverse, drop_all, take_all}
use Rattle.std.proofs.lemmas.Grind.{flat_map-append}
use Rattle.group_commit.specs.Encoded.{Encoded}
use Rattle.group_commit.specs.Members.{members_of}

-- what stands in a place, if the place is there
abbrev pub in_place : Option (Option Encoded) → Option Encoded
in_place None = None
in_place (Some m) = m

-- no more members than places
pub fewer : (places : List (Option Encoded)) → length (members_of places) ≤ length places
fewer [] = omega arith
fewer (None ∷ places) = omega (arith, fewer places)
fewer (Some m ∷ places) = omega (arith, fewer places)

-- the member of a number is that of the place of this number
pub slice_get-members_of : (places : List (Option Encoded)) (i : ℕ) → length (members_of places) ≡ length places → slice_get (members_of places) i ≡ in_place (slice_get places i)
slice_get-members_of [] i all = refl
slice_get-members_of (None ∷ places) i all = absurd (omega (arith, fewer places))
slice_get-members_of (Some m ∷ places) zero all = refl
slice_get-members_of (Some m ∷ places) (suc i) all = slice_get-members_of places i (omega arith)

-- the members of places that are turned round are turned round
pub members_of-reverse : (places : List (Option Encoded)) → members_of (reverse places) ≡ reverse (members_of places)
members_of-reverse [] = refl
members_of-reverse (None ∷ places) =
    ap members_of (reverse-append (None ∷ []) places)
    ∙ flat_map-append option_to_list (reverse places) (None ∷ [])
    ∙ append-nil (members_of (reverse places))
    ∙ members_of-reverse places
members_of-reverse (Some m ∷ places) =
    ap members_of (reverse-append (Some m ∷ []) places)
    ∙ flat_map-append option_to_list (reverse places) (Some m ∷ [])
    ∙ ap (λ (l : List Encoded). l ++ m ∷ []) (members_of-reverse places)
    ∙ sym (reverse-append (m ∷ []) (members_of places))

-- places that all hold a member, turned round
pub turned : (places other : List (Option Encoded)) → length (members_of places) ≡ length places → other ≡ reverse places → (length (members_of other) ≡ length other) × (members_of other ≡ reverse (members_of places))
turned places other all is =
    let same : members_of other ≡ reverse (members_of places) = ap members_of is ∙ members_of-reverse places in (
      ap length same ∙ length-reverse (members_of places) ∙ all ∙ sym (ap length is ∙ length-reverse places),
      same,
    )

-- the last place holds a member, and so do all the others
pub popped : (places rest : List (Option Encoded)) (r : Option Encoded) → length (members_of places) ≡ length places → places ≡ rest ++ r ∷ [] → (length (members_of rest) ≡ length rest) × IsSome r
popped places rest r all is =
    let many : length (members_of places) ≡ length (members_of rest) + length (option_to_list r ++ []) =
    ap (λ (l : List (Option Encoded)). length (members_of l)) is ∙ ap length (flat_map-append option_to_list rest (r ∷ [])) ∙ length-append (members_of rest) (option_to_list r ++ []) in
    let long : length places ≡ length rest + 1 = ap length is ∙ length-append rest (r ∷ []) in
    ends r many long
  where
    ends : (r : Option Encoded) → length (members_of places) ≡ length (members_of rest) + length (option_to_list r ++ []) → length places ≡ length rest + 1 → (length (members_of rest) ≡ length rest) × IsSome r
    ends None many long = absurd (let few = fewer rest in omega (arith, many, long, few, all))
    ends (Some m) many long = (omega (arith, many, long, all), refl)

-- as many other places in the place of these
pub refilled : (places other : List (Option Encoded)) → length other ≡ length places → refill (length places) places other ≡ other
refilled places other long =
    let rest : drop (length other) places ≡ [] = drop_all (length other) places (omega (arith, long)) in
    ap (λ (l : List (Option Encoded)). take (length places) (other ++ l)) rest
    ∙ ap (take (length places)) (append-nil other)
    ∙ take_all (length places) other (omega (arith, long))
