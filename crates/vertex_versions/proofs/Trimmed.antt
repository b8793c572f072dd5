-- Trimming as a cut behind the newest version that the horizon reads.
use Rattle.std.proofs.Common.{◌≡◌, ℕ, ◌+◌, ◌≤◌, List, [], ◌∷◌, length, take, refl, ap, sym, ◌∙◌, arith, Some, None}
use Rattle.std.specs.List.{position, position_or_len}
use Rattle.std.proofs.lemmas.Bool.Decides.{nat_tests}
use Rattle.std.proofs.lemmas.List.{take_all}
use Rattle.stamps.specs.Stamps.{Nobody, counts}
use Rattle.vertex_versions.specs.declared.version.Version.{Version}
use Rattle.vertex_versions.specs.Versions.{trimmed_versions}

-- what is kept ends behind the first version that is past
trimmed-take : (h : ℕ) (xs : List Version) → trimmed_versions h xs ≡ take (position_or_len (λ x. counts x.created h Nobody) xs + 1) xs
trimmed-take h [] = refl
trimmed-take h (x ∷ xs) = grind (arith, nat_tests, trimmed-take h xs)

-- where a version is past, what is kept ends behind it
pub trimmed_at : (h : ℕ) (xs : List Version) (n : ℕ) → position (λ x. counts x.created h Nobody) xs ≡ Some n → take (n + 1) xs ≡ trimmed_versions h xs
trimmed_at h xs n found =
    let place : position_or_len (λ x. counts x.created h Nobody) xs ≡ n = grind (arith, nat_tests) in
    ap (λ k. take (k + 1) xs) (sym place) ∙ sym (trimmed-take h xs)

-- where none is, all are kept
pub trimmed_none : (h : ℕ) (xs : List Version) → position (λ x. counts x.created h Nobody) xs ≡ None → xs ≡ trimmed_versions h xs
trimmed_none h xs none =
    let past : length xs ≤ position_or_len (λ x. counts x.created h Nobody) xs = grind (arith, nat_tests) in
    let longer : length xs ≤ position_or_len (λ x. counts x.created h Nobody) xs + 1 = omega arith in
    sym (take_all (position_or_len (λ x. counts x.created h Nobody) xs + 1) xs longer) ∙ sym (trimmed-take h xs)
