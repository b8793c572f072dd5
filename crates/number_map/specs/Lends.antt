-- What a map of numbers is once a value that it lent was changed.
use Rattle.std.specs.Prelude.{ℕ, ◌≡◌, Option, Some, IsSome}
use Rattle.std.specs.Borrow.{LendsSo, RattleType, MutBor, Fml}
use Rattle.number_map.specs.declared.number_map.NumberMap.{NumberMap}
use Rattle.number_map.specs.contracts.number_map.NumberMap.{the_row}
use Rattle.number_map.specs.KeptAt.{kept_at, IsWith}

-- s ends with the last value behind r at n; without r it keeps what it kept
abbrev pub LendsAt : (T : RattleType) → MutBor (NumberMap T.Denot) → ℕ → Option (MutBor T.Denot) → Fml
LendsAt T s n r =
    LendsSo (the_row T) T s r (λ new w. IsSome (kept_at s.now n) → IsWith n (Some w) s.now new)
    (λ new. (m : ℕ) → kept_at new m ≡ kept_at s.now m)
