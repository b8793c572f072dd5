-- What work between two blocks makes.
use Rattle.std.specs.Prelude.{ℕ, ◌≡◌, List, length}

-- The work makes some bytes, so many, and the new value is the one with these put into it.
pub record Makes {V : Type 0} (does : List ℕ → Type 0) (len : ℕ) (put : List ℕ → V) (new : V) : Type 0 where
  pub part : List ℕ
  pub done : does part
  pub long : length part ≡ len
  pub new_is : new ≡ put part
