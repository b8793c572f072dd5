-- What passes are, once their threads are done.
use Rattle.std.specs.Prelude.{◌≡◌, ◌⊎◌, ℕ, List}
use Rattle.turn_board.specs.Views.{View, In, numbers}

-- the pass has the same number, the same joined ones, and made the same
abbrev pub StaysAs : View → View → Type 0
StaysAs v w = (w.number ≡ v.number) × (w.joined ≡ v.joined) × (w.made ≡ v.made)

-- The pass has come back: all that were split off it since are joined into it.
pub record CameBack (v w : View) : Type 0 where
  pub kept : (n : List ℕ) → In n (numbers v) → In n (numbers w)
  pub made : (n : List ℕ) → In n w.made → In n v.made ⊎ In n (numbers w)
