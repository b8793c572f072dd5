-- What a crash at any moment since an earlier one may have left.
use Rattle.std.specs.Prelude.{◌≡◌, ℕ, ◌<◌, ◌≤◌, List, length, take}

-- What a crash at any moment since the old disk stood has P, and what one could leave before is as it was.
pub record Since {D : Type 0} (moment : D → ℕ) (images : D → ℕ → List ℕ → Type 0) (old new : D) (P : List ℕ → Type 0) : Type 0 where
  pub later : moment old ≤ moment new
  pub each : (m : ℕ) (c : List ℕ) → moment old ≤ m → m ≤ moment new → images new m c → P c
  pub before : (m : ℕ) (c : List ℕ) → m < moment old → images new m c → images old m c

-- The first n bytes are the same, where the old bytes have so many.
pub record SameFront (n : ℕ) (old new : List ℕ) : Type 0 where
  pub long : n ≤ length old → n ≤ length new
  pub front : n ≤ length old → take n new ≡ take n old

-- What a crash at any moment since may have left has the first n bytes of what could be left at the beginning.
abbrev pub KeepsFront : {D : Type 0} → (D → ℕ) → (D → ℕ → List ℕ → Type 0) → D → D → ℕ → Type 0
KeepsFront moment images old new n = Since moment images old new (λ c. (d : List ℕ) × images old (moment old) d × SameFront n d c)
