-- Counts of faults.
use Rattle.std.specs.Prelude.{◌≡◌, ◌⊎◌, ℕ, ◌+◌, ◌<◌, ◌≤◌, min}

-- the greatest count; one that has reached it stays there
abbrev pub fault_most : ℕ
fault_most = 18446744073709551615

-- the count rose, or stands at its greatest value
abbrev pub Rose : ℕ → ℕ → Type 0
Rose before after = (before < after) ⊎ ((before ≡ fault_most) × (after ≡ fault_most))

-- the count did not fall
abbrev pub NeverFalls : ℕ → ℕ → Type 0
NeverFalls before after = before ≤ after

-- one more, unless the count stands at its greatest value
abbrev pub one_more : ℕ → ℕ
one_more count = min (count + 1) fault_most
