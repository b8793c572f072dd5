-- What a map of numbers keeps.
use Rattle.std.specs.Prelude.{ℕ, ◌≡◌, nat_eq, nat_lt, get_or, length, Option, None, if◌then◌else◌}
use Rattle.std.specs.Ordering.{nat_cmp}
use Rattle.std.specs.BTreeMap as tree
use Rattle.number_map.specs.declared.number_map.NumberMap.{NumberMap}

-- what is kept at a number: the vector tells below its length, and the ordered map from there on
unfoldable pub kept_at : {T : Type 0} → NumberMap T → ℕ → Option T
kept_at map n = if nat_lt n (length map.near.items) then get_or map.near.items n None else tree.get nat_cmp map.far n

-- The new map is the old one with this at a number.
abbrev pub IsWith : {T : Type 0} → ℕ → Option T → NumberMap T → NumberMap T → Type 0
IsWith n value old new = (m : ℕ) → kept_at new m ≡ (if nat_eq m n then value else kept_at old m)
