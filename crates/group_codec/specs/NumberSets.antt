-- Which numbers a set of words has.
use Rattle.std.specs.Prelude.{ℕ, ◌/◌, ◌%◌, Bool, ◌==◌, if◌then◌else◌, unwrap_or}
use Rattle.std.specs.Int.{bit_at}
use Rattle.std.specs.Ordering.{nat_cmp}
use Rattle.std.specs.BTreeMap.{get}
use Rattle.group_codec.specs.declared.number_set.NumberSet.{NumberSet}

-- the word of a block of 64 neighbours
abbrev pub word_at : NumberSet → ℕ → ℕ
word_at set b = if b == set.block then set.word else unwrap_or (get nat_cmp set.words b) 0

-- the bit of a number is set in the word of its block
abbrev pub was_met : NumberSet → ℕ → Bool
was_met set n = bit_at (word_at set (n / 64)) (n % 64) == 1
