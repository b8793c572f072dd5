-- The outcomes by their fields.
use Rattle.std.specs.Prelude.{ℕ, ◌≡◌, ◌+◌, ◌-◌, ◌<◌, ◌≤◌, length, get_or, vec_len, vec_capacity}
use Rattle.commit_queue.specs.KeptOutcomes.{KeptOutcomes, place_in, noted_place}
use Rattle.commit_queue.specs.declared.outcomes.Outcomes.TheInside.{Inside}

abbrev pub kept_outcomes : Inside → KeptOutcomes
kept_outcomes a = record { kept = a.kept.items; room = vec_capacity a.kept - vec_len a.kept }

-- Of each number that is expected it is noted where its outcome stands, and none is kept for a number above the greatest.
pub record ArePlaced (a : Inside) : Type 0 where
  pub most : (number : ℕ) → a.most < number → place_in number a.kept.items ≡ length a.kept.items
  pub noted : (n : ℕ) → n < length a.places.items → noted_place (length a.kept.items) (get_or a.places.items n 0) ≡ place_in (a.first + n) a.kept.items
  pub within : (n : ℕ) → get_or a.places.items n 0 ≤ length a.kept.items
