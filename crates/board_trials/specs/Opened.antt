-- What the trials do: a pass opens the row of its first actor.
use Rattle.std.specs.Prelude.{◌≡◌, ◌<◌, ℕ, false, List, [], ◌∷◌, length, Option, Some, None}
use mathlib.Core.Option.{some}
use lib.ListN.{get_elem?}
use Rattle.graph_model.specs.declared.graph.Base.{Base}
use Rattle.core_states.specs.declared.event.Act.TheVariants as act
use Rattle.core_states.specs.declared.event.CoreAnswer.TheVariants as answer
use Rattle.core_states.specs.Names.{Name}
use Rattle.core_states.specs.LogParts.{all_firm}
use Rattle.core_states.specs.Parts.{actor_of}
use Rattle.turn_board.specs.Views.{Done, Shown, ShardPlace, Start, View}
use Rattle.turn_board.specs.Homes.{home_shown}
use Rattle.turn_board.specs.declared.home.Home.{Home}
use Rattle.turn_board.specs.declared.home.Home.TheVariants as home
use Rattle.board_trials.specs.declared.spot.Rows.{Rows}
use Rattle.board_trials.specs.declared.spot.Hand.{Hand}
use Rattle.board_trials.specs.declared.spot.Paper.{Paper}
use Rattle.board_trials.specs.Papers.{paper_log, paper_time}
use Rattle.turn_board.specs.Openings.{limits_of}
use Rattle.turn_board.specs.Works.{giving}

-- what the small board of so many shards is made for: the base of an empty log, logs of 4096 bytes at most, and no disk
abbrev pub small_base : Base
small_base = record { graph = []; epoch = 0; next_tid = 1; next_vertex = 1 }

abbrev pub small_start : ℕ → Start
small_start shards = record { base = small_base; limits = limits_of 4096; found = record { count = 0; firm = all_firm; records = None }; shards = shards }

-- which shard the value is
abbrev pub place_of : Rows → ShardPlace
place_of r = record { number = r.number; shards = r.shards; log_most = 4096; base = small_base }

-- the first n of so many shards, whose counts are 0
abbrev pub blank : ℕ → ℕ → Rows
blank shards k = record { count = 0; number = k; shards = shards }

abbrev pub AreBlank : ℕ → ℕ → List (Option (Home Rows Hand Paper)) → Type 0
AreBlank shards n xs = (length xs ≡ n) × ((k : ℕ) → k < n → get_elem? xs k ≡ some (Some (home.Shard (blank shards k))))

-- the first actor of a pass
abbrev pub own_name : View → Name
own_name v = record { pass = v.number; index = 0 }

abbrev pub opening_row : View → List Done
opening_row v = record { by = own_name v; act = act.Open; answer = answer.Done } ∷ []

-- that actor has no row yet
abbrev pub HasNoRow : View → Type 0
HasNoRow v = (actor_of v.base v.actors (own_name v)).row ≡ false

-- the pass after it took the clock's turn and gave it back, with its actor's row opened
abbrev pub opened : View → View
opened v = giving (opening_row v) v

-- what the value of a turn shows
abbrev pub home_of : Home Rows Hand Paper → Shown
home_of value = home_shown (λ _. []) place_of (λ h. h.clock) paper_log paper_time value
