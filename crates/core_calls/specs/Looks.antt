-- How often a call looks at a lock that it can't take.
use Rattle.std.specs.Prelude.{ℕ, ◌+◌, List, [], ◌∷◌}
use Rattle.core_states.specs.declared.event.Act.{Act}
use Rattle.core_states.specs.declared.event.Act.TheVariants as act
use Rattle.core_calls.specs.Events.{Told}

abbrev pub is_look : Act → ℕ
is_look (act.Look v) = 1
is_look a = 0

abbrev pub looks : List Told → ℕ
looks [] = 0
looks (e ∷ es) = is_look e.act + looks es
