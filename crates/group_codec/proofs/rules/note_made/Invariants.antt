use Rattle.std.proofs.Common.{◌≡◌, ℕ, take, true}
use Rattle.std.specs.Prelude.{◌==◌, ◌||◌}
use Rattle.std.specs.List.{list_any}
use Rattle.group_codec.specs.NumberSets.{was_met}
use Rattle.graph_model.specs.Records.{made_vertices}
use Rattle.group_codec.specs.Judging.{are_new}
use Rattle.group_codec.proofs.rules.note_made.Given as goal

abbrev pub invariant-loop-change : goal.invariant-loop-change
invariant-loop-change l =
    (are_new (was_met l.initial.made) (made_vertices (take l.change-index l.changes)) ≡ true)
    × ((v : ℕ) → was_met l.made v ≡ (was_met l.initial.made v || list_any (λ w. w == v) (made_vertices (take l.change-index l.changes))))
