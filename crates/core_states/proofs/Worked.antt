-- Worked rows: what the definitions answer to lists of events.
use Rattle.std.proofs.Common.{◌≡◌, ℕ, List, [], ◌∷◌, refl}
use Rattle.graph_model.specs.Records.{empty_base}
use Rattle.graph_model.specs.declared.query.Query.TheVariants as query
use Rattle.graph_model.specs.declared.query.Answer.TheVariants as seen
use Rattle.core_states.specs.declared.event.Act.{Act}
use Rattle.core_states.specs.declared.event.Act.TheVariants as act
use Rattle.core_states.specs.declared.event.Event.{Event}
use Rattle.core_states.specs.declared.event.CoreAnswer.{CoreAnswer}
use Rattle.core_states.specs.declared.event.CoreAnswer.TheVariants as answer
use Rattle.core_states.specs.States.{answers_to}
use Rattle.core_states.specs.Openings.{opening, no_disk, run_limits}

abbrev by : ℕ → Act → Event
by i action = record { actor = i; act = action }

abbrev answers : List Event → List CoreAnswer
answers events = answers_to run_limits (opening empty_base no_disk) events

-- a publish as the first event is not enabled
nothing_to_publish : answers (by 1 act.Publish ∷ []) ≡ answer.NotEnabled ∷ []
nothing_to_publish = refl

-- actor 1 commits a vertex; actor 2 reads it at epoch 1
one_commits_and_two_reads : answers
    (by 1 act.Open ∷ by 1 act.Begin ∷ by 1 act.Draw ∷ by 1 (act.New 1 (97 ∷ [])) ∷ by 1 act.Enqueue ∷ by 1 act.Collect ∷ by 1 (act.WriteGroup 3) ∷ by 1 act.Publish ∷ by 1 (act.Apply 1) ∷ by 1 act.Done
    ∷ by 2 act.Open ∷ by 2 act.Begin ∷ by 2 (act.Read (query.Vertex 1)) ∷ [])
    ≡ answer.Done ∷ answer.Begun 1 0 ∷ answer.Number 1 ∷ answer.Done ∷ answer.Learnt 0 1 ∷ answer.Collected 1 ∷ answer.Done ∷ answer.Published 1 ∷ answer.Done ∷ answer.Done
    ∷ answer.Done ∷ answer.Begun 2 1 ∷ answer.Shown (seen.Value (97 ∷ [])) ∷ []
one_commits_and_two_reads = refl

-- while actor 1's record is not applied, actor 2 begins on the epoch before, and reads nothing of it
not_applied_not_visible : answers
    (by 1 act.Open ∷ by 1 act.Begin ∷ by 1 act.Draw ∷ by 1 (act.New 1 (97 ∷ [])) ∷ by 1 act.Enqueue ∷ by 1 act.Collect ∷ by 1 (act.WriteGroup 3) ∷ by 1 act.Publish
    ∷ by 2 act.Open ∷ by 2 act.Begin ∷ by 2 (act.Read (query.Vertex 1)) ∷ [])
    ≡ answer.Done ∷ answer.Begun 1 0 ∷ answer.Number 1 ∷ answer.Done ∷ answer.Learnt 0 1 ∷ answer.Collected 1 ∷ answer.Done ∷ answer.Published 1
    ∷ answer.Done ∷ answer.Begun 2 0 ∷ answer.Shown seen.NoVertex ∷ []
not_applied_not_visible = refl

-- a put in place of an edge stands in front; another transaction's look finds the owner, and after the commit a conflict
put_held_and_conflict : answers
    (by 1 act.Open ∷ by 1 act.Begin ∷ by 1 act.Draw ∷ by 1 (act.New 1 []) ∷ by 1 (act.Put 1 5 9 (255 ∷ [])) ∷ by 1 (act.Put 1 5 7 []) ∷ by 1 (act.Put 1 5 9 (0 ∷ [])) ∷ by 1 act.Enqueue ∷ by 1 act.Collect ∷ by 1 (act.WriteGroup 3) ∷ by 1 act.Publish ∷ by 1 (act.Apply 1) ∷ by 1 act.Done
    ∷ by 2 act.Open ∷ by 2 act.Begin ∷ by 3 act.Open ∷ by 3 act.Begin ∷ by 2 (act.Put 1 5 8 []) ∷ by 3 (act.Look 1) ∷ by 3 (act.Put 1 5 8 []) ∷ by 3 (act.Read (query.Scan 1 5)) ∷ by 2 (act.Read (query.Scan 1 5))
    ∷ by 2 act.Enqueue ∷ by 2 act.Collect ∷ by 2 (act.WriteGroup 5) ∷ by 2 act.Publish ∷ by 2 (act.Apply 1) ∷ by 3 (act.Look 1) ∷ by 3 act.End ∷ [])
    ≡ answer.Done ∷ answer.Begun 1 0 ∷ answer.Number 1 ∷ answer.Done ∷ answer.Added ∷ answer.Added ∷ answer.Replaced ∷ answer.Learnt 0 1 ∷ answer.Collected 1 ∷ answer.Done ∷ answer.Published 1 ∷ answer.Done ∷ answer.Done
    ∷ answer.Done ∷ answer.Begun 2 1 ∷ answer.Done ∷ answer.Begun 3 1 ∷ answer.Added ∷ answer.Held 2 ∷ answer.NotEnabled ∷ answer.Shown (seen.Edges (record { d = 9; p = 0 ∷ [] } ∷ record { d = 7; p = [] } ∷ [])) ∷ answer.Shown (seen.Edges (record { d = 8; p = [] } ∷ record { d = 9; p = 0 ∷ [] } ∷ record { d = 7; p = [] } ∷ []))
    ∷ answer.Learnt 1 2 ∷ answer.Collected 1 ∷ answer.Done ∷ answer.Published 2 ∷ answer.Done ∷ answer.Conflict 2 ∷ answer.Done ∷ []
put_held_and_conflict = refl
