-- A begin by its answer.
use Rattle.std.proofs.Common.{refl, Option, Some, None}
use Rattle.core_states.specs.declared.event.Act.TheVariants as act
use Rattle.core_states.specs.declared.event.CoreAnswer.{CoreAnswer}
use Rattle.core_states.specs.declared.event.CoreAnswer.TheVariants as answer
use Rattle.store_turns.specs.declared.session.Session.{Session}
use Rattle.store_turns.specs.Grows.{told_if}
use Rattle.store_turns.specs.Moves.{BeginsWork}
use Rattle.store_sessions.specs.Beginning.{begun_by, BeginTells, BeginLeaves}

pub begin_so : (o : Option CoreAnswer) (s s' : Session) → BeginsWork o s s' → BeginTells (begun_by o) (told_if (λ _. act.Begin) o) × BeginLeaves (begun_by o) s s'
begin_so None s s' leaves = (refl, leaves)
begin_so (Some answer.NotEnabled) s s' leaves = absurd leaves
begin_so (Some answer.Done) s s' leaves = absurd leaves
begin_so (Some (answer.Begun n e)) s s' leaves = (refl, leaves)
begin_so (Some (answer.Number n)) s s' leaves = absurd leaves
begin_so (Some answer.Spent) s s' leaves = (refl, leaves)
begin_so (Some (answer.Learnt h o)) s s' leaves = absurd leaves
begin_so (Some (answer.Collected n)) s s' leaves = absurd leaves
begin_so (Some (answer.Published e)) s s' leaves = absurd leaves
begin_so (Some (answer.Kept o)) s s' leaves = absurd leaves
begin_so (Some (answer.Visible y)) s s' leaves = absurd leaves
begin_so (Some (answer.Held u)) s s' leaves = absurd leaves
begin_so (Some (answer.Conflict e)) s s' leaves = absurd leaves
begin_so (Some answer.NoVertex) s s' leaves = absurd leaves
begin_so (Some answer.TxnFull) s s' leaves = absurd leaves
begin_so (Some answer.LogFull) s s' leaves = absurd leaves
begin_so (Some answer.Added) s s' leaves = absurd leaves
begin_so (Some answer.Replaced) s s' leaves = absurd leaves
begin_so (Some answer.Gone) s s' leaves = absurd leaves
begin_so (Some answer.Absent) s s' leaves = absurd leaves
begin_so (Some (answer.Shown x)) s s' leaves = absurd leaves
