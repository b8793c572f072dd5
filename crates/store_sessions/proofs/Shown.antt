-- A read by its answer.
use Rattle.std.proofs.Common.{◌≡◌, [], ◌∷◌, refl, sym, inl, subst, Option, Some, None}
use Rattle.std.specs.Prelude.{IfSome}
use Rattle.graph_model.specs.declared.query.Query.{Query}
use Rattle.core_calls.specs.Events.{told}
use Rattle.core_states.specs.declared.event.Act.TheVariants as act
use Rattle.core_states.specs.declared.event.CoreAnswer.{CoreAnswer}
use Rattle.store_turns.specs.Grows.{told_if}
use Rattle.store_turns.specs.Moves.{IsShown}
use Rattle.store_sessions.specs.Reading.{shown_by, ReadTells}

pub read_so : (q : Query) (o : Option CoreAnswer) → IfSome o IsShown → ReadTells q (shown_by o) (told_if (λ _. act.Read q) o)
read_so q None says = inl refl
read_so q (Some says) (x, is) = subst (λ (z : CoreAnswer). ReadTells q (shown_by (Some z)) (told (act.Read q) z ∷ [])) (sym is) refl
