-- A row that is opened or closed, by the answer.
use Rattle.std.proofs.Common.{◌≡◌, ◌∙◌, true, false, sym, ap, Option, Some, None}
use Rattle.std.proofs.lemmas.Bool.{false≢true}
use Rattle.core_calls.specs.Calls.{Opens, Closes}
use Rattle.core_states.specs.declared.event.Act.TheVariants as act
use Rattle.core_states.specs.declared.event.CoreAnswer.{CoreAnswer}
use Rattle.core_calls.specs.Events.{told}
use Rattle.std.proofs.Common.{[], ◌∷◌}
use Rattle.store_turns.specs.declared.session.Session.{Session}
use Rattle.store_turns.specs.Grows.{told_if}
use Rattle.store_turns.specs.Moves.{BecomesOpen, BecomesClosed}

pub opens_so : (o : Option CoreAnswer) (s s' : Session) → s.is_open ≡ false → BecomesOpen o s s' → Opens (told_if (λ _. act.Open) o) × (s' ≡ record s { is_open = true })
opens_so None s s' closed leaves = absurd (false≢true (sym closed ∙ leaves.0))
opens_so (Some says) s s' closed leaves = (ap (λ z. told act.Open z ∷ []) leaves.0, leaves.1)

pub closes_so : (o : Option CoreAnswer) (s s' : Session) → s.is_open ≡ true → s.work ≡ None → BecomesClosed o s s' → Closes (told_if (λ _. act.Close) o) × (s' ≡ record s { is_open = false })
closes_so None s s' opened idle leaves = absurd (leaves.0 opened idle)
closes_so (Some says) s s' opened idle leaves = (ap (λ z. told act.Close z ∷ []) leaves.0, leaves.1)
