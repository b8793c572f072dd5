-- A run of the core from the opening state of a base: its states, and what its reads answer.
use Rattle.std.specs.Prelude.{◌≡◌, ℕ, true, List, take}
use Rattle.graph_model.specs.declared.graph.Base.{Base}
use Rattle.graph_model.specs.declared.query.Query.{Query}
use Rattle.graph_model.specs.Graph.{at, see}
use Rattle.core_states.specs.declared.event.Act.{Act}
use Rattle.core_states.specs.declared.event.Act.TheVariants as act
use Rattle.core_states.specs.declared.event.Event.{Event}
use Rattle.core_states.specs.declared.event.CoreAnswer.TheVariants as answer
use Rattle.core_states.specs.declared.transaction.Transaction.{Transaction}
use Rattle.core_states.specs.Names.{Name}
use Rattle.core_states.specs.Transactions.{is_working}
use Rattle.core_states.specs.States.{State, answer_to, after_all}
use Rattle.core_states.specs.Openings.{opening, no_disk, run_limits}
use Rattle.core_states.specs.RowEvents.{Limits}
use Rattle.core_states.specs.Sound.{RunsAt}

-- the state after the first n events
abbrev pub state_at : Base → List Event → ℕ → State
state_at base events n = after_all run_limits (opening base no_disk) (take n events)

-- A read of a transaction that is open and was not queued answers what the query sees of the graph at the transaction's read epoch, with its own changes.
abbrev pub ReadSees : Limits → Base → State → Name → Act → Type 0
ReadSees most base s i action = (q : Query) (x : Transaction) → action ≡ act.Read q → RunsAt s i x → is_working x ≡ true
    → answer_to most s i action ≡ answer.Shown (see (at base.graph s.clock.records x.read) x.own q)
