-- A run of the core as one pass sees it: its own events with their answers, while others do theirs.
use Rattle.std.specs.Prelude.{◌≡◌, ℕ, List, [], ◌∷◌}
use Rattle.graph_model.specs.declared.graph.Base.{Base}
use Rattle.core_states.specs.declared.event.Act.{Act}
use Rattle.core_states.specs.declared.event.CoreAnswer.{CoreAnswer}
use Rattle.core_states.specs.Names.{Name}
use Rattle.core_states.specs.States.{State, answer_to, after}
use Rattle.core_states.specs.RowEvents.{Limits}
use Rattle.core_kept.specs.Bounds.{Kept}
use Rattle.core_states.specs.Laters.{Later, LaterLog, ReceiptsStay}

-- An event and its answer.
pub record Told : Type 0 where
  pub act : Act
  pub says : CoreAnswer

abbrev pub told : Act → CoreAnswer → Told
told a says = record { act = a; says = says }

-- The state goes on by events of others: it is kept, nothing is taken back, and the actors of the pass's sessions stay as they are.
pub record GoesOn (base : Base) (most : Limits) (name : ℕ → Name) (s t : State) : Type 0 where
  pub kept : Kept base most t
  pub later : Later s.clock t.clock
  pub later_log : LaterLog s.log t.log
  pub receipts : ReceiptsStay s t
  pub same : (k : ℕ) → t.actor (name k) ≡ s.actor (name k)

-- One actor does these events, with these answers, while others do theirs.
abbrev pub Did : Base → Limits → (ℕ → Name) → Name → List Told → State → State → Type 0
Did base most name i [] s t = GoesOn base most name s t
Did base most name i (e ∷ es) s t =
    (now : State) × GoesOn base most name s now × (answer_to most now i e.act ≡ e.says) × Did base most name i es (after most now i e.act) t
