-- What the close of a store tells of the scripts that were run on it.
use Rattle.std.proofs.Common.{◌≡◌, ℕ, List, sym, ap, subst, Option}
use Rattle.graph_model.specs.declared.graph.Base.{Base}
use Rattle.graph_model.specs.declared.record.Record.{Record}
use Rattle.graph_model.specs.Records.{list_most}
use Rattle.graph_legal.specs.Legal.{Legal}
use Rattle.graph_legal.specs.Lines.{Phase}
use Rattle.request_text.specs.declared.reply.Reply.{Reply}
use Rattle.core_states.specs.LogParts.{Found}
use Rattle.core_states.specs.Parts.{Parts}
use Rattle.turn_board.specs.Views.{Done, Start, View, start_of}
use Rattle.store_log.specs.Written.{Written}
use Rattle.store_opening.specs.Opened.{start_with}
use Rattle.graph_store.specs.declared.closing.Closed.{Closed}
use Rattle.graph_store.specs.Closing.{IsClosed}
use Rattle.worker_runs.specs.Runs.{IsToldOf}
use Rattle.worker_runs.proofs.Closes.{are_legal}
use Rattle.store_workers.specs.Phases.{HasRunPhases}
use Rattle.store_workers.proofs.Phasing.{all-did}

module _ {D : Type 0} (told : D → Option (List ℕ)) (moment : D → ℕ) (images : D → ℕ → List ℕ → Type 0) (faults : D → ℕ) (base : Base) (found : Found) (shards : ℕ) where
  pub legal-when-closed : (phases : List Phase) (v : View) (rs : List Reply) (closed : Closed D) (parts : Parts) (run : List Done) (w : Written) → start_of v ≡ start_with base list_most found shards
      → HasRunPhases phases rs v → IsClosed told moment images faults v parts run w closed → Legal phases base closed.records rs
  legal-when-closed phases v rs closed parts run w start ran is =
      let toldof : IsToldOf v parts run = record { reached = is.ran.reached; opened = is.ran.opened; limits = ap (λ (s : Start). s.limits) start; own = is.ran.own; began = is.ran.began } in
      subst (λ (z : Base × List Record). Legal phases z.0 z.1 rs) (λ i. ((start i).base, sym is.records i))
      (are_legal v parts run phases rs (all-did phases rs v ran) toldof (sym ran.len))
