-- A pass goes on while one of its actors does events, and others do theirs.
use Rattle.std.proofs.Common.{◌≡◌, ℕ, false, List, [], ◌∷◌, sym, ◌∙◌, subst}
use Rattle.std.specs.Prelude.{◌==◌}
use Rattle.std.proofs.lemmas.Bool.{eq-eqb, false≢true}
use Rattle.graph_model.specs.declared.graph.Base.{Base}
use Rattle.core_states.specs.declared.event.Act.{Act}
use Rattle.core_states.specs.Names.{Name}
use Rattle.core_states.specs.States.{State, after, answer_to}
use Rattle.core_states.specs.Openings.{run_limits}
use Rattle.core_kept.specs.Bounds.{Kept}
use Rattle.core_states.specs.Laters.{Later, LaterLog, ReceiptsStay}
use Rattle.core_laws.proofs.FailedRecords.{receipts_stay}
use Rattle.core_kept.proofs.Keeping.{step_kept}
use Rattle.core_laws.proofs.Laters.{kept_later, later_log}
use Rattle.core_calls.proofs.OnParts.{later_more, later_log_more, others}
use Rattle.core_calls.specs.Events.{Told, told, GoesOn, Did}
use Rattle.core_calls.specs.Calls.{Nothing}

-- From s on one actor alone of the pass may have moved.
pub record Moved (base : Base) (name : ℕ → Name) (k : ℕ) (s t : State) : Type 0 where
  pub kept : Kept base run_limits t
  pub later : Later s.clock t.clock
  pub later_log : LaterLog s.log t.log
  pub receipts : ReceiptsStay s t
  pub others : (j : ℕ) → (j == k) ≡ false → t.actor (name j) ≡ s.actor (name j)

module _ (base : Base) (name : ℕ → Name) (apart : (j k : ℕ) → name j ≡ name k → j ≡ k) (k : ℕ) where
  pub moved_on : (s t : State) → GoesOn base run_limits name s t → Moved base name k s t
  moved_on s t g = record { kept = g.kept; later = g.later; later_log = g.later_log; receipts = g.receipts; others = λ j ne. g.same j }

  pub moved_by : (s : State) (action : Act) → Kept base run_limits s → Moved base name k s (after run_limits s (name k) action)
  moved_by s action kept = record {
    kept = step_kept base run_limits s (name k) action kept;
    later = kept_later base run_limits s (name k) action kept;
    later_log = later_log run_limits s (name k) action;
    receipts = receipts_stay run_limits s (name k) action;
    others = λ j ne. others run_limits s (name k) (name j) action (λ e. false≢true (sym ne ∙ eq-eqb j k (apart j k e)));
  }

  pub moved_more : (s m t : State) → Moved base name k s m → Moved base name k m t → Moved base name k s t
  moved_more s m t f g = record { kept = g.kept; later = later_more s.clock m.clock t.clock f.later g.later; later_log = later_log_more s.log m.log t.log f.later_log g.later_log; receipts = λ i r among. g.receipts i r (f.receipts i r among); others = λ j ne. g.others j ne ∙ f.others j ne }

  pub moved : (es : List Told) (s t : State) → Did base run_limits name (name k) es s t → Moved base name k s t
  moved [] s t d = moved_on s t d
  moved (e ∷ es) s t d =
      moved_more s d.0 t (moved_on s d.0 d.1)
      (moved_more d.0 (after run_limits d.0 (name k) e.act) t (moved_by d.0 e.act d.1.kept) (moved es (after run_limits d.0 (name k) e.act) t d.3))

  -- ---- lists of events, one by one

  pub did_nothing : (es : List Told) (s t : State) → Nothing es → Did base run_limits name (name k) es s t → GoesOn base run_limits name s t
  did_nothing es s t e d = subst (λ xs. Did base run_limits name (name k) xs s t) e d

  pub did_first : (a : Act) (says : _) (rest es : List Told) (s t : State) → es ≡ told a says ∷ rest → Did base run_limits name (name k) es s t →
      (now : State) × GoesOn base run_limits name s now × (answer_to run_limits now (name k) a ≡ says) × Did base run_limits name (name k) rest (after run_limits now (name k) a) t
  did_first a says rest es s t e d = subst (λ xs. Did base run_limits name (name k) xs s t) e d
