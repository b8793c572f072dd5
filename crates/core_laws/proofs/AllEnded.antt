-- What stands once no transaction runs: all is told by receipts.
use Rattle.std.proofs.Common.{◌≡◌, true, ◌||◌, sym, ap, ◌∙◌, ⊎_elim}
use Rattle.graph_model.specs.declared.graph.Base.{Base}
use Rattle.core_kept.specs.Bounds.{Kept}
use Rattle.core_states.specs.Ends.{Idle, AllEnded}
use Rattle.core_states.specs.RowEvents.{Limits}
use Rattle.core_states.specs.Sound.{WaitsStill, HasFault}
use Rattle.core_states.specs.States.{State}
use Rattle.core_states.specs.Touches.{txn_touched, receipt_touched}
use Rattle.core_kept.proofs.Beginning.{none_some}
use Rattle.core_laws.proofs.Closings.{recorded, touch_found}
use Rattle.core_laws.proofs.Sounds.{failed_number, place_failed}

-- Once no transaction runs all is told by receipts.
pub all_ended : (base : Base) (most : Limits) (s : State) → Kept base most s → Idle s → AllEnded s
all_ended base most s kept idle = record {
  records = λ r m. let h = recorded base kept.0.0 s kept.0.1 kept.0.2 kept.2 idle r m in record { actor = h.0; receipt = h.1; among = h.2; number = h.3; ends = h.4 };
  faults = λ t b a is. ⊎_elim
      (λ (waits : WaitsStill s t). absurd (none_some waits.run.txn (sym (idle waits.run.actor) ∙ waits.run.runs)))
      (λ (h : HasFault s t b a). h)
      (failed_number base kept.0.0 s t b a kept.0.1 kept.0.2 kept.2 (place_failed (kept.0.0.place t) b a (sym (kept.0.1.outcomes t) ∙ is)));
  holders = λ v t read held.
      let touched : receipt_touched (s.actor held.actor).receipts t v ≡ true = ap (λ o. txn_touched o t v || receipt_touched (s.actor held.actor).receipts t v) (sym (idle held.actor)) ∙ held.touched in
      let u = touch_found t v (s.actor held.actor).receipts touched in
      record { actor = held.actor; receipt = u.0; among = u.1; number = u.2; touched = u.3 };
}
