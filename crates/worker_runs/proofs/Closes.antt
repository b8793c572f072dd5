-- What a close tells of the notes of all workers.
use Rattle.std.proofs.Common.{◌≡◌, ℕ, List, length, sym, ◌∙◌, subst}
use Rattle.graph_model.specs.declared.record.Record.{Record}
use Rattle.request_text.specs.declared.reply.Reply.{Reply}
use Rattle.graph_legal.specs.Lines.{Phase, Replied, asked_from, history}
use Rattle.graph_legal.specs.Legal.{Legal}
use Rattle.core_states.specs.Faults.{FailedAs}
use Rattle.core_states.specs.LogParts.{Found}
use Rattle.core_states.specs.Openings.{run_limits, MayOpen}
use Rattle.core_states.specs.Parts.{Parts, state_of_parts}
use Rattle.core_states.specs.RowEvents.{Limits}
use Rattle.graph_workers.specs.Faults.{FaultsTold, IsToldFailed}
use Rattle.graph_workers.specs.Workers.{AllRan}
use Rattle.graph_workers.proofs.Failures.{failed_of_scripts}
use Rattle.graph_workers.proofs.Faulting.{faults_told}
use Rattle.graph_workers.proofs.Serving.{all-workers-legal}
use Rattle.turn_board.specs.Views.{Done, View}
use Rattle.turn_board.specs.Histories.{reached, AnswersIn, did, noted}
use Rattle.worker_runs.specs.Runs.{AllDid, IsToldOf}
use Rattle.worker_runs.proofs.AllWorkers.{all_ran}
use Rattle.worker_runs.proofs.Order.{in_order}

-- The run that a close tells of is one of the law's.
pub from_close : (v : View) (parts : Parts) (run : List Done) (lines : List Replied) → AllDid v lines → IsToldOf v parts run → AllRan v.base v.found (state_of_parts v.base parts) lines
from_close v parts run lines all t =
    subst (λ s. AllRan v.base v.found s lines) (sym (t.reached.is ∙ (λ i. reached (limits i) v.base (t.opened.1 i) run)))
    (all_ran v.base v.found v.shards (subst (λ m. MayOpen v.base m) limits t.reached.may) run
    (subst (λ (z : Limits × Found). AnswersIn z.0 v.base z.1 run) (λ i. (limits i, t.opened.1 i)) t.reached.answers) v.events lines all.pass all.passes all.did all.only is (in_order v parts run lines all t))
  where
    limits : parts.limits ≡ run_limits
    limits = t.opened.0 ∙ t.limits

    is : (p : List ℕ) → did (record { base = v.base; limits = run_limits; found = v.found; shards = v.shards }) p run ≡ noted p v.events
    is p = (λ i. did (record { base = v.base; limits = sym t.limits i; found = v.found; shards = v.shards }) p run) ∙ (t.own (record { pass = p; index = 0 })).1

-- So the replies to scripts are legal.
pub are_legal : (v : View) (parts : Parts) (run : List Done) (phases : List Phase) (replies : List Reply) → AllDid v (history phases replies) → IsToldOf v parts run
    → length (asked_from 0 phases) ≡ length replies → Legal phases v.base parts.clock.records replies
are_legal v parts run phases replies all t one = all-workers-legal v.base v.found phases replies (state_of_parts v.base parts) t.reached.may.good one (from_close v parts run (history phases replies) all t)

-- Their counts of faults are those of groups.
pub tell_of_groups : (v : View) (parts : Parts) (run : List Done) (lines : List Replied) → AllDid v lines → IsToldOf v parts run → FaultsTold v.found (state_of_parts v.base parts) lines
tell_of_groups v parts run lines all t = faults_told v.base v.found lines (state_of_parts v.base parts) t.reached.may.good (from_close v parts run lines all t)

-- And the record of each failed transaction is told of.
pub are_told : (v : View) (parts : Parts) (run : List Done) (phases : List Phase) (replies : List Reply) → AllDid v (history phases replies) → IsToldOf v parts run
    → (before after : ℕ) (r : Record) → FailedAs (state_of_parts v.base parts) before after r → IsToldFailed before after r (history phases replies)
are_told v parts run phases replies all t = failed_of_scripts v.base v.found phases replies (state_of_parts v.base parts) t.reached.may.good (from_close v parts run (history phases replies) all t)
