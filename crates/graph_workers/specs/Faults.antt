-- What `log-fault` replies tell: their counts, and of which records.
use Rattle.std.specs.Prelude.{◌≡◌, ◌⊎◌, ℕ, ◌+◌, ◌≤◌, ◌<◌, Bool, false, ◌&&◌, ◌==◌, if◌then◌else◌, List, [], ◌∷◌, Some}
use Rattle.graph_model.specs.declared.record.Record.{Record}
use Rattle.graph_model.specs.Records.{group_most}
use Rattle.request_text.specs.declared.reply.Reply.{Reply}
use Rattle.request_text.specs.declared.reply.Reply.TheVariants as reply
use Rattle.graph_legal.specs.Lines.{Replied}
use Rattle.graph_legal.specs.OneWorker.{record_in}
use Rattle.graph_legal.specs.Traces.{Trace, trace_of}
use Rattle.core_states.specs.Durability.{SpansApart}
use Rattle.core_states.specs.LogParts.{Found}
use Rattle.core_states.specs.States.{State}

-- how many lines have a `log-fault` reply with these counts
abbrev pub is_log_fault : ℕ → ℕ → Reply → Bool
is_log_fault before after (reply.LogFault m n) = before == m && after == n
is_log_fault before after r = false

abbrev pub log_faults : ℕ → ℕ → List Replied → ℕ
log_faults before after [] = 0
log_faults before after (a ∷ lines) = if is_log_fault before after a.reply then log_faults before after lines + 1 else log_faults before after lines

-- The replies tell of the faults of groups.
pub record FaultsTold (found : Found) (closed : State) (lines : List Replied) : Type 0 where
  -- the count rose, from the one at opening or a later one on
  pub rose : (before after : ℕ) → 0 < log_faults before after lines → (found.count ≤ before) × (before < after) × (after ≤ closed.log.greatest)
  -- two have the same counts, or their spans do not overlap
  pub apart : (before after m n : ℕ) → 0 < log_faults before after lines → 0 < log_faults m n lines → SpansApart before after m n
  -- and no more have the same counts than records may stand in one group
  pub few : (before after : ℕ) → log_faults before after lines ≤ group_most

-- some line, with the lines above it
abbrev pub SomeLine : (Replied → List Replied → Type 0) → List Replied → Type 0
SomeLine P [] = ⊥
SomeLine P (a ∷ above) = P a above ⊎ SomeLine P above

-- A line was answered `log-fault` with these counts, and this is the record of its transaction.
abbrev pub IsToldFailed : ℕ → ℕ → Record → List Replied → Type 0
IsToldFailed before after r lines =
    SomeLine (λ a above. (a.reply ≡ reply.LogFault before after) × (t : Trace) × (trace_of a above ≡ Some t) × (record_in t r.epoch ≡ r)) lines
