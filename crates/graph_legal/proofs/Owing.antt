-- One worker: what each reply owes at the moment that it is given. The records are those that the lines so far committed.
use Rattle.std.specs.Prelude.{◌≡◌, ℕ, ◌+◌, ◌<◌, ◌≤◌, IsTrue, ⊤, List, [], ◌∷◌, ◌++◌, length}
use Rattle.graph_model.specs.declared.record.Record.{Record}
use Rattle.graph_model.specs.declared.graph.Base.{Base}
use Rattle.graph_model.specs.Records.{last_epoch, number_end}
use Rattle.request_text.specs.declared.request.Request.{Request}
use Rattle.request_text.specs.declared.request.Request.TheVariants as request
use Rattle.request_text.specs.declared.reply.Reply.{Reply}
use Rattle.request_text.specs.declared.reply.Reply.TheVariants as reply
use Rattle.graph_legal.specs.Lines.{Replied, EachLine}
use Rattle.graph_legal.specs.Traces.{trace_of}
use Rattle.graph_legal.specs.Kinds.{is_in_kind}
use Rattle.graph_legal.specs.TraceOk.{Run, LineHolds}
use Rattle.graph_legal.specs.Legal.{begun_numbers, given_vertices, draw_count, all_below}
use Rattle.graph_legal.specs.OneWorker.{record_at, has_fit_destination, keeps_within}

-- the records that the lines committed, in order
abbrev pub committed_records : List Replied → List Record
committed_records [] = []
committed_records (a ∷ above) = committed_records above ++ record_at a.reply (trace_of a above)

-- the last epoch after these lines
abbrev pub epoch_of : Base → List Replied → ℕ
epoch_of base lines = last_epoch base.epoch (committed_records lines)

-- these lines, judged by the records that they committed
abbrev pub so_far : Base → List Replied → Run
so_far base lines = record { graph = base.graph; records = committed_records lines; lines = lines }

-- `spent` comes where the next number is past the last one
abbrev pub SpentNow : Base → List Replied → Request → Type 0
SpentNow base above request.Begin = base.next_tid + length (begun_numbers above) ≡ number_end
SpentNow base above (request.Vertex p) = number_end ≤ base.next_vertex + draw_count above
SpentNow base above q = ⊤

-- what a reply tells of the next numbers and of the epoch
abbrev pub NumberHolds : Base → List Replied → Request → Reply → Type 0
NumberHolds base above q (reply.Begun n epoch) =
    (n ≡ base.next_tid + length (begun_numbers above)) × (n < number_end) × (epoch ≡ epoch_of base above)
NumberHolds base above q (reply.Vertex v) =
    (base.next_vertex ≤ v) × IsTrue (all_below v (given_vertices above)) × (v < base.next_vertex + draw_count above + 1) × (v < number_end)
NumberHolds base above q (reply.Committed epoch) = epoch ≡ epoch_of base above + 1
NumberHolds base above q reply.Spent = SpentNow base above q
NumberHolds base above q r = ⊤

-- What a reply owes when it is given, after the lines above it.
pub record HoldsWhenGiven (base : Base) (a : Replied) (above : List Replied) : Type 0 where
  pub phase : a.phase ≡ 0
  pub worker : a.worker ≡ 0
  pub kind : IsTrue (is_in_kind (trace_of a above) a.request a.reply)
  pub holds : LineHolds (so_far base (a ∷ above)) a above
  pub number : NumberHolds base above a.request a.reply
  pub destination : IsTrue (has_fit_destination a.request)
  pub within : IsTrue (keeps_within (so_far base (a ∷ above)) (trace_of a above) a.request a.reply)

-- One worker served these lines.
abbrev pub EachHoldsWhenGiven : Base → List Replied → Type 0
EachHoldsWhenGiven base lines = EachLine (HoldsWhenGiven base) lines
