-- When replies are legal for a list of records.
use Rattle.std.specs.Prelude.{◌≡◌, ℕ, ◌+◌, ◌≤◌, Bool, true, false, ◌&&◌, nat_lt, nat_le, IsTrue, ⊤, List, [], ◌∷◌, ◌++◌, length, flat_map, count_by}
use Rattle.std.specs.List.{list_all}
use Rattle.graph_model.specs.declared.record.Record.{Record}
use Rattle.graph_model.specs.declared.graph.Base.{Base}
use Rattle.graph_model.specs.Records.{Continues, all_differ, last_epoch, number_end}
use Rattle.request_text.specs.declared.request.Request.{Request}
use Rattle.request_text.specs.declared.request.Request.TheVariants as request
use Rattle.request_text.specs.declared.reply.Reply.{Reply}
use Rattle.request_text.specs.declared.reply.Reply.TheVariants as reply
use Rattle.graph_legal.specs.Lines.{Phase, Replied, asked_from, history, before, EachLine}
use Rattle.graph_legal.specs.Traces.{trace_of, has_committed}
use Rattle.graph_legal.specs.Kinds.{is_in_kind}
use Rattle.graph_legal.specs.TraceOk.{Run, LineHolds}

-- ---- the numbers that replies tell

-- the number of the transaction that a reply begins
abbrev pub begun_number : Reply → List ℕ
begun_number (reply.Begun n e) = n ∷ []
begun_number r = []

abbrev pub begun_numbers : List Replied → List ℕ
begun_numbers lines = flat_map (λ a. begun_number a.reply) lines

-- the number of the vertex that a reply gives
abbrev pub given_vertex : Reply → List ℕ
given_vertex (reply.Vertex v) = v ∷ []
given_vertex r = []

abbrev pub given_vertices : List Replied → List ℕ
given_vertices lines = flat_map (λ a. given_vertex a.reply) lines

-- whether a line drew a vertex number, or may have drawn one: a `vertex` line answered by `vertex` or `no-memory`
abbrev pub may_draw : Request → Reply → Bool
may_draw (request.Vertex p) (reply.Vertex v) = true
may_draw (request.Vertex p) reply.NoMemory = true
may_draw q r = false

abbrev pub draw_count : List Replied → ℕ
draw_count lines = count_by (λ a. may_draw a.request a.reply) lines

-- the epochs that replies tell as visible
abbrev pub told_epoch : Reply → List ℕ
told_epoch (reply.Begun n e) = e ∷ []
told_epoch (reply.Committed e) = e ∷ []
told_epoch r = []

abbrev pub told_epochs : List Replied → List ℕ
told_epochs lines = flat_map (λ a. told_epoch a.reply) lines

-- and those that may not be visible yet, besides
abbrev pub conflict_epoch : Reply → List ℕ
conflict_epoch (reply.Conflict v e) = e ∷ []
conflict_epoch r = []

abbrev pub conflict_epochs : List Replied → List ℕ
conflict_epochs lines = flat_map (λ a. conflict_epoch a.reply) lines

-- all of them are below this number, or at most it
abbrev pub all_below : ℕ → List ℕ → Bool
all_below n xs = list_all (λ x. nat_lt x n) xs

abbrev pub all_at_most : ℕ → List ℕ → Bool
all_at_most n xs = list_all (λ x. nat_le x n) xs

-- distinct numbers from `first` on, of which there are as many as numbers below the end: each once, none left out
abbrev pub are_drawn : ℕ → ℕ → List ℕ → Bool
are_drawn first end xs = all_differ xs && list_all (λ x. nat_le first x && nat_lt x end && nat_lt x number_end) xs

-- ---- the six parts

-- One reply for each line, of the kinds of its request.
pub record RepliesInKind (asked : ℕ) (replies : List Reply) (lines : List Replied) : Type 0 where
  pub one_each : asked ≡ length replies
  pub kinds : EachLine (λ a above. IsTrue (is_in_kind (trace_of a above) a.request a.reply)) lines

-- each reply in a transaction holds
abbrev pub TracesHold : Run → Type 0
TracesHold run = EachLine (LineHolds run) run.lines

-- numbers rise along before
abbrev pub RiseAlongBefore : (Reply → List ℕ) → List Replied → Type 0
RiseAlongBefore numbers lines =
    EachLine (λ a above. IsTrue (list_all (λ n. all_below n (flat_map (λ b. numbers b.reply) (before a above))) (numbers a.reply))) lines

pub record NumbersDrawn (base : Base) (lines : List Replied) : Type 0 where
  pub transactions : IsTrue (are_drawn base.next_tid (base.next_tid + length (begun_numbers lines)) (begun_numbers lines))
  pub transactions_rise : RiseAlongBefore begun_number lines
  pub vertices : IsTrue (are_drawn base.next_vertex (base.next_vertex + draw_count lines) (given_vertices lines))
  pub vertices_rise : RiseAlongBefore given_vertex lines

-- what the epoch in a reply says of the lines before it
abbrev pub EpochHolds : ℕ → ℕ → Reply → List Replied → Type 0
EpochHolds first last (reply.Begun n e) before = (first ≤ e) × IsTrue (all_at_most e (told_epochs before)) × (e ≤ last)
EpochHolds first last (reply.Committed e) before = IsTrue (all_below e (told_epochs before ++ conflict_epochs before))
EpochHolds first last r before = ⊤

abbrev pub EpochOrder : Base → Run → Type 0
EpochOrder base run = EachLine (λ a above. EpochHolds base.epoch (last_epoch base.epoch run.records) a.reply (before a above)) run.lines

-- the records follow the base, and each is that of a transaction that was told so
pub record RecordsOfTraces (base : Base) (run : Run) : Type 0 where
  pub continues : Continues base run.records
  pub committed : IsTrue (list_all (λ r. has_committed r.tid run.lines) run.records)

-- `spent` comes only where the numbers are used up
abbrev pub SpentHolds : Base → List Replied → Request → Reply → Type 0
SpentHolds base lines request.Begin reply.Spent = base.next_tid + length (begun_numbers lines) ≡ number_end
SpentHolds base lines (request.Vertex p) reply.Spent = number_end ≤ base.next_vertex + draw_count lines
SpentHolds base lines q r = ⊤

abbrev pub SpentAtLimit : Base → List Replied → Type 0
SpentAtLimit base lines = EachLine (λ a above. SpentHolds base lines a.request a.reply) lines

-- all lines of the phases, judged by the base and the records
abbrev pub run_of : List Phase → Base → List Record → List Reply → Run
run_of phases base records replies = record { graph = base.graph; records = records; lines = history phases replies }

-- The replies are legal for the records.
pub record Legal (phases : List Phase) (base : Base) (records : List Record) (replies : List Reply) : Type 0 where
  pub replies_in_kind : RepliesInKind (length (asked_from 0 phases)) replies (history phases replies)
  pub traces_hold : TracesHold (run_of phases base records replies)
  pub numbers_drawn : NumbersDrawn base (history phases replies)
  pub epoch_order : EpochOrder base (run_of phases base records replies)
  pub records_of_traces : RecordsOfTraces base (run_of phases base records replies)
  pub spent_at_limit : SpentAtLimit base (history phases replies)
