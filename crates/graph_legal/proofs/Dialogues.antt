-- How the worked dialogues are written: lines with their replies, by the phases in which they stand.
use Rattle.std.specs.Prelude.{◌≡◌, ℕ, true, List, [], ◌∷◌, ◌++◌, map, length}
use Rattle.std.specs.List.{list_all}
use Rattle.graph_model.specs.declared.record.Record.{Record}
use Rattle.graph_model.specs.declared.graph.Base.{Base}
use Rattle.graph_model.specs.declared.pairs.Pair.{Pair}
use Rattle.graph_model.specs.declared.change.Change.{Change}
use Rattle.graph_model.specs.declared.change.Change.TheVariants as c
use Rattle.graph_model.specs.Records.{empty_base, Continues}
use Rattle.request_text.specs.declared.request.Request.{Request}
use Rattle.request_text.specs.declared.request.Request.TheVariants as q
use Rattle.request_text.specs.declared.reply.Reply.{Reply}
use Rattle.request_text.specs.declared.reply.Reply.TheVariants as r
use Rattle.request_text.specs.declared.request.Line.{Line}
use Rattle.graph_legal.specs.Lines.{Phase}
use Rattle.graph_legal.specs.Lines.{asked_from, history}
use Rattle.graph_legal.specs.Traces.{has_committed}
use Rattle.graph_legal.specs.Legal.{Legal, RepliesInKind, TracesHold, NumbersDrawn, EpochOrder, SpentAtLimit, run_of}

-- a line and its reply
pub record Said : Type 0 where
  pub line : Line
  pub reply : Reply

-- what a session asks, and what it is answered
abbrev pub says : ℕ → Request → Reply → Said
says session request reply = record { line = record { session = session; request = request }; reply = reply }

-- what so many workers are asked in one phase, and what they answer
pub record Talk : Type 0 where
  pub workers : ℕ
  pub said : List Said

abbrev pub by_workers : ℕ → List Said → Talk
by_workers workers said = record { workers = workers; said = said }

abbrev pub phase_of : Talk → Phase
phase_of talk = record { workers = talk.workers; script = map (λ x. x.line) talk.said }

abbrev pub replies_of : List Talk → List Reply
replies_of [] = []
replies_of (talk ∷ talks) = map (λ x. x.reply) talk.said ++ replies_of talks

-- The dialogue is legal for these records.
abbrev pub IsLegalIn : Base → List Talk → List Record → Type 0
IsLegalIn base talks records = Legal (map phase_of talks) base records (replies_of talks)

-- A dialogue is legal where the six parts hold, one by one.
pub by_parts : (phases : List Phase) (base : Base) (records : List Record) (replies : List Reply)
    → RepliesInKind (length (asked_from 0 phases)) replies (history phases replies)
    → TracesHold (run_of phases base records replies)
    → NumbersDrawn base (history phases replies)
    → EpochOrder base (run_of phases base records replies)
    → Continues base records
    → list_all (λ r. has_committed r.tid (history phases replies)) records ≡ true
    → SpentAtLimit base (history phases replies)
    → Legal phases base records replies
by_parts phases base records replies kinds traces numbers epochs continues committed spent =
    record {
      replies_in_kind = kinds;
      traces_hold = traces;
      numbers_drawn = numbers;
      epoch_order = epochs;
      records_of_traces = record { continues = continues; committed = committed };
      spent_at_limit = spent;
    }

-- The same of one worker.
abbrev pub IsLegalFrom : Base → List Said → List Record → Type 0
IsLegalFrom base said records = IsLegalIn base (by_workers 1 said ∷ []) records

-- The same from the empty graph.
abbrev pub IsLegal : List Said → List Record → Type 0
IsLegal said records = IsLegalFrom empty_base said records

-- ---- what many dialogues have

abbrev pub edge : ℕ → List ℕ → Pair
edge d p = record { d = d; p = p }

-- a payload of one byte
abbrev pub byte : ℕ → List ℕ
byte b = b ∷ []

abbrev pub committed : ℕ → ℕ → ℕ → List Change → Record
committed number read epoch changes = record { tid = number; read = read; epoch = epoch; changes = changes }

-- session 1 makes vertex 1 and puts an edge to 9 under its label 5
abbrev pub made_an_edge : List Said
made_an_edge =
    says 1 q.Begin (r.Begun 1 0)
    ∷ says 1 (q.Vertex (byte 97)) (r.Vertex 1)
    ∷ says 1 (q.Put 1 5 9 (byte 255)) r.Added
    ∷ says 1 q.Commit (r.Committed 1)
    ∷ []

abbrev pub made_an_edge_record : Record
made_an_edge_record = committed 1 0 1 (c.New 1 (byte 97) ∷ c.Put 1 5 9 (byte 255) ∷ [])

-- session 0 makes vertices 1 and 2
abbrev pub made_two_vertices : List Said
made_two_vertices =
    says 0 q.Begin (r.Begun 1 0)
    ∷ says 0 (q.Vertex []) (r.Vertex 1)
    ∷ says 0 (q.Vertex []) (r.Vertex 2)
    ∷ says 0 q.Commit (r.Committed 1)
    ∷ []

abbrev pub made_two_vertices_record : Record
made_two_vertices_record = committed 1 0 1 (c.New 1 [] ∷ c.New 2 [] ∷ [])
