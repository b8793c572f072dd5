-- What each request makes of the core, for each reply to it: the events of the session's actor, with their answers.
use Rattle.std.specs.Prelude.{◌≡◌, ℕ, List, [], Option, Some, None}
use Rattle.graph_model.specs.declared.query.Query.{Query}
use Rattle.graph_model.specs.declared.query.Query.TheVariants as query
use Rattle.graph_model.specs.declared.query.Answer.{Answer}
use Rattle.request_text.specs.declared.request.Request.{Request}
use Rattle.request_text.specs.declared.request.Request.TheVariants as request
use Rattle.request_text.specs.declared.reply.Reply.{Reply}
use Rattle.request_text.specs.declared.reply.Reply.TheVariants as reply
use Rattle.graph_legal.specs.TraceOk.{printed}
use Rattle.core_states.specs.declared.event.Act.{Act}
use Rattle.core_states.specs.declared.event.Act.TheVariants as act
use Rattle.core_states.specs.declared.event.CoreAnswer.TheVariants as answer
use Rattle.core_states.specs.declared.transaction.Transaction.{Transaction}
use Rattle.core_states.specs.Openings.{run_limits}
use Rattle.core_calls.specs.Events.{Told}
use Rattle.core_calls.specs.Calls.{Nothing, Begins, IsSpent, IsTooLong, MakesVertex, IsVertexSpent, MakesNone, Changes, IsHeldUp, Conflicts, RunsOut, Reads, ReadsNone, Commits, Fails, Gives}

-- a change of a vertex that is named, with the event that makes it
abbrev pub ChangeMakes : ℕ → Act → Reply → List Told → Type 0
ChangeMakes v a reply.SetDone es = Changes v a answer.Done es
ChangeMakes v a reply.Dropped es = Changes v a answer.Done es
ChangeMakes v a reply.Added es = Changes v a answer.Added es
ChangeMakes v a reply.Replaced es = Changes v a answer.Replaced es
ChangeMakes v a reply.Gone es = Changes v a answer.Gone es
ChangeMakes v a reply.Absent es = Changes v a answer.Absent es
ChangeMakes v a reply.NoVertex es = Changes v a answer.NoVertex es
ChangeMakes v a reply.TxnFull es = Changes v a answer.TxnFull es
ChangeMakes v a reply.LogFull es = Changes v a answer.LogFull es
ChangeMakes v a (reply.Held w u) es = (w ≡ v) × IsHeldUp v u es
ChangeMakes v a (reply.Conflict w e) es = (w ≡ v) × Conflicts v e es
ChangeMakes v a reply.NoMemory es = RunsOut v es
ChangeMakes v a r es = ⊥

-- a new vertex
abbrev pub MakeMakes : Transaction → List ℕ → Reply → List Told → Type 0
MakeMakes x p (reply.Vertex v) es = MakesVertex v p es
MakeMakes x p reply.TxnFull es = IsTooLong run_limits x p es
MakeMakes x p reply.Spent es = IsVertexSpent es
MakeMakes x p reply.NoMemory es = MakesNone es
MakeMakes x p r es = ⊥

-- a read
abbrev pub ReadMakes : Query → Reply → List Told → Type 0
ReadMakes q reply.NoMemory es = ReadsNone q es
ReadMakes q r es = (x : Answer) × Reads q x es × (r ≡ printed q x)

-- a commit
abbrev pub CommitMakes : Transaction → Reply → List Told → Type 0
CommitMakes x (reply.Committed e) es = Commits es
CommitMakes x reply.Ended es = (x.own ≡ []) × Gives es
CommitMakes x (reply.LogFault b a) es = Fails es
CommitMakes x r es = ⊥

-- in a transaction; a second begin is refused without an event, and `compact` is not the session's
abbrev pub InsideMakes : Transaction → Request → Reply → List Told → Type 0
InsideMakes x (request.Vertex p) r es = MakeMakes x p r es
InsideMakes x (request.Set v p) r es = ChangeMakes v (act.Set v p) r es
InsideMakes x (request.Drop v) r es = ChangeMakes v (act.Drop v) r es
InsideMakes x (request.Put v l d p) r es = ChangeMakes v (act.Put v l d p) r es
InsideMakes x (request.Del v l d) r es = ChangeMakes v (act.Del v l d) r es
InsideMakes x (request.Get v) r es = ReadMakes (query.Vertex v) r es
InsideMakes x (request.Edge v l d) r es = ReadMakes (query.Edge v l d) r es
InsideMakes x (request.Scan v l) r es = ReadMakes (query.Scan v l) r es
InsideMakes x (request.Labels v) r es = ReadMakes (query.Labels v) r es
InsideMakes x request.Commit r es = CommitMakes x r es
InsideMakes x request.Abort r es = Gives es
InsideMakes x request.Begin r es = Nothing es
InsideMakes x (request.Compact v l) r es = Nothing es

-- outside; where memory runs out or no transaction is open no event is done
abbrev pub OutsideMakes : Request → Reply → List Told → Type 0
OutsideMakes request.Begin (reply.Begun n e) es = Begins n e es
OutsideMakes request.Begin reply.Spent es = IsSpent es
OutsideMakes q r es = Nothing es

-- By the session's transaction before the line.
abbrev pub LineMakes : Option Transaction → Request → Reply → List Told → Type 0
LineMakes None q r es = OutsideMakes q r es
LineMakes (Some x) q r es = InsideMakes x q r es
