-- Which replies a request may have, inside a transaction and outside.
use Rattle.std.specs.Prelude.{Bool, true, false, Option, Some, None}
use Rattle.request_text.specs.declared.request.Request.{Request}
use Rattle.request_text.specs.declared.request.Request.TheVariants.{Begin, Vertex, Set, Get, Drop, Put, Del, Edge, Scan, Labels, Commit, Abort, Compact}
use Rattle.request_text.specs.declared.reply.Reply.{Reply}
use Rattle.request_text.specs.declared.reply.Reply.TheVariants as reply
use Rattle.graph_legal.specs.Traces.{Trace}

abbrev pub is_no_txn : Reply → Bool
is_no_txn reply.NoTxn = true
is_no_txn r = false

-- the refusals of every change of a vertex that is named
abbrev pub is_refusal : Reply → Bool
is_refusal reply.NoVertex = true
is_refusal (reply.Held v n) = true
is_refusal (reply.Conflict v e) = true
is_refusal reply.TxnFull = true
is_refusal reply.NoMemory = true
is_refusal r = false

-- the refusals of a read of a vertex
abbrev pub is_read_refusal : Reply → Bool
is_read_refusal reply.NoVertex = true
is_read_refusal reply.NoMemory = true
is_read_refusal r = false

abbrev pub is_compact_reply : Reply → Bool
is_compact_reply reply.Compacted = true
is_compact_reply reply.NoMemory = true
is_compact_reply r = false

-- the replies to a request in a transaction
abbrev pub is_reply_inside : Request → Reply → Bool
is_reply_inside Begin reply.TxnOpen = true
is_reply_inside (Vertex p) (reply.Vertex v) = true
is_reply_inside (Vertex p) reply.TxnFull = true
is_reply_inside (Vertex p) reply.Spent = true
is_reply_inside (Vertex p) reply.NoMemory = true
is_reply_inside (Set v p) reply.SetDone = true
is_reply_inside (Set v p) r = is_refusal r
is_reply_inside (Get v) (reply.Value p) = true
is_reply_inside (Get v) reply.Lacking = true
is_reply_inside (Get v) reply.NoMemory = true
is_reply_inside (Drop v) reply.Dropped = true
is_reply_inside (Drop v) r = is_refusal r
is_reply_inside (Put v l d p) reply.Added = true
is_reply_inside (Put v l d p) reply.Replaced = true
is_reply_inside (Put v l d p) reply.LogFull = true
is_reply_inside (Put v l d p) r = is_refusal r
is_reply_inside (Del v l d) reply.Gone = true
is_reply_inside (Del v l d) reply.Absent = true
is_reply_inside (Del v l d) r = is_refusal r
is_reply_inside (Edge v l d) (reply.Edge p) = true
is_reply_inside (Edge v l d) reply.Absent = true
is_reply_inside (Edge v l d) r = is_read_refusal r
is_reply_inside (Scan v l) (reply.Edges pairs) = true
is_reply_inside (Scan v l) r = is_read_refusal r
is_reply_inside (Labels v) (reply.Labels labels) = true
is_reply_inside (Labels v) r = is_read_refusal r
is_reply_inside Commit (reply.Committed e) = true
is_reply_inside Commit reply.Ended = true
is_reply_inside Commit (reply.LogFault m n) = true
is_reply_inside Abort reply.Aborted = true
is_reply_inside (Compact v l) r = is_compact_reply r
is_reply_inside q r = false

-- the replies to a request on a session without a transaction
abbrev pub is_reply_outside : Request → Reply → Bool
is_reply_outside Begin (reply.Begun n e) = true
is_reply_outside Begin reply.Spent = true
is_reply_outside Begin reply.NoMemory = true
is_reply_outside Begin r = false
is_reply_outside (Compact v l) r = is_compact_reply r
is_reply_outside q r = is_no_txn r

-- the replies that a request may have, where its session has this transaction or none
abbrev pub is_in_kind : Option Trace → Request → Reply → Bool
is_in_kind None q r = is_reply_outside q r
is_in_kind (Some t) q r = is_reply_inside q r
