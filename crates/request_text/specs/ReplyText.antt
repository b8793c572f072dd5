-- The text of replies.
use Rattle.std.specs.Prelude.{ℕ, ◌+◌, List, [], ◌∷◌, ◌++◌, length, decimal, flat_map, codes}
use Rattle.graph_model.specs.declared.pairs.Pair.{Pair}
use Rattle.request_text.specs.declared.reply.Reply.{Reply}
use Rattle.request_text.specs.declared.reply.Reply.TheVariants as reply
use Rattle.request_text.specs.Words.{payload_word}
use Rattle.request_text.specs.Scripts.{word, number_word}

-- an edge as a word D:P
abbrev pub pair_word : Pair → List ℕ
pair_word pair = word (decimal pair.d ++ 58 ∷ payload_word pair.p)

-- the name of a reply, its first word
abbrev pub reply_name : Reply → List ℕ
reply_name (reply.Begun tid read) = codes "begun"
reply_name reply.TxnOpen = codes "txn-open"
reply_name reply.NoTxn = codes "no-txn"
reply_name reply.Spent = codes "spent"
reply_name reply.NoMemory = codes "no-memory"
reply_name (reply.Vertex v) = codes "vertex"
reply_name reply.SetDone = codes "set"
reply_name (reply.Value p) = codes "value"
reply_name reply.Lacking = codes "none"
reply_name reply.Dropped = codes "dropped"
reply_name reply.Added = codes "new"
reply_name reply.Replaced = codes "replaced"
reply_name reply.Gone = codes "gone"
reply_name reply.Absent = codes "absent"
reply_name (reply.Edge p) = codes "edge"
reply_name (reply.Edges pairs) = codes "edges"
reply_name (reply.Labels labels) = codes "labels"
reply_name reply.NoVertex = codes "no-vertex"
reply_name (reply.Held v tid) = codes "held"
reply_name (reply.Conflict v epoch) = codes "conflict"
reply_name reply.TxnFull = codes "txn-full"
reply_name reply.LogFull = codes "log-full"
reply_name (reply.Committed epoch) = codes "committed"
reply_name reply.Ended = codes "ended"
reply_name (reply.LogFault before after) = codes "log-fault"
reply_name reply.Aborted = codes "aborted"
reply_name reply.Compacted = codes "compacted"

-- the words behind the name, with a space before each
abbrev pub other_words : Reply → List ℕ
other_words (reply.Begun tid read) = number_word tid ++ number_word read
other_words (reply.Vertex v) = number_word v
other_words (reply.Value p) = word (payload_word p)
other_words (reply.Edge p) = word (payload_word p)
other_words (reply.Edges pairs) = number_word (length pairs) ++ flat_map pair_word pairs
other_words (reply.Labels labels) = number_word (length labels) ++ flat_map number_word labels
other_words (reply.Held v tid) = number_word v ++ number_word tid
other_words (reply.Conflict v epoch) = number_word v ++ number_word epoch
other_words (reply.Committed epoch) = number_word epoch
other_words r = []

-- a reply, with a space before each word
abbrev pub reply_words : Reply → List ℕ
reply_words r = word (reply_name r) ++ other_words r

-- a printed line: its number, and the reply
abbrev pub reply_text : ℕ → Reply → List ℕ
reply_text line r = decimal line ++ reply_words r ++ 10 ∷ []

-- the printed lines, the first of them with this number
abbrev pub replies_text_from : ℕ → List Reply → List ℕ
replies_text_from line [] = []
replies_text_from line (r ∷ replies) = reply_text line r ++ replies_text_from (line + 1) replies

-- what `run` writes
abbrev pub replies_text : List Reply → List ℕ
replies_text replies = replies_text_from 1 replies
