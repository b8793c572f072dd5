-- What has a spelling: lines whose numbers and payloads are within their limits.
use Rattle.std.specs.Prelude.{ℕ, ◌≤◌, List, length}
use Rattle.std.specs.List.{AllByRecursion}
use Rattle.graph_model.specs.Payload.{payload_most}
use Rattle.hex.specs.Hex.{IsBytes}
use Rattle.request_text.specs.declared.request.Request.{Request}
use Rattle.request_text.specs.declared.request.Request.TheVariants.{Begin, Vertex, Set, Get, Drop, Put, Del, Edge, Scan, Labels, Commit, Abort, Compact}
use Rattle.request_text.specs.declared.request.Line.{Line}
use Rattle.request_text.specs.Scripts.{session_most, named_most, label_most}

-- bytes, no more than a payload may have
abbrev pub IsPayload : List ℕ → Type 0
IsPayload p = (length p ≤ payload_most) × IsBytes p

-- a vertex or a destination below 2^63
abbrev pub IsNamed : ℕ → Type 0
IsNamed v = v ≤ named_most

abbrev pub IsLabel : ℕ → Type 0
IsLabel l = l ≤ label_most

-- the numbers and the payload of a request are within their limits
abbrev pub IsRequestWithin : Request → Type 0
IsRequestWithin Begin = Unit {0}
IsRequestWithin (Vertex p) = IsPayload p
IsRequestWithin (Set v p) = IsNamed v × IsPayload p
IsRequestWithin (Get v) = IsNamed v
IsRequestWithin (Drop v) = IsNamed v
IsRequestWithin (Put v l d p) = IsNamed v × IsLabel l × IsNamed d × IsPayload p
IsRequestWithin (Del v l d) = IsNamed v × IsLabel l × IsNamed d
IsRequestWithin (Edge v l d) = IsNamed v × IsLabel l × IsNamed d
IsRequestWithin (Scan v l) = IsNamed v × IsLabel l
IsRequestWithin (Labels v) = IsNamed v
IsRequestWithin Commit = Unit {0}
IsRequestWithin Abort = Unit {0}
IsRequestWithin (Compact v l) = IsNamed v × IsLabel l

-- the same of a line, with its session
pub record IsWithinLimits (line : Line) : Type 0 where
  pub session : line.session ≤ session_most
  pub request : IsRequestWithin line.request

-- the same of all lines
abbrev pub AreWithinLimits : List Line → Type 0
AreWithinLimits lines = AllByRecursion IsWithinLimits lines
