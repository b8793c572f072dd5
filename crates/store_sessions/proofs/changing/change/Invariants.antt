use Rattle.graph_model.specs.Change.{vertex_of}
use Rattle.store_sessions.specs.Changing.{LooksInVain}
use Rattle.store_sessions.proofs.changing.change.Given as goal

-- as often as the loop went round
abbrev pub invariant-loop-looks : goal.invariant-loop-looks
invariant-loop-looks g l = LooksInVain l.board.turns l.board.shards (vertex_of l.change) l.looks l.fn.pass l.pass l.fn.session l.session
