-- Scripts as a run of workers.
use Rattle.std.specs.Prelude.{ℕ, List, [], ◌∷◌}
use Rattle.request_text.specs.declared.request.Line.{Line}
use Rattle.graph_legal.specs.Lines.{Phase}

-- one script for so many workers
abbrev pub shared : List Line → ℕ → List Phase
shared script workers = record { script = script; workers = workers } ∷ []

-- a script for one worker, and behind it one for so many
abbrev pub shared_behind : List Line → List Line → ℕ → List Phase
shared_behind first second workers = record { script = first; workers = 1 } ∷ record { script = second; workers = workers } ∷ []
