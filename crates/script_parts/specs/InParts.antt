-- Lines that lie in parts.
use Rattle.std.specs.Prelude.{ℕ, List, [], ◌∷◌, ◌++◌}
use Rattle.request_text.specs.declared.request.Line.{Line}

-- the session of a line
abbrev pub session_of : Line → ℕ
session_of line = line.session

-- the lines of parts, one behind another
abbrev pub lines_in : List (List Line) → List Line
lines_in [] = []
lines_in (part ∷ parts) = part ++ lines_in parts
