-- Lines of words: a name, numbers, and perhaps a payload, with a space between two and a newline at the end.
use Rattle.std.specs.Prelude.{ℕ, List, [], ◌∷◌, ◌++◌, flat_map}
use Rattle.request_text.specs.Words.{payload_word}
use Rattle.request_text.specs.Scripts.{word, number_word}

abbrev pub newline : List ℕ
newline = 10 ∷ []

-- a name, and numbers behind it
abbrev pub named : List ℕ → List ℕ → List ℕ
named name numbers = name ++ flat_map number_word numbers

-- a line of a name and numbers
abbrev pub line : List ℕ → List ℕ → List ℕ
line name numbers = named name numbers ++ newline

-- a line of a name, numbers and a payload
abbrev pub payload_line : List ℕ → List ℕ → List ℕ → List ℕ
payload_line name numbers p = named name numbers ++ (word (payload_word p) ++ newline)
