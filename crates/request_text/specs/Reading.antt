-- How what a reader returned stands to what the text is.
use Rattle.std.specs.Prelude.{◌≡◌, ℕ, List, Result, Ok, Err}
use Rattle.request_text.specs.declared.refusal.LineRefusal.{LineRefusal}
use Rattle.request_text.specs.declared.refusal.LineRefusal.TheVariants as refusal
use Rattle.request_text.specs.declared.refusal.TextRefusal.{TextRefusal}
use Rattle.request_text.specs.declared.refusal.TextRefusal.TheVariants as text
use Rattle.request_text.specs.declared.request.Line.{Line}
use Rattle.request_text.specs.Scripts.{BadPlace}

-- a refusal says which column is bad, unless memory ran out
abbrev pub Refuses : {Y : Type 0} → LineRefusal → Result Y ℕ → Type 0
Refuses refusal.NoMemory read = Unit {0}
Refuses (refusal.Column column) read = read ≡ Err column

-- what was returned, seen by view, is what the text is, unless memory ran out
abbrev pub Gives : {X Y : Type 0} → (X → Y) → Result X LineRefusal → Result Y ℕ → Type 0
Gives view (Ok x) read = read ≡ Ok (view x)
Gives view (Err e) read = Refuses e read

-- the refusal of a text whose first bad line has this number
abbrev pub at_line : ℕ → LineRefusal → TextRefusal
at_line line (refusal.Column column) = text.BadLine line column
at_line line refusal.NoMemory = text.NoMemory

-- the number of a refusal
abbrev pub number_of_refusal : TextRefusal → ℕ
number_of_refusal (text.BadLine line column) = 1
number_of_refusal text.NoMemory = 2

-- a refusal names the first bad place, unless memory ran out
abbrev pub RefusesText : TextRefusal → Result (List Line) BadPlace → Type 0
RefusesText text.NoMemory read = Unit {0}
RefusesText (text.BadLine line column) read = read ≡ Err (record { line = line; column = column })
