-- The text of a script: its lines, their words, and the first bad place.
use Rattle.std.specs.Prelude.{ℕ, ◌+◌, ◌==◌, nat_lt, if◌then◌else◌, List, [], ◌∷◌, ◌++◌, length, Option, Some, None, Result, Ok, Err, decimal, flat_map, codes}
use Rattle.std.specs.List.{slice_split}
use Rattle.request_text.specs.declared.request.Request.{Request}
use Rattle.request_text.specs.declared.request.Request.TheVariants.{Begin, Vertex, Set, Get, Drop, Put, Del, Edge, Scan, Labels, Commit, Abort, Compact}
use Rattle.request_text.specs.declared.request.Line.{Line}
use Rattle.request_text.specs.declared.request_name.RequestName.{RequestName}
use Rattle.request_text.specs.declared.request_name.RequestName.TheVariants as name
use Rattle.request_text.specs.Words.{same_word, number_of, payload_of, payload_word}

-- the limits of the numbers in a line
abbrev pub session_most : ℕ
session_most = 65535

abbrev pub named_most : ℕ
named_most = 9223372036854775807

abbrev pub label_most : ℕ
label_most = 65535

abbrev pub line_most : ℕ
line_most = 200000

-- ---- what is written: the words of a request, and a line of them

abbrev pub word : List ℕ → List ℕ
word bytes = 32 ∷ bytes

abbrev pub number_word : ℕ → List ℕ
number_word n = word (decimal n)

abbrev pub request_text : Request → List ℕ
request_text Begin = word (codes "begin")
request_text (Vertex p) = word (codes "vertex") ++ word (payload_word p)
request_text (Set v p) = word (codes "set") ++ number_word v ++ word (payload_word p)
request_text (Get v) = word (codes "get") ++ number_word v
request_text (Drop v) = word (codes "drop") ++ number_word v
request_text (Put v l d p) = word (codes "put") ++ number_word v ++ number_word l ++ number_word d ++ word (payload_word p)
request_text (Del v l d) = word (codes "del") ++ number_word v ++ number_word l ++ number_word d
request_text (Edge v l d) = word (codes "edge") ++ number_word v ++ number_word l ++ number_word d
request_text (Scan v l) = word (codes "scan") ++ number_word v ++ number_word l
request_text (Labels v) = word (codes "labels") ++ number_word v
request_text Commit = word (codes "commit")
request_text Abort = word (codes "abort")
request_text (Compact v l) = word (codes "compact") ++ number_word v ++ number_word l

abbrev pub line_text : Line → List ℕ
line_text line = decimal line.session ++ request_text line.request

-- the text of a script whose last line has its newline
abbrev pub script_text : List Line → List ℕ
script_text lines = flat_map (λ line. line_text line ++ 10 ∷ []) lines

-- ---- what is read

-- a word and the column of its first byte
pub record Placed : Type 0 where
  pub column : ℕ
  pub bytes : List ℕ

-- the words, the first of them at this column
abbrev pub placed : ℕ → List (List ℕ) → List Placed
placed column [] = []
placed column (bytes ∷ words) = record { column = column; bytes = bytes } ∷ placed (column + length bytes + 1) words

-- A step of reading: what was read with the words after it, or the bad column.
infixl 10 ◌>>=◌
abbrev pub ◌>>=◌ : {A B : Type 0} → Result A ℕ → (A → Result B ℕ) → Result B ℕ
(Ok x) >>= f = f x
(Err column) >>= f = Err column

abbrev pub ok_or_column : {A : Type 0} → ℕ → Option A → List Placed → Result (A × List Placed) ℕ
ok_or_column column (Some x) words = Ok (x, words)
ok_or_column column None words = Err column

-- The next word, which is to have a form. Where words are missing, the bad column is the line's end.
abbrev pub next : {A : Type 0} → (List ℕ → Option A) → ℕ → List Placed → Result (A × List Placed) ℕ
next form end [] = Err end
next form end (x ∷ words) = ok_or_column x.column (form x.bytes) words

-- no word is left; one too many is bad
abbrev pub done : Request → List Placed → Result Request ℕ
done request [] = Ok request
done request (x ∷ words) = Err x.column

abbrev pub vertex_form : List ℕ → Option ℕ
vertex_form = number_of named_most

abbrev pub label_form : List ℕ → Option ℕ
label_form = number_of label_most

-- a request that has a vertex as its first word
abbrev pub with_v : (ℕ → List Placed → Result Request ℕ) → ℕ → List Placed → Result Request ℕ
with_v go end words = do
  v ← next vertex_form end words
  go v.0 v.1

-- a request that has a vertex and a label
abbrev pub with_v_l : (ℕ → ℕ → List Placed → Result Request ℕ) → ℕ → List Placed → Result Request ℕ
with_v_l go end words = do
  v ← next vertex_form end words
  l ← next label_form end v.1
  go v.0 l.0 l.1

-- a request that has a vertex, a label and a destination
abbrev pub with_v_l_d : (ℕ → ℕ → ℕ → List Placed → Result Request ℕ) → ℕ → List Placed → Result Request ℕ
with_v_l_d go end words = do
  v ← next vertex_form end words
  l ← next label_form end v.1
  d ← next vertex_form end l.1
  go v.0 l.0 d.0 d.1

-- a payload as the last word
abbrev pub last_payload : (List ℕ → Request) → ℕ → List Placed → Result Request ℕ
last_payload make end words = do
  p ← next payload_of end words
  done (make p.0) p.1

-- How the words after each request's name are read.
abbrev pub Rest : Type 0
Rest = ℕ → List Placed → Result Request ℕ

abbrev pub rest_of : RequestName → Rest
rest_of name.Begin = λ end words. done Begin words
rest_of name.Commit = λ end words. done Commit words
rest_of name.Abort = λ end words. done Abort words
rest_of name.Vertex = λ end words. last_payload (λ p. Vertex p) end words
rest_of name.Set = λ end. with_v (λ v. last_payload (λ p. Set v p) end) end
rest_of name.Get = λ end. with_v (λ v. done (Get v)) end
rest_of name.Drop = λ end. with_v (λ v. done (Drop v)) end
rest_of name.Put = λ end. with_v_l_d (λ v l d. last_payload (λ p. Put v l d p) end) end
rest_of name.Del = λ end. with_v_l_d (λ v l d. done (Del v l d)) end
rest_of name.Edge = λ end. with_v_l_d (λ v l d. done (Edge v l d)) end
rest_of name.Scan = λ end. with_v_l (λ v l. done (Scan v l)) end
rest_of name.Labels = λ end. with_v (λ v. done (Labels v)) end
rest_of name.Compact = λ end. with_v_l (λ v l. done (Compact v l)) end

-- the words that name requests
abbrev pub request_names : List (List ℕ × RequestName)
request_names =
    (codes "begin", name.Begin)
    ∷ (codes "commit", name.Commit)
    ∷ (codes "abort", name.Abort)
    ∷ (codes "vertex", name.Vertex)
    ∷ (codes "set", name.Set)
    ∷ (codes "get", name.Get)
    ∷ (codes "drop", name.Drop)
    ∷ (codes "put", name.Put)
    ∷ (codes "del", name.Del)
    ∷ (codes "edge", name.Edge)
    ∷ (codes "scan", name.Scan)
    ∷ (codes "labels", name.Labels)
    ∷ (codes "compact", name.Compact)
    ∷ []

-- the entry of a name
abbrev pub entry_of : {A : Type 0} → List (List ℕ × A) → List ℕ → Option A
entry_of [] bytes = None
entry_of (x ∷ xs) bytes = if same_word x.0 bytes then Some x.1 else entry_of xs bytes

-- the line that these words are, or the bad column
abbrev pub line_of_words : ℕ → List Placed → Result Line ℕ
line_of_words end words = do
  session ← next (number_of session_most) end words
  name ← next (entry_of request_names) end session.1
  request ← rest_of name.0 end name.1
  Ok (record { session = session.0; request = request })

-- the line that these bytes are, or the bad column, from 1
abbrev pub line_of : List ℕ → Result Line ℕ
line_of bytes =
    if nat_lt line_most (length bytes) then Err (line_most + 1)
    else line_of_words (length bytes + 1) (placed 1 (slice_split (λ b. b == 32) bytes))

-- A bad place: the line from 1, and the column.
pub record BadPlace : Type 0 where
  pub line : ℕ
  pub column : ℕ

-- the lines of a text, of which the last may lack its newline
abbrev pub without_last_empty : List (List ℕ) → List (List ℕ)
without_last_empty [] = []
without_last_empty ([] ∷ []) = []
without_last_empty ((b ∷ bs) ∷ []) = (b ∷ bs) ∷ []
without_last_empty (x ∷ y ∷ lines) = x ∷ without_last_empty (y ∷ lines)

abbrev pub lines_of : List ℕ → List (List ℕ)
lines_of bytes = without_last_empty (slice_split (λ b. b == 10) bytes)

abbrev pub onto : Result Line ℕ → ℕ → Result (List Line) BadPlace → Result (List Line) BadPlace
onto (Err column) number rest = Err (record { line = number; column = column })
onto (Ok line) number (Err place) = Err place
onto (Ok line) number (Ok lines) = Ok (line ∷ lines)

-- the lines, the first of them with this number, or the first bad place
abbrev pub lines_from : ℕ → List (List ℕ) → Result (List Line) BadPlace
lines_from number [] = Ok []
lines_from number (bytes ∷ lines) = onto (line_of bytes) number (lines_from (number + 1) lines)

-- the script that the bytes are, or the first bad place
abbrev pub script_of : List ℕ → Result (List Line) BadPlace
script_of bytes = lines_from 1 (lines_of bytes)
