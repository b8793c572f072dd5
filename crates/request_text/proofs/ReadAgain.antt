-- A script that is printed is read again.
use Rattle.std.proofs.Common.{◌≡◌, ℕ, ◌+◌, ◌^◌, ◌<◌, ◌≤◌, ◌==◌, false, List, [], ◌∷◌, ◌++◌, length, length-append, append_assoc, append-nil, refl, sym, ap, subst, ◌∙◌, Result, Ok, Err, arith}
use Rattle.std.specs.Prelude.{codes, decimal, nat_lt}
use Rattle.std.specs.List.{slice_split}
use Rattle.std.proofs.lemmas.Fmt.{length-decimal-le}
use Rattle.std.proofs.Common.{All}
use Rattle.std.proofs.lemmas.Bool.{cond-false}
use Rattle.std.proofs.lemmas.List.Elements.{All-nil, All-cons, All-append}
use Rattle.std.proofs.lemmas.List.Splits.{slice_split_at}
use Rattle.hex.specs.Hex.{lower_digits}
use Rattle.hex.proofs.HexLemmas.{length-encode_with}
use Rattle.request_text.specs.declared.request.Request.{Request}
use Rattle.request_text.specs.declared.request.Request.TheVariants.{Begin, Vertex, Set, Get, Drop, Put, Del, Edge, Scan, Labels, Commit, Abort, Compact}
use Rattle.request_text.specs.declared.request.Line.{Line}
use Rattle.request_text.specs.declared.request_name.RequestName.{RequestName}
use Rattle.request_text.specs.Words.{number_of, payload_word}
use Rattle.request_text.specs.Scripts.{session_most, named_most, label_most, line_most, word, request_text, line_text, script_text, Placed, placed, ok_or_column, next, done, vertex_form, label_form, with_v, with_v_l, with_v_l_d, last_payload, rest_of, entry_of, line_of_words, line_of, without_last_empty, lines_of, onto, lines_from, script_of, ◌>>=◌, request_names}
use Rattle.request_text.specs.Limits.{IsPayload, IsNamed, IsLabel, IsRequestWithin, IsWithinLimits, AreWithinLimits}
use Rattle.request_text.proofs.Splits.{slice_split-nonempty}
use Rattle.request_text.proofs.Spelling.{IsPlain, ArePlain, spaced, number_of-decimal, payload_of-payload_word, plain-decimal, plain-payload_word, no_newline, slice_split-spaced}

-- the words of a request
abbrev words_of : Request → List (List ℕ)
words_of Begin = codes "begin" ∷ []
words_of (Vertex p) = codes "vertex" ∷ payload_word p ∷ []
words_of (Set v p) = codes "set" ∷ decimal v ∷ payload_word p ∷ []
words_of (Get v) = codes "get" ∷ decimal v ∷ []
words_of (Drop v) = codes "drop" ∷ decimal v ∷ []
words_of (Put v l d p) = codes "put" ∷ decimal v ∷ decimal l ∷ decimal d ∷ payload_word p ∷ []
words_of (Del v l d) = codes "del" ∷ decimal v ∷ decimal l ∷ decimal d ∷ []
words_of (Edge v l d) = codes "edge" ∷ decimal v ∷ decimal l ∷ decimal d ∷ []
words_of (Scan v l) = codes "scan" ∷ decimal v ∷ decimal l ∷ []
words_of (Labels v) = codes "labels" ∷ decimal v ∷ []
words_of Commit = codes "commit" ∷ []
words_of Abort = codes "abort" ∷ []
words_of (Compact v l) = codes "compact" ∷ decimal v ∷ decimal l ∷ []

-- one to four words behind a first, one by one and together
two : (a b : List ℕ) → word a ++ word b ≡ spaced (a ∷ b ∷ [])
two a b = simp append-nil

three : (a b c : List ℕ) → word a ++ word b ++ word c ≡ spaced (a ∷ b ∷ c ∷ [])
three a b c = simp (append_assoc, append-nil)

four : (a b c d : List ℕ) → word a ++ word b ++ word c ++ word d ≡ spaced (a ∷ b ∷ c ∷ d ∷ [])
four a b c d = simp (append_assoc, append-nil)

five : (a b c d e : List ℕ) → word a ++ word b ++ word c ++ word d ++ word e ≡ spaced (a ∷ b ∷ c ∷ d ∷ e ∷ [])
five a b c d e = simp (append_assoc, append-nil)

-- a request is written as its words
request_text-words : (r : Request) → request_text r ≡ spaced (words_of r)
request_text-words Begin = refl
request_text-words (Vertex p) = two (codes "vertex") (payload_word p)
request_text-words (Set v p) = three (codes "set") (decimal v) (payload_word p)
request_text-words (Get v) = two (codes "get") (decimal v)
request_text-words (Drop v) = two (codes "drop") (decimal v)
request_text-words (Put v l d p) = five (codes "put") (decimal v) (decimal l) (decimal d) (payload_word p)
request_text-words (Del v l d) = four (codes "del") (decimal v) (decimal l) (decimal d)
request_text-words (Edge v l d) = four (codes "edge") (decimal v) (decimal l) (decimal d)
request_text-words (Scan v l) = three (codes "scan") (decimal v) (decimal l)
request_text-words (Labels v) = two (codes "labels") (decimal v)
request_text-words Commit = refl
request_text-words Abort = refl
request_text-words (Compact v l) = three (codes "compact") (decimal v) (decimal l)

-- numbers within their limits fit
named_fits : (v : ℕ) → IsNamed v → v < 2 ^ 64
named_fits v h = omega arith

label_fits : (l : ℕ) → IsLabel l → l < 2 ^ 64
label_fits l h = omega arith

pv : (v : ℕ) → IsNamed v → IsPlain (decimal v)
pv v h = plain-decimal v (named_fits v h)

pl : (l : ℕ) → IsLabel l → IsPlain (decimal l)
pl l h = plain-decimal l (label_fits l h)

-- the words of a request within its limits are plain
plain-words_of : (r : Request) → IsRequestWithin r → ArePlain (words_of r)
plain-words_of Begin h = (refl, tt)
plain-words_of (Vertex p) h = (refl, (plain-payload_word p h, tt))
plain-words_of (Set v p) h = (refl, (pv v h.0, (plain-payload_word p h.1, tt)))
plain-words_of (Get v) h = (refl, (pv v h, tt))
plain-words_of (Drop v) h = (refl, (pv v h, tt))
plain-words_of (Put v l d p) h = (refl, (pv v h.0, (pl l h.1, (pv d h.2, (plain-payload_word p h.3, tt)))))
plain-words_of (Del v l d) h = (refl, (pv v h.0, (pl l h.1, (pv d h.2, tt))))
plain-words_of (Edge v l d) h = (refl, (pv v h.0, (pl l h.1, (pv d h.2, tt))))
plain-words_of (Scan v l) h = (refl, (pv v h.0, (pl l h.1, tt)))
plain-words_of (Labels v) h = (refl, (pv v h, tt))
plain-words_of Commit h = (refl, tt)
plain-words_of Abort h = (refl, tt)
plain-words_of (Compact v l) h = (refl, (pv v h.0, (pl l h.1, tt)))

-- ---- a word in its place is read

next-number : (most n end column : ℕ) (words : List Placed) → n ≤ most → n < 2 ^ 64
    → next (number_of most) end (record { column = column; bytes = decimal n } ∷ words) ≡ Ok (n, words)
next-number most n end column words within fits = ap (λ o. ok_or_column column o words) (number_of-decimal most n within fits)

with_v-reads : (go : ℕ → List Placed → Result Request ℕ) (v end column : ℕ) (words : List (List ℕ)) → IsNamed v
    → with_v go end (placed column (decimal v ∷ words)) ≡ go v (placed (column + length (decimal v) + 1) words)
with_v-reads go v end column words h =
    ap (λ r. r >>= λ x. go x.0 x.1) (next-number named_most v end column (placed (column + length (decimal v) + 1) words) h (named_fits v h))

with_v_l-reads : (go : ℕ → ℕ → List Placed → Result Request ℕ) (v l end column : ℕ) (words : List (List ℕ)) → IsNamed v → IsLabel l
    → with_v_l go end (placed column (decimal v ∷ decimal l ∷ words)) ≡ go v l (placed (column + length (decimal v) + 1 + length (decimal l) + 1) words)
with_v_l-reads go v l end column words hv hl =
    let at_l = column + length (decimal v) + 1 in
    let after = placed (at_l + length (decimal l) + 1) words in
    ap (λ r. r >>= λ x. next label_form end x.1 >>= λ y. go x.0 y.0 y.1)
    (next-number named_most v end column (record { column = at_l; bytes = decimal l } ∷ after) hv (named_fits v hv))
    ∙ ap (λ r. r >>= λ y. go v y.0 y.1) (next-number label_most l end at_l after hl (label_fits l hl))

with_v_l_d-reads : (go : ℕ → ℕ → ℕ → List Placed → Result Request ℕ) (v l d end column : ℕ) (words : List (List ℕ)) → IsNamed v → IsLabel l → IsNamed d
    → with_v_l_d go end (placed column (decimal v ∷ decimal l ∷ decimal d ∷ words))
    ≡ go v l d (placed (column + length (decimal v) + 1 + length (decimal l) + 1 + length (decimal d) + 1) words)
with_v_l_d-reads go v l d end column words hv hl hd =
    let at_l = column + length (decimal v) + 1 in
    let at_d = at_l + length (decimal l) + 1 in
    let after = placed (at_d + length (decimal d) + 1) words in
    ap (λ r. r >>= λ x. next label_form end x.1 >>= λ y. next vertex_form end y.1 >>= λ z. go x.0 y.0 z.0 z.1)
    (next-number named_most v end column (record { column = at_l; bytes = decimal l } ∷ record { column = at_d; bytes = decimal d } ∷ after) hv (named_fits v hv))
    ∙ ap (λ r. r >>= λ y. next vertex_form end y.1 >>= λ z. go v y.0 z.0 z.1)
    (next-number label_most l end at_l (record { column = at_d; bytes = decimal d } ∷ after) hl (label_fits l hl))
    ∙ ap (λ r. r >>= λ z. go v l z.0 z.1) (next-number named_most d end at_d after hd (named_fits d hd))

last_payload-reads : (make : List ℕ → Request) (p : List ℕ) (end column : ℕ) → IsPayload p
    → last_payload make end (placed column (payload_word p ∷ [])) ≡ Ok (make p)
last_payload-reads make p end column h =
    ap (λ o. ok_or_column column o [] >>= λ x. done (make x.0) x.1) (payload_of-payload_word p h)

-- the words of a request are read as the request
request-reads : (r : Request) (end column : ℕ) → IsRequestWithin r
    → (next (entry_of request_names) end (placed column (words_of r)) >>= λ name. rest_of name.0 end name.1) ≡ Ok r
request-reads Begin end column h = refl
request-reads (Vertex p) end column h = last_payload-reads (λ q. Vertex q) p end _ h
request-reads (Set v p) end column h =
    with_v-reads (λ w. last_payload (λ q. Set w q) end) v end _ (payload_word p ∷ []) h.0 ∙ last_payload-reads (λ q. Set v q) p end _ h.1
request-reads (Get v) end column h = with_v-reads (λ w. done (Get w)) v end _ [] h
request-reads (Drop v) end column h = with_v-reads (λ w. done (Drop w)) v end _ [] h
request-reads (Put v l d p) end column h =
    with_v_l_d-reads (λ w m e. last_payload (λ q. Put w m e q) end) v l d end _ (payload_word p ∷ []) h.0 h.1 h.2
    ∙ last_payload-reads (λ q. Put v l d q) p end _ h.3
request-reads (Del v l d) end column h = with_v_l_d-reads (λ w m e. done (Del w m e)) v l d end _ [] h.0 h.1 h.2
request-reads (Edge v l d) end column h = with_v_l_d-reads (λ w m e. done (Edge w m e)) v l d end _ [] h.0 h.1 h.2
request-reads (Scan v l) end column h = with_v_l-reads (λ w m. done (Scan w m)) v l end _ [] h.0 h.1
request-reads (Labels v) end column h = with_v-reads (λ w. done (Labels w)) v end _ [] h
request-reads Commit end column h = refl
request-reads Abort end column h = refl
request-reads (Compact v l) end column h = with_v_l-reads (λ w m. done (Compact w m)) v l end _ [] h.0 h.1

-- ---- the lengths of words, and of a line

short_decimal : (n : ℕ) → n < 2 ^ 64 → length (decimal n) ≤ 20
short_decimal n fits = length-decimal-le 20 n (omega arith) (omega arith) fits

sv : (v : ℕ) → IsNamed v → length (decimal v) ≤ 20
sv v h = short_decimal v (named_fits v h)

sl : (l : ℕ) → IsLabel l → length (decimal l) ≤ 20
sl l h = short_decimal l (label_fits l h)

short_payload : (p : List ℕ) → IsPayload p → length (payload_word p) ≤ 131070
short_payload [] h = omega arith
short_payload (b ∷ bytes) h = omega (arith, h.0, length-encode_with lower_digits (b ∷ bytes))

-- the length of words, with a space before each
abbrev extent : List (List ℕ) → ℕ
extent [] = 0
extent (w ∷ words) = length w + 1 + extent words

length-spaced : (words : List (List ℕ)) → length (spaced words) ≡ extent words
length-spaced [] = refl
length-spaced (w ∷ words) = omega (arith, length-append w (spaced words), length-spaced words)

-- the words of a request within its limits are short enough for a line
short_words : (r : Request) → IsRequestWithin r → extent (words_of r) ≤ 140000
short_words Begin h = omega arith
short_words (Vertex p) h = omega (arith, short_payload p h)
short_words (Set v p) h = omega (arith, sv v h.0, short_payload p h.1)
short_words (Get v) h = omega (arith, sv v h)
short_words (Drop v) h = omega (arith, sv v h)
short_words (Put v l d p) h = omega (arith, sv v h.0, sl l h.1, sv d h.2, short_payload p h.3)
short_words (Del v l d) h = omega (arith, sv v h.0, sl l h.1, sv d h.2)
short_words (Edge v l d) h = omega (arith, sv v h.0, sl l h.1, sv d h.2)
short_words (Scan v l) h = omega (arith, sv v h.0, sl l h.1)
short_words (Labels v) h = omega (arith, sv v h)
short_words Commit h = omega arith
short_words Abort h = omega arith
short_words (Compact v l) h = omega (arith, sv v h.0, sl l h.1)

-- ---- a line, and a script

-- a line is its session and the words of its request
line_text-words : (line : Line) → line_text line ≡ decimal line.session ++ spaced (words_of line.request)
line_text-words line = ap (λ ws. decimal line.session ++ ws) (request_text-words line.request)

session_fits : (s : ℕ) → s ≤ session_most → s < 2 ^ 64
session_fits s h = omega arith

short_line : (line : Line) → IsWithinLimits line → length (line_text line) ≤ line_most
short_line line h =
    rw (line_text-words line)
    (omega (arith, length-append (decimal line.session) (spaced (words_of line.request)), length-spaced (words_of line.request), short_words line.request h.request, short_decimal line.session (session_fits line.session h.session)))

-- the line of a session and a request
abbrev as_line : ℕ → Request → Result Line ℕ
as_line s request = Ok (record { session = s; request = request })

-- what the request is read as decides what the line is
rest-read : (s end : ℕ) (named_rest : Result (RequestName × List Placed) ℕ) (r : Request) → (named_rest >>= λ name. rest_of name.0 end name.1) ≡ Ok r
    → (named_rest >>= λ name. rest_of name.0 end name.1 >>= λ request. as_line s request) ≡ as_line s r
rest-read s end (Ok rest) r read = ap (λ q. q >>= λ request. as_line s request) read
rest-read s end (Err column) r read = cc read

-- the session and the words of a request are read as the line
words-read : (line : Line) (end : ℕ) → IsWithinLimits line
    → line_of_words end (placed 1 (decimal line.session ∷ words_of line.request)) ≡ Ok line
words-read line end h =
    let after = placed (1 + length (decimal line.session) + 1) (words_of line.request) in
    ap (λ r. r >>= λ session. next (entry_of request_names) end session.1 >>= λ name. rest_of name.0 end name.1 >>= λ request. as_line session.0 request)
    (next-number session_most line.session end 1 after h.session (session_fits line.session h.session))
    ∙ rest-read line.session end (next (entry_of request_names) end after) line.request (request-reads line.request end _ h.request)

-- the words of a line that is printed
line_text-split : (line : Line) → IsWithinLimits line → slice_split (λ b. b == 32) (line_text line) ≡ decimal line.session ∷ words_of line.request
line_text-split line h =
    ap (slice_split (λ b. b == 32)) (line_text-words line)
    ∙ slice_split-spaced (decimal line.session) (words_of line.request)
    (plain-decimal line.session (session_fits line.session h.session)) (plain-words_of line.request h.request)

-- a line that is not too long is what its words are
line_of-short : (bytes : List ℕ) → length bytes ≤ line_most → line_of bytes ≡ line_of_words (length bytes + 1) (placed 1 (slice_split (λ b. b == 32) bytes))
line_of-short bytes short =
    let not_long : nat_lt line_most (length bytes) ≡ false = grind arith in
    cond-false (nat_lt line_most (length bytes)) _ _ not_long

-- a line that is printed is read again
line_of-line_text : (line : Line) → IsWithinLimits line → line_of (line_text line) ≡ Ok line
line_of-line_text line h =
    let end = length (line_text line) + 1 in
    line_of-short (line_text line) (short_line line h)
    ∙ ap (λ words. line_of_words end (placed 1 words)) (line_text-split line h)
    ∙ words-read line end h

-- the words of a request have no newline, nor has the line
plain-spaced : (words : List (List ℕ)) → ArePlain words → All (λ b. (b == 10) ≡ false) (spaced words)
plain-spaced [] h = All-nil (λ b. (b == 10) ≡ false)
plain-spaced (w ∷ words) h =
    let P : ℕ → Type 0 = λ b. (b == 10) ≡ false in
    All-append P (32 ∷ w) (spaced words) (All-cons P 32 w refl (no_newline w h.0)) (plain-spaced words h.1)

line_text-no_newline : (line : Line) → IsWithinLimits line → All (λ b. (b == 10) ≡ false) (line_text line)
line_text-no_newline line h =
    let P : ℕ → Type 0 = λ b. (b == 10) ≡ false in
    let words = spaced (words_of line.request) in
    let all = All-append P (decimal line.session) words
    (no_newline (decimal line.session) (plain-decimal line.session (session_fits line.session h.session)))
    (plain-spaced (words_of line.request) (plain-words_of line.request h.request)) in
    let Q : List ℕ → Type 0 = λ bytes. All P bytes in
    subst Q (sym (line_text-words line)) all

-- a line and its newline are the first line of a text
lines_of-line : (bytes rest : List ℕ) → All (λ b. (b == 10) ≡ false) bytes → lines_of (bytes ++ 10 ∷ rest) ≡ bytes ∷ lines_of rest
lines_of-line bytes rest plain =
    let more = slice_split-nonempty (λ b. b == 10) rest in
    ap without_last_empty (slice_split_at (λ b. b == 10) bytes 10 rest plain refl)
    ∙ ap (λ lines. without_last_empty (bytes ∷ lines)) more.2
    ∙ sym (ap (λ lines. bytes ∷ without_last_empty lines) more.2)

-- lines that are printed are read again, whatever their first number
lines_from-script_text : (number : ℕ) (lines : List Line) → AreWithinLimits lines → lines_from number (lines_of (script_text lines)) ≡ Ok lines
lines_from-script_text number [] h = refl
lines_from-script_text number (line ∷ lines) h =
    ap (λ text. lines_from number (lines_of text)) (append_assoc (line_text line) (10 ∷ []) (script_text lines))
    ∙ ap (lines_from number) (lines_of-line (line_text line) (script_text lines) (line_text-no_newline line h.0))
    ∙ ap (λ r. onto r number (lines_from (number + 1) (lines_of (script_text lines)))) (line_of-line_text line h.0)
    ∙ ap (onto (Ok line) number) (lines_from-script_text (number + 1) lines h.1)

-- a script that is printed is read again
pub script_of-script_text : (lines : List Line) → AreWithinLimits lines → script_of (script_text lines) ≡ Ok lines
script_of-script_text lines h = lines_from-script_text 1 lines h
