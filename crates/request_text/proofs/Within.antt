-- What is read is within the limits.
use Rattle.std.proofs.Common.{◌≡◌, ℕ, ◌+◌, ◌≤◌, ◌==◌, true, List, [], ◌∷◌, length, refl, sym, ap, subst, ◌∙◌, inl, inr, Option, Some, None, Result, Ok, Err, arith}
use Rattle.std.specs.Prelude.{codes, nat_lt, unwrap_or}
use Rattle.std.specs.List.{slice_split}
use Rattle.std.proofs.lemmas.Bool.{cases_Bool, cond-true, cond-false}
use Rattle.hex.specs.Hex.{decode_of}
use Rattle.hex.specs.declared.error.FromHexError.{FromHexError}
use Rattle.hex.proofs.HexLemmas.{decode_of-ok}
use Rattle.request_text.specs.declared.request.Request.{Request}
use Rattle.request_text.specs.declared.request.Request.TheVariants.{Begin, Vertex, Set, Get, Drop, Put, Del, Edge, Scan, Labels, Commit, Abort, Compact}
use Rattle.request_text.specs.declared.request.Line.{Line}
use Rattle.request_text.specs.declared.request_name.RequestName.{RequestName}
use Rattle.request_text.specs.declared.request_name.RequestName.TheVariants as name
use Rattle.request_text.specs.Words.{same_word, number_of, payload_of, is_hex_word, ok_bytes}
use Rattle.request_text.specs.Scripts.{session_most, named_most, label_most, line_most, Placed, placed, ok_or_column, next, done, vertex_form, label_form, with_v, with_v_l, with_v_l_d, last_payload, Rest, rest_of, entry_of, line_of_words, line_of, lines_of, onto, lines_from, script_of, BadPlace, ◌>>=◌, request_names}
use Rattle.request_text.specs.Limits.{IsPayload, IsNamed, IsLabel, IsRequestWithin, IsWithinLimits, AreWithinLimits}
use Rattle.request_text.proofs.Payloads.{length-decoded}

-- a step that succeeded, and the step before it
bind_ok : {A B : Type 0} (r : Result A ℕ) (f : A → Result B ℕ) (y : B) → (r >>= f) ≡ Ok y → (x : A) × (r ≡ Ok x) × (f x ≡ Ok y)
bind_ok (Ok x) f y h = (x, refl, h)
bind_ok (Err column) f y h = cc h

-- a word that was read has its form
form-ok : {A : Type 0} (column : ℕ) (o : Option A) (words : List Placed) (x : A × List Placed) → ok_or_column column o words ≡ Ok x → o ≡ Some x.0
form-ok column None words x h = cc h
form-ok {A = A} column (Some y) words x h =
    let first : Result (A × List Placed) ℕ → Option A = λ r. elim r [ Ok z ↦ Some z.0 | Err e ↦ None ] in
    ap first h

next-ok : {A : Type 0} (form : List ℕ → Option A) (end : ℕ) (words : List Placed) (x : A × List Placed) → next form end words ≡ Ok x
    → (bytes : List ℕ) × (form bytes ≡ Some x.0)
next-ok form end [] x h = cc h
next-ok form end (w ∷ words) x h = (w.bytes, form-ok w.column (form w.bytes) words x h)

-- a number that was read is within its limit
number_of-within : (most : ℕ) (word : List ℕ) (n : ℕ) → number_of most word ≡ Some n → n ≤ most
number_of-within most word n h = grind arith

-- a payload that was read is within the limit
decoded-within : (word p : List ℕ) (r : Result (List ℕ) FromHexError) → decode_of word ≡ r → is_hex_word word ≡ true → ok_bytes r ≡ Some p → IsPayload p
decoded-within word p (Err e) is digits h = cc h
decoded-within word p (Ok bytes) is digits h =
    let same : bytes ≡ p = ap (λ o. unwrap_or o bytes) h in
    subst IsPayload same (length-decoded word bytes digits is, (decode_of-ok word bytes is).3)

payload_of-within : (word p : List ℕ) → payload_of word ≡ Some p → IsPayload p
payload_of-within word p h =
    elim (cases_Bool (same_word word (codes "-"))) [
      | inl dash ↦
          let same : [] ≡ p = ap (λ o. unwrap_or o []) (sym (cond-true (same_word word (codes "-")) _ _ dash) ∙ h) in
          subst IsPayload same (omega arith, λ i. omega arith)
      | inr other ↦
          let inner = sym (cond-false (same_word word (codes "-")) _ _ other) ∙ h in
          elim (cases_Bool (is_hex_word word)) [
            | inl digits ↦ decoded-within word p (decode_of word) refl digits (sym (cond-true (is_hex_word word) _ _ digits) ∙ inner)
            | inr none ↦ cc (sym (cond-false (is_hex_word word) _ _ none) ∙ inner)
          ]
    ]

-- ---- what the words after a name are read as is within the limits

-- the same of a way to read them
abbrev IsRestWithin : Rest → Type 0
IsRestWithin rest = (end : ℕ) (words : List Placed) (r : Request) → rest end words ≡ Ok r → IsRequestWithin r

-- at the end the request is what was read
done-ok : (q : Request) (words : List Placed) (r : Request) → done q words ≡ Ok r → IsRequestWithin q → IsRequestWithin r
done-ok q [] r h within = let same : q ≡ r = ap (λ (o : Result Request ℕ). elim o [ Ok x ↦ x | Err e ↦ q ]) h in subst IsRequestWithin same within
done-ok q (w ∷ words) r h within = cc h

named-ok : (end : ℕ) (words : List Placed) (x : ℕ × List Placed) → next vertex_form end words ≡ Ok x → IsNamed x.0
named-ok end words x h = let read = next-ok vertex_form end words x h in number_of-within named_most read.0 x.0 read.1

label-ok : (end : ℕ) (words : List Placed) (x : ℕ × List Placed) → next label_form end words ≡ Ok x → IsLabel x.0
label-ok end words x h = let read = next-ok label_form end words x h in number_of-within label_most read.0 x.0 read.1

with_v-within : (go : ℕ → List Placed → Result Request ℕ) (end : ℕ) (words : List Placed) (r : Request)
    → ((v : ℕ) (more : List Placed) → IsNamed v → go v more ≡ Ok r → IsRequestWithin r)
    → with_v go end words ≡ Ok r → IsRequestWithin r
with_v-within go end words r within h =
    let v = bind_ok (next vertex_form end words) _ r h in
    within v.0.0 v.0.1 (named-ok end words v.0 v.1) v.2

with_v_l-within : (go : ℕ → ℕ → List Placed → Result Request ℕ) (end : ℕ) (words : List Placed) (r : Request)
    → ((v l : ℕ) (more : List Placed) → IsNamed v → IsLabel l → go v l more ≡ Ok r → IsRequestWithin r)
    → with_v_l go end words ≡ Ok r → IsRequestWithin r
with_v_l-within go end words r within h =
    let v = bind_ok (next vertex_form end words) _ r h in
    let l = bind_ok (next label_form end v.0.1) _ r v.2 in
    within v.0.0 l.0.0 l.0.1 (named-ok end words v.0 v.1) (label-ok end v.0.1 l.0 l.1) l.2

with_v_l_d-within : (go : ℕ → ℕ → ℕ → List Placed → Result Request ℕ) (end : ℕ) (words : List Placed) (r : Request)
    → ((v l d : ℕ) (more : List Placed) → IsNamed v → IsLabel l → IsNamed d → go v l d more ≡ Ok r → IsRequestWithin r)
    → with_v_l_d go end words ≡ Ok r → IsRequestWithin r
with_v_l_d-within go end words r within h =
    let v = bind_ok (next vertex_form end words) _ r h in
    let l = bind_ok (next label_form end v.0.1) _ r v.2 in
    let d = bind_ok (next vertex_form end l.0.1) _ r l.2 in
    within v.0.0 l.0.0 d.0.0 d.0.1 (named-ok end words v.0 v.1) (label-ok end v.0.1 l.0 l.1) (named-ok end l.0.1 d.0 d.1) d.2

last_payload-within : (make : List ℕ → Request) (end : ℕ) (words : List Placed) (r : Request)
    → ((p : List ℕ) → IsPayload p → IsRequestWithin (make p)) → last_payload make end words ≡ Ok r → IsRequestWithin r
last_payload-within make end words r within h =
    let p = bind_ok (next payload_of end words) _ r h in
    let read = next-ok payload_of end words p.0 p.1 in
    done-ok (make p.0.0) p.0.1 r p.2 (within p.0.0 (payload_of-within read.0 p.0.0 read.1))

-- the way of each name
rest_of-within : (n : RequestName) → IsRestWithin (rest_of n)
rest_of-within name.Begin = λ end words r h. done-ok Begin words r h tt
rest_of-within name.Commit = λ end words r h. done-ok Commit words r h tt
rest_of-within name.Abort = λ end words r h. done-ok Abort words r h tt
rest_of-within name.Vertex = λ end words r h. last_payload-within (λ p. Vertex p) end words r (λ p hp. hp) h
rest_of-within name.Set = λ end words r h.
    with_v-within (λ v. last_payload (λ p. Set v p) end) end words r (λ v more hv e. last_payload-within (λ p. Set v p) end more r (λ p hp. (hv, hp)) e) h
rest_of-within name.Get = λ end words r h. with_v-within (λ v. done (Get v)) end words r (λ v more hv e. done-ok (Get v) more r e hv) h
rest_of-within name.Drop = λ end words r h. with_v-within (λ v. done (Drop v)) end words r (λ v more hv e. done-ok (Drop v) more r e hv) h
rest_of-within name.Put = λ end words r h.
    with_v_l_d-within (λ v l d. last_payload (λ p. Put v l d p) end) end words r
    (λ v l d more hv hl hd e. last_payload-within (λ p. Put v l d p) end more r (λ p hp. (hv, hl, hd, hp)) e) h
rest_of-within name.Del = λ end words r h.
    with_v_l_d-within (λ v l d. done (Del v l d)) end words r (λ v l d more hv hl hd e. done-ok (Del v l d) more r e (hv, hl, hd)) h
rest_of-within name.Edge = λ end words r h.
    with_v_l_d-within (λ v l d. done (Edge v l d)) end words r (λ v l d more hv hl hd e. done-ok (Edge v l d) more r e (hv, hl, hd)) h
rest_of-within name.Scan = λ end words r h.
    with_v_l-within (λ v l. done (Scan v l)) end words r (λ v l more hv hl e. done-ok (Scan v l) more r e (hv, hl)) h
rest_of-within name.Labels = λ end words r h. with_v-within (λ v. done (Labels v)) end words r (λ v more hv e. done-ok (Labels v) more r e hv) h
rest_of-within name.Compact = λ end words r h.
    with_v_l-within (λ v l. done (Compact v l)) end words r (λ v l more hv hl e. done-ok (Compact v l) more r e (hv, hl)) h

-- ---- lines, and a script

line_of_words-within : (end : ℕ) (words : List Placed) (line : Line) → line_of_words end words ≡ Ok line → IsWithinLimits line
line_of_words-within end words line h =
    let session = bind_ok (next (number_of session_most) end words) _ line h in
    let named = bind_ok (next (entry_of request_names) end session.0.1) _ line session.2 in
    let request = bind_ok (rest_of named.0.0 end named.0.1) _ line named.2 in
    let number = next-ok (number_of session_most) end words session.0 session.1 in
    let made : Line = record { session = session.0.0; request = request.0 } in
    let same : made ≡ line = ap (λ (o : Result Line ℕ). elim o [ Ok x ↦ x | Err e ↦ made ]) request.2 in
    subst IsWithinLimits same (record {
      session = number_of-within session_most number.0 session.0.0 number.1;
      request = rest_of-within named.0.0 end named.0.1 request.0 request.1;
    })

line_of-within : (bytes : List ℕ) (line : Line) → line_of bytes ≡ Ok line → IsWithinLimits line
line_of-within bytes line h =
    elim (cases_Bool (nat_lt line_most (length bytes))) [
      | inl long ↦ cc (sym (cond-true (nat_lt line_most (length bytes)) _ _ long) ∙ h)
      | inr short ↦
          line_of_words-within (length bytes + 1) (placed 1 (slice_split (λ b. b == 32) bytes)) line
          (sym (cond-false (nat_lt line_most (length bytes)) _ _ short) ∙ h)
    ]

-- a list of lines that was read has a first line that was read, and those behind it
onto-within : (read : Result Line ℕ) (number : ℕ) (rest : Result (List Line) BadPlace) (lines : List Line) → onto read number rest ≡ Ok lines
    → ((line : Line) → read ≡ Ok line → IsWithinLimits line)
    → ((more : List Line) → rest ≡ Ok more → AreWithinLimits more)
    → AreWithinLimits lines
onto-within (Err column) number rest lines h first others = cc h
onto-within (Ok line) number (Err place) lines h first others = cc h
onto-within (Ok line) number (Ok more) lines h first others =
    let same : line ∷ more ≡ lines = ap (λ (o : Result (List Line) BadPlace). elim o [ Ok x ↦ x | Err e ↦ line ∷ more ]) h in
    subst AreWithinLimits same (first line refl, others more refl)

lines_from-within : (number : ℕ) (texts : List (List ℕ)) (lines : List Line) → lines_from number texts ≡ Ok lines → AreWithinLimits lines
lines_from-within number [] lines h =
    let same : [] ≡ lines = ap (λ (o : Result (List Line) BadPlace). elim o [ Ok x ↦ x | Err e ↦ [] ]) h in
    subst AreWithinLimits same tt
lines_from-within number (bytes ∷ texts) lines h =
    onto-within (line_of bytes) number (lines_from (number + 1) texts) lines h (line_of-within bytes) (λ more. lines_from-within (number + 1) texts more)

-- a script that is read is within the limits
pub script_of-within : (bytes : List ℕ) (lines : List Line) → script_of bytes ≡ Ok lines → AreWithinLimits lines
script_of-within bytes lines h = lines_from-within 1 (lines_of bytes) lines h
