-- Each spelling tells where it ends: no two values are spelled at the front of the same bytes.
use Rattle.std.proofs.Common.{◌≡◌, ℕ, ◌+◌, ◌-◌, ◌<◌, ◌≤◌, ◌≢◌, ◌^◌, Bool, true, List, [], ◌∷◌, ◌++◌, length, take, drop, get_or, refl, sym, ap, subst, ◌∙◌, arith, length-append, append_assoc, append-nil, add-one, drop-drop}
use Rattle.std.specs.Prelude.{◌&&◌, ◌==◌, nat_lt, flat_map}
use Rattle.std.specs.List.{list_all}
use Rattle.std.proofs.lemmas.Bool.{and_parts, ltb-true, eqb-true, lt-ltb, eq-eqb}
use Rattle.std.proofs.lemmas.Bool.Decides.{nat_tests}
use Rattle.std.proofs.lemmas.List.{take_all, take-append-drop, length-take, length-drop}
use Rattle.std.proofs.lemmas.List.Folds.{list_all-append}
use Rattle.std.proofs.lemmas.List.Concat.{flat_map-append}
use Rattle.std.proofs.Math.Seq.{drop-append_seam}
use Rattle.graph_model.specs.declared.change.Change.{Change}
use Rattle.graph_model.specs.declared.change.Change.TheVariants.{New, Set, Drop, Put, Del}
use Rattle.graph_model.specs.declared.record.Record.{Record}
use Rattle.group_codec.specs.Spelling.{u16_bytes, u32_bytes, u64_bytes, payload_bytes, is_payload, change_bytes, changes_bytes, has_fields, head_bytes, record_bytes, is_spelled}
use Rattle.group_codec.specs.Reading.{Begins, NoneBegins, ReadsUpTo, vertex_bytes, is_vertex, edge_bytes, is_edge, all_of}
use Rattle.group_codec.proofs.Lengths.{length-u16_bytes, length-u64_bytes, length-payload_bytes, length-changes_bytes, length-record_bytes}
use Rattle.group_codec.proofs.Numbers.{u16_one, u32_one, u64_one, byte-take, byte-drop}

-- No two values that pass are spelled at the front of the same bytes.
abbrev pub TellsEnd : {X : Type 0} → (X → Bool) → (X → List ℕ) → Type 0
TellsEnd {X} test spell = (x y : X) (r s : List ℕ) → test x ≡ true → test y ≡ true → spell x ++ r ≡ spell y ++ s → (x ≡ y) × (r ≡ s)

-- what the bytes are from what they begin with
pub Begins-from : {X : Type 0} (test : X → Bool) (spell : X → List ℕ) (bytes rest : List ℕ) (x : X) → test x ≡ true → bytes ≡ spell x ++ rest → Begins test spell bytes x
Begins-from test spell bytes rest x passes is = record {
  passes = passes;
  spelled = is ∙ ap (λ r. spell x ++ r) (sym (ap (drop (length (spell x))) is ∙ drop-append_seam (spell x) rest));
}

-- lists of one length in front of the same whole are one
pub append_parts : {X : Type 0} (p q r s : List X) → length p ≡ length q → p ++ r ≡ q ++ s → (p ≡ q) × (r ≡ s)
append_parts [] [] r s long e = (refl, e)
append_parts [] (y ∷ q) r s long e = absurd (omega arith)
append_parts (x ∷ p) [] r s long e = absurd (omega arith)
append_parts (x ∷ p) (y ∷ q) r s long e =
    let tails : p ++ r ≡ q ++ s = (cc) in
    let heads : x ≡ y = (cc) in
    let parts = append_parts p q r s (omega arith) tails in
    ((cc), parts.1)

-- a slice from a place to the end
pub to_end : {X : Type 0} (n : ℕ) (xs : List X) → take (length xs - n) (drop n xs) ≡ drop n xs
to_end n xs = take_all (length xs - n) (drop n xs) (omega (arith, length-drop n xs))

-- bytes are numbers below 256
pub all_bytes : (xs : List ℕ) → ((i : ℕ) → get_or xs i 0 < 256) → list_all (λ b. nat_lt b 256) xs ≡ true
all_bytes [] fits = refl
all_bytes (x ∷ xs) fits =
    let here : x < 256 = fits 0 in
    let rest = all_bytes xs (λ i. rw add-one at (fits (i + 1))) in
    let test = lt-ltb x 256 here in
    grind (arith, nat_tests)

-- so few bytes are a payload
pub payload-fits : (p : List ℕ) → ((i : ℕ) → get_or p i 0 < 256) → length p ≤ 65535 → is_payload p ≡ true
payload-fits p below few =
    let all = all_bytes p below in
    let test = lt-ltb (length p) (2 ^ 16) (omega (arith, few)) in
    grind (arith, nat_tests)

-- a payload is the bytes behind its length
pub payload-begins : (bytes : List ℕ) (n : ℕ) (p : List ℕ) → ((i : ℕ) → get_or bytes i 0 < 256) → n < 2 ^ 16 → bytes ≡ u16_bytes n ++ drop 2 bytes → 2 + n ≤ length bytes →
    p ≡ take n (drop 2 bytes) → Begins is_payload payload_bytes bytes p
payload-begins bytes n p fits small front long is =
    let len : length p ≡ n = ap length is ∙ omega (arith, length-take n (drop 2 bytes), length-drop 2 bytes) in
    let below : (i : ℕ) → get_or p i 0 < 256 = λ i. rw is (byte-take n (drop 2 bytes) i (λ k. byte-drop 2 bytes k fits)) in
    let all = all_bytes p below in
    let test = lt-ltb (length p) (2 ^ 16) (omega (arith, len)) in
    let split : drop 2 bytes ≡ p ++ drop n (drop 2 bytes) = sym (take-append-drop n (drop 2 bytes)) ∙ ap (λ xs. xs ++ drop n (drop 2 bytes)) (sym is) in
    Begins-from is_payload payload_bytes bytes (drop n (drop 2 bytes)) p (grind (arith, nat_tests))
    (front ∙ ap (λ xs. u16_bytes n ++ xs) split ∙ sym (append_assoc (u16_bytes n) p (drop n (drop 2 bytes))) ∙ ap (λ k. (u16_bytes k ++ p) ++ drop n (drop 2 bytes)) (sym len))

pub payload-short : (bytes : List ℕ) → length bytes < 2 → NoneBegins is_payload payload_bytes bytes
payload-short bytes short p rest ok is = absurd (omega (arith, ap length is, length-append (payload_bytes p) rest, length-payload_bytes p))

pub payload-cut : (bytes : List ℕ) (n : ℕ) → n < 2 ^ 16 → bytes ≡ u16_bytes n ++ drop 2 bytes → length bytes < 2 + n → NoneBegins is_payload payload_bytes bytes
payload-cut bytes n small front cut p rest ok is =
    let fits = ltb-true _ _ (and_parts _ _ ok).0 in
    let one = u16_one n (length p) (drop 2 bytes) (p ++ rest) small fits (sym front ∙ is ∙ append_assoc (u16_bytes (length p)) p rest) in
    absurd (omega (arith, ap length is, length-append (payload_bytes p) rest, length-payload_bytes p, one.0))

pub payload-ends : TellsEnd is_payload payload_bytes
payload-ends p q r s hp hq e =
    let one = u16_one (length p) (length q) (p ++ r) (q ++ s) (ltb-true _ _ (and_parts _ _ hp).0) (ltb-true _ _ (and_parts _ _ hq).0) (sym (append_assoc (u16_bytes (length p)) p r) ∙ e ∙ append_assoc (u16_bytes (length q)) q s) in
    append_parts p q r s one.0 one.1

-- a vertex and a payload
pub vertex-begins : (bytes : List ℕ) (v : ℕ) (p : List ℕ) → v < 2 ^ 64 → bytes ≡ u64_bytes v ++ drop 8 bytes → Begins is_payload payload_bytes (drop 8 bytes) p → Begins is_vertex vertex_bytes bytes (v, p)
vertex-begins bytes v p small front is =
    let test = lt-ltb v (2 ^ 64) small in
    let ok : is_payload p ≡ true = is.passes in
    let rest = drop (length (payload_bytes p)) (drop 8 bytes) in
    Begins-from is_vertex vertex_bytes bytes rest (v, p) (grind (arith, nat_tests))
    (front ∙ ap (λ xs. u64_bytes v ++ xs) is.spelled ∙ sym (append_assoc (u64_bytes v) (payload_bytes p) rest))

pub vertex-short : (bytes : List ℕ) → length bytes < 8 → NoneBegins is_vertex vertex_bytes bytes
vertex-short bytes short x rest ok is =
    absurd (omega (arith, ap length is, length-append (vertex_bytes x) rest, length-append (u64_bytes x.0) (payload_bytes x.1), length-u64_bytes x.0))

pub vertex-none : (bytes : List ℕ) (v : ℕ) → v < 2 ^ 64 → bytes ≡ u64_bytes v ++ drop 8 bytes → NoneBegins is_payload payload_bytes (drop 8 bytes) → NoneBegins is_vertex vertex_bytes bytes
vertex-none bytes v small front none x rest ok is =
    let fits = ltb-true _ _ (and_parts _ _ ok).0 in
    let one = u64_one v x.0 (drop 8 bytes) (payload_bytes x.1 ++ rest) small fits (sym front ∙ is ∙ append_assoc (u64_bytes x.0) (payload_bytes x.1) rest) in
    none x.1 rest (and_parts _ _ ok).1 one.1

pub vertex-ends : TellsEnd is_vertex vertex_bytes
vertex-ends x y r s hx hy e =
    let px = and_parts (nat_lt x.0 (2 ^ 64)) (is_payload x.1) hx in
    let py = and_parts (nat_lt y.0 (2 ^ 64)) (is_payload y.1) hy in
    let v = u64_one x.0 y.0 (payload_bytes x.1 ++ r) (payload_bytes y.1 ++ s) (ltb-true _ _ px.0) (ltb-true _ _ py.0) (sym (append_assoc (u64_bytes x.0) (payload_bytes x.1) r) ∙ e ∙ append_assoc (u64_bytes y.0) (payload_bytes y.1) s) in
    let p = payload-ends x.1 y.1 r s px.1 py.1 v.1 in
    (ap (λ a. (a, x.1)) v.0 ∙ ap (λ a. (y.0, a)) p.0, p.1)

-- a vertex, a label and a destination
pub edge-begins : (bytes : List ℕ) (v l d : ℕ) → v < 2 ^ 64 → l < 2 ^ 16 → d < 2 ^ 64 →
    bytes ≡ u64_bytes v ++ drop 8 bytes → drop 8 bytes ≡ u16_bytes l ++ drop 2 (drop 8 bytes) → drop 10 bytes ≡ u64_bytes d ++ drop 8 (drop 10 bytes) → Begins is_edge edge_bytes bytes (v, l, d)
edge-begins bytes v l d hv hl hd first second third =
    let tv = lt-ltb v (2 ^ 64) hv in
    let tl = lt-ltb l (2 ^ 16) hl in
    let td = lt-ltb d (2 ^ 64) hd in
    let rest = drop 8 (drop 10 bytes) in
    let seam : drop 2 (drop 8 bytes) ≡ u64_bytes d ++ rest = drop-drop 2 8 bytes ∙ third in
    Begins-from is_edge edge_bytes bytes rest (v, l, d) (grind (arith, nat_tests))
    (first ∙ ap (λ xs. u64_bytes v ++ xs) (second ∙ ap (λ xs. u16_bytes l ++ xs) seam) ∙ simp append_assoc refl)

pub length-edge_bytes : (x : ℕ × ℕ × ℕ) → length (edge_bytes x) ≡ 18
length-edge_bytes x = simp (length-append, length-u64_bytes, length-u16_bytes) refl

pub edge-short : (bytes : List ℕ) → length bytes < 18 → NoneBegins is_edge edge_bytes bytes
edge-short bytes short x rest ok is = absurd (omega (arith, ap length is, length-append (edge_bytes x) rest, length-edge_bytes x))

pub edge-ends : TellsEnd is_edge edge_bytes
edge-ends x y r s hx hy e =
    let vx = and_parts _ _ hx in
    let vy = and_parts _ _ hy in
    let lx = and_parts _ _ vx.1 in
    let ly = and_parts _ _ vy.1 in
    let flat : (z : ℕ × ℕ × ℕ) (t : List ℕ) → edge_bytes z ++ t ≡ u64_bytes z.0 ++ (u16_bytes z.1 ++ (u64_bytes z.2 ++ t)) = λ z t. simp append_assoc refl in
    let v = u64_one x.0 y.0 _ _ (ltb-true _ _ vx.0) (ltb-true _ _ vy.0) (sym (flat x r) ∙ e ∙ flat y s) in
    let l = u16_one x.1 y.1 _ _ (ltb-true _ _ lx.0) (ltb-true _ _ ly.0) v.1 in
    let d = u64_one x.2 y.2 r s (ltb-true _ _ lx.1) (ltb-true _ _ ly.1) l.1 in
    (ap (λ a. (a, x.1, x.2)) v.0 ∙ ap (λ a. (y.0, a, x.2)) l.0 ∙ ap (λ a. (y.0, y.1, a)) d.0, d.1)

-- a change with a vertex and a payload, from its tag on
pub new-begins : (bytes : List ℕ) (v : ℕ) (p : List ℕ) → Begins is_vertex vertex_bytes bytes (v, p) → Begins has_fields change_bytes (1 ∷ bytes) (New v p)
new-begins bytes v p is = record { passes = is.passes; spelled = ap (λ xs. 1 ∷ xs) is.spelled }

pub set-begins : (bytes : List ℕ) (v : ℕ) (p : List ℕ) → Begins is_vertex vertex_bytes bytes (v, p) → Begins has_fields change_bytes (2 ∷ bytes) (Set v p)
set-begins bytes v p is = record { passes = is.passes; spelled = ap (λ xs. 2 ∷ xs) is.spelled }

pub drop-begins : (bytes : List ℕ) (v : ℕ) → v < 2 ^ 64 → bytes ≡ u64_bytes v ++ drop 8 bytes → Begins has_fields change_bytes (3 ∷ bytes) (Drop v)
drop-begins bytes v small is = Begins-from has_fields change_bytes (3 ∷ bytes) (drop 8 bytes) (Drop v) (lt-ltb v (2 ^ 64) small) (ap (λ xs. 3 ∷ xs) is)

pub del-begins : (bytes : List ℕ) (v l d : ℕ) → Begins is_edge edge_bytes bytes (v, l, d) → Begins has_fields change_bytes (5 ∷ bytes) (Del v l d)
del-begins bytes v l d is = record { passes = is.passes; spelled = ap (λ xs. 5 ∷ xs) is.spelled }

pub put-begins : (bytes : List ℕ) (v l d : ℕ) (p : List ℕ) → Begins is_edge edge_bytes bytes (v, l, d) → Begins is_payload payload_bytes (drop 18 bytes) p → Begins has_fields change_bytes (4 ∷ bytes) (Put v l d p)
put-begins bytes v l d p edge is =
    let te : is_edge (v, l, d) ≡ true = edge.passes in
    let tp : is_payload p ≡ true = is.passes in
    let rest = drop (length (payload_bytes p)) (drop 18 bytes) in
    let front : bytes ≡ edge_bytes (v, l, d) ++ drop 18 bytes = edge.spelled ∙ ap (λ n. edge_bytes (v, l, d) ++ drop n bytes) (length-edge_bytes (v, l, d)) in
    Begins-from has_fields change_bytes (4 ∷ bytes) rest (Put v l d p) (grind (arith, nat_tests))
    (ap (λ xs. 4 ∷ xs) (front ∙ ap (λ xs. edge_bytes (v, l, d) ++ xs) is.spelled ∙ simp append_assoc refl))

-- no change begins with another tag than its own, and behind its own stand its fields
pub new-none : (bytes : List ℕ) → NoneBegins is_vertex vertex_bytes bytes → NoneBegins has_fields change_bytes (1 ∷ bytes)
new-none bytes none (New v p) rest ok is = none (v, p) rest ok (cc)
new-none bytes none c rest ok is = absurd (omega (arith, ap (λ xs. get_or xs 0 0) is))

pub set-none : (bytes : List ℕ) → NoneBegins is_vertex vertex_bytes bytes → NoneBegins has_fields change_bytes (2 ∷ bytes)
set-none bytes none (Set v p) rest ok is = none (v, p) rest ok (cc)
set-none bytes none c rest ok is = absurd (omega (arith, ap (λ xs. get_or xs 0 0) is))

pub drop-none : (bytes : List ℕ) → length bytes < 8 → NoneBegins has_fields change_bytes (3 ∷ bytes)
drop-none bytes short (Drop v) rest ok is = absurd (omega (arith, ap length is, length-append (u64_bytes v) rest, length-u64_bytes v))
drop-none bytes short c rest ok is = absurd (omega (arith, ap (λ xs. get_or xs 0 0) is))

pub del-none : (bytes : List ℕ) → length bytes < 18 → NoneBegins has_fields change_bytes (5 ∷ bytes)
del-none bytes short (Del v l d) rest ok is = edge-short bytes short (v, l, d) rest ok (cc)
del-none bytes short c rest ok is = absurd (omega (arith, ap (λ xs. get_or xs 0 0) is))

-- the parts of a Put
edge-part : (v l d : ℕ) (p : List ℕ) → has_fields (Put v l d p) ≡ true → is_edge (v, l, d) ≡ true
edge-part v l d p ok =
    first_three (nat_lt v (2 ^ 64)) (nat_lt l (2 ^ 16)) (nat_lt d (2 ^ 64)) (is_payload p) ok
  where
    first_three : (x y z w : Bool) → (x && (y && (z && w))) ≡ true → (x && (y && z)) ≡ true
    first_three x y z w h = grind (arith, nat_tests)

payload-part : (v l d : ℕ) (p : List ℕ) → has_fields (Put v l d p) ≡ true → is_payload p ≡ true
payload-part v l d p ok = last (nat_lt v (2 ^ 64)) (nat_lt l (2 ^ 16)) (nat_lt d (2 ^ 64)) (is_payload p) ok
  where
    last : (x y z w : Bool) → (x && (y && (z && w))) ≡ true → w ≡ true
    last x y z w h = grind (arith, nat_tests)

put-fields : (bytes : List ℕ) (v l d : ℕ) (p rest : List ℕ) → 4 ∷ bytes ≡ change_bytes (Put v l d p) ++ rest → bytes ≡ edge_bytes (v, l, d) ++ (payload_bytes p ++ rest)
put-fields bytes v l d p rest is = ap (drop 1) is ∙ simp append_assoc refl

pub put-short : (bytes : List ℕ) → length bytes < 18 → NoneBegins has_fields change_bytes (4 ∷ bytes)
put-short bytes short (Put v l d p) rest ok is =
    edge-short bytes short (v, l, d) (payload_bytes p ++ rest) (edge-part v l d p ok) (put-fields bytes v l d p rest is)
put-short bytes short c rest ok is = absurd (omega (arith, ap (λ xs. get_or xs 0 0) is))

pub put-none : (bytes : List ℕ) (v l d : ℕ) → Begins is_edge edge_bytes bytes (v, l, d) → NoneBegins is_payload payload_bytes (drop 18 bytes) → NoneBegins has_fields change_bytes (4 ∷ bytes)
put-none bytes v l d edge none (Put w m e p) rest ok is =
    let ends = edge-ends (v, l, d) (w, m, e) (drop (length (edge_bytes (v, l, d))) bytes) (payload_bytes p ++ rest) edge.passes (edge-part w m e p ok) (sym edge.spelled ∙ put-fields bytes w m e p rest is) in
    let behind : drop 18 bytes ≡ payload_bytes p ++ rest = ap (λ n. drop n bytes) (sym (length-edge_bytes (v, l, d))) ∙ ends.1 in
    none p rest (payload-part w m e p ok) behind
put-none bytes v l d edge none c rest ok is = absurd (omega (arith, ap (λ xs. get_or xs 0 0) is))

-- what holds of a tag and its fields holds of bytes that are these
pub at-tag : (P : List ℕ → Type 0) (bytes : List ℕ) (tag : ℕ) → 0 < length bytes → get_or bytes 0 0 ≡ tag → P (tag ∷ drop 1 bytes) → P bytes
at-tag P [] tag long is h = absurd (omega arith)
at-tag P (x ∷ bytes) tag long is h = subst (λ t. P (t ∷ bytes)) (sym is) h

-- a tag that no change has
pub tag-none : (tag : ℕ) (bytes : List ℕ) → tag ≢ 1 → tag ≢ 2 → tag ≢ 3 → tag ≢ 4 → tag ≢ 5 → NoneBegins has_fields change_bytes (tag ∷ bytes)
tag-none tag bytes n1 n2 n3 n4 n5 (New v p) rest ok is = n1 (ap (λ xs. get_or xs 0 0) is)
tag-none tag bytes n1 n2 n3 n4 n5 (Set v p) rest ok is = n2 (ap (λ xs. get_or xs 0 0) is)
tag-none tag bytes n1 n2 n3 n4 n5 (Drop v) rest ok is = n3 (ap (λ xs. get_or xs 0 0) is)
tag-none tag bytes n1 n2 n3 n4 n5 (Put v l d p) rest ok is = n4 (ap (λ xs. get_or xs 0 0) is)
tag-none tag bytes n1 n2 n3 n4 n5 (Del v l d) rest ok is = n5 (ap (λ xs. get_or xs 0 0) is)

pub empty-none : NoneBegins has_fields change_bytes []
empty-none (New v p) rest ok is = (cc)
empty-none (Set v p) rest ok is = (cc)
empty-none (Drop v) rest ok is = (cc)
empty-none (Put v l d p) rest ok is = (cc)
empty-none (Del v l d) rest ok is = (cc)

-- a change tells its end
pub change-ends : TellsEnd has_fields change_bytes
change-ends (New v p) (New w q) r s hx hy e = let ends = vertex-ends (v, p) (w, q) r s hx hy (ap (drop 1) e) in (ap (λ x. New x.0 x.1) ends.0, ends.1)
change-ends (Set v p) (Set w q) r s hx hy e = let ends = vertex-ends (v, p) (w, q) r s hx hy (ap (drop 1) e) in (ap (λ x. Set x.0 x.1) ends.0, ends.1)
change-ends (Drop v) (Drop w) r s hx hy e = let ends = u64_one v w r s (ltb-true _ _ hx) (ltb-true _ _ hy) (ap (drop 1) e) in (ap Drop ends.0, ends.1)
change-ends (Del v l d) (Del w m f) r s hx hy e = let ends = edge-ends (v, l, d) (w, m, f) r s hx hy (ap (drop 1) e) in (ap (λ x. Del x.0 x.1 x.2) ends.0, ends.1)
change-ends (Put v l d p) (Put w m f q) r s hx hy e =
    let edge = edge-ends (v, l, d) (w, m, f) (payload_bytes p ++ r) (payload_bytes q ++ s) (edge-part v l d p hx) (edge-part w m f q hy)
    (sym (put-fields (drop 1 (change_bytes (Put v l d p) ++ r)) v l d p r refl) ∙ ap (drop 1) e ∙ put-fields (drop 1 (change_bytes (Put w m f q) ++ s)) w m f q s refl) in
    let ends = payload-ends p q r s (payload-part v l d p hx) (payload-part w m f q hy) edge.1 in
    (ap (λ x. Put x.0 x.1 x.2 p) edge.0 ∙ ap (Put w m f) ends.0, ends.1)
change-ends x y r s hx hy e = absurd (omega (arith, ap (λ xs. get_or xs 0 0) e))

-- and so do so many in a row
pub list-ends : {X : Type 0} (test : X → Bool) (spell : X → List ℕ) → TellsEnd test spell → (xs ys : List X) (r s : List ℕ) → list_all test xs ≡ true → list_all test ys ≡ true →
    length xs ≡ length ys → flat_map spell xs ++ r ≡ flat_map spell ys ++ s → (xs ≡ ys) × (r ≡ s)
list-ends test spell tells [] [] r s hx hy long e = (refl, e)
list-ends test spell tells [] (y ∷ ys) r s hx hy long e = absurd (omega arith)
list-ends test spell tells (x ∷ xs) [] r s hx hy long e = absurd (omega arith)
list-ends test spell tells (x ∷ xs) (y ∷ ys) r s hx hy long e =
    let px = and_parts (test x) (list_all test xs) hx in
    let py = and_parts (test y) (list_all test ys) hy in
    let one = tells x y (flat_map spell xs ++ r) (flat_map spell ys ++ s) px.0 py.0 (sym (append_assoc (spell x) (flat_map spell xs) r) ∙ e ∙ append_assoc (spell y) (flat_map spell ys) s) in
    let rest = list-ends test spell tells xs ys r s px.1 py.1 (omega arith) one.1 in
    (ap (λ z. z ∷ xs) one.0 ∙ ap (λ zs. y ∷ zs) rest.0, rest.1)

-- reading has not begun
pub reads_none : {X : Type 0} (test : X → Bool) (spell : X → List ℕ) (bytes : List ℕ) → ReadsUpTo test spell bytes [] 0
reads_none test spell bytes = record { passes = refl; spelled = refl; long = refl; within = omega arith }

-- one more was read
pub reads_more : {X : Type 0} (test : X → Bool) (spell : X → List ℕ) (bytes : List ℕ) (xs : List X) (size n : ℕ) (x : X) →
    ReadsUpTo test spell bytes xs size → Begins test spell (drop size bytes) x → n ≡ length (spell x) → ReadsUpTo test spell bytes (xs ++ x ∷ []) (size + n)
reads_more test spell bytes xs size n x up here is = record {
  passes = list_all-append test xs (x ∷ []) ∙ both (list_all test xs) (test x) up.passes here.passes;
  spelled =
      up.spelled ∙ ap (λ r. flat_map spell xs ++ r) (here.spelled ∙ ap (λ k. spell x ++ drop k (drop size bytes)) (sym is) ∙ ap (λ r. spell x ++ r) (drop-drop n size bytes))
      ∙ sym (append_assoc (flat_map spell xs) (spell x) (drop (size + n) bytes)) ∙ ap (λ front. front ++ drop (size + n) bytes) (sym grown);
  long = omega (arith, up.long, ap length grown, length-append (flat_map spell xs) (spell x), is);
  within = omega (arith, up.within, ap length here.spelled, length-append (spell x) (drop (length (spell x)) (drop size bytes)), length-drop size bytes, is);
}
  where
    both : (a b : Bool) → a ≡ true → b ≡ true → (a && (b && true)) ≡ true
    both a b p q = grind (arith, nat_tests)

    grown : flat_map spell (xs ++ x ∷ []) ≡ flat_map spell xs ++ spell x
    grown = flat_map-append spell xs (x ∷ []) ∙ ap (λ r. flat_map spell xs ++ r) (append-nil (spell x))

-- all were read
pub reads_all : {X : Type 0} (test : X → Bool) (spell : X → List ℕ) (bytes : List ℕ) (xs : List X) (size count : ℕ) →
    ReadsUpTo test spell bytes xs size → length xs ≡ count → Begins (all_of count test) (flat_map spell) bytes xs
reads_all test spell bytes xs size count up long = record {
  passes = all (length xs == count) (list_all test xs) (eq-eqb (length xs) count long) up.passes;
  spelled = up.spelled ∙ ap (λ n. flat_map spell xs ++ drop n bytes) up.long;
}
  where
    all : (a b : Bool) → a ≡ true → b ≡ true → (a && b) ≡ true
    all a b p q = grind (arith, nat_tests)

-- where no further one is, there are not so many
pub reads_stop : {X : Type 0} (test : X → Bool) (spell : X → List ℕ) (bytes : List ℕ) (xs : List X) (size count : ℕ) → TellsEnd test spell →
    ReadsUpTo test spell bytes xs size → length xs < count → NoneBegins test spell (drop size bytes) → NoneBegins (all_of count test) (flat_map spell) bytes
reads_stop {X = X} test spell bytes xs size count tells up few none ys rest ok is =
    let parts = and_parts (length ys == count) (list_all test ys) ok in
    stop xs ys (drop size bytes) rest up.passes parts.1 (omega (arith, eqb-true (length ys) count parts.0)) (sym up.spelled ∙ is) none
  where
    stop : (us vs : List X) (r s : List ℕ) → list_all test us ≡ true → list_all test vs ≡ true → length us < length vs → flat_map spell us ++ r ≡ flat_map spell vs ++ s → NoneBegins test spell r → ⊥
    stop us [] r s hu hv fewer e no_more = absurd (omega arith)
    stop [] (v ∷ vs) r s hu hv fewer e no_more = no_more v (flat_map spell vs ++ s) (and_parts (test v) (list_all test vs) hv).0 (e ∙ append_assoc (spell v) (flat_map spell vs) s)
    stop (u ∷ us) (v ∷ vs) r s hu hv fewer e no_more =
        let pu = and_parts (test u) (list_all test us) hu in
        let pv = and_parts (test v) (list_all test vs) hv in
        let one = tells u v (flat_map spell us ++ r) (flat_map spell vs ++ s) pu.0 pv.0 (sym (append_assoc (spell u) (flat_map spell us) r) ∙ e ∙ append_assoc (spell v) (flat_map spell vs) s) in
        stop us vs r s pu.1 pv.1 (omega arith) one.1 no_more

-- a record: its head, and its changes
record-flat : (r : Record) (rest : List ℕ) → record_bytes r ++ rest ≡ u64_bytes r.tid ++ (u64_bytes r.read ++ (u32_bytes (length r.changes) ++ (changes_bytes r.changes ++ rest)))
record-flat r rest = simp append_assoc refl

record-parts : (epoch : ℕ) (r : Record) → is_spelled epoch r ≡ true →
    (r.epoch ≡ epoch) × (r.tid < 2 ^ 64) × (r.read < 2 ^ 64) × (0 < length r.changes) × (length r.changes < 2 ^ 32) × (list_all has_fields r.changes ≡ true)
record-parts epoch r ok =
    let a = and_parts (r.epoch == epoch) _ ok in
    let b = and_parts (nat_lt r.tid (2 ^ 64)) _ a.1 in
    let c = and_parts (nat_lt r.read (2 ^ 64)) _ b.1 in
    let d = and_parts (nat_lt 0 (length r.changes)) _ c.1 in
    let e = and_parts (nat_lt (length r.changes) (2 ^ 32)) (list_all has_fields r.changes) d.1 in
    (eqb-true r.epoch epoch a.0, ltb-true _ _ b.0, ltb-true _ _ c.0, ltb-true _ _ d.0, ltb-true _ _ e.0, e.1)

pub is_spelled-from : (epoch : ℕ) (r : Record) → r.epoch ≡ epoch → r.tid < 2 ^ 64 → r.read < 2 ^ 64 → 0 < length r.changes → length r.changes < 2 ^ 32 → list_all has_fields r.changes ≡ true → is_spelled epoch r ≡ true
is_spelled-from epoch r at tid read some few fields =
    all (r.epoch == epoch) (nat_lt r.tid (2 ^ 64)) (nat_lt r.read (2 ^ 64)) (nat_lt 0 (length r.changes)) (nat_lt (length r.changes) (2 ^ 32)) (list_all has_fields r.changes)
    (eq-eqb r.epoch epoch at) (lt-ltb r.tid (2 ^ 64) tid) (lt-ltb r.read (2 ^ 64) read) (lt-ltb 0 (length r.changes) some) (lt-ltb (length r.changes) (2 ^ 32) few) fields
  where
    all : (a b c d e f : Bool) → a ≡ true → b ≡ true → c ≡ true → d ≡ true → e ≡ true → f ≡ true → (a && (b && (c && (d && (e && f))))) ≡ true
    all a b c d e f p q r s t u = grind (arith, nat_tests)

pub record-ends : (epoch : ℕ) → TellsEnd (is_spelled epoch) record_bytes
record-ends epoch x y r s hx hy e =
    let px = record-parts epoch x hx in
    let py = record-parts epoch y hy in
    let tid = u64_one x.tid y.tid (u64_bytes x.read ++ (u32_bytes (length x.changes) ++ (changes_bytes x.changes ++ r))) (u64_bytes y.read ++ (u32_bytes (length y.changes) ++ (changes_bytes y.changes ++ s))) px.1 py.1
    (sym (record-flat x r) ∙ e ∙ record-flat y s) in
    let read = u64_one x.read y.read (u32_bytes (length x.changes) ++ (changes_bytes x.changes ++ r)) (u32_bytes (length y.changes) ++ (changes_bytes y.changes ++ s)) px.2 py.2 tid.1 in
    let count = u32_one (length x.changes) (length y.changes) (changes_bytes x.changes ++ r) (changes_bytes y.changes ++ s) px.4 py.4 read.1 in
    let changes = list-ends has_fields change_bytes change-ends x.changes y.changes r s px.5 py.5 count.0 count.1 in
    (same x y tid.0 read.0 (px.0 ∙ sym py.0) changes.0, changes.1)
  where
    same : (x y : Record) → x.tid ≡ y.tid → x.read ≡ y.read → x.epoch ≡ y.epoch → x.changes ≡ y.changes → x ≡ y
    same x y a b c d =
        let one : Record = record { tid = x.tid; read = x.read; epoch = x.epoch; changes = x.changes } in
        let to : one ≡ y =
        ap (λ t. record one { tid = t }) a ∙ ap (λ t. record one { tid = y.tid; read = t }) b
        ∙ ap (λ t. record one { tid = y.tid; read = y.read; epoch = t }) c ∙ ap (λ t. record y { changes = t }) d in
        to

pub record-short : (epoch : ℕ) (bytes : List ℕ) → length bytes < 20 → NoneBegins (is_spelled epoch) record_bytes bytes
record-short epoch bytes short r rest ok is =
    absurd (omega (arith, ap length is, length-append (record_bytes r) rest, length-record_bytes r))

-- the changes of a record stand behind its head
record-behind : (epoch tid read count : ℕ) (bytes rest : List ℕ) (r : Record) → tid < 2 ^ 64 → read < 2 ^ 64 → count < 2 ^ 32 → bytes ≡ head_bytes tid read count ++ drop 20 bytes →
    is_spelled epoch r ≡ true → bytes ≡ record_bytes r ++ rest → (count ≡ length r.changes) × (drop 20 bytes ≡ changes_bytes r.changes ++ rest)
record-behind epoch tid read count bytes rest r ht hr hc front ok is =
    let p = record-parts epoch r ok in
    let flat : head_bytes tid read count ++ drop 20 bytes ≡ u64_bytes tid ++ (u64_bytes read ++ (u32_bytes count ++ drop 20 bytes)) = simp append_assoc refl in
    let a = u64_one tid r.tid (u64_bytes read ++ (u32_bytes count ++ drop 20 bytes)) (u64_bytes r.read ++ (u32_bytes (length r.changes) ++ (changes_bytes r.changes ++ rest))) ht p.1
    (sym flat ∙ sym front ∙ is ∙ record-flat r rest) in
    let b = u64_one read r.read (u32_bytes count ++ drop 20 bytes) (u32_bytes (length r.changes) ++ (changes_bytes r.changes ++ rest)) hr p.2 a.1 in
    u32_one count (length r.changes) (drop 20 bytes) (changes_bytes r.changes ++ rest) hc p.4 b.1

pub record-empty : (epoch tid read count : ℕ) (bytes : List ℕ) → tid < 2 ^ 64 → read < 2 ^ 64 → count ≡ 0 → bytes ≡ head_bytes tid read count ++ drop 20 bytes → NoneBegins (is_spelled epoch) record_bytes bytes
record-empty epoch tid read count bytes ht hr none front r rest ok is =
    let p = record-parts epoch r ok in
    let behind = record-behind epoch tid read count bytes rest r ht hr (omega arith) front ok is in
    absurd (omega (arith, p.3, behind.0))

pub record-none : (epoch tid read count : ℕ) (bytes : List ℕ) → tid < 2 ^ 64 → read < 2 ^ 64 → count < 2 ^ 32 → bytes ≡ head_bytes tid read count ++ drop 20 bytes →
    NoneBegins (all_of count has_fields) changes_bytes (drop 20 bytes) → NoneBegins (is_spelled epoch) record_bytes bytes
record-none epoch tid read count bytes ht hr hc front none r rest ok is =
    let p = record-parts epoch r ok in
    let behind = record-behind epoch tid read count bytes rest r ht hr hc front ok is in
    none r.changes rest (all (length r.changes == count) (list_all has_fields r.changes) (eq-eqb (length r.changes) count (sym behind.0)) p.5) behind.1
  where
    all : (a b : Bool) → a ≡ true → b ≡ true → (a && b) ≡ true
    all a b p q = grind (arith, nat_tests)

pub record-begins : (epoch tid read count size : ℕ) (bytes : List ℕ) (changes : List Change) → tid < 2 ^ 64 → read < 2 ^ 64 → count < 2 ^ 32 → count ≢ 0 → 20 ≤ length bytes → bytes ≡ head_bytes tid read count ++ drop 20 bytes →
    length changes ≡ count → ReadsUpTo has_fields change_bytes (drop 20 bytes) changes size →
    (let r : Record = record { tid = tid; read = read; epoch = epoch; changes = changes } in
    Begins (is_spelled epoch) record_bytes bytes r × (20 + size ≡ length (record_bytes r)) × (20 + size ≤ length bytes))
record-begins epoch tid read count size bytes changes ht hr hc some long front counted up =
    let r : Record = record { tid = tid; read = read; epoch = epoch; changes = changes } in
    let rest = drop size (drop 20 bytes) in
    let passes : is_spelled epoch r ≡ true =
    all (epoch == epoch) (nat_lt tid (2 ^ 64)) (nat_lt read (2 ^ 64)) (nat_lt 0 (length changes)) (nat_lt (length changes) (2 ^ 32)) (list_all has_fields changes)
    (eq-eqb epoch epoch refl) (lt-ltb tid (2 ^ 64) ht) (lt-ltb read (2 ^ 64) hr) (lt-ltb 0 (length changes) (omega arith)) (lt-ltb (length changes) (2 ^ 32) (omega arith)) up.passes in (
      Begins-from (is_spelled epoch) record_bytes bytes rest r passes
          (front ∙ ap (λ n. head_bytes tid read n ++ drop 20 bytes) (sym counted) ∙ ap (λ xs. head_bytes tid read (length changes) ++ xs) up.spelled ∙ sym (append_assoc (head_bytes tid read (length changes)) (changes_bytes changes) rest)),
      omega (arith, length-record_bytes r, up.long, length-changes_bytes changes),
      omega (arith, up.within, length-drop 20 bytes),
    )
  where
    all : (a b c d e f : Bool) → a ≡ true → b ≡ true → c ≡ true → d ≡ true → e ≡ true → f ≡ true → (a && (b && (c && (d && (e && f))))) ≡ true
    all a b c d e f p q r s t u = grind (arith, nat_tests)
