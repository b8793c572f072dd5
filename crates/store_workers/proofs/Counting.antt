-- The lines of a script, counted for each worker, and whose each of them is.
use Rattle.std.proofs.Common.{◌≡◌, ◌⊎◌, inl, inr, ℕ, zero, suc, ◌+◌, ◌%◌, ◌^◌, ◌<◌, ◌≤◌, Bool, true, false, cond, List, [], ◌∷◌, ◌++◌, length, length-append, map, filter, replicate, slice_get, slice_index_or, slice_set, append-nil, append_assoc, refl, sym, ap, ◌∙◌, subst, arith, Option, Some, MatchOption}
use Rattle.std.specs.Prelude.{◌≢◌}
use Rattle.std.proofs.lemmas.Bool.{ne_eqb, eq-eqb, cases_eq, cases_lt}
use Rattle.std.proofs.lemmas.List.{get_or-map, get_or-set_same, get_or-set_other, get_or-replicate}
use Rattle.request_text.specs.declared.request.Line.{Line}
use Rattle.request_text.specs.declared.request.Request.{Request}
use Rattle.script_parts.specs.InParts.{session_of}
use Rattle.worker_sessions.specs.Sessions.{EachIs}
use Rattle.worker_lines.specs.Lines.{is_of, lines_of, IsOwnerAt, AreOwners}
use Rattle.store_workers.proofs.Ordering.{each-both}

-- the worker that has a line
abbrev pub owner_of : ℕ → Line → ℕ
owner_of n line = line.session % n

-- The lines before the rest are counted for each worker and, where there are several, it is noted whose each is.
pub record AreCounted (n : ℕ) (script rest : List Line) (lines owners : List ℕ) (limit : ℕ) : Type 0 where
  pub done : List Line
  pub whole : done ++ rest ≡ script
  pub each : (w : ℕ) → w < n → slice_index_or lines w 0 ≡ length (lines_of w n done)
  pub many : length lines ≡ n
  pub low : (w : ℕ) → slice_index_or lines w 0 ≤ length done
  pub noted : 1 < n → owners ≡ map (owner_of n) done
  pub alone : n ≤ 1 → owners ≡ []
  pub above : EachIs (λ line. line.session < limit) done
  pub bound : limit ≤ 2 ^ 32

-- ---- one line after another

count-more : (p : Line → Bool) (xs : List Line) (x : Line) → length (filter p (xs ++ x ∷ [])) ≡ length (filter p xs) + cond (p x) 1 0
count-more p [] x = last (p x)
  where
    last : (b : Bool) → length (cond b (x ∷ []) []) ≡ 0 + cond b 1 0
    last true = omega arith
    last false = omega arith
count-more p (y ∷ xs) x = first (p y) (count-more p xs x)
  where
    first : (b : Bool) → length (filter p (xs ++ x ∷ [])) ≡ length (filter p xs) + cond (p x) 1 0
        → length (cond b (y ∷ filter p (xs ++ x ∷ [])) (filter p (xs ++ x ∷ []))) ≡ length (cond b (y ∷ filter p xs) (filter p xs)) + cond (p x) 1 0
    first true rest = omega (arith, rest)
    first false rest = rest

each-as : {A : Type 0} (F G : A → Type 0) → ((x : A) → F x → G x) → (xs : List A) → EachIs F xs → EachIs G xs
each-as F G by [] are = tt
each-as F G by (x ∷ xs) are = (by x are.0, each-as F G by xs are.1)

map-more : (f : Line → ℕ) (xs : List Line) (x : Line) → map f (xs ++ x ∷ []) ≡ map f xs ++ f x ∷ []
map-more f [] x = refl
map-more f (y ∷ xs) x = ap (λ (ns : List ℕ). f y ∷ ns) (map-more f xs x)

module _ (n : ℕ) (script : List Line) where
  pub none-counted : (lines owners : List ℕ) → lines ≡ replicate n 0 → length lines ≡ n → owners ≡ [] → AreCounted n script script lines owners 0
  none-counted lines owners zeros many none = record {
    done = [];
    whole = refl;
    each = λ w low. ap (λ (ns : List ℕ). slice_index_or ns w 0) zeros ∙ get_or-replicate n w 0 0 low;
    many = many;
    low = λ w. low-at w (cases_lt w n);
    noted = λ _. none;
    alone = λ _. none;
    above = tt;
    bound = omega arith;
  }
    where
      past : (k w o : ℕ) → k ≤ w → slice_index_or (replicate k o) w o ≡ o
      past zero w o high = refl
      past (suc k) zero o high = absurd (omega (arith, high))
      past (suc k) (suc w) o high = past k w o (omega (arith, high))

      low-at : (w : ℕ) → (w < n) ⊎ (n ≤ w) → slice_index_or lines w 0 ≤ 0
      low-at w (inl low) = let is = ap (λ (ns : List ℕ). slice_index_or ns w 0) zeros ∙ get_or-replicate n w 0 0 low in omega (arith, is)
      low-at w (inr high) = let is = ap (λ (ns : List ℕ). slice_index_or ns w 0) zeros ∙ past n w 0 high in omega (arith, is)

  -- the next line
  pub one-counted : (line : Line) (rest : List Line) (lines owners owners' : List ℕ) (limit limit' count : ℕ) → AreCounted n script (line ∷ rest) lines owners limit → owner_of n line < length lines → count ≡ slice_index_or lines (owner_of n line) 0 + 1
      → (1 < n → owners' ≡ owners ++ owner_of n line ∷ []) → (n ≤ 1 → owners' ≡ owners) → limit ≤ limit' → line.session < limit' → limit' ≤ 2 ^ 32
      → AreCounted n script rest (slice_set lines (owner_of n line) count) owners' limit'
  one-counted line rest lines owners owners' limit limit' count was fits more noted alone grown above bound = record {
    done = was.done ++ line ∷ [];
    whole = append_assoc was.done (line ∷ []) rest ∙ was.whole;
    each = λ w low. each-at w low (cases_eq (owner_of n line) w);
    many = length-set lines (owner_of n line) fits ∙ was.many;
    low = λ w. low-at w (cases_eq (owner_of n line) w);
    noted = λ several. noted several ∙ ap (λ (ns : List ℕ). ns ++ owner_of n line ∷ []) (was.noted several) ∙ sym (map-more (owner_of n) was.done line);
    alone = λ one. alone one ∙ was.alone one;
    above = each-both (λ (l : Line). l.session < limit') was.done (line ∷ []) (each-as (λ (l : Line). l.session < limit) (λ (l : Line). l.session < limit') (λ l low. omega (arith, low, grown)) was.done was.above) (above, tt);
    bound = bound;
  }
    where
      length-set : (ns : List ℕ) (i : ℕ) → i < length ns → length (slice_set ns i count) ≡ length ns
      length-set [] i at = absurd (omega (arith, at))
      length-set (m ∷ ns) zero at = refl
      length-set (m ∷ ns) (suc i) at = ap suc (length-set ns i (omega (arith, at)))

      more-of : (w : ℕ) → length (lines_of w n (was.done ++ line ∷ [])) ≡ length (lines_of w n was.done) + cond (is_of w n line) 1 0
      more-of w = count-more (is_of w n) was.done line

      each-at : (w : ℕ) → w < n → (owner_of n line ≡ w) ⊎ (owner_of n line ≢ w) → slice_index_or (slice_set lines (owner_of n line) count) w 0 ≡ length (lines_of w n (was.done ++ line ∷ []))
      each-at w low (inl same) =
          let new = ap (λ (v : ℕ). slice_index_or (slice_set lines (owner_of n line) count) v 0) (sym same) ∙ get_or-set_same lines (owner_of n line) count 0 fits in
          let old = ap (λ (v : ℕ). slice_index_or lines v 0) same ∙ was.each w low in
          let one = more-of w ∙ ap (λ (b : Bool). length (lines_of w n was.done) + cond b 1 0) (eq-eqb (owner_of n line) w same) in
          omega (arith, new, old, one, more)
      each-at w low (inr other) =
          let new = get_or-set_other lines (owner_of n line) w count 0 (λ back. other (sym back)) in
          let old = was.each w low in
          let none = more-of w ∙ ap (λ (b : Bool). length (lines_of w n was.done) + cond b 1 0) (ne_eqb (owner_of n line) w other) in
          omega (arith, new, old, none)

      low-at : (w : ℕ) → (owner_of n line ≡ w) ⊎ (owner_of n line ≢ w) → slice_index_or (slice_set lines (owner_of n line) count) w 0 ≤ length (was.done ++ line ∷ [])
      low-at w (inl same) =
          let new = ap (λ (v : ℕ). slice_index_or (slice_set lines (owner_of n line) count) v 0) (sym same) ∙ get_or-set_same lines (owner_of n line) count 0 fits in
          let old = was.low (owner_of n line) in
          let long = length-append was.done (line ∷ []) in
          omega (arith, new, old, long, more)
      low-at w (inr other) =
          let new = get_or-set_other lines (owner_of n line) w count 0 (λ back. other (sym back)) in
          let old = was.low w in
          let long = length-append was.done (line ∷ []) in
          omega (arith, new, old, long)

-- a line that is left has room among the counts, and in the notes
pub few-done : (n : ℕ) (script : List Line) (line : Line) (rest : List Line) (lines owners : List ℕ) (limit : ℕ) → (was : AreCounted n script (line ∷ rest) lines owners limit) → length was.done < length script
few-done n script line rest lines owners limit was = let all = sym (length-append was.done (line ∷ rest)) ∙ ap length was.whole in omega (arith, all)

length-map : (f : Line → ℕ) (xs : List Line) → length (map f xs) ≡ length xs
length-map f [] = refl
length-map f (x ∷ xs) = ap suc (length-map f xs)

pub few-noted : (n : ℕ) (script : List Line) (line : Line) (rest : List Line) (lines owners : List ℕ) (limit : ℕ) → AreCounted n script (line ∷ rest) lines owners limit → 1 < n → length owners < length script
few-noted n script line rest lines owners limit was several =
    let less = few-done n script line rest lines owners limit was in let same = ap length (was.noted several) ∙ length-map (owner_of n) was.done in omega (arith, less, same)

-- ---- the line whose session is looked at

item-at : (xs : List Line) (k : ℕ) → k < length xs → (x : Line) × (x ≡ slice_index_or xs k x)
item-at [] k low = absurd (omega (arith, low))
item-at (x ∷ xs) zero low = (x, refl)
item-at (x ∷ xs) (suc k) low = item-at xs k (omega (arith, low))

-- the part at a place
abbrev pub part_at : List (List Line) → ℕ → List Line
part_at parts i = slice_index_or parts i []

abbrev pub with_session : ℕ → Request → Line
with_session session request = record { session = session; request = request }

pub as-many : (part : List Line) (sessions : List ℕ) → sessions ≡ map session_of part → length part ≡ length sessions
as-many part sessions noted = sym (ap length noted ∙ length-map session_of part)

pub line-of : (part : List Line) (sessions : List ℕ) (j session : ℕ) → sessions ≡ map session_of part → j < length sessions → session ≡ slice_index_or sessions j 0
    → (request : Request) × (with_session session request ≡ slice_index_or part j (with_session session request))
line-of part sessions j session noted inside is =
    let low : j < length part = let same = as-many part sessions noted in omega (arith, inside, same) in
    let line = item-at part j low in
    let its : session ≡ line.0.session = is ∙ ap (λ (ns : List ℕ). slice_index_or ns j 0) noted ∙ get_or-map session_of part j line.0 0 low ∙ ap session_of (sym line.1) in
    let same : line.0 ≡ with_session session line.0.request = ap (λ (s : ℕ). with_session s line.0.request) (sym its) in
    (line.0.request, subst (λ (l : Line). l ≡ slice_index_or part j l) same line.1)

-- ---- all lines

pub all-done : (n : ℕ) (script : List Line) (lines owners : List ℕ) (limit : ℕ) → (was : AreCounted n script [] lines owners limit) → was.done ≡ script
all-done n script lines owners limit was = sym (append-nil was.done) ∙ was.whole

noted-at : (f : Line → ℕ) (before : List Line) (line : Line) (rest : List Line) → slice_get (map f (before ++ line ∷ rest)) (length before) ≡ Some (f line)
noted-at f [] line rest = refl
noted-at f (x ∷ before) line rest = noted-at f before line rest

noted-from : (n : ℕ) (before rest : List Line) → AreOwners n (map (owner_of n) (before ++ rest)) (length before) rest
noted-from n before [] = tt
noted-from n before (line ∷ rest) = (
  subst (λ (o : Option ℕ). MatchOption o (n ≡ 1) (λ owner. owner ≡ line.session % n)) (sym (noted-at (owner_of n) before line rest)) refl,
  subst (λ (z : List Line × ℕ). AreOwners n (map (owner_of n) z.0) z.1 rest) (λ i. (append_assoc before (line ∷ []) rest i, one-more i)) (noted-from n (before ++ line ∷ []) rest),
)
  where
    one-more : length (before ++ line ∷ []) ≡ suc (length before)
    one-more = let long = length-append before (line ∷ []) in omega (arith, long)

none-from : (n place : ℕ) (lines : List Line) → n ≡ 1 → AreOwners n [] place lines
none-from n place [] one = tt
none-from n place (line ∷ lines) one = (one, none-from n (suc place) lines one)

pub are-owned : (n : ℕ) (script : List Line) (lines owners : List ℕ) (limit : ℕ) → 0 < n → AreCounted n script [] lines owners limit → AreOwners n owners 0 script
are-owned n script lines owners limit some was = by_case (cases_lt 1 n)
  where
    by_case : (1 < n) ⊎ (n ≤ 1) → AreOwners n owners 0 script
    by_case (inl several) =
        subst (λ (ns : List ℕ). AreOwners n ns 0 script) (sym (was.noted several ∙ ap (λ (xs : List Line). map (owner_of n) xs) (all-done n script lines owners limit was))) (noted-from n [] script)
    by_case (inr one) = subst (λ (ns : List ℕ). AreOwners n ns 0 script) (sym (was.alone one)) (none-from n 0 script (omega (arith, some, one)))

-- ---- whose a line is

owned-from : (n : ℕ) (owners : List ℕ) (place : ℕ) (lines : List Line) → AreOwners n owners place lines → (k : ℕ) (d : Line) → k < length lines → IsOwnerAt n owners (place + k) (slice_index_or lines k d)
owned-from n owners place [] are k d low = absurd (omega (arith, low))
owned-from n owners place (line ∷ lines) are zero d low = subst (λ (j : ℕ). IsOwnerAt n owners j line) (none place) are.0
  where
    none : (j : ℕ) → j ≡ j + 0
    none j = omega arith
owned-from n owners place (line ∷ lines) are (suc k) d low = subst (λ (j : ℕ). IsOwnerAt n owners j (slice_index_or lines k d)) (over place k) (owned-from n owners (suc place) lines are.1 k d (omega (arith, low)))
  where
    over : (j k : ℕ) → suc j + k ≡ j + suc k
    over j k = omega arith

is-noted : (n : ℕ) (owners : List ℕ) (k : ℕ) (line : Line) → IsOwnerAt n owners k line → n ≢ 1 → (k < length owners) × ((d : ℕ) → slice_index_or owners k d ≡ owner_of n line)
is-noted n [] k line owned several = absurd (several owned)
is-noted n (owner ∷ owners) zero line owned several = (omega arith, λ d. owned)
is-noted n (owner ∷ owners) (suc k) line owned several = let rest = is-noted n owners k line owned several in let low = rest.0 in (omega (arith, low), rest.1)

-- the line at a place, with its worker, which is noted
pub noted-line : (n : ℕ) (owners : List ℕ) (script : List Line) (k : ℕ) → AreOwners n owners 0 script → n ≢ 1 → k < length script → (line : Line) × (line ≡ slice_index_or script k line) × (k < length owners) × ((d : ℕ) → slice_index_or owners k d ≡ owner_of n line)
noted-line n owners script k are several low =
    let at = item-at script k low in
    let owned : IsOwnerAt n owners k at.0 = subst (λ (z : ℕ × Line). IsOwnerAt n owners z.0 z.1) (λ i. (zero-plus k i, sym at.1 i)) (owned-from n owners 0 script are k at.0 low) in
    let noted = is-noted n owners k at.0 owned several in
    (at.0, at.1, noted.0, noted.1)
  where
    zero-plus : (k : ℕ) → 0 + k ≡ k
    zero-plus k = omega arith
