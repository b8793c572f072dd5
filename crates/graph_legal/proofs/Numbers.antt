-- One worker: the numbers and epochs that the replies tell.
use Rattle.std.proofs.Common.{◌≡◌, ℕ, ◌+◌, ◌<◌, ◌≤◌, Bool, true, false, cond, ◌&&◌, List, [], ◌∷◌, ◌++◌, length, refl, ap, ◌∙◌, subst, arith, length-append, zero-add}
use Rattle.std.specs.Prelude.{◌==◌, nat_lt, nat_le, IsTrue, Option, Some, None}
use Rattle.std.specs.List.{list_any, list_all}
use Rattle.std.proofs.lemmas.Bool.{false≢true, ltb-true, lt-ltb, le-leb, and_parts, and_from, or_from, not_from_false, ne_eqb}
use Rattle.std.proofs.lemmas.List.Sums.{sum_by-append}
use Rattle.graph_model.specs.declared.graph.Base.{Base}
use Rattle.graph_model.specs.Records.{all_differ, number_end}
use Rattle.request_text.specs.declared.request.Request.{Request}
use Rattle.request_text.specs.declared.request.Request.TheVariants as request
use Rattle.request_text.specs.declared.reply.Reply.{Reply}
use Rattle.request_text.specs.declared.reply.Reply.TheVariants as reply
use Rattle.graph_legal.specs.Lines.{Replied, EachLine}
use Rattle.graph_legal.specs.Traces.{Trace, trace_of}
use Rattle.graph_legal.specs.Kinds.{is_in_kind}
use Rattle.graph_legal.specs.Legal.{begun_number, begun_numbers, given_vertex, given_vertices, may_draw, draw_count, all_below, are_drawn, RiseAlongBefore, NumbersDrawn, SpentHolds, SpentAtLimit}
use Rattle.graph_legal.proofs.Owing.{HoldsWhenGiven, EachHoldsWhenGiven, NumberHolds}
use Rattle.graph_legal.proofs.Holding.{before-one}

-- ---- kinds

pub kinds-one : (base : Base) (lines : List Replied) → EachHoldsWhenGiven base lines → EachLine (λ a above. IsTrue (is_in_kind (trace_of a above) a.request a.reply)) lines
kinds-one base [] s = tt
kinds-one base (a ∷ above) s = (s.0.kind, kinds-one base above s.1)

-- ---- numbers in a range

abbrev pub in_range : ℕ → ℕ → ℕ → Bool
in_range first end x = nat_le first x && nat_lt x end && nat_lt x number_end

range_more : (first end more : ℕ) (xs : List ℕ) → end ≤ more → list_all (in_range first end) xs ≡ true → list_all (in_range first more) xs ≡ true
range_more first end more [] le h = refl
range_more first end more (x ∷ xs) le h =
    let parts = and_parts (in_range first end x) (list_all (in_range first end) xs) h in
    let inner = and_parts (nat_le first x && nat_lt x end) (nat_lt x number_end) parts.0 in
    let ends = and_parts (nat_le first x) (nat_lt x end) inner.0 in
    let lt = ltb-true x end ends.1 in
    and_from _ _ (and_from _ _ (and_from _ _ ends.0 (lt-ltb x more (omega (arith, lt, le)))) inner.1) (range_more first end more xs le parts.1)

pub range_below : (first end : ℕ) (xs : List ℕ) → list_all (in_range first end) xs ≡ true → all_below end xs ≡ true
range_below first end [] h = refl
range_below first end (x ∷ xs) h =
    let parts = and_parts (in_range first end x) (list_all (in_range first end) xs) h in
    let inner = and_parts (nat_le first x && nat_lt x end) (nat_lt x number_end) parts.0 in
    let ends = and_parts (nat_le first x) (nat_lt x end) inner.0 in
    and_from _ _ ends.1 (range_below first end xs parts.1)

in_range_from : (first end x : ℕ) → first ≤ x → x < end → x < number_end → in_range first end x ≡ true
in_range_from first end x a b c = and_from _ _ (and_from _ _ (le-leb first x a) (lt-ltb x end b)) (lt-ltb x number_end c)

pub none_above : (n : ℕ) (xs : List ℕ) → all_below n xs ≡ true → list_any (λ y. y == n) xs ≡ false
none_above n [] h = refl
none_above n (x ∷ xs) h =
    let parts = and_parts (nat_lt x n) (all_below n xs) h in
    let lt = ltb-true x n parts.0 in
    or_from _ _ (ne_eqb x n (λ e. omega (arith, lt, e))) (none_above n xs parts.1)

pub below_more : (m n : ℕ) (xs : List ℕ) → m ≤ n → all_below m xs ≡ true → all_below n xs ≡ true
below_more m n [] le h = refl
below_more m n (x ∷ xs) le h =
    let parts = and_parts (nat_lt x m) (all_below m xs) h in
    let lt = ltb-true x m parts.0 in
    and_from _ _ (lt-ltb x n (omega (arith, lt, le))) (below_more m n xs le parts.1)

-- ---- transaction numbers

drawn_reply : (base : Base) (above : List Replied) (q : Request) (r : Reply) → NumberHolds base above q r →
    are_drawn base.next_tid (base.next_tid + length (begun_numbers above)) (begun_numbers above) ≡ true →
    are_drawn base.next_tid (base.next_tid + length (begun_number r ++ begun_numbers above)) (begun_number r ++ begun_numbers above) ≡ true
drawn_reply base above q (reply.Begun n e) h past =
    let first = base.next_tid in
    let xs = begun_numbers above in
    let parts = and_parts (all_differ xs) (list_all (in_range first (first + length xs)) xs) past in
    let below = range_below first (first + length xs) xs parts.1 in
    let new : list_any (λ y. y == n) xs ≡ false = none_above n xs (below_more (first + length xs) n xs (omega (arith, h.0)) below) in
    and_from _ _
    (and_from _ _ (not_from_false _ new) parts.0)
    (and_from _ _ (in_range_from first (first + length (n ∷ xs)) n (omega (arith, h.0)) (omega (arith, h.0)) h.1)
    (range_more first (first + length xs) (first + length (n ∷ xs)) xs (omega arith) parts.1))
drawn_reply base above q r h past = past

pub transactions-one : (base : Base) (lines : List Replied) → EachHoldsWhenGiven base lines → are_drawn base.next_tid (base.next_tid + length (begun_numbers lines)) (begun_numbers lines) ≡ true
transactions-one base [] s = refl
transactions-one base (a ∷ above) s = drawn_reply base above a.request a.reply s.0.number (transactions-one base above s.1)

begun_rises : (base : Base) (above : List Replied) (q : Request) (r : Reply) → NumberHolds base above q r →
    are_drawn base.next_tid (base.next_tid + length (begun_numbers above)) (begun_numbers above) ≡ true →
    list_all (λ n. all_below n (begun_numbers above)) (begun_number r) ≡ true
begun_rises base above q (reply.Begun n e) h past =
    let first = base.next_tid in
    let xs = begun_numbers above in
    let parts = and_parts (all_differ xs) (list_all (in_range first (first + length xs)) xs) past in
    and_from _ _ (below_more (first + length xs) n xs (omega (arith, h.0)) (range_below first (first + length xs) xs parts.1)) refl
begun_rises base above q r h past = refl

pub transactions_rise-one : (base : Base) (lines : List Replied) → EachHoldsWhenGiven base lines → RiseAlongBefore begun_number lines
transactions_rise-one base [] s = tt
transactions_rise-one base (a ∷ above) s = (
  rw (before-one base a above s.0.phase s.0.worker s.1) (begun_rises base above a.request a.reply s.0.number (transactions-one base above s.1)),
  transactions_rise-one base above s.1,
)

-- ---- vertex numbers

pub draws-cons : (a : Replied) (above : List Replied) → draw_count (a ∷ above) ≡ cond (may_draw a.request a.reply) 1 0 + draw_count above
draws-cons a above = sum_by-append (λ b. cond (may_draw b.request b.reply) 1 0) (a ∷ []) above ∙ ap (λ n. n + draw_count above) (zero-add (cond (may_draw a.request a.reply) 1 0))

-- a `vertex` reply answers a `vertex` line
pub vertex_draws : (t : Option Trace) (q : Request) (v : ℕ) → is_in_kind t q (reply.Vertex v) ≡ true → may_draw q (reply.Vertex v) ≡ true
vertex_draws t (request.Vertex p) v k = refl
vertex_draws None q v k = absurd (false≢true k)
vertex_draws (Some t) q v k = absurd (false≢true k)

given_reply : (base : Base) (a : Replied) (above : List Replied) (q : Request) (r : Reply) → (m : ℕ) →
    base.next_vertex + draw_count above ≤ m → ((v : ℕ) → r ≡ reply.Vertex v → base.next_vertex + draw_count above + 1 ≤ m) →
    NumberHolds base above q r →
    are_drawn base.next_vertex (base.next_vertex + draw_count above) (given_vertices above) ≡ true →
    are_drawn base.next_vertex m (given_vertex r ++ given_vertices above) ≡ true
given_reply base a above q (reply.Vertex v) m le one h past =
    let first = base.next_vertex in
    let xs = given_vertices above in
    let parts = and_parts (all_differ xs) (list_all (in_range first (first + draw_count above)) xs) past in
    let more = one v refl in
    and_from _ _
    (and_from _ _ (not_from_false _ (none_above v xs h.1)) parts.0)
    (and_from _ _ (in_range_from first m v h.0 (omega (arith, h.2, more)) h.3) (range_more first (first + draw_count above) m xs le parts.1))
given_reply base a above q r m le one h past =
    let first = base.next_vertex in
    let xs = given_vertices above in
    let parts = and_parts (all_differ xs) (list_all (in_range first (first + draw_count above)) xs) past in
    and_from _ _ parts.0 (range_more first (first + draw_count above) m xs le parts.1)

draws_one : (base : Base) (a : Replied) (above : List Replied) → HoldsWhenGiven base a above → (v : ℕ) → a.reply ≡ reply.Vertex v → draw_count (a ∷ above) ≡ 1 + draw_count above
draws_one base a above s v e =
    let kind : is_in_kind (trace_of a above) a.request (reply.Vertex v) ≡ true = subst (λ r. is_in_kind (trace_of a above) a.request r ≡ true) e s.kind in
    let one : may_draw a.request a.reply ≡ true = ap (may_draw a.request) e ∙ vertex_draws (trace_of a above) a.request v kind in
    draws-cons a above ∙ ap (λ b. cond b 1 0 + draw_count above) one

pub vertices-one : (base : Base) (lines : List Replied) → EachHoldsWhenGiven base lines → are_drawn base.next_vertex (base.next_vertex + draw_count lines) (given_vertices lines) ≡ true
vertices-one base [] s = refl
vertices-one base (a ∷ above) s =
    let cons = draws-cons a above in
    given_reply base a above a.request a.reply (base.next_vertex + draw_count (a ∷ above)) (omega (arith, cons))
    (λ v e. let one = draws_one base a above s.0 v e in omega (arith, one)) s.0.number (vertices-one base above s.1)

given_rises : (base : Base) (above : List Replied) (q : Request) (r : Reply) → NumberHolds base above q r → list_all (λ n. all_below n (given_vertices above)) (given_vertex r) ≡ true
given_rises base above q (reply.Vertex v) h = and_from _ _ h.1 refl
given_rises base above q r h = refl

pub vertices_rise-one : (base : Base) (lines : List Replied) → EachHoldsWhenGiven base lines → RiseAlongBefore given_vertex lines
vertices_rise-one base [] s = tt
vertices_rise-one base (a ∷ above) s = (
  rw (before-one base a above s.0.phase s.0.worker s.1) (given_rises base above a.request a.reply s.0.number),
  vertices_rise-one base above s.1,
)

pub numbers_drawn-one : (base : Base) (lines : List Replied) → EachHoldsWhenGiven base lines → NumbersDrawn base lines
numbers_drawn-one base lines s = record {
  transactions = transactions-one base lines s;
  transactions_rise = transactions_rise-one base lines s;
  vertices = vertices-one base lines s;
  vertices_rise = vertices_rise-one base lines s;
}

-- ---- numbers that are used up

pub more_begun : (r : Reply) (xs : List ℕ) → length xs ≤ length (begun_number r ++ xs)
more_begun r xs = let n = length-append (begun_number r) xs in omega (arith, n)

-- the numbers end at the limit
begun_end : (base : Base) (above : List Replied) (q : Request) (r : Reply) → NumberHolds base above q r →
    base.next_tid + length (begun_numbers above) ≤ number_end → base.next_tid + length (begun_number r ++ begun_numbers above) ≤ number_end
begun_end base above q (reply.Begun n e) h le = omega (arith, h.0, h.1)
begun_end base above q r h le = le

pub begun_end-one : (base : Base) (lines : List Replied) → base.next_tid ≤ number_end → EachHoldsWhenGiven base lines → base.next_tid + length (begun_numbers lines) ≤ number_end
begun_end-one base [] le s = omega (arith, le)
begun_end-one base (a ∷ above) le s = begun_end base above a.request a.reply s.0.number (begun_end-one base above le s.1)

spent_reply : (base : Base) (above all : List Replied) (q : Request) (r : Reply) → base.next_tid + length (begun_numbers all) ≤ number_end →
    length (begun_numbers above) ≤ length (begun_numbers all) → draw_count above ≤ draw_count all → NumberHolds base above q r → SpentHolds base all q r
spent_reply base above all request.Begin reply.Spent end more drew h = omega (arith, end, more, h)
spent_reply base above all (request.Vertex p) reply.Spent end more drew h = omega (arith, drew, h)
spent_reply base above all q r end more drew h = tt

spent_from : (base : Base) (lines all : List Replied) → base.next_tid + length (begun_numbers all) ≤ number_end →
    length (begun_numbers lines) ≤ length (begun_numbers all) → draw_count lines ≤ draw_count all → EachHoldsWhenGiven base lines →
    EachLine (λ a above. SpentHolds base all a.request a.reply) lines
spent_from base [] all end more drew s = tt
spent_from base (a ∷ above) all end more drew s =
    let fewer = more_begun a.reply (begun_numbers above) in
    let cons = draws-cons a above in (
      spent_reply base above all a.request a.reply end (omega (arith, fewer, more)) (omega (arith, cons, drew)) s.0.number,
      spent_from base above all end (omega (arith, fewer, more)) (omega (arith, cons, drew)) s.1,
    )

pub spent_at_limit-one : (base : Base) (lines : List Replied) → base.next_tid ≤ number_end → EachHoldsWhenGiven base lines → SpentAtLimit base lines
spent_at_limit-one base lines le s = spent_from base lines lines (begun_end-one base lines le s) (omega arith) (omega arith) s
