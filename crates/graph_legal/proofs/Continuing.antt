-- One worker: the records that the lines commit may follow the base, and so the replies are legal.
use Rattle.std.proofs.Common.{◌≡◌, ℕ, suc, ◌+◌, ◌-◌, ◌<◌, ◌≤◌, Bool, true, false, not, cond, ◌&&◌, ◌||◌, List, [], ◌∷◌, ◌++◌, length, refl, sym, ap, ◌∙◌, subst, inl, inr, arith, append-nil, length-append, zero-add, lit≤}
use Rattle.std.specs.Prelude.{◌==◌, eqb, nat_lt, nat_le, filter, flat_map, map, count_by, Option, Some, None}
use Rattle.std.specs.List.{list_any, list_all, IsDistinct, AllByRecursion}
use Rattle.std.proofs.lemmas.Map.Steps.{length-le_from_distinct_below}
use Rattle.std.proofs.lemmas.Bool.{false≢true, cases_Bool, ltb-true, leb-true, lt-ltb, le-leb, and_parts, and_from, or_parts, or_cases, or_from, or_left, or_right, not-true, not_from_false, eqb-true, eqb-false, eq-eqb, ne_eqb}
use Rattle.std.proofs.lemmas.List.Folds.{list_any-append, list_all-append}
use Rattle.std.proofs.lemmas.List.Sums.{sum_by-append}
use Rattle.graph_model.specs.declared.record.Record.{Record}
use Rattle.graph_model.specs.declared.graph.Base.{Base}
use Rattle.graph_model.specs.Vertex.{Vertex}
use Rattle.graph_model.specs.declared.change.Change.{Change}
use Rattle.graph_model.specs.Change.{vertex_of, encoded_lens}
use Rattle.graph_model.specs.Graph.{vertex_at, vertex_after, with_vertex, set_vertex, at, after, apply, each_step}
use Rattle.graph_model.specs.Records.{all_differ, made_vertices, all_changes, transaction_most, number_end, group_most, lists_fit, IsGood, last_epoch, begins_after, goes_on, is_record, Continues}
use Rattle.request_text.specs.declared.request.Request.{Request}
use Rattle.request_text.specs.declared.request.Request.TheVariants as request
use Rattle.request_text.specs.declared.reply.Reply.{Reply}
use Rattle.request_text.specs.declared.reply.Reply.TheVariants as reply
use Rattle.graph_legal.specs.Lines.{Phase, Replied, before, asked_from, history}
use Rattle.graph_legal.specs.Traces.{Trace, trace_of, open_trace, is_among, has_committed}
use Rattle.graph_legal.specs.Kinds.{is_in_kind}
use Rattle.graph_legal.specs.TraceOk.{HoldsIn}
use Rattle.graph_legal.specs.Legal.{begun_numbers, given_vertices, draw_count, Legal}
use Rattle.graph_legal.specs.OneWorker.{are_within, keeps_lists, record_at, record_in}
use Rattle.graph_legal.proofs.Owing.{EachHoldsWhenGiven, NumberHolds, committed_records, epoch_of}
use Rattle.graph_legal.proofs.Growing.{has_committed-records_of, are_new, at-later}
use Rattle.graph_legal.proofs.Holding.{added, read-at-most, ReadAtMost, RunWith, last_epoch-push, each_among, all_known, traces_hold-one}
use Rattle.graph_legal.proofs.Epochs.{epochs-one, epochs_at_most, epoch_order-one}
use Rattle.graph_legal.proofs.Numbers.{kinds-one, numbers_drawn-one, spent_at_limit-one, vertices-one, begun_end-one, in_range, more_begun}
use Rattle.graph_legal.proofs.Standing.{AllStand, OpenHolds, stands-one, next_of}

-- ---- epochs

goes_on-push : (e : ℕ) (records : List Record) (r : Record) → goes_on e records ≡ true → (r.epoch == last_epoch e records + 1) ≡ true → goes_on e (records ++ r ∷ []) ≡ true
goes_on-push e [] r g h = and_from _ _ (or_right (r.epoch == e) _ h) refl
goes_on-push e (s ∷ records) r g h =
    let parts = and_parts (s.epoch == e || s.epoch == e + 1) (goes_on s.epoch records) g in
    and_from _ _ parts.0 (goes_on-push s.epoch records r parts.1 h)

begins-push : (e : ℕ) (records : List Record) (r : Record) → begins_after e records ≡ true → (r.epoch == last_epoch e records + 1) ≡ true → begins_after e (records ++ r ∷ []) ≡ true
begins-push e [] r g h = and_from _ _ h refl
begins-push e (s ∷ records) r g h =
    let parts = and_parts (s.epoch == e + 1) (goes_on s.epoch records) g in
    and_from _ _ parts.0 (goes_on-push s.epoch records r parts.1 h)

begins_next : (base : Base) (above : List Replied) (q : Request) (r : Reply) (t : Option Trace) → NumberHolds base above q r → begins_after base.epoch (committed_records above) ≡ true →
    begins_after base.epoch (committed_records above ++ record_at r t) ≡ true
begins_next base above q (reply.Committed e) (Some t) num h = begins-push base.epoch (committed_records above) (record_in t e) h (eq-eqb e (epoch_of base above + 1) num)
begins_next base above q (reply.Committed e) None num h = rw append-nil h
begins_next base above q r t num h = rw append-nil h

begins-one : (base : Base) (lines : List Replied) → EachHoldsWhenGiven base lines → begins_after base.epoch (committed_records lines) ≡ true
begins-one base [] s = refl
begins-one base (a ∷ above) s = begins_next base above a.request a.reply (trace_of a above) s.0.number (begins-one base above s.1)

-- ---- groups of one record

count-append : (e : ℕ) (xs ys : List Record) → count_by (λ r. r.epoch == e) (xs ++ ys) ≡ count_by (λ r. r.epoch == e) xs + count_by (λ r. r.epoch == e) ys
count-append e xs ys = sum_by-append (λ r. cond (r.epoch == e) 1 0) xs ys

count_none : (n e : ℕ) (records : List Record) → n < e → epochs_at_most n records ≡ true → count_by (λ r. r.epoch == e) records ≡ 0
count_none n e [] lt h = refl
count_none n e (r ∷ records) lt h =
    let parts = and_parts (nat_le r.epoch n) (epochs_at_most n records) h in
    let le = leb-true r.epoch n parts.0 in
    let rest = count_none n e records lt parts.1 in
    let other : (r.epoch == e) ≡ false = ne_eqb r.epoch e (λ i. omega (arith, i, le, lt)) in
    count-append e (r ∷ []) records ∙ rw (other, rest) refl

one_at_most : (b : Bool) → cond b 1 0 ≤ 1
one_at_most true = lit≤ tt
one_at_most false = lit≤ tt

count_next : (base : Base) (above : List Replied) (q : Request) (r : Reply) (t : Option Trace) (e : ℕ) → NumberHolds base above q r → epochs_at_most (epoch_of base above) (committed_records above) ≡ true →
    count_by (λ s. s.epoch == e) (committed_records above) ≤ 1 → count_by (λ s. s.epoch == e) (committed_records above ++ record_at r t) ≤ 1
count_next base above q (reply.Committed n) (Some t) e num known h =
    let split = count-append e (committed_records above) (record_in t n ∷ []) in
    elim (cases_Bool (n == e)) [
      | inl is ↦
          let none = count_none (epoch_of base above) e (committed_records above) (let i = eqb-true n e is in omega (arith, i, num)) known in
          let one : count_by (λ s. s.epoch == e) (record_in t n ∷ []) ≤ 1 = rw zero-add (one_at_most (n == e)) in
          omega (arith, split, none, one)
      | inr f ↦
          let none : count_by (λ s. s.epoch == e) (record_in t n ∷ []) ≡ 0 = rw f refl in
          omega (arith, split, none, h)
    ]
count_next base above q (reply.Committed n) None e num known h = rw append-nil h
count_next base above q r t e num known h = rw append-nil h

count-one : (base : Base) (lines : List Replied) → EachHoldsWhenGiven base lines → (e : ℕ) → count_by (λ s. s.epoch == e) (committed_records lines) ≤ 1
count-one base [] s e = lit≤ tt
count-one base (a ∷ above) s e = count_next base above a.request a.reply (trace_of a above) e s.0.number (epochs-one base above s.1) (count-one base above s.1 e)

each_from : (p : Record → Bool) (records : List Record) → ((r : Record) → p r ≡ true) → list_all p records ≡ true
each_from p [] h = refl
each_from p (r ∷ records) h = and_from _ _ (h r) (each_from p records h)

-- ---- numbers

tids : List Record → List ℕ
tids records = map (λ r. r.tid) records

among_tids : (n : ℕ) (records : List Record) → is_among n (map (λ r. r.tid) records) ≡ list_any (λ s. s.tid == n) records
among_tids n [] = refl
among_tids n (r ∷ records) = ap (λ b. (r.tid == n) || b) (among_tids n records)

differ-push : (xs : List ℕ) (n : ℕ) → all_differ xs ≡ true → is_among n xs ≡ false → all_differ (xs ++ n ∷ []) ≡ true
differ-push [] n d h = refl
differ-push (x ∷ xs) n d h =
    let parts = and_parts (not (is_among x xs)) (all_differ xs) d in
    let none = or_parts (x == n) (is_among n xs) h in
    let other : (n == x) ≡ false = ne_eqb n x (λ e. eqb-false x n none.0 (sym e)) in
    and_from _ _ (not_from_false _ (list_any-append (λ y. y == x) xs (n ∷ []) ∙ or_from _ _ (not-true _ parts.0) (or_from _ _ other refl))) (differ-push xs n parts.1 none.1)

map-push : (records : List Record) (r : Record) → map (λ s. s.tid) (records ++ r ∷ []) ≡ map (λ s. s.tid) records ++ r.tid ∷ []
map-push [] r = refl
map-push (s ∷ records) r = ap (λ xs. s.tid ∷ xs) (map-push records r)

numbers_next : (above : List Replied) (r : Reply) (t : Option Trace) → are_new above (record_at r t) ≡ true → all_differ (map (λ s. s.tid) (committed_records above)) ≡ true →
    all_differ (map (λ s. s.tid) (committed_records above ++ record_at r t)) ≡ true
numbers_next above (reply.Committed e) (Some t) new h =
    let unknown = not-true _ (and_parts (not (has_committed t.number above)) true new).0 in
    rw (map-push (committed_records above) (record_in t e)) (differ-push (map (λ s. s.tid) (committed_records above)) t.number h (among_tids t.number (committed_records above) ∙ sym (has_committed-records_of t.number above) ∙ unknown))
numbers_next above (reply.Committed e) None new h = rw append-nil h
numbers_next above r t new h = rw append-nil h

numbers-one : (base : Base) (lines : List Replied) → EachHoldsWhenGiven base lines → all_differ (map (λ s. s.tid) (committed_records lines)) ≡ true
numbers-one base [] s = refl
numbers-one base (a ∷ above) s =
    let new = added base a above (before a above) (trace_of a above) a.request a.reply s.0.kind s.0.number s.0.holds in
    numbers_next above a.reply (trace_of a above) new.1 (numbers-one base above s.1)

-- ---- the lists

lists_without : (v : ℕ) (graph : List Vertex) → lists_fit graph ≡ true → lists_fit (filter (λ x. not (x.number == v)) graph) ≡ true
lists_without v [] h = refl
lists_without v (x ∷ graph) h =
    let parts = and_parts (are_within (Some x)) (lists_fit graph) h in
    let rest = lists_without v graph parts.1 in
    elim (x.number == v) as (λ b. lists_fit (cond (not b) (x ∷ filter (λ y. not (y.number == v)) graph) (filter (λ y. not (y.number == v)) graph)) ≡ true) [
      | true ↦ rest
      | false ↦ and_from _ _ parts.0 rest
    ]

lists_with : (x : Vertex) (graph : List Vertex) → are_within (Some x) ≡ true → lists_fit graph ≡ true → lists_fit (with_vertex x graph) ≡ true
lists_with x [] h g = and_from _ _ h refl
lists_with x (y ∷ graph) h g =
    let parts = and_parts (are_within (Some y)) (lists_fit graph) g in
    elim (nat_lt x.number y.number) as (λ b. lists_fit (cond b (x ∷ y ∷ graph) (cond (x.number == y.number) (x ∷ graph) (y ∷ with_vertex x graph))) ≡ true) [
      | true ↦ and_from _ _ h g
      | false ↦ elim (x.number == y.number) as (λ b. lists_fit (cond b (x ∷ graph) (y ∷ with_vertex x graph)) ≡ true) [
        | true ↦ and_from _ _ h parts.1
        | false ↦ and_from _ _ parts.0 (lists_with x graph h parts.1)
      ]
    ]

lists_set : (v : ℕ) (o : Option Vertex) (graph : List Vertex) → are_within o ≡ true → lists_fit graph ≡ true → lists_fit (set_vertex v o graph) ≡ true
lists_set v None graph h g = lists_without v graph g
lists_set v (Some x) graph h g = lists_with x graph h g

lists_after : (changes : List Change) (graph : List Vertex) → each_step keeps_lists changes graph ≡ true → lists_fit graph ≡ true → lists_fit (after changes graph) ≡ true
lists_after [] graph h g = g
lists_after (c ∷ changes) graph h g =
    let parts = and_parts (keeps_lists c (vertex_at (vertex_of c) graph)) (each_step keeps_lists changes (apply c graph)) h in
    lists_after changes (apply c graph) parts.1 (lists_set (vertex_of c) (vertex_after c (vertex_at (vertex_of c) graph)) graph parts.0 g)

filter_all : (e : ℕ) (records : List Record) → epochs_at_most e records ≡ true → filter (λ r. nat_le r.epoch e) records ≡ records
filter_all e [] h = refl
filter_all e (r ∷ records) h =
    let parts = and_parts (nat_le r.epoch e) (epochs_at_most e records) h in
    rw parts.0 (ap (λ rs. r ∷ rs) (filter_all e records parts.1))

-- the older records' graphs are as they were
older_lists : (base : Base) (records later known : List Record) (n : ℕ) → list_all (λ r. nat_lt n r.epoch) later ≡ true → epochs_at_most n known ≡ true →
    list_all (λ r. lists_fit (at base.graph records r.epoch)) known ≡ true → list_all (λ r. lists_fit (at base.graph (records ++ later) r.epoch)) known ≡ true
older_lists base records later [] n rise at_most h = refl
older_lists base records later (r ∷ known) n rise at_most h =
    let parts = and_parts (lists_fit (at base.graph records r.epoch)) (list_all (λ s. lists_fit (at base.graph records s.epoch)) known) h in
    let bound = and_parts (nat_le r.epoch n) (epochs_at_most n known) at_most in
    and_from _ _ (ap lists_fit (at-later base.graph records later r.epoch n (leb-true r.epoch n bound.0) rise) ∙ parts.0) (older_lists base records later known n rise bound.1 parts.1)

lists_next : (base : Base) (above : List Replied) (q : Request) (r : Reply) (t : Option Trace) → IsGood base → NumberHolds base above q r →
    epochs_at_most (epoch_of base above) (committed_records above) ≡ true → epochs_at_most (last_epoch base.epoch (committed_records above ++ record_at r t)) (committed_records above ++ record_at r t) ≡ true →
    each_step keeps_lists (all_changes (committed_records above ++ record_at r t)) base.graph ≡ true →
    list_all (λ s. lists_fit (at base.graph (committed_records above) s.epoch)) (committed_records above) ≡ true →
    list_all (λ s. lists_fit (at base.graph (committed_records above ++ record_at r t) s.epoch)) (committed_records above ++ record_at r t) ≡ true
lists_next base above q (reply.Committed e) (Some t) good num known all within h =
    let records = committed_records above ++ record_in t e ∷ [] in
    let last = last_epoch-push base.epoch (committed_records above) (record_in t e) in
    let now : epochs_at_most e records ≡ true = subst (λ n. epochs_at_most n records ≡ true) last all in
    let whole : at base.graph records e ≡ after (all_changes records) base.graph = ap (λ rs. after (flat_map (λ s. s.changes) rs) base.graph) (filter_all e records now) in
    list_all-append (λ s. lists_fit (at base.graph records s.epoch)) (committed_records above) (record_in t e ∷ [])
    ∙ and_from _ _
    (older_lists base (committed_records above) (record_in t e ∷ []) (committed_records above) (epoch_of base above) (and_from _ _ (lt-ltb (epoch_of base above) e (omega (arith, num))) refl) known h)
    (and_from _ _ (ap lists_fit whole ∙ lists_after (all_changes records) base.graph within good.lists) refl)
lists_next base above q (reply.Committed e) None good num known all within h = subst (λ rs. list_all (λ s. lists_fit (at base.graph rs s.epoch)) rs ≡ true) (sym (append-nil (committed_records above))) h
lists_next base above q r t good num known all within h = subst (λ rs. list_all (λ s. lists_fit (at base.graph rs s.epoch)) rs ≡ true) (sym (append-nil (committed_records above))) h

lists-one : (base : Base) (lines : List Replied) → IsGood base → EachHoldsWhenGiven base lines → list_all (λ s. lists_fit (at base.graph (committed_records lines) s.epoch)) (committed_records lines) ≡ true
lists-one base [] good s = refl
lists-one base (a ∷ above) good s =
    lists_next base above a.request a.reply (trace_of a above) good s.0.number (epochs-one base above s.1) (epochs-one base (a ∷ above) s) (stands-one base (a ∷ above) good s).records.within (lists-one base above good s.1)

-- ---- each record

less_apart : (first x y : ℕ) → first ≤ x → first ≤ y → (y == x) ≡ false → eqb (x - first) (y - first) ≡ false
less_apart first x y a b h = ne_eqb (x - first) (y - first) (λ e. eqb-false y x h (omega (arith, a, b, e)))

apart_from : (first x : ℕ) (xs : List ℕ) → first ≤ x → list_all (nat_le first) xs ≡ true → is_among x xs ≡ false → AllByRecursion (λ y. eqb (x - first) y ≡ false) (map (λ y. y - first) xs)
apart_from first x [] a h none = tt
apart_from first x (y ∷ xs) a h none =
    let parts = and_parts (nat_le first y) (list_all (nat_le first) xs) h in
    let other = or_parts (y == x) (is_among x xs) none in
    (less_apart first x y a (leb-true first y parts.0) other.0, apart_from first x xs a parts.1 other.1)

distinct_from : (first : ℕ) (xs : List ℕ) → list_all (nat_le first) xs ≡ true → all_differ xs ≡ true → IsDistinct eqb (map (λ x. x - first) xs)
unfolding IsDistinct
distinct_from first [] h d = tt
distinct_from first (x ∷ xs) h d =
    let parts = and_parts (nat_le first x) (list_all (nat_le first) xs) h in
    let differ = and_parts (not (is_among x xs)) (all_differ xs) d in
    (apart_from first x xs (leb-true first x parts.0) parts.1 (not-true _ differ.0), distinct_from first xs parts.1 differ.1)

below_from : (first n : ℕ) (xs : List ℕ) → list_all (nat_le first) xs ≡ true → list_all (λ x. nat_lt x (first + n)) xs ≡ true → (q : ℕ) → list_any (eqb q) (map (λ x. x - first) xs) ≡ true → q < n
below_from first n [] h b q among = absurd (false≢true among)
below_from first n (x ∷ xs) h b q among =
    let low = and_parts (nat_le first x) (list_all (nat_le first) xs) h in
    let high = and_parts (nat_lt x (first + n)) (list_all (λ y. nat_lt y (first + n)) xs) b in
    let le = leb-true first x low.0 in
    let lt = ltb-true x (first + n) high.0 in
    elim (or_cases (eqb q (x - first)) (list_any (eqb q) (map (λ y. y - first) xs)) among) [
      | inl e ↦ let is = eqb-true q (x - first) e in omega (arith, is, le, lt)
      | inr rest ↦ below_from first n xs low.1 high.1 q rest
    ]

length_map : (f : ℕ → ℕ) (xs : List ℕ) → length (map f xs) ≡ length xs
length_map f [] = refl
length_map f (x ∷ xs) = ap (λ n. suc n) (length_map f xs)

-- different numbers from `first` on, below `first + n`, are at most n
no_more_than : (first n : ℕ) (xs : List ℕ) → list_all (nat_le first) xs ≡ true → list_all (λ x. nat_lt x (first + n)) xs ≡ true → all_differ xs ≡ true → length xs ≤ n
no_more_than first n xs low high differ =
    subst (λ m. m ≤ n) (length_map (λ x. x - first) xs) (length-le_from_distinct_below (map (λ x. x - first) xs) n (distinct_from first xs low differ) (below_from first n xs low high))

tids_length : (records : List Record) → length (map (λ r. r.tid) records) ≡ length records
tids_length [] = refl
tids_length (r ∷ records) = ap (λ n. suc n) (tids_length records)

-- the numbers of the records are those of transactions that began
abbrev pub is_begun : Base → List Replied → Record → Bool
is_begun base lines r = nat_le base.next_tid r.tid && nat_lt r.tid (next_of base lines)

begun_more : (base : Base) (m n : ℕ) (records : List Record) → m ≤ n → list_all (λ r. nat_le base.next_tid r.tid && nat_lt r.tid m) records ≡ true → list_all (λ r. nat_le base.next_tid r.tid && nat_lt r.tid n) records ≡ true
begun_more base m n [] le h = refl
begun_more base m n (r ∷ records) le h =
    let parts = and_parts (nat_le base.next_tid r.tid && nat_lt r.tid m) (list_all (λ s. nat_le base.next_tid s.tid && nat_lt s.tid m) records) h in
    let one = and_parts (nat_le base.next_tid r.tid) (nat_lt r.tid m) parts.0 in
    let lt = ltb-true r.tid m one.1 in
    and_from _ _ (and_from _ _ one.0 (lt-ltb r.tid n (omega (arith, lt, le)))) (begun_more base m n records le parts.1)

begun_next : (base : Base) (above : List Replied) (r : Reply) (t : Option Trace) → OpenHolds base (committed_records above) (given_vertices above) (next_of base above) t →
    list_all (is_begun base above) (committed_records above) ≡ true → list_all (is_begun base above) (committed_records above ++ record_at r t) ≡ true
begun_next base above (reply.Committed e) (Some t) o h =
    list_all-append (is_begun base above) (committed_records above) (record_in t e ∷ []) ∙ and_from _ _ h (and_from _ _ (and_from _ _ (le-leb base.next_tid t.number o.first) (lt-ltb t.number (next_of base above) o.begun)) refl)
begun_next base above (reply.Committed e) None o h = rw append-nil h
begun_next base above r t o h = rw append-nil h

own_open : (base : Base) (a : Replied) (above : List Replied) → EachHoldsWhenGiven base (a ∷ above) → AllStand base above → OpenHolds base (committed_records above) (given_vertices above) (next_of base above) (trace_of a above)
own_open base a above s stand = subst (λ n. OpenHolds base (committed_records above) (given_vertices above) (next_of base above) (open_trace n a.session above)) (sym s.0.phase) (stand.opens a.session)

next_grows : (base : Base) (a : Replied) (above : List Replied) → next_of base above ≤ next_of base (a ∷ above)
next_grows base a above = let more = more_begun a.reply (begun_numbers above) in omega (arith, more)

pub begun-one : (base : Base) (lines : List Replied) → IsGood base → EachHoldsWhenGiven base lines → list_all (is_begun base lines) (committed_records lines) ≡ true
begun-one base [] good s = refl
begun-one base (a ∷ above) good s =
    begun_more base (next_of base above) (next_of base (a ∷ above)) (committed_records (a ∷ above)) (next_grows base a above)
    (begun_next base above a.reply (trace_of a above) (own_open base a above s (stands-one base above good s.1)) (begun-one base above good s.1))

low_of : (base : Base) (n : ℕ) (records : List Record) → list_all (λ r. nat_le base.next_tid r.tid && nat_lt r.tid n) records ≡ true →
    (list_all (nat_le base.next_tid) (map (λ r. r.tid) records) ≡ true) × (list_all (λ x. nat_lt x n) (map (λ r. r.tid) records) ≡ true)
low_of base n [] h = (refl, refl)
low_of base n (r ∷ records) h =
    let parts = and_parts (nat_le base.next_tid r.tid && nat_lt r.tid n) (list_all (λ s. nat_le base.next_tid s.tid && nat_lt s.tid n) records) h in
    let one = and_parts (nat_le base.next_tid r.tid) (nat_lt r.tid n) parts.0 in
    let rest = low_of base n records parts.1 in
    (and_from _ _ one.0 rest.0, and_from _ _ one.1 rest.1)

records_at_most : (base : Base) (lines : List Replied) → IsGood base → EachHoldsWhenGiven base lines → length (committed_records lines) ≤ length (begun_numbers lines)
records_at_most base lines good s =
    let bounds = low_of base (next_of base lines) (committed_records lines) (begun-one base lines good s) in
    subst (λ n. n ≤ length (begun_numbers lines)) (tids_length (committed_records lines))
    (no_more_than base.next_tid (length (begun_numbers lines)) (map (λ r. r.tid) (committed_records lines)) bounds.0 bounds.1 (numbers-one base lines s))

-- the epoch counts the records
epoch_next : (base : Base) (above : List Replied) (q : Request) (r : Reply) (t : Option Trace) → NumberHolds base above q r → epoch_of base above ≡ base.epoch + length (committed_records above) →
    last_epoch base.epoch (committed_records above ++ record_at r t) ≡ base.epoch + length (committed_records above ++ record_at r t)
epoch_next base above q (reply.Committed e) (Some t) num h =
    let last = last_epoch-push base.epoch (committed_records above) (record_in t e) in
    let more = length-append (committed_records above) (record_in t e ∷ []) in
    omega (arith, last, more, num, h)
epoch_next base above q (reply.Committed e) None num h = rw append-nil h
epoch_next base above q r t num h = rw append-nil h

epoch-counts : (base : Base) (lines : List Replied) → EachHoldsWhenGiven base lines → epoch_of base lines ≡ base.epoch + length (committed_records lines)
epoch-counts base [] s = omega arith
epoch-counts base (a ∷ above) s = epoch_next base above a.request a.reply (trace_of a above) s.0.number (epoch-counts base above s.1)

epoch-small : (base : Base) (lines : List Replied) → IsGood base → base.epoch < base.next_tid → base.next_tid ≤ number_end → EachHoldsWhenGiven base lines → epoch_of base lines < number_end
epoch-small base lines good lt le s =
    let counts = epoch-counts base lines s in
    let few = records_at_most base lines good s in
    let end = begun_end-one base lines le s in
    omega (arith, counts, few, end, lt)

each_next : (base : Base) (a : Replied) (above before : List Replied) (q : Request) (r : Reply) (t : Option Trace) → is_in_kind t q r ≡ true → NumberHolds base above q r →
    HoldsIn (RunWith base above a r t) t a before q r → OpenHolds base (committed_records above) (given_vertices above) (next_of base above) t → ReadAtMost (epoch_of base above) t →
    last_epoch base.epoch (committed_records above ++ record_at r t) < number_end →
    list_all (is_record base.epoch base.next_tid) (committed_records above) ≡ true → list_all (is_record base.epoch base.next_tid) (committed_records above ++ record_at r t) ≡ true
each_next base a above before request.Commit (reply.Committed e) (Some t) k num holds o read small h =
    let last = last_epoch-push base.epoch (committed_records above) (record_in t e) in
    list_all-append (is_record base.epoch base.next_tid) (committed_records above) (record_in t e ∷ []) ∙ and_from _ _ h (and_from _ _
    (and_from _ _ (and_from _ _ (and_from _ _ (and_from _ _ (and_from _ _ (and_from _ _ (and_from _ _
    (le-leb base.next_tid t.number o.first)
    (lt-ltb t.number number_end o.end))
    (le-leb base.epoch t.read o.from))
    (lt-ltb t.read e (omega (arith, read, num))))
    (lt-ltb e number_end (omega (arith, last, small))))
    (lt-ltb 0 (length t.own) holds.0))
    (le-leb (encoded_lens t.own) transaction_most o.room))
    o.destinations) refl)
each_next base a above before q (reply.Committed e) (Some t) k num holds o read small h = absurd (false≢true k)
each_next base a above before q (reply.Committed e) None k num holds o read small h = rw append-nil h
each_next base a above before q r t k num holds o read small h = rw append-nil h

each-one : (base : Base) (lines : List Replied) → IsGood base → base.epoch < base.next_tid → base.next_tid ≤ number_end → EachHoldsWhenGiven base lines → list_all (is_record base.epoch base.next_tid) (committed_records lines) ≡ true
each-one base [] good lt le s = refl
each-one base (a ∷ above) good lt le s =
    each_next base a above (before a above) a.request a.reply (trace_of a above) s.0.kind s.0.number s.0.holds (own_open base a above s (stands-one base above good s.1))
    (read-at-most base a.phase a.session above s.1) (epoch-small base (a ∷ above) good lt le s) (each-one base above good lt le s.1)

-- ---- made vertices

among_all : (p : ℕ → Bool) (v : ℕ) (xs : List ℕ) → list_all p xs ≡ true → is_among v xs ≡ true → p v ≡ true
among_all p v [] h among = absurd (false≢true among)
among_all p v (x ∷ xs) h among =
    let parts = and_parts (p x) (list_all p xs) h in
    elim (or_cases (x == v) (is_among v xs) among) [ inl e ↦ subst (λ y. p y ≡ true) (eqb-true x v e) parts.0 | inr rest ↦ among_all p v xs parts.1 rest ]

all_of : (p : ℕ → Bool) (xs : List ℕ) → ((v : ℕ) → is_among v xs ≡ true → p v ≡ true) → list_all p xs ≡ true
all_of p [] h = refl
all_of p (x ∷ xs) h = and_from _ _ (h x (or_left _ _ (eq-eqb x x refl))) (all_of p xs (λ v m. h v (or_right _ _ m)))

made_bounds : (first end v : ℕ) → in_range first end v ≡ true → (nat_le first v && nat_lt v number_end) ≡ true
made_bounds first end v h =
    let outer = and_parts (nat_le first v && nat_lt v end) (nat_lt v number_end) h in
    and_from _ _ (and_parts (nat_le first v) (nat_lt v end) outer.0).0 outer.1

-- ---- the whole

-- The records that one worker's lines commit may follow the base.
pub continues-one : (base : Base) (lines : List Replied) → IsGood base → EachHoldsWhenGiven base lines → Continues base (committed_records lines)
continues-one base lines good s =
    let stand = stands-one base lines good s in
    let four = and_parts (nat_lt 0 base.next_tid && nat_le base.next_tid number_end && nat_lt 0 base.next_vertex) (nat_le base.next_vertex number_end) good.numbers in
    let three = and_parts (nat_lt 0 base.next_tid && nat_le base.next_tid number_end) (nat_lt 0 base.next_vertex) four.0 in
    let two = and_parts (nat_lt 0 base.next_tid) (nat_le base.next_tid number_end) three.0 in
    let vertices = and_parts (all_differ (given_vertices lines)) (list_all (in_range base.next_vertex (base.next_vertex + draw_count lines)) (given_vertices lines)) (vertices-one base lines s) in
    record {
      epochs = begins-one base lines s;
      groups = each_from (λ r. nat_le (count_by (λ x. x.epoch == r.epoch) (committed_records lines)) group_most) (committed_records lines)
          (λ r. let one = count-one base lines s r.epoch in le-leb (count_by (λ x. x.epoch == r.epoch) (committed_records lines)) group_most (omega (arith, one)));
      each = each-one base lines good (ltb-true base.epoch base.next_tid good.epoch) (leb-true base.next_tid number_end two.1) s;
      numbers = numbers-one base lines s;
      made = all_of (λ v. nat_le base.next_vertex v && nat_lt v number_end) (made_vertices (all_changes (committed_records lines)))
          (λ v m. made_bounds base.next_vertex (base.next_vertex + draw_count lines) v (among_all (in_range base.next_vertex (base.next_vertex + draw_count lines)) v (given_vertices lines) vertices.1 (stand.records.made_given v m)));
      made_once = stand.records.made_once;
      fit = stand.records.fit;
      no_overlap = stand.records.records_apart;
      lists = lists-one base lines good s;
    }

-- **One worker: replies that held when they were given are legal for the records that they committed.**
pub legal-one : (script : Phase) (base : Base) (replies : List Reply) → IsGood base → length (asked_from 0 (script ∷ [])) ≡ length replies →
    EachHoldsWhenGiven base (history (script ∷ []) replies) → Legal (script ∷ []) base (committed_records (history (script ∷ []) replies)) replies
legal-one script base replies good count s =
    let lines = history (script ∷ []) replies in
    let four = and_parts (nat_lt 0 base.next_tid && nat_le base.next_tid number_end && nat_lt 0 base.next_vertex) (nat_le base.next_vertex number_end) good.numbers in
    let three = and_parts (nat_lt 0 base.next_tid && nat_le base.next_tid number_end) (nat_lt 0 base.next_vertex) four.0 in
    let two = and_parts (nat_lt 0 base.next_tid) (nat_le base.next_tid number_end) three.0 in
    record {
      replies_in_kind = record { one_each = count; kinds = kinds-one base lines s };
      traces_hold = traces_hold-one base lines s;
      numbers_drawn = numbers_drawn-one base lines s;
      epoch_order = epoch_order-one base lines s;
      records_of_traces = record { continues = continues-one base lines good s; committed = all_known lines (committed_records lines) (each_among [] (committed_records lines)) };
      spent_at_limit = spent_at_limit-one base lines (leb-true base.next_tid number_end two.1) s;
    }
