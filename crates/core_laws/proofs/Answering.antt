-- What the answers to changes tell in a kept state.
use Rattle.std.proofs.Common.{◌≡◌, ℕ, ◌+◌, ◌<◌, ◌≤◌, Bool, true, false, ◌&&◌, not, List, [], ◌∷◌, ◌++◌, refl, sym, ap, ◌∙◌, subst, arith, Option, Some, None, ⊎_elim, is_some}
use Rattle.std.proofs.lemmas.Bool.{ltb-true, ltb-false, false≢true, true≢false}
use Rattle.std.proofs.lemmas.Bool.Decides.{nat_tests}
use Rattle.std.proofs.lemmas.List.Sums.{sum_by-cons, sum_by-append}
use Rattle.std.proofs.lemmas.List.Concat.{flat_map-cons}
use Rattle.std.specs.Prelude.{if◌then◌else◌, ◌==◌}
use Rattle.graph_model.specs.declared.change.Change.{Change}
use Rattle.graph_model.specs.declared.change.Change.TheVariants.{New, Set, Drop, Put, Del}
use Rattle.graph_model.specs.declared.graph.Base.{Base}
use Rattle.graph_model.specs.declared.pairs.Pair.{Pair}
use Rattle.graph_model.specs.declared.record.Record.{Record}
use Rattle.graph_model.specs.Vertex.{Vertex, LabelList}
use Rattle.graph_model.specs.Change.{vertex_of, edge_size, size_at, put_sizes}
use Rattle.graph_model.specs.Graph.{vertex_at, pair_to, pairs_in, has_edge}
use Rattle.graph_model.specs.Places.{changes_about}
use Rattle.graph_model.specs.Records.{IsGood, all_changes, has_destination}
use Rattle.graph_model.specs.Sizes.{list_size, size_of_list}
use Rattle.stamps.specs.Stamps.{Txn, is_private}
use Rattle.edge_log.specs.Entries.{Entry, sizes}
use Rattle.vertex_locks.specs.declared.answer.Look.{Look}
use Rattle.vertex_locks.specs.declared.answer.Look.TheVariants.{Taken, Held, Conflict}
use Rattle.core_rows.specs.Rows.{Row, Life, Unborn, There, Gone, log_at, newest, is_there, lock_answer, living_vertex, shown_lists, shown_vertex}
use Rattle.core_states.specs.declared.actor.Actor.{Actor}
use Rattle.core_states.specs.declared.transaction.Transaction.{Transaction}
use Rattle.core_states.specs.declared.event.CoreAnswer.{CoreAnswer}
use Rattle.core_states.specs.declared.event.CoreAnswer.TheVariants as answer
use Rattle.core_kept.specs.Bounds.{Kept}
use Rattle.core_states.specs.Changes.{here, is_noted, len_with, sizes_put, ChangeTells, NewTells, ChangesTell}
use Rattle.core_states.specs.ClockEvents.{for_txn}
use Rattle.core_kept.specs.Good.{Ghost, Good, RowOkBy, root, root_at, past_of, is_of}
use Rattle.row_pasts.specs.Lives.{puts, put_size, changes_of, stamped}
use Rattle.core_states.specs.Names.{Name}
use Rattle.core_states.specs.Numbers.{has_number}
use Rattle.row_pasts.specs.RowFits.{RowFits, pair_sizes, settled_sizes, private_sizes}
use Rattle.core_states.specs.RowEvents.{RowMove, Limits, has_vertex, sees_edge, is_long, is_full, made, refusal, by_refusal, by_look, changes, puts as puts_event, news}
use Rattle.core_states.specs.Sound.{RunsAt}
use Rattle.core_states.specs.States.{State, row_answer}
use Rattle.core_states.specs.Transactions.{is_working}
use Rattle.core_kept.proofs.Bounding.{sizes-cons}
use Rattle.core_kept.proofs.Changing.{works, own_free}
use Rattle.core_laws.proofs.Locking.{taken_is}
use Rattle.row_pasts.proofs.LogSteps.{puts-append}
use Rattle.core_states.proofs.Names.{some_is}
use Rattle.core_laws.proofs.Owners.{owner_of}
use Rattle.row_pasts.proofs.Pasts.{changes_of-append, changes_of-stamped}
use Rattle.core_kept.proofs.Shows.{shown_at}
use Rattle.core_kept.proofs.Snapshots.{views, reads_see}

-- ---- what the row shows is what is there

-- What a transaction that works sees at a vertex, by the row.
pub record SeesRow (base : Base) (s : State) (x : Transaction) (v : ℕ) : Type 0 where
  pub there : is_some (here base s x v) ≡ has_vertex x (s.row v)
  pub edge : (l d : ℕ) → has_vertex x (s.row v) ≡ true → has_edge (here base s x v) l d ≡ sees_edge x (s.row v) l d

living_some : (v : ℕ) (y : Life) (ls : List LabelList) → is_some (living_vertex v y ls) ≡ is_there y
living_some v Unborn ls = refl
living_some v (There p) ls = refl
living_some v Gone ls = refl

living_edge : (v l d : ℕ) (y : Life) (ls : List LabelList) → is_there y ≡ true → has_edge (living_vertex v y ls) l d ≡ is_some (pair_to d (pairs_in ls l))
living_edge v l d Unborn ls e = absurd (false≢true e)
living_edge v l d (There p) ls e = refl
living_edge v l d Gone ls e = absurd (false≢true e)

pub sees_row : (base : Base) (g : Ghost) (s : State) (i : Name) (x : Transaction) (v : ℕ) → IsGood base → Good base g s → RunsAt s i x → is_working x ≡ true → SeesRow base s x v
sees_row base g s i x v is_good good runs w = record {
  there = ap is_some (sym same) ∙ living_some v (newest row.versions x.read (Txn x.tid)) (shown_lists row.logs x.read (Txn x.tid));
  edge = λ l d has. ap (λ o. has_edge o l d) (sym same) ∙ living_edge v l d (newest row.versions x.read (Txn x.tid)) (shown_lists row.logs x.read (Txn x.tid)) has
      ∙ ap (λ ps. is_some (pair_to d ps)) (shown_at row.logs x.read (Txn x.tid) l (views base g s i v x good runs w).labels);
}
  where
    row : Row
    row = s.row v

    same : shown_vertex v row x.read (Txn x.tid) ≡ here base s x v
    same = reads_see base g s i v x is_good.graph good runs w

-- ---- what a log takes

sizes_parts : (xs : List Entry) → sizes xs ≡ settled_sizes xs + private_sizes xs
sizes_parts [] = omega arith
sizes_parts (x ∷ xs) = by_test (is_private x.created) (sizes_parts xs)
  where
    by_test : (b : Bool) → sizes xs ≡ settled_sizes xs + private_sizes xs
        → sizes (x ∷ xs) ≡ (if b then settled_sizes xs else edge_size x.p + settled_sizes xs) + (if b then edge_size x.p + private_sizes xs else private_sizes xs)
    by_test true ih = let c = sizes-cons x xs in omega (arith, c, ih)
    by_test false ih = let c = sizes-cons x xs in omega (arith, c, ih)

pairs_same : (xs : List Pair) → pair_sizes xs ≡ list_size xs
pairs_same [] = refl
pairs_same (x ∷ xs) = ap (λ n. edge_size x.p + n) (pairs_same xs) ∙ sym (sum_by-cons (λ (y : Pair). edge_size y.p) x xs)

root_size : (e l : ℕ) (n : Option Vertex) → pair_sizes ((root_at e n).lists l) ≡ size_of_list n l
root_size e l None = refl
root_size e l (Some x) = pairs_same (pairs_in x.lists l)

put_at : (v l : ℕ) (c : Change) → size_at v l c ≡ (if vertex_of c == v then put_size l c else 0)
put_at v l (New w p) = grind (arith, nat_tests)
put_at v l (Set w p) = grind (arith, nat_tests)
put_at v l (Drop w) = grind (arith, nat_tests)
put_at v l (Put w m d p) = by_tests (w == v) (m == l)
  where
    by_tests : (b c : Bool) → (if b && c then edge_size p else 0) ≡ (if b then (if c then edge_size p else 0) else 0)
    by_tests true c = refl
    by_tests false c = refl
put_at v l (Del w m d) = grind (arith, nat_tests)

puts_about : (v l : ℕ) (cs : List Change) → puts l (changes_about v cs) ≡ put_sizes v l cs
puts_about v l [] = refl
puts_about v l (c ∷ cs) = by_test (vertex_of c == v) (put_at v l c) (puts_about v l cs) ∙ sym (sum_by-cons (size_at v l) c cs)
  where
    by_test : (b : Bool) → size_at v l c ≡ (if b then put_size l c else 0) → puts l (changes_about v cs) ≡ put_sizes v l cs
        → puts l (if b then c ∷ changes_about v cs else changes_about v cs) ≡ size_at v l c + put_sizes v l cs
    by_test true e ih = omega (arith, e, ih)
    by_test false e ih = omega (arith, e, ih)

-- the Puts of a vertex's past are among those of all records
past_puts : (v l : ℕ) (skip : Option ℕ) (rs : List Record) → puts l (changes_of (past_of rs v skip)) ≤ put_sizes v l (all_changes rs)
past_puts v l skip [] = omega arith
past_puts v l skip (r ∷ rs) = by_skip (is_of skip r.tid) (past_puts v l skip rs)
  where
    both : put_sizes v l (all_changes (r ∷ rs)) ≡ put_sizes v l r.changes + put_sizes v l (all_changes rs)
    both = ap (put_sizes v l) (flat_map-cons (λ (u : Record). u.changes) r rs) ∙ sum_by-append (size_at v l) r.changes (all_changes rs)

    by_skip : (b : Bool) → puts l (changes_of (past_of rs v skip)) ≤ put_sizes v l (all_changes rs)
        → puts l (changes_of (if b then past_of rs v skip else stamped r.epoch (changes_about v r.changes) ++ past_of rs v skip)) ≤ put_sizes v l (all_changes (r ∷ rs))
    by_skip true ih = omega (arith, both, ih)
    by_skip false ih =
        let split = ap (puts l) (changes_of-append (stamped r.epoch (changes_about v r.changes)) (past_of rs v skip) ∙ ap (λ cs. cs ++ changes_of (past_of rs v skip)) (changes_of-stamped r.epoch (changes_about v r.changes)))
        ∙ puts-append l (changes_about v r.changes) (changes_of (past_of rs v skip)) in
        let own = puts_about v l r.changes in
        omega (arith, both, ih, split, own)

-- what a log takes where its vertex is free or its transaction's own
fits_room : (base : Base) (s : State) (x : Transaction) (v l : ℕ) (skip : Option ℕ) → RowFits base.epoch (root base v) (past_of s.clock.records v skip) (changes_about v x.own) (s.row v)
    → sizes (log_at (s.row v).logs l).entries ≤ sizes_put base s x v l
fits_room base s x v l skip fit =
    let a = sizes_parts (log_at (s.row v).logs l).entries in
    let b = (fit.logs l).settled_room in
    let c = (fit.logs l).private_room in
    let d = root_size base.epoch l (vertex_at v base.graph) in
    let e = past_puts v l skip s.clock.records in
    let f = puts_about v l x.own in
    omega (arith, a, b, c, d, e, f)

pub log_room : (base : Base) (g : Ghost) (s : State) (i : Name) (x : Transaction) (v l : ℕ) → Good base g s → RunsAt s i x → is_working x ≡ true → lock_answer (s.row v) x.tid x.read ≡ Taken
    → sizes (log_at (s.row v).logs l).entries ≤ sizes_put base s x v l
log_room base g s i x v l good runs w look = ⊎_elim
    (λ (free : ((s.row v).owner ≡ None) × ((s.row v).committed ≤ x.read)).
    let own = own_free base g s i v x good runs (works x w) free.0 in
    fits_room base s x v l None (rw own (subst (λ (o : Option ℕ). RowOkBy o base g s.clock.records s.actor v (s.row v)) free.0 (good.rows v))))
    (λ (mine : (s.row v).owner ≡ Some x.tid).
    let ok = owner_of base g s v x.tid good mine in
    let same : ok.txn ≡ x = some_is ok.txn x (sym ok.is ∙ ap (λ j. (s.actor j).txn) (good.txns i x runs).who ∙ runs) in
    fits_room base s x v l (Some x.tid) (subst (λ (y : Transaction). RowFits base.epoch (root base v) (past_of s.clock.records v (Some x.tid)) (changes_about v y.own) (s.row v)) same ok.fits))
    (taken_is (s.row v).owner (s.row v).committed x.tid x.read look)

-- ---- the answers

not_there : (o : Option Vertex) → is_some o ≡ false → o ≡ None
not_there None e = refl
not_there (Some n) e = absurd (true≢false e)

not_not : (b : Bool) → not b ≡ false → b ≡ true
not_not true e = refl
not_not false e = absurd (true≢false e)

not_true : (b : Bool) → not b ≡ true → b ≡ false
not_true true e = absurd (false≢true e)
not_true false e = refl

-- What the row and the limits say of one change.
record Facts (most : Limits) (base : Base) (s : State) (x : Transaction) (c : Change) : Type 0 where
  there : is_some (here base s x (vertex_of c)) ≡ true
  edge : (l d : ℕ) → has_edge (here base s x (vertex_of c)) l d ≡ sees_edge x (s.row (vertex_of c)) l d
  room : (l : ℕ) → sizes (log_at (s.row (vertex_of c)).logs l).entries ≤ sizes_put base s x (vertex_of c) l

long : (most : Limits) (x : Transaction) (c : Change) → is_long most x c ≡ true → most.txn < len_with x c
long most x c e = ltb-true most.txn (len_with x c) e

short : (most : Limits) (x : Transaction) (c : Change) → is_long most x c ≡ false → len_with x c ≤ most.txn
short most x c e = ltb-false most.txn (len_with x c) e

-- a set and a drop are refused only where they are too long
plain_tells : (most : Limits) (base : Base) (s : State) (x : Transaction) (c : Change) (a : Actor) → is_noted base s x c ≡ true → Facts most base s x c → refusal most x c (s.row (vertex_of c)) ≡ (if is_long most x c then Some answer.TxnFull else None) → made x c (s.row (vertex_of c)) ≡ answer.Done
    → ChangeTells most base s x c (row_answer (by_refusal (refusal most x c (s.row (vertex_of c))) x c (s.row (vertex_of c)) a))
plain_tells most base s x c a noted facts is done = subst (λ (o : Option CoreAnswer). ChangeTells most base s x c (row_answer (by_refusal o x c (s.row (vertex_of c)) a))) (sym is) (by_test (is_long most x c) refl)
  where
    by_test : (b : Bool) → is_long most x c ≡ b → ChangeTells most base s x c (row_answer (by_refusal (if b then Some answer.TxnFull else None) x c (s.row (vertex_of c)) a))
    by_test true e = (facts.there, long most x c e, noted)
    by_test false e = subst (ChangeTells most base s x c) (sym done) (record { there = facts.there; room = short most x c e })

put_tells : (most : Limits) (base : Base) (s : State) (x : Transaction) (v l d : ℕ) (p : List ℕ) (a : Actor) → Facts most base s x (Put v l d p)
    → ChangeTells most base s x (Put v l d p) (row_answer (by_refusal (refusal most x (Put v l d p) (s.row v)) x (Put v l d p) (s.row v) a))
put_tells most base s x v l d p a facts = by_tests (is_long most x (Put v l d p)) refl (is_full most (s.row v) l p) refl (sees_edge x (s.row v) l d) refl
  where
    by_tests : (b : Bool) → is_long most x (Put v l d p) ≡ b → (c : Bool) → is_full most (s.row v) l p ≡ c → (e : Bool) → sees_edge x (s.row v) l d ≡ e
        → ChangeTells most base s x (Put v l d p) (row_answer (by_refusal (if b then Some answer.TxnFull else if c then Some answer.LogFull else None) x (Put v l d p) (s.row v) a))
    by_tests true h c i e j = (facts.there, long most x (Put v l d p) h, refl)
    by_tests false h true i e j = (facts.there, (let f = ltb-true most.log (sizes (log_at (s.row v).logs l).entries + edge_size p) i in let r = facts.room l in omega (arith, f, r)))
    by_tests false h false i true j = rw j (record { there = facts.there; room = short most x (Put v l d p) h }, facts.edge l d ∙ j)
    by_tests false h false i false j = rw j (record { there = facts.there; room = short most x (Put v l d p) h }, facts.edge l d ∙ j)

del_tells : (most : Limits) (base : Base) (s : State) (x : Transaction) (v l d : ℕ) (a : Actor) → Facts most base s x (Del v l d)
    → ChangeTells most base s x (Del v l d) (row_answer (by_refusal (refusal most x (Del v l d) (s.row v)) x (Del v l d) (s.row v) a))
del_tells most base s x v l d a facts = by_tests (sees_edge x (s.row v) l d) refl (is_long most x (Del v l d)) refl
  where
    by_tests : (b : Bool) → sees_edge x (s.row v) l d ≡ b → (c : Bool) → is_long most x (Del v l d) ≡ c
        → ChangeTells most base s x (Del v l d) (row_answer (by_refusal (if not b then Some answer.Absent else if c then Some answer.TxnFull else None) x (Del v l d) (s.row v) a))
    by_tests false h c i = (facts.there, facts.edge l d ∙ h)
    by_tests true h true i = (facts.there, long most x (Del v l d) i, facts.edge l d ∙ h)
    by_tests true h false i = (record { there = facts.there; room = short most x (Del v l d) i }, facts.edge l d ∙ h)

-- the look that takes the lock, or the vertex that is not there
changes_tell_by : (base : Base) (g : Ghost) (most : Limits) (s : State) (i : Name) (x : Transaction) (c : Change) (a : Actor) → IsGood base → Good base g s → RunsAt s i x → is_working x ≡ true
    → (Facts most base s x c → ChangeTells most base s x c (row_answer (by_refusal (refusal most x c (s.row (vertex_of c))) x c (s.row (vertex_of c)) a)))
    → ChangeTells most base s x c (row_answer (changes most x c (s.row (vertex_of c)) a))
changes_tell_by base g most s i x c a is_good good runs w each = rw w (by_there (has_vertex x row) refl)
  where
    row : Row
    row = s.row (vertex_of c)

    sees : SeesRow base s x (vertex_of c)
    sees = sees_row base g s i x (vertex_of c) is_good good runs w

    by_lock : (look : Look) → lock_answer row x.tid x.read ≡ look → has_vertex x row ≡ true → ChangeTells most base s x c (row_answer (by_look look most x c row a))
    by_lock Taken is has = each (record { there = sees.there ∙ has; edge = λ l d. sees.edge l d has; room = λ l. log_room base g s i x (vertex_of c) l good runs w is })
    by_lock (Held u) is has = tt
    by_lock (Conflict e) is has = tt

    by_there : (b : Bool) → has_vertex x row ≡ b → ChangeTells most base s x c (row_answer (if not b then Some (record { answer = answer.NoVertex; row = row; actor = record a { txn = Some x; looked = None } }) else by_look (lock_answer row x.tid x.read) most x c row a))
    by_there false e = not_there (here base s x (vertex_of c)) (sees.there ∙ e)
    by_there true e = by_lock (lock_answer row x.tid x.read) refl e

-- the event of an actor whose transaction is known
of_txn : (o : Option Transaction) (x : Transaction) (f : Transaction → Option RowMove) (P : CoreAnswer → Type 0) → o ≡ Some x → P (row_answer (f x)) → P (row_answer (for_txn f o))
of_txn o x f P is p = subst (λ (q : Option Transaction). P (row_answer (for_txn f q))) (sym is) p

-- What each change is answered.
pub changes_tell : (base : Base) (most : Limits) (s : State) (i : Name) (x : Transaction) → IsGood base → Kept base most s → RunsAt s i x → is_working x ≡ true → ChangesTell most base s i x
changes_tell base most s i x is_good kept runs w = record {
  put = λ v l d p. of_txn (s.actor i).txn x (λ y. puts_event most y (Put v l d p) (s.row v) (s.actor i)) (ChangeTells most base s x (Put v l d p)) runs
      (by_destination (Put v l d p) (has_destination (Put v l d p)) (all (Put v l d p) (put_tells most base s x v l d p (s.actor i))));
  del = λ v l d. of_txn (s.actor i).txn x (λ y. changes most y (Del v l d) (s.row v) (s.actor i)) (ChangeTells most base s x (Del v l d)) runs (all (Del v l d) (del_tells most base s x v l d (s.actor i)));
  set = λ v p. of_txn (s.actor i).txn x (λ y. changes most y (Set v p) (s.row v) (s.actor i)) (ChangeTells most base s x (Set v p)) runs (all (Set v p) (λ facts. plain_tells most base s x (Set v p) (s.actor i) refl facts refl refl));
  drop = λ v. of_txn (s.actor i).txn x (λ y. changes most y (Drop v) (s.row v) (s.actor i)) (ChangeTells most base s x (Drop v)) runs (all (Drop v) (λ facts. plain_tells most base s x (Drop v) (s.actor i) refl facts refl refl));
  new = λ v p. of_txn (s.actor i).txn x (λ y. news most y v p (s.row v) (s.actor i)) (NewTells most base s x (New v p)) runs (new_tells v p);
}
  where
    g : Ghost
    g = kept.0.0

    good : Good base g s
    good = kept.0.1

    all : (c : Change) → (Facts most base s x c → ChangeTells most base s x c (row_answer (by_refusal (refusal most x c (s.row (vertex_of c))) x c (s.row (vertex_of c)) (s.actor i))))
        → ChangeTells most base s x c (row_answer (changes most x c (s.row (vertex_of c)) (s.actor i)))
    all c each = changes_tell_by base g most s i x c (s.actor i) is_good good runs w each

    by_destination : (c : Change) (b : Bool) → ChangeTells most base s x c (row_answer (changes most x c (s.row (vertex_of c)) (s.actor i))) → ChangeTells most base s x c (row_answer (if b then changes most x c (s.row (vertex_of c)) (s.actor i) else None))
    by_destination c true t = t
    by_destination c false t = tt

    new_tells : (v : ℕ) (p : List ℕ) → NewTells most base s x (New v p) (row_answer (news most x v p (s.row v) (s.actor i)))
    new_tells v p = rw w (by_tests (has_number v x.drawn) refl (is_long most x (New v p)) refl)
      where
        gone : has_number v x.drawn ≡ true → here base s x v ≡ None
        gone has = sym (reads_see base g s i v x is_good.graph good runs w) ∙ ap (λ (r : Row). shown_vertex v r x.read (Txn x.tid)) (good.drawn i x runs v has).fresh

        by_tests : (b : Bool) → has_number v x.drawn ≡ b → (c : Bool) → is_long most x (New v p) ≡ c
            → NewTells most base s x (New v p) (row_answer (if not b then None else if c then Some (record { answer = answer.TxnFull; row = s.row v; actor = record (s.actor i) { txn = Some x; looked = None } }) else Some (record { answer = answer.Done; row = Rattle.core_states.specs.RowEvents.changed_row x (New v p) (s.row v); actor = record (s.actor i) { txn = Some (Rattle.core_states.specs.Transactions.changing x (New v p)); looked = None } })))
        by_tests false e c f = tt
        by_tests true e true f = (gone e, long most x (New v p) f)
        by_tests true e false f = (gone e, short most x (New v p) f)
