-- The records keep the rules of groups, epochs and numbers, and every change of them fits in turn.
use Rattle.std.proofs.Common.{◌≡◌, ◌≢◌, ℕ, ◌+◌, ◌<◌, ◌≤◌, Bool, true, false, cond, not, ◌&&◌, ◌||◌, List, [], ◌∷◌, ◌++◌, length, map, refl, sym, ap, ◌∙◌, subst, arith, Option, Some, None, ⊎_elim, inl, inr}
use Rattle.std.proofs.lemmas.Bool.{cases_eq, eq-eqb, ne_eqb, and_parts, and_from, false≢true, le-leb, lt-ltb, ltb-true}
use Rattle.std.proofs.lemmas.List.Sums.{sum_by-cons, sum_by-append}
use Rattle.std.proofs.lemmas.List.Folds.{list_all-append}
use Rattle.std.specs.Prelude.{◌==◌, nat_le, nat_lt, count_by}
use Rattle.std.specs.List.{list_any, list_all}
use Rattle.graph_model.specs.declared.change.Change.{Change}
use Rattle.graph_model.specs.declared.change.Change.TheVariants.{New, Set, Drop, Put, Del}
use Rattle.graph_model.specs.declared.graph.Base.{Base}
use Rattle.graph_model.specs.declared.pairs.Pair.{Pair}
use Rattle.graph_model.specs.declared.record.Record.{Record}
use Rattle.graph_model.specs.Vertex.{Vertex}
use Rattle.graph_model.specs.Change.{vertex_of, encoded_lens}
use Rattle.graph_model.specs.Whole.{is_graph, all_differ}
use Rattle.graph_model.specs.Graph.{vertex_at, vertex_after, apply, fits_at, all_fit as changes_fit, at}
use Rattle.graph_model.specs.Places.{changes_about}
use Rattle.graph_model.specs.Records.{number_end, group_most, transaction_most, all_changes, goes_on, begins_after, last_epoch, made_vertices, has_destination, is_record}
use Rattle.graph_model.proofs.Places.{vertex_at-apply_at}
use Rattle.core_rows.specs.Rows.{Life}
use Rattle.core_states.specs.Names.{set_at}
use Rattle.core_states.specs.Numbers.{has_record}
use Rattle.core_states.specs.States.{State}
use Rattle.row_pasts.specs.Lives.{life_step, lives, list_step, fits, all_fit, changes_of, stamped}
use Rattle.core_kept.specs.Good.{Ghost, Good, Place, Nowhere, InQueue, InGroup, InLog, InFault, published, RowOkBy, RecordsOk, AllAt, Grouped, joined, In, past_of, part_of, root}
use Rattle.core_kept.specs.Bounds.{RecordsFit, made_within}
use Rattle.row_pasts.proofs.Pasts.{changes_of-append, changes_of-stamped, all_fit-append}
use Rattle.core_states.proofs.Names.{set_at_here, set_at_there}
use Rattle.core_kept.proofs.Shows.{Agree, agree_step, root_agrees, whole_at}
use Rattle.core_kept.proofs.Changing.{on-append}

-- ---- groups and epochs

-- epochs from one on, in a tail that begins after it, go on
goes_after : (e : ℕ) (rs : List Record) → begins_after e rs ≡ true → goes_on e rs ≡ true
goes_after e [] h = refl
goes_after e (r ∷ rs) h =
    let parts = and_parts (r.epoch == e + 1) (goes_on r.epoch rs) h in
    rw parts.0 (by_test (r.epoch == e) parts.1)
  where
    by_test : (b : Bool) → goes_on r.epoch rs ≡ true → ((b || true) && goes_on r.epoch rs) ≡ true
    by_test true g = g
    by_test false g = g

goes_group : (e : ℕ) (rs us : List Record) → AllAt e rs → begins_after e us ≡ true → goes_on e (rs ++ us) ≡ true
goes_group e [] us all h = goes_after e us h
goes_group e (r ∷ rs) us all h = rw (eq-eqb r.epoch e all.0) (subst (λ (n : ℕ). goes_on n (rs ++ us) ≡ true) (sym all.0) (goes_group e rs us all.1 h))

pub begins_groups : (e : ℕ) (gs : List (List Record)) → Grouped (e + 1) gs → begins_after e (joined gs) ≡ true
begins_groups e [] all = refl
begins_groups e (rs ∷ gs) all = first rs all.0 all.1 (begins_groups (e + 1) gs all.3)
  where
    first : (us : List Record) → AllAt (e + 1) us → 0 < length us → begins_after (e + 1) (joined gs) ≡ true → begins_after e (us ++ joined gs) ≡ true
    first [] at some h = absurd (omega (arith, some))
    first (r ∷ us) at some h = rw (eq-eqb r.epoch (e + 1) at.0) (subst (λ (n : ℕ). goes_on n (us ++ joined gs) ≡ true) (sym at.0) (goes_group (e + 1) us (joined gs) at.1 h))

-- the last epoch of the groups
last_group : (e n : ℕ) (rs us : List Record) → AllAt n rs → 0 < length rs → last_epoch e (rs ++ us) ≡ last_epoch n us
last_group e n [] us at some = absurd (omega (arith, some))
last_group e n (r ∷ rs) us at some = rest r.epoch at.0 rs at.1
  where
    rest : (m : ℕ) → m ≡ n → (xs : List Record) → AllAt n xs → last_epoch m (xs ++ us) ≡ last_epoch n us
    rest m q [] a = ap (λ k. last_epoch k us) q
    rest m q (y ∷ ys) a = rest y.epoch a.0 ys a.1

pub last_groups : (e : ℕ) (gs : List (List Record)) → Grouped (e + 1) gs → last_epoch e (joined gs) ≡ e + length gs
last_groups e [] all = omega arith
last_groups e (rs ∷ gs) all = last_group e (e + 1) rs (joined gs) all.0 all.1 ∙ last_groups (e + 1) gs all.3 ∙ omega arith

abbrev count_at : ℕ → List Record → ℕ
count_at n rs = count_by (λ r. r.epoch == n) rs

count-append : (n : ℕ) (xs ys : List Record) → count_at n (xs ++ ys) ≡ count_at n xs + count_at n ys
count-append n xs ys = sum_by-append (λ r. cond (r.epoch == n) 1 0) xs ys

count-first : (n : ℕ) (r : Record) (rs : List Record) → count_at n (r ∷ rs) ≡ cond (r.epoch == n) 1 0 + count_at n rs
count-first n r rs = sum_by-cons (λ (x : Record). cond (x.epoch == n) 1 0) r rs

count_few : (n : ℕ) (rs : List Record) → count_at n rs ≤ length rs
count_few n [] = omega arith
count_few n (r ∷ rs) = by_test (r.epoch == n) refl (count_few n rs)
  where
    by_test : (b : Bool) → (r.epoch == n) ≡ b → count_at n rs ≤ length rs → count_at n (r ∷ rs) ≤ length (r ∷ rs)
    by_test true h ih = let c : count_at n (r ∷ rs) ≡ 1 + count_at n rs = count-first n r rs ∙ rw h refl in omega (arith, c, ih)
    by_test false h ih = let c : count_at n (r ∷ rs) ≡ 0 + count_at n rs = count-first n r rs ∙ rw h refl in omega (arith, c, ih)

count_other : (n e : ℕ) (rs : List Record) → AllAt e rs → e ≢ n → count_at n rs ≡ 0
count_other n e [] all ne = refl
count_other n e (r ∷ rs) all ne =
    let ih = count_other n e rs all.1 ne in
    let c : count_at n (r ∷ rs) ≡ 0 + count_at n rs = count-first n r rs ∙ rw (ne_eqb r.epoch n (λ q. ne (sym all.0 ∙ q))) refl in
    omega (arith, c, ih)

count_later : (n e : ℕ) (gs : List (List Record)) → Grouped e gs → n < e → count_at n (joined gs) ≡ 0
count_later n e [] all lt = refl
count_later n e (rs ∷ gs) all lt =
    let c = count-append n rs (joined gs) in
    let a = count_other n e rs all.0 (λ q. omega (arith, q, lt)) in
    let b = count_later n (e + 1) gs all.3 (omega arith) in
    omega (arith, a, b, c)

count_group : (n e : ℕ) (gs : List (List Record)) → Grouped e gs → count_at n (joined gs) ≤ 64
count_group n e [] all = omega arith
count_group n e (rs ∷ gs) all = ⊎_elim
    (λ (q : e ≡ n).
    let c = count-append n rs (joined gs) in
    let a = count_few n rs in
    let b = count_later n (e + 1) gs all.3 (omega (arith, q)) in
    let few = all.2 in
    omega (arith, a, b, c, few))
    (λ (ne : e ≢ n).
    let c = count-append n rs (joined gs) in
    let a = count_other n e rs all.0 ne in
    let b = count_group n (e + 1) gs all.3 in
    omega (arith, a, b, c))
    (cases_eq e n)

pub group_test : (base : Base) (g : Ghost) (s : State) → Good base g s → (n : ℕ) → nat_le (count_at n s.clock.records) group_most ≡ true
group_test base g s good n =
    let few = count_group n (base.epoch + 1) good.lawful.groups good.lawful.grouped in
    le-leb (count_at n s.clock.records) group_most (subst (λ (rs : List Record). count_at n rs ≤ 64) good.lawful.are few)

pub each_from : (p : Record → Bool) (rs : List Record) → ((r : Record) → p r ≡ true) → list_all p rs ≡ true
each_from p [] h = refl
each_from p (r ∷ rs) h = and_from (p r) (list_all p rs) (h r) (each_from p rs h)

-- ---- each record

epochs_low : (e : ℕ) (gs : List (List Record)) (r : Record) → Grouped e gs → In r (joined gs) → r.epoch < e + length gs
epochs_low e [] r all m = absurd m
epochs_low e (rs ∷ gs) r all m = split rs all.0 m (λ k. let ih = epochs_low (e + 1) gs r all.3 k in omega arith)
  where
    split : (us : List Record) → AllAt e us → In r (us ++ joined gs) → (In r (joined gs) → r.epoch < e + length (rs ∷ gs)) → r.epoch < e + length (rs ∷ gs)
    split [] at k rest = rest k
    split (u ∷ us) at (inl is) rest = let q : r.epoch ≡ e = ap (λ (x : Record). x.epoch) is ∙ at.0 in omega (arith, q)
    split (u ∷ us) at (inr k) rest = split us at.1 k rest

pub epoch_low : (base : Base) (g : Ghost) (s : State) (r : Record) → Good base g s → In r s.clock.records → r.epoch ≤ s.clock.last
epoch_low base g s r good m =
    let low = epochs_low (base.epoch + 1) good.lawful.groups r good.lawful.grouped (subst (In r) (sym good.lawful.are) m) in
    let last = good.lawful.last_is in
    omega (arith, low, last)

record_test : (base : Base) (r : Record) → base.next_tid ≤ r.tid → r.tid < number_end → base.epoch ≤ r.read → r.read < r.epoch → r.epoch < number_end → 0 < length r.changes → encoded_lens r.changes ≤ transaction_most → list_all has_destination r.changes ≡ true
    → is_record base.epoch base.next_tid r ≡ true
record_test base r a b c d e f g h = eight (le-leb base.next_tid r.tid a) (lt-ltb r.tid number_end b) (le-leb base.epoch r.read c) (lt-ltb r.read r.epoch d) (lt-ltb r.epoch number_end e) (lt-ltb 0 (length r.changes) f) (le-leb (encoded_lens r.changes) transaction_most g) h
  where
    eight : {a b c d e f g h : Bool} → a ≡ true → b ≡ true → c ≡ true → d ≡ true → e ≡ true → f ≡ true → g ≡ true → h ≡ true → (a && b && c && d && e && f && g && h) ≡ true
    eight a b c d e f g h = λ i. a i && b i && c i && d i && e i && f i && g i && h i

pub records_test : (base : Base) (g : Ghost) (next low high : ℕ) (rs : List Record) → next ≤ number_end → ((r : Record) → In r rs → r.epoch < number_end) → RecordsOk base g next rs → RecordsFit low high transaction_most rs → list_all (is_record base.epoch base.next_tid) rs ≡ true
records_test base g next low high [] up epochs ok fit = refl
records_test base g next low high (r ∷ rs) up epochs ok fit =
    and_from (is_record base.epoch base.next_tid r) (list_all (is_record base.epoch base.next_tid) rs)
    (record_test base r ok.1 (let b = ok.2 in omega (arith, b, up)) ok.3 ok.4 (epochs r (inl refl)) fit.1 fit.0.lens fit.0.destinations)
    (records_test base g next low high rs up (λ u m. epochs u (inr m)) ok.6 fit.2)

tids_any : (t : ℕ) (rs : List Record) → list_any (λ y. y == t) (map (λ r. r.tid) rs) ≡ has_record t rs
tids_any t [] = refl
tids_any t (r ∷ rs) = ap (λ b. (r.tid == t) || b) (tids_any t rs)

pub tids_differ : (base : Base) (g : Ghost) (next : ℕ) (rs : List Record) → RecordsOk base g next rs → all_differ (map (λ r. r.tid) rs) ≡ true
tids_differ base g next [] ok = refl
tids_differ base g next (r ∷ rs) ok = and_from (not (list_any (λ y. y == r.tid) (map (λ u. u.tid) rs))) (all_differ (map (λ u. u.tid) rs)) (ap not (tids_any r.tid rs ∙ ok.5)) (tids_differ base g next rs ok.6)

-- ---- what the records make

made-append : (xs ys : List Change) → made_vertices (xs ++ ys) ≡ made_vertices xs ++ made_vertices ys
made-append [] ys = refl
made-append (New v p ∷ xs) ys = ap (λ l. v ∷ l) (made-append xs ys)
made-append (Set v p ∷ xs) ys = made-append xs ys
made-append (Drop v ∷ xs) ys = made-append xs ys
made-append (Put v l d p ∷ xs) ys = made-append xs ys
made-append (Del v l d ∷ xs) ys = made-append xs ys

made_range : (low high : ℕ) (cs : List Change) → high ≤ number_end → list_all (made_within low high) cs ≡ true → list_all (λ v. nat_le low v && nat_lt v number_end) (made_vertices cs) ≡ true
made_range low high [] up all = refl
made_range low high (New v p ∷ cs) up all =
    let q = and_parts (nat_le low v && nat_lt v high) (list_all (made_within low high) cs) all in
    let two = and_parts (nat_le low v) (nat_lt v high) q.0 in
    and_from (nat_le low v && nat_lt v number_end) (list_all (λ u. nat_le low u && nat_lt u number_end) (made_vertices cs))
    (and_from (nat_le low v) (nat_lt v number_end) two.0 (lt-ltb v number_end (let b = ltb-true v high two.1 in omega (arith, b, up)))) (made_range low high cs up q.1)
made_range low high (Set v p ∷ cs) up all = made_range low high cs up all
made_range low high (Drop v ∷ cs) up all = made_range low high cs up all
made_range low high (Put v l d p ∷ cs) up all = made_range low high cs up all
made_range low high (Del v l d ∷ cs) up all = made_range low high cs up all

pub records_made : (low high most : ℕ) (rs : List Record) → high ≤ number_end → RecordsFit low high most rs → list_all (λ v. nat_le low v && nat_lt v number_end) (made_vertices (all_changes rs)) ≡ true
records_made low high most [] up fit = refl
records_made low high most (r ∷ rs) up fit =
    ap (list_all (λ v. nat_le low v && nat_lt v number_end)) (made-append r.changes (all_changes rs))
    ∙ list_all-append (λ v. nat_le low v && nat_lt v number_end) (made_vertices r.changes) (made_vertices (all_changes rs))
    ∙ and_from (list_all (λ v. nat_le low v && nat_lt v number_end) (made_vertices r.changes)) (list_all (λ v. nat_le low v && nat_lt v number_end) (made_vertices (all_changes rs)))
    (made_range low high r.changes up fit.0.made) (records_made low high most rs up fit.2)

-- ---- every change fits

published_fits : (p : Place) (own : List Change) (x : Life) → all_fit own x ≡ true → all_fit (changes_of (published p own)) x ≡ true
published_fits Nowhere own x fit = refl
published_fits InQueue own x fit = refl
published_fits (InGroup i) own x fit = refl
published_fits (InLog e) own x fit = rw changes_of-stamped fit
published_fits (InFault b a) own x fit = refl

-- at each vertex the whole past fits
pub past_fits : (base : Base) (g : Ghost) (s : State) (v : ℕ) → Good base g s → all_fit (changes_of (past_of s.clock.records v None)) (root base v).life ≡ true
past_fits base g s v good = by_owner (s.row v).owner (good.rows v)
  where
    by_owner : (o : Option ℕ) → RowOkBy o base g s.clock.records s.actor v (s.row v) → all_fit (changes_of (past_of s.clock.records v None)) (root base v).life ≡ true
    by_owner None ok = ok.past_fits
    by_owner (Some t) ok =
        let theirs = good.txns (g.who t) ok.txn ok.is in
        let part : part_of s.clock.records v t ≡ published (g.place ok.txn.tid) (changes_about v ok.txn.own) = ap (part_of s.clock.records v) (sym ok.tid) ∙ theirs.record_is v in
        let whole : changes_of (past_of s.clock.records v None) ≡ changes_of (past_of s.clock.records v (Some t)) ++ changes_of (published (g.place ok.txn.tid) (changes_about v ok.txn.own)) =
        ap changes_of ok.last ∙ changes_of-append (past_of s.clock.records v (Some t)) (part_of s.clock.records v t) ∙ ap (λ l. changes_of (past_of s.clock.records v (Some t)) ++ changes_of l) part in
        ap (λ cs. all_fit cs (root base v).life) whole
        ∙ all_fit-append (changes_of (past_of s.clock.records v (Some t))) (changes_of (published (g.place ok.txn.tid) (changes_about v ok.txn.own))) (root base v).life
        ∙ and_from (all_fit (changes_of (past_of s.clock.records v (Some t))) (root base v).life) (all_fit (changes_of (published (g.place ok.txn.tid) (changes_about v ok.txn.own))) (lives (changes_of (past_of s.clock.records v (Some t))) (root base v).life))
        ok.fits.past_fits (published_fits (g.place ok.txn.tid) (changes_about v ok.txn.own) (lives (changes_of (past_of s.clock.records v (Some t))) (root base v).life) ok.fits.own_fits)

fits_here : (c : Change) (n : Option Vertex) (x : Life) (f : ℕ → List Pair) → fits c x ≡ true → Agree n x f → fits_at c n ≡ true
fits_here (New v p) None x f fit agree = refl
fits_here (New v p) (Some n) x f fit agree = absurd (false≢true (ap (fits (New v p)) (sym agree.0) ∙ fit))
fits_here (Set v p) None x f fit agree = absurd (false≢true (sym agree ∙ fit))
fits_here (Set v p) (Some n) x f fit agree = refl
fits_here (Drop v) None x f fit agree = absurd (false≢true (sym agree ∙ fit))
fits_here (Drop v) (Some n) x f fit agree = refl
fits_here (Put v l d p) None x f fit agree = absurd (false≢true (sym agree ∙ fit))
fits_here (Put v l d p) (Some n) x f fit agree = refl
fits_here (Del v l d) None x f fit agree = absurd (false≢true (sym agree ∙ fit))
fits_here (Del v l d) (Some n) x f fit agree = refl

-- what fits at each vertex fits in turn
fit_in_turn : (cs : List Change) (g : List Vertex) (life : ℕ → Life) (list : ℕ → ℕ → List Pair) → ((v : ℕ) → Agree (vertex_at v g) (life v) (list v)) → ((v : ℕ) → all_fit (changes_about v cs) (life v) ≡ true) → changes_fit cs g ≡ true
fit_in_turn [] g life list agree fit = refl
fit_in_turn (c ∷ cs) g life list agree fit =
    and_from (fits_at c (vertex_at w g)) (changes_fit cs (apply c g)) (fits_here c (vertex_at w g) (life w) (list w) here.0 (agree w))
    (fit_in_turn cs (apply c g) (set_at life w (life_step c (life w))) (set_at list w (λ l. list_step l c (list w l))) next rest)
  where
    w : ℕ
    w = vertex_of c

    here : (fits c (life w) ≡ true) × (all_fit (changes_about w cs) (life_step c (life w)) ≡ true)
    here = and_parts (fits c (life w)) (all_fit (changes_about w cs) (life_step c (life w))) (rw (eq-eqb w w refl) at (fit w))

    at_here : (v : ℕ) → v ≡ w → vertex_at v (apply c g) ≡ vertex_after c (vertex_at w g)
    at_here v e = vertex_at-apply_at v c g ∙ rw (eq-eqb w v (sym e)) (ap (λ u. vertex_after c (vertex_at u g)) e)

    at_there : (v : ℕ) → v ≢ w → vertex_at v (apply c g) ≡ vertex_at v g
    at_there v n = vertex_at-apply_at v c g ∙ rw (ne_eqb w v (λ e. n (sym e))) refl

    next : (v : ℕ) → Agree (vertex_at v (apply c g)) (set_at life w (life_step c (life w)) v) (set_at list w (λ l. list_step l c (list w l)) v)
    next v = ⊎_elim
        (λ (e : v ≡ w). subst (λ (t : Option Vertex × Life × (ℕ → List Pair)). Agree t.0 t.1 t.2)
        (λ i. (sym (at_here v e) i, sym (set_at_here life w (life_step c (life w)) v e) i, sym (set_at_here list w (λ l. list_step l c (list w l)) v e) i))
        (agree_step c (vertex_at w g) (life w) (list w) here.0 (agree w)))
        (λ (n : v ≢ w). subst (λ (t : Option Vertex × Life × (ℕ → List Pair)). Agree t.0 t.1 t.2)
        (λ i. (sym (at_there v n) i, sym (set_at_there life w (life_step c (life w)) v n) i, sym (set_at_there list w (λ l. list_step l c (list w l)) v n) i))
        (agree v))
        (cases_eq v w)

    rest : (v : ℕ) → all_fit (changes_about v cs) (set_at life w (life_step c (life w)) v) ≡ true
    rest v = ⊎_elim
        (λ (e : v ≡ w). ap (all_fit (changes_about v cs)) (set_at_here life w (life_step c (life w)) v e) ∙ ap (λ u. all_fit (changes_about u cs) (life_step c (life w))) e ∙ here.1)
        (λ (n : v ≢ w). ap (all_fit (changes_about v cs)) (set_at_there life w (life_step c (life w)) v n) ∙ (rw (ne_eqb w v (λ e. n (sym e))) at (fit v)))
        (cases_eq v w)

changes_of_past : (rs : List Record) (v : ℕ) → changes_of (past_of rs v None) ≡ changes_about v (all_changes rs)
changes_of_past [] v = refl
changes_of_past (r ∷ rs) v =
    changes_of-append (stamped r.epoch (changes_about v r.changes)) (past_of rs v None) ∙ (λ i. changes_of-stamped r.epoch (changes_about v r.changes) i ++ changes_of_past rs v i) ∙ sym (on-append v r.changes (all_changes rs))

pub vertex_fits : (base : Base) (g : Ghost) (s : State) (v : ℕ) → Good base g s → all_fit (changes_about v (all_changes s.clock.records)) (root base v).life ≡ true
vertex_fits base g s v good = ap (λ cs. all_fit cs (root base v).life) (sym (changes_of_past s.clock.records v)) ∙ past_fits base g s v good

pub every_change_fits : (base : Base) (g : Ghost) (s : State) → is_graph base.graph ≡ true → Good base g s → changes_fit (all_changes s.clock.records) base.graph ≡ true
every_change_fits base g s whole good = fit_in_turn (all_changes s.clock.records) base.graph (λ v. (root base v).life) (λ v. (root base v).lists)
    (λ v. root_agrees base.epoch (vertex_at v base.graph) (whole_at v base.graph whole)) (λ v. vertex_fits base g s v good)
