-- Groups are lawful where their records keep the rules and after each group the lists are within the limit.
use Rattle.std.proofs.Common.{◌≡◌, ℕ, ◌+◌, ◌<◌, ◌≤◌, Bool, true, false, cond, ◌&&◌, List, [], ◌∷◌, ◌++◌, length, refl, sym, ap, ◌∙◌, subst, inl, inr, arith}
use Rattle.std.specs.Prelude.{◌==◌, nat_lt, nat_le, count_by, filter, flat_map, IsTrue, ◌⊎◌}
use Rattle.std.specs.List.{list_all}
use Rattle.std.proofs.lemmas.Bool.{and_parts, and_from, ltb-true, leb-true, le-leb, lt-ltb, lt-leb, eqb-true, cases_Bool}
use Rattle.std.proofs.lemmas.List.Sums.{sum_by-cons}
use Rattle.std.proofs.lemmas.List.Concat.{flat_map-append}
use Rattle.std.proofs.lemmas.List.Folds.{list_all-append}
use Rattle.graph_model.specs.declared.change.Change.{Change}
use Rattle.graph_model.specs.declared.change.Change.TheVariants.{New, Set, Drop, Put, Del}
use Rattle.graph_model.specs.declared.record.Record.{Record}
use Rattle.graph_model.specs.Vertex.{Vertex}
use Rattle.graph_model.specs.Change.{put_sizes, size_at, edge_size}
use Rattle.graph_model.specs.Graph.{vertex_at, after, at}
use Rattle.graph_model.specs.Whole.{is_graph}
use Rattle.graph_model.specs.Records.{all_changes, group_most, list_most, size_of_list, lists_fit, Lawful}
use Rattle.graph_model.proofs.Snapshots.{at-append}
use Rattle.graph_model.proofs.Vertices.{after-append}
use Rattle.graph_model.proofs.Wholes.{is_graph-after}
use Rattle.graph_model.proofs.ListSizes.{size-after, sizes-fit, lists_fit-sizes}
use Rattle.group_codec.specs.declared.judge.Judge.{Judge}
use Rattle.group_codec.specs.Spelling.{is_group}
use Rattle.group_codec.specs.Log.{are_groups, records_of}
use Rattle.group_codec.specs.Judging.{KeepRules, Knows, KnowsLawful, KnowsLawfulIf, none_later, put_fits, puts_fit}
use Rattle.group_codec.proofs.Lists.{all_more, all_front, all_back}
use Rattle.group_codec.proofs.Making.{all_changes-append}
use Rattle.group_codec.proofs.Keeping.{keep-front}
use Rattle.group_codec.proofs.Groups.{group-parts, spelled-parts}
use Rattle.group_codec.proofs.Grouping.{group-epochs, records_of-push, are_groups-push, are_groups-append, groups-none_later, groups-later, groups-begin, groups-few}

-- after each of these records' groups the lists are within the limit
abbrev pub lists_keep : List Record → Bool
lists_keep rs = list_all (λ r. lists_fit (at [] rs r.epoch)) rs

each_true : {X : Type 0} (p : X → Bool) (xs : List X) → ((x : X) → p x ≡ true) → list_all p xs ≡ true
each_true p [] h = refl
each_true p (x ∷ xs) h = and_from _ _ (h x) (each_true p xs h)

pub Lawful-from : (groups : List (List Record)) → are_groups 0 groups ≡ true → KeepRules (records_of groups) → lists_keep (records_of groups) ≡ true → Lawful (records_of groups)
Lawful-from groups ok keep lists = record {
  epochs = groups-begin 0 groups ok;
  groups = each_true (λ r. nat_le (count_by (λ s. s.epoch == r.epoch) (records_of groups)) group_most) (records_of groups) (λ r. le-leb _ _ (groups-few r.epoch 0 groups ok));
  each = keep.each;
  numbers = keep.numbers;
  made = keep.made;
  made_once = keep.made_once;
  fit = keep.fit;
  no_overlap = keep.no_overlap;
  lists = lists;
}

pub Lawful-rules : (rs : List Record) → Lawful rs → KeepRules rs
Lawful-rules rs law = record { each = law.each; numbers = law.numbers; made = law.made; made_once = law.made_once; fit = law.fit; no_overlap = law.no_overlap }

-- records up to an epoch that none of them passes are all of them
until_all : (e : ℕ) (rs : List Record) → none_later e rs ≡ true → filter (λ r. nat_le r.epoch e) rs ≡ rs
until_all e [] h = refl
until_all e (r ∷ rs) h =
    let parts = and_parts (nat_le r.epoch e) (none_later e rs) h in
    ap (λ b. cond b (r ∷ filter (λ s. nat_le s.epoch e) rs) (filter (λ s. nat_le s.epoch e) rs)) parts.0 ∙ ap (λ xs. r ∷ xs) (until_all e rs parts.1)

until_none : (e : ℕ) (rs : List Record) → list_all (λ r. nat_lt e r.epoch) rs ≡ true → filter (λ r. nat_le r.epoch e) rs ≡ []
until_none e [] h = refl
until_none e (r ∷ rs) h =
    let parts = and_parts (nat_lt e r.epoch) (list_all (λ s. nat_lt e s.epoch) rs) h in
    ap (λ b. cond b (r ∷ filter (λ s. nat_le s.epoch e) rs) (filter (λ s. nat_le s.epoch e) rs)) (lt-leb r.epoch e (ltb-true e r.epoch parts.0)) ∙ until_none e rs parts.1

at-all : (e : ℕ) (rs : List Record) → none_later e rs ≡ true → at [] rs e ≡ after (all_changes rs) []
at-all e rs h = let none : List Vertex = [] in ap (λ xs. after (flat_map (λ (r : Record). r.changes) xs) none) (until_all e rs h)

-- later records do not matter to the lists after earlier groups
earlier-lists : (e : ℕ) (rs later : List Record) → none_later e rs ≡ true → list_all (λ r. nat_lt e r.epoch) later ≡ true → (r : Record) → nat_le r.epoch e ≡ true → at [] (rs ++ later) r.epoch ≡ at [] rs r.epoch
earlier-lists e rs later h after_all r le =
    at-append [] rs later r.epoch (until_none r.epoch later (all_more (λ s. nat_lt e s.epoch) (λ s. nat_lt r.epoch s.epoch) later
    (λ s lt. lt-ltb r.epoch s.epoch (omega (arith, leb-true r.epoch e le, ltb-true e s.epoch lt))) after_all))

pub lists_keep-front : (e : ℕ) (rs later : List Record) → none_later e rs ≡ true → list_all (λ r. nat_lt e r.epoch) later ≡ true → lists_keep (rs ++ later) ≡ true → lists_keep rs ≡ true
lists_keep-front e rs later h past keep = go rs h (all_front (λ r. lists_fit (at [] (rs ++ later) r.epoch)) rs later keep)
  where
    go : (xs : List Record) → none_later e xs ≡ true → list_all (λ r. lists_fit (at [] (rs ++ later) r.epoch)) xs ≡ true → list_all (λ r. lists_fit (at [] rs r.epoch)) xs ≡ true
    go [] k p = refl
    go (x ∷ xs) k p =
        let ks = and_parts (nat_le x.epoch e) (none_later e xs) k in
        let ps = and_parts (lists_fit (at [] (rs ++ later) x.epoch)) (list_all (λ r. lists_fit (at [] (rs ++ later) r.epoch)) xs) p in
        and_from _ _ (ap lists_fit (sym (earlier-lists e rs later h past x ks.0)) ∙ ps.0) (go xs ks.1 ps.1)

-- one group more
pub lists_keep-more : (e : ℕ) (rs g : List Record) → none_later e rs ≡ true → list_all (λ r. r.epoch == e + 1) g ≡ true → lists_keep rs ≡ true → lists_fit (after (all_changes (rs ++ g)) []) ≡ true → lists_keep (rs ++ g) ≡ true
lists_keep-more e rs g h same keep fit =
    list_all-append (λ r. lists_fit (at [] (rs ++ g) r.epoch)) rs g ∙ and_from _ _ (old rs h keep) (new g same)
  where
    past : list_all (λ r. nat_lt e r.epoch) g ≡ true
    past = all_more (λ r. r.epoch == e + 1) (λ r. nat_lt e r.epoch) g (λ r k. lt-ltb e r.epoch (omega (arith, eqb-true r.epoch (e + 1) k))) same

    whole : none_later (e + 1) (rs ++ g) ≡ true
    whole =
        list_all-append (λ s. nat_le s.epoch (e + 1)) rs g
        ∙ and_from _ _ (all_more (λ s. nat_le s.epoch e) (λ s. nat_le s.epoch (e + 1)) rs (λ s k. le-leb s.epoch (e + 1) (omega (arith, leb-true s.epoch e k))) h)
        (all_more (λ r. r.epoch == e + 1) (λ s. nat_le s.epoch (e + 1)) g (λ r k. le-leb r.epoch (e + 1) (omega (arith, eqb-true r.epoch (e + 1) k))) same)

    old : (xs : List Record) → none_later e xs ≡ true → list_all (λ r. lists_fit (at [] rs r.epoch)) xs ≡ true → list_all (λ r. lists_fit (at [] (rs ++ g) r.epoch)) xs ≡ true
    old [] k p = refl
    old (x ∷ xs) k p =
        let ks = and_parts (nat_le x.epoch e) (none_later e xs) k in
        let ps = and_parts (lists_fit (at [] rs x.epoch)) (list_all (λ r. lists_fit (at [] rs r.epoch)) xs) p in
        and_from _ _ (ap lists_fit (earlier-lists e rs g h past x ks.0) ∙ ps.0) (old xs ks.1 ps.1)

    new : (xs : List Record) → list_all (λ r. r.epoch == e + 1) xs ≡ true → list_all (λ r. lists_fit (at [] (rs ++ g) r.epoch)) xs ≡ true
    new [] k = refl
    new (x ∷ xs) k =
        let ks = and_parts (x.epoch == e + 1) (list_all (λ r. r.epoch == e + 1) xs) k in
        and_from _ _ (ap (λ n. lists_fit (at [] (rs ++ g) n)) (eqb-true x.epoch (e + 1) ks.0) ∙ ap lists_fit (at-all (e + 1) (rs ++ g) whole) ∙ fit) (new xs ks.1)

-- and what it keeps
pub lists_keep-last : (e : ℕ) (rs g : List Record) → none_later e rs ≡ true → list_all (λ r. r.epoch == e + 1) g ≡ true → 0 < length g → lists_keep (rs ++ g) ≡ true → lists_fit (after (all_changes (rs ++ g)) []) ≡ true
lists_keep-last e rs [] h same some keep = absurd (omega arith)
lists_keep-last e rs (x ∷ g) h same some keep =
    let last = all_back (λ r. lists_fit (at [] (rs ++ x ∷ g) r.epoch)) rs (x ∷ g) keep in
    let first = and_parts (lists_fit (at [] (rs ++ x ∷ g) x.epoch)) (list_all (λ r. lists_fit (at [] (rs ++ x ∷ g) r.epoch)) g) last in
    let is = and_parts (x.epoch == e + 1) (list_all (λ r. r.epoch == e + 1) g) same in
    let whole : none_later (e + 1) (rs ++ x ∷ g) ≡ true =
    list_all-append (λ s. nat_le s.epoch (e + 1)) rs (x ∷ g)
    ∙ and_from _ _ (all_more (λ s. nat_le s.epoch e) (λ s. nat_le s.epoch (e + 1)) rs (λ s k. le-leb s.epoch (e + 1) (omega (arith, leb-true s.epoch e k))) h)
    (all_more (λ r. r.epoch == e + 1) (λ s. nat_le s.epoch (e + 1)) (x ∷ g) (λ r k. le-leb r.epoch (e + 1) (omega (arith, eqb-true r.epoch (e + 1) k))) same) in
    ap lists_fit (sym (at-all (e + 1) (rs ++ x ∷ g) whole)) ∙ ap (λ n. lists_fit (at [] (rs ++ x ∷ g) n)) (sym (eqb-true x.epoch (e + 1) is.0)) ∙ first.0

-- ---- the lists that a group puts to

all_puts : (g : List Vertex) (rs : List Record) → puts_fit g rs ≡ list_all (put_fits g) (all_changes rs)
all_puts g [] = refl
all_puts g (r ∷ rs) = ap (λ b. list_all (put_fits g) r.changes && b) (all_puts g rs) ∙ sym (list_all-append (put_fits g) r.changes (all_changes rs))

puts-within : (g : List Vertex) (c : Change) → lists_fit g ≡ true → put_fits g c ≡ true
puts-within g (Put v l d p) fit = le-leb (size_of_list (vertex_at v g) l) list_most (sizes-fit v l g fit)
puts-within g (New v p) fit = refl
puts-within g (Set v p) fit = refl
puts-within g (Drop v) fit = refl
puts-within g (Del v l d) fit = refl

-- where the lists are within the limit, so are those that were put to
pub puts_fit-from : (g : List Vertex) (rs : List Record) → lists_fit g ≡ true → puts_fit g rs ≡ true
puts_fit-from g rs fit = all_puts g rs ∙ each_true (put_fits g) (all_changes rs) (λ c. puts-within g c fit)

-- a list was put to, and fits, or nothing was put to it
put_or_not : (g : List Vertex) (v l : ℕ) (cs : List Change) → list_all (put_fits g) cs ≡ true → (put_sizes v l cs ≡ 0) ⊎ (size_of_list (vertex_at v g) l ≤ list_most)
put_or_not g v l [] fit = inl refl
put_or_not g v l (c ∷ cs) fit =
    let parts = and_parts (put_fits g c) (list_all (put_fits g) cs) fit in
    elim (put_or_not g v l cs parts.1) [
      | inr fits ↦ inr fits
      | inl none ↦ elim (here c parts.0) [
        | inl nothing ↦ inl (omega (arith, sum_by-cons (size_at v l) c cs, none, nothing))
        | inr fits ↦ inr fits
      ]
    ]
  where
    here : (x : Change) → put_fits g x ≡ true → (size_at v l x ≡ 0) ⊎ (size_of_list (vertex_at v g) l ≤ list_most)
    here (Put w m d p) ok = elim (cases_Bool (w == v && m == l)) [
      | inl same ↦
          let both = and_parts (w == v) (m == l) same in
          let at : size_of_list (vertex_at w g) m ≤ list_most = leb-true (size_of_list (vertex_at w g) m) list_most ok in
          inr (subst (λ a. size_of_list (vertex_at a g) l ≤ list_most) (eqb-true w v both.0) (subst (λ b. size_of_list (vertex_at w g) b ≤ list_most) (eqb-true m l both.1) at))
      | inr other ↦ inl (ap (λ b. cond b (edge_size p) 0) other)
    ]
    here (New w p) ok = inl refl
    here (Set w p) ok = inl refl
    here (Drop w) ok = inl refl
    here (Del w m d) ok = inl refl

-- where the lists were within the limit, and those that were put to are, all are
pub lists_fit-puts : (rs g : List Record) → lists_fit (after (all_changes rs) []) ≡ true → puts_fit (after (all_changes (rs ++ g)) []) g ≡ true → lists_fit (after (all_changes (rs ++ g)) []) ≡ true
lists_fit-puts rs g before puts =
    let none : List Vertex = [] in
    let old = after (all_changes rs) none in
    let now = after (all_changes (rs ++ g)) none in
    let is : now ≡ after (all_changes g) old = ap (λ cs. after cs none) (all_changes-append rs g) ∙ after-append (all_changes rs) (all_changes g) none in
    let empty : IsTrue (is_graph none) = refl in
    lists_fit-sizes now (is_graph-after (all_changes (rs ++ g)) none empty) (λ v l.
    elim (put_or_not now v l (all_changes g) (sym (all_puts now g) ∙ puts)) [
      | inr fits ↦ fits
      | inl nothing ↦
          let grown = size-after v l (all_changes g) old in
          let was = sizes-fit v l old before in
          let same = ap (λ x. size_of_list (vertex_at v x) l) is in
          omega (arith, grown, was, same, nothing)
    ])

-- ---- one group more

-- a judge that knows the records with a group more, which keeps the rules, and whose lists are within the limit
pub KnowsLawful-more : (judge : Judge) (groups : List (List Record)) (g : List Record) (old : List Vertex) → Lawful (records_of groups) → are_groups 0 groups ≡ true → is_group (length groups + 1) g ≡ true →
    old ≡ after (all_changes (records_of groups)) [] → lists_fit old ≡ true → Knows judge (records_of groups ++ g) → KeepRules (records_of groups ++ g) → puts_fit judge.graph g ≡ true → KnowsLawful judge (groups ++ g ∷ [])
KnowsLawful-more judge groups g old law ok one is before knows keep puts =
    let rs = records_of groups in
    let more = sym (records_of-push groups g) in
    let fit : lists_fit (after (all_changes (rs ++ g)) []) ≡ true = lists_fit-puts rs g (ap lists_fit (sym is) ∙ before) (ap (λ x. puts_fit x g) (sym knows.graph) ∙ puts) in
    let lists = lists_keep-more (length groups) rs g (ap (λ n. none_later n rs) (omega arith) ∙ groups-none_later 0 groups ok) (group-epochs (length groups + 1) g one) law.lists fit in
    let all = are_groups-push groups g ok one in
    record {
      knows = subst (Knows judge) more knows;
      lawful = Lawful-from (groups ++ g ∷ []) all (subst KeepRules more keep) (ap lists_keep (sym more) ∙ lists);
      spelled = all;
      lists = ap lists_fit knows.graph ∙ fit;
    }

-- what lawful groups with one more keep
pub Lawful-less : (groups : List (List Record)) (g : List Record) → are_groups 0 groups ≡ true → is_group (length groups + 1) g ≡ true → Lawful (records_of (groups ++ g ∷ [])) →
    KeepRules (records_of groups ++ g) × (lists_fit (after (all_changes (records_of groups ++ g)) []) ≡ true)
Lawful-less groups g ok one law =
    let rs = records_of groups in
    let more = records_of-push groups g in
    let some = (spelled-parts (length groups + 1) g (group-parts (length groups + 1) g one).1).0 in (
      subst KeepRules more (Lawful-rules (records_of (groups ++ g ∷ [])) law),
      lists_keep-last (length groups) rs g (ap (λ n. none_later n rs) (omega arith) ∙ groups-none_later 0 groups ok) (group-epochs (length groups + 1) g one) some (ap lists_keep (sym more) ∙ law.lists),
    )

pub KnowsLawfulIf-by : (kept : Bool) (judge : Judge) (groups : List (List Record)) → (kept ≡ true → KnowsLawful judge groups) → (kept ≡ false → Lawful (records_of groups) → ⊥) → KnowsLawfulIf kept judge groups
KnowsLawfulIf-by true judge groups held lost = held refl
KnowsLawfulIf-by false judge groups held lost = lost refl

-- each front of lawful groups is lawful
pub Lawful-front : (front back : List (List Record)) → are_groups 0 (front ++ back) ≡ true → Lawful (records_of (front ++ back)) → Lawful (records_of front)
Lawful-front front back ok law =
    let parts = and_parts (are_groups 0 front) (are_groups (length front) back) (ap (λ n. are_groups 0 front && are_groups n back) (omega arith) ∙ sym (are_groups-append 0 front back) ∙ ok) in
    let more : records_of (front ++ back) ≡ records_of front ++ records_of back = flat_map-append (λ x. x) front back in
    let keep = keep-front (records_of front) (records_of back) (subst KeepRules more (Lawful-rules (records_of (front ++ back)) law)) in
    let lists = lists_keep-front (length front) (records_of front) (records_of back) (ap (λ n. none_later n (records_of front)) (omega arith) ∙ groups-none_later 0 front parts.0) (groups-later (length front) back parts.1)
    (ap lists_keep (sym more) ∙ law.lists) in
    Lawful-from front parts.0 keep lists
