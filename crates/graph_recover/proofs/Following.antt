-- What continues the base of a lawful list is lawful behind it.
use Rattle.std.proofs.Common.{◌≡◌, ℕ, ◌+◌, ◌≤◌, Bool, true, false, not, cond, ◌&&◌, ◌||◌, List, [], ◌∷◌, ◌++◌, map, length, refl, ap, ◌∙◌, arith}
use Rattle.std.specs.Prelude.{◌==◌, nat_lt, nat_le, count_by}
use Rattle.std.specs.List.{list_all}
use Rattle.std.proofs.lemmas.Bool.{and_parts, and_from, leb-true, ltb-true, le-leb, lt-ltb, lt-leb, le-ltb, ne_eqb}
use Rattle.std.proofs.lemmas.List.{map-append}
use Rattle.std.proofs.lemmas.List.Folds.{list_all-append, list_all-map}
use Rattle.std.proofs.lemmas.List.Sums.{sum_by-append, sum_by-cons}
use Rattle.graph_model.specs.declared.record.Record.{Record}
use Rattle.graph_model.specs.Vertex.{Vertex}
use Rattle.graph_model.specs.Change.{encoded_lens}
use Rattle.graph_model.specs.Graph.{after, all_fit, fits_at, at}
use Rattle.graph_model.specs.Records.{number_end, group_most, transaction_most, all_differ, all_changes, made_vertices, last_epoch, has_destination, is_record, share_vertex, keep_apart, apart, lists_fit, Lawful, Continues}
use Rattle.graph_model.proofs.Snapshots.{at-append}
use Rattle.graph_model.proofs.Vertices.{each_step-append}
use Rattle.group_codec.specs.Judging.{none_later}
use Rattle.group_codec.proofs.Lists.{all_more, all_same_where}
use Rattle.group_codec.proofs.Making.{is_in, all_differ-append, all_changes-append, made-append}
use Rattle.graph_recover.specs.Bases.{greatest_of, base_of}
use Rattle.graph_recover.proofs.Greatest.{record-numbers}
use Rattle.graph_recover.proofs.Numbered.{above-new}
use Rattle.graph_recover.proofs.Epochs.{begins-goes_on, none-after_last, all-later, begins-append}
use Rattle.graph_recover.proofs.Snapshots.{until-none, at-behind}

-- all of two lists
both-all : {X : Type 0} (p : X → Bool) (xs ys : List X) → list_all p xs ≡ true → list_all p ys ≡ true → list_all p (xs ++ ys) ≡ true
both-all p xs ys a b = list_all-append p xs ys ∙ and_from _ _ a b

-- ---- groups

count-none : (e : ℕ) (rs : List Record) → list_all (λ r. not (r.epoch == e)) rs ≡ true → count_by (λ s. s.epoch == e) rs ≡ 0
count-none e [] h = refl
count-none e (r ∷ rs) h =
    let parts = and_parts (not (r.epoch == e)) (list_all (λ s. not (s.epoch == e)) rs) h in
    let rest = count-none e rs parts.1 in
    let one = sum_by-cons (λ s. cond (s.epoch == e) 1 0) r rs in
    let here : cond {A = ℕ} (r.epoch == e) 1 0 ≡ 0 = nothing (r.epoch == e) parts.0 in
    omega (arith, rest, one, here)
  where
    nothing : (b : Bool) → not b ≡ true → cond {A = ℕ} b 1 0 ≡ 0
    nothing true h = (cc)
    nothing false h = refl

count-append : (e : ℕ) (xs ys : List Record) → count_by (λ s. s.epoch == e) (xs ++ ys) ≡ count_by (λ s. s.epoch == e) xs + count_by (λ s. s.epoch == e) ys
count-append e xs ys = sum_by-append (λ s. cond (s.epoch == e) 1 0) xs ys

-- the epoch of a record up to the last is that of none behind it
count-front : (e : ℕ) (rs more : List Record) (r : Record) → list_all (λ s. nat_lt e s.epoch) more ≡ true → nat_le r.epoch e ≡ true → count_by (λ s. s.epoch == r.epoch) (rs ++ more) ≡ count_by (λ s. s.epoch == r.epoch) rs
count-front e rs more r later le =
    let none = count-none r.epoch more (all_more (λ s. nat_lt e s.epoch) (λ s. not (s.epoch == r.epoch)) more
    (λ s lt. ap not (ne_eqb s.epoch r.epoch (λ is. omega (arith, is, leb-true r.epoch e le, ltb-true e s.epoch lt)))) later) in
    let both = count-append r.epoch rs more in
    omega (arith, none, both)

count-behind : (e : ℕ) (rs more : List Record) (r : Record) → none_later e rs ≡ true → nat_lt e r.epoch ≡ true → count_by (λ s. s.epoch == r.epoch) (rs ++ more) ≡ count_by (λ s. s.epoch == r.epoch) more
count-behind e rs more r early lt =
    let none = count-none r.epoch rs (all_more (λ s. nat_le s.epoch e) (λ s. not (s.epoch == r.epoch)) rs
    (λ s le. ap not (ne_eqb s.epoch r.epoch (λ is. omega (arith, is, leb-true s.epoch e le, ltb-true e r.epoch lt)))) early) in
    let both = count-append r.epoch rs more in
    omega (arith, none, both)

-- ---- each record

weaker : (epoch next : ℕ) (r : Record) → 1 ≤ next → is_record epoch next r ≡ true → is_record 0 1 r ≡ true
weaker epoch next r from ok =
    let n = record-numbers epoch next r ok in
    let one = and_parts (nat_le next r.tid && nat_lt r.tid number_end && nat_le epoch r.read && nat_lt r.read r.epoch && nat_lt r.epoch number_end && nat_lt 0 (length r.changes) && nat_le (encoded_lens r.changes) transaction_most) (list_all has_destination r.changes) ok in
    let two = and_parts (nat_le next r.tid && nat_lt r.tid number_end && nat_le epoch r.read && nat_lt r.read r.epoch && nat_lt r.epoch number_end && nat_lt 0 (length r.changes)) (nat_le (encoded_lens r.changes) transaction_most) one.0 in
    let three = and_parts (nat_le next r.tid && nat_lt r.tid number_end && nat_le epoch r.read && nat_lt r.read r.epoch && nat_lt r.epoch number_end) (nat_lt 0 (length r.changes)) two.0 in
    and_from _ _ (and_from _ _ (and_from _ _ (and_from _ _ (and_from _ _ (and_from _ _ (and_from _ _
    (le-leb 1 r.tid (omega (arith, from, n.0))) (lt-ltb r.tid number_end n.1)) (le-leb 0 r.read (omega arith))) (lt-ltb r.read r.epoch n.3)) (lt-ltb r.epoch number_end n.4)) three.1) two.1) one.1

-- numbers from one above the greatest on are none of the first
new-behind : (xs ys : List ℕ) → list_all (nat_le (greatest_of xs + 1)) ys ≡ true → list_all (λ y. not (is_in y xs)) ys ≡ true
new-behind xs ys from = all_more (nat_le (greatest_of xs + 1)) (λ y. not (is_in y xs)) ys (λ y le. ap not (above-new y xs (omega (arith, leb-true (greatest_of xs + 1) y le)))) from

differ-behind : (xs ys : List ℕ) → all_differ xs ≡ true → all_differ ys ≡ true → list_all (nat_le (greatest_of xs + 1)) ys ≡ true → all_differ (xs ++ ys) ≡ true
differ-behind xs ys a b from = all_differ-append xs ys ∙ and_from _ _ (and_from _ _ a b) (new-behind xs ys from)

-- ---- overlaps

-- records that read the last epoch or a later one overlap none up to it
apart-behind : (e : ℕ) (r s : Record) → nat_le r.epoch e ≡ true → (nat_le e s.read && nat_lt e s.epoch) ≡ true → keep_apart r s ≡ true
apart-behind e r s le from =
    let parts = and_parts (nat_le e s.read) (nat_lt e s.epoch) from in
    let early = leb-true r.epoch e le in
    let first : nat_le s.epoch r.epoch ≡ false = lt-leb s.epoch r.epoch (omega (arith, early, ltb-true e s.epoch parts.1)) in
    let second : nat_lt s.read r.epoch ≡ false = le-ltb s.read r.epoch (omega (arith, early, leb-true e s.read parts.0)) in
    neither (nat_lt r.read s.epoch) (nat_le s.epoch r.epoch) (nat_lt s.read r.epoch) (nat_le r.epoch s.epoch) (share_vertex r s) first second
  where
    neither : (a b c d x : Bool) → b ≡ false → c ≡ false → not (((a && b) || (c && d)) && x) ≡ true
    neither true false false d x p q = refl
    neither false false false d x p q = refl
    neither a true c d x p q = (cc)
    neither a false true d x p q = (cc)

apart-append : (e : ℕ) (rs more : List Record) → none_later e rs ≡ true → list_all (λ s. nat_le e s.read && nat_lt e s.epoch) more ≡ true → apart rs ≡ true → apart more ≡ true → apart (rs ++ more) ≡ true
apart-append e [] more early from a b = b
apart-append e (r ∷ rs) more early from a b =
    let is = and_parts (nat_le r.epoch e) (none_later e rs) early in
    let parts = and_parts (list_all (keep_apart r) rs) (apart rs) a in
    and_from _ _ (both-all (keep_apart r) rs more parts.0 (all_more (λ s. nat_le e s.read && nat_lt e s.epoch) (keep_apart r) more (λ s h. apart-behind e r s is.0 h) from))
    (apart-append e rs more is.1 from parts.1 b)

-- ---- the whole

pub follows : (rs more : List Record) → Lawful rs → Continues (base_of rs) more → Lawful (rs ++ more)
follows rs more law next =
    let e = last_epoch 0 rs in
    let vs = made_vertices (all_changes rs) in
    let ws = made_vertices (all_changes more) in
    let none : List Vertex = [] in
    record {
      epochs = begins-append 0 rs more law.epochs next.epochs;
      groups = both-all (λ r. nat_le (count_by (λ s. s.epoch == r.epoch) (rs ++ more)) group_most) rs more front_groups back_groups;
      each = both-all (is_record 0 1) rs more law.each (all_more (is_record e (greatest_of (map (λ r. r.tid) rs) + 1)) (is_record 0 1) more (λ r ok. weaker e (greatest_of (map (λ s. s.tid) rs) + 1) r (omega arith) ok) next.each);
      numbers = ap all_differ (map-append (λ r. r.tid) rs more) ∙ differ-behind (map (λ r. r.tid) rs) (map (λ r. r.tid) more) law.numbers next.numbers tids;
      made = ap (list_all (λ v. nat_le 1 v && nat_lt v number_end)) made ∙ both-all (λ v. nat_le 1 v && nat_lt v number_end) vs ws law.made
          (all_more (λ v. nat_le (greatest_of vs + 1) v && nat_lt v number_end) (λ v. nat_le 1 v && nat_lt v number_end) ws
          (λ v ok. let parts = and_parts (nat_le (greatest_of vs + 1) v) (nat_lt v number_end) ok in and_from _ _ (le-leb 1 v (omega (arith, leb-true (greatest_of vs + 1) v parts.0))) parts.1) next.made);
      made_once = ap all_differ made ∙ differ-behind vs ws law.made_once next.made_once
          (all_more (λ v. nat_le (greatest_of vs + 1) v && nat_lt v number_end) (nat_le (greatest_of vs + 1)) ws (λ v ok. (and_parts (nat_le (greatest_of vs + 1) v) (nat_lt v number_end) ok).0) next.made);
      fit = ap (λ cs. all_fit cs none) (all_changes-append rs more) ∙ each_step-append fits_at (all_changes rs) (all_changes more) none ∙ and_from _ _ law.fit next.fit;
      no_overlap = apart-append e rs more early
          (all_more (is_record e (greatest_of (map (λ r. r.tid) rs) + 1)) (λ s. nat_le e s.read && nat_lt e s.epoch) more
          (λ s ok. let n = record-numbers e (greatest_of (map (λ r. r.tid) rs) + 1) s ok in and_from _ _ (le-leb e s.read n.2) (lt-ltb e s.epoch (omega (arith, n.2, n.3)))) next.each) law.no_overlap next.no_overlap;
      lists = both-all (λ r. lists_fit (at none (rs ++ more) r.epoch)) rs more front_lists back_lists;
    }
  where
    early : none_later (last_epoch 0 rs) rs ≡ true
    early = none-after_last 0 rs (begins-goes_on 0 rs law.epochs)

    later : list_all (λ r. nat_lt (last_epoch 0 rs) r.epoch) more ≡ true
    later = all-later (last_epoch 0 rs) more next.epochs

    front_groups : list_all (λ r. nat_le (count_by (λ s. s.epoch == r.epoch) (rs ++ more)) group_most) rs ≡ true
    front_groups =
        all_same_where (λ r. nat_le r.epoch (last_epoch 0 rs)) (λ r. nat_le (count_by (λ s. s.epoch == r.epoch) (rs ++ more)) group_most) (λ r. nat_le (count_by (λ s. s.epoch == r.epoch) rs) group_most) rs early
        (λ r le. ap (λ n. nat_le n group_most) (count-front (last_epoch 0 rs) rs more r later le)) ∙ law.groups

    back_groups : list_all (λ r. nat_le (count_by (λ s. s.epoch == r.epoch) (rs ++ more)) group_most) more ≡ true
    back_groups =
        all_same_where (λ r. nat_lt (last_epoch 0 rs) r.epoch) (λ r. nat_le (count_by (λ s. s.epoch == r.epoch) (rs ++ more)) group_most) (λ r. nat_le (count_by (λ s. s.epoch == r.epoch) more) group_most) more later
        (λ r lt. ap (λ n. nat_le n group_most) (count-behind (last_epoch 0 rs) rs more r early lt)) ∙ next.groups

    tids : list_all (nat_le (greatest_of (map (λ r. r.tid) rs) + 1)) (map (λ r. r.tid) more) ≡ true
    tids =
        list_all-map (nat_le (greatest_of (map (λ r. r.tid) rs) + 1)) (λ r. r.tid) more
        ∙ all_more (is_record (last_epoch 0 rs) (greatest_of (map (λ r. r.tid) rs) + 1)) (λ r. nat_le (greatest_of (map (λ s. s.tid) rs) + 1) r.tid) more
        (λ r ok. le-leb (greatest_of (map (λ s. s.tid) rs) + 1) r.tid (record-numbers (last_epoch 0 rs) (greatest_of (map (λ s. s.tid) rs) + 1) r ok).0) next.each

    made : made_vertices (all_changes (rs ++ more)) ≡ made_vertices (all_changes rs) ++ made_vertices (all_changes more)
    made = ap made_vertices (all_changes-append rs more) ∙ made-append (all_changes rs) (all_changes more)

    front_lists : list_all (λ r. lists_fit (at [] (rs ++ more) r.epoch)) rs ≡ true
    front_lists =
        all_same_where (λ r. nat_le r.epoch (last_epoch 0 rs)) (λ r. lists_fit (at [] (rs ++ more) r.epoch)) (λ r. lists_fit (at [] rs r.epoch)) rs early
        (λ r le. ap lists_fit (at-append [] rs more r.epoch (until-none r.epoch more
        (all_more (λ s. nat_lt (last_epoch 0 rs) s.epoch) (λ s. nat_lt r.epoch s.epoch) more (λ s lt. lt-ltb r.epoch s.epoch (omega (arith, leb-true r.epoch (last_epoch 0 rs) le, ltb-true (last_epoch 0 rs) s.epoch lt))) later)))) ∙ law.lists

    back_lists : list_all (λ r. lists_fit (at [] (rs ++ more) r.epoch)) more ≡ true
    back_lists =
        all_same_where (λ r. nat_lt (last_epoch 0 rs) r.epoch) (λ r. lists_fit (at [] (rs ++ more) r.epoch)) (λ r. lists_fit (at (after (all_changes rs) []) more r.epoch)) more later
        (λ r lt. ap lists_fit (at-behind r.epoch rs more (all_more (λ s. nat_le s.epoch (last_epoch 0 rs)) (λ s. nat_le s.epoch r.epoch) rs (λ s le. le-leb s.epoch r.epoch (omega (arith, leb-true s.epoch (last_epoch 0 rs) le, ltb-true (last_epoch 0 rs) r.epoch lt))) early))) ∙ next.lists
