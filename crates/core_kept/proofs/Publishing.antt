-- A group is published: the facts are kept.
use Rattle.graph_model.specs.declared.record.Outcome.{Outcome}
use Rattle.core_states.specs.LogEvents.{told}
use Rattle.core_states.specs.Numbers.{settled_as}
use Rattle.std.proofs.Common.{◌≡◌, ◌≢◌, ℕ, suc, ◌+◌, ◌<◌, ◌≤◌, Bool, true, false, ◌||◌, List, [], ◌∷◌, ◌++◌, length, refl, sym, ap, ◌∙◌, subst, arith, Option, Some, None, ⊎_elim, ◌⊎◌, inl, inr, append-nil, append_assoc, length-append}
use Rattle.std.proofs.lemmas.Bool.{cases_eq, eq-eqb, ne_eqb, false≢true}
use Rattle.std.proofs.lemmas.Bool.Decides.{nat_tests}
use Rattle.std.specs.Prelude.{if◌then◌else◌, ◌==◌}
use Rattle.graph_model.specs.Places.{changes_about}
use Rattle.graph_model.specs.declared.change.Change.{Change}
use Rattle.graph_model.specs.declared.graph.Base.{Base}
use Rattle.graph_model.specs.declared.record.Outcome.TheVariants.{Committed}
use Rattle.graph_model.specs.declared.record.Record.{Record}
use Rattle.core_states.proofs.Names.{set_name_here, set_name_there, cases_name, name_each, some_is}
use Rattle.core_kept.specs.Good.{root, is_of, past_of, part_of, Place, Nowhere, InQueue, InGroup, InLog, Ghost, Owned, RowOkBy, published, StageOk, In, TxnOk, Waits, AllWait, is_in_log, outcome_at, AllAbove, RecordsOk, AllAt, Grouped, joined, ContinuesInGroups, LearntOk, Good}
use Rattle.row_pasts.specs.Lives.{Past, stamped, AllUntil}
use Rattle.core_states.specs.Names.{Name, set_name}
use Rattle.core_states.specs.Numbers.{has_number, has_active, outcome_of, has_record, numbered, pending_of}
use Rattle.row_pasts.specs.RowFits.{RowFits}
use Rattle.core_states.specs.States.{State}
use Rattle.core_states.specs.Transactions.{holds, with_stage}
use Rattle.core_states.specs.declared.actor.Actor.{Actor}
use Rattle.core_states.specs.declared.actor.Learnt.{Learnt}
use Rattle.core_states.specs.declared.clock.Active.{Active}
use Rattle.core_states.specs.declared.clock.Clock.{Clock}
use Rattle.core_states.specs.declared.clock.KeptOutcome.{KeptOutcome}
use Rattle.core_states.specs.declared.transaction.Stage.{Stage}
use Rattle.core_states.specs.declared.transaction.Stage.TheVariants.{Queued, Decided}
use Rattle.core_states.specs.declared.transaction.Transaction.{Transaction}
use Rattle.core_kept.proofs.Frames.{Same}
use Rattle.core_kept.proofs.Beginning.{none_some, same_txn, no_part}
use Rattle.core_kept.proofs.GoingOn.{has_record-append, all_wait_map}
use Rattle.core_kept.proofs.Grouping.{wait_place, has_self, has_more}

part_of-append : (rs qs : List Record) (v t : ℕ) → part_of (rs ++ qs) v t ≡ part_of rs v t ++ part_of qs v t
part_of-append [] qs v t = refl
part_of-append (r ∷ rs) qs v t = by_tid (r.tid == t) (part_of-append rs qs v t)
  where
    by_tid : (b : Bool) → part_of (rs ++ qs) v t ≡ part_of rs v t ++ part_of qs v t
        → (if b then stamped r.epoch (changes_about v r.changes) ++ part_of (rs ++ qs) v t else part_of (rs ++ qs) v t) ≡ (if b then stamped r.epoch (changes_about v r.changes) ++ part_of rs v t else part_of rs v t) ++ part_of qs v t
    by_tid true ih = ap (λ l. stamped r.epoch (changes_about v r.changes) ++ l) ih ∙ sym (append_assoc (stamped r.epoch (changes_about v r.changes)) (part_of rs v t) (part_of qs v t))
    by_tid false ih = ih

past_of-append : (rs qs : List Record) (v : ℕ) (o : Option ℕ) → past_of (rs ++ qs) v o ≡ past_of rs v o ++ past_of qs v o
past_of-append [] qs v o = refl
past_of-append (r ∷ rs) qs v o = by_skip (is_of o r.tid) (past_of-append rs qs v o)
  where
    by_skip : (b : Bool) → past_of (rs ++ qs) v o ≡ past_of rs v o ++ past_of qs v o
        → (if b then past_of (rs ++ qs) v o else stamped r.epoch (changes_about v r.changes) ++ past_of (rs ++ qs) v o) ≡ (if b then past_of rs v o else stamped r.epoch (changes_about v r.changes) ++ past_of rs v o) ++ past_of qs v o
    by_skip true ih = ih
    by_skip false ih = ap (λ l. stamped r.epoch (changes_about v r.changes) ++ l) ih ∙ sym (append_assoc (stamped r.epoch (changes_about v r.changes)) (past_of rs v o) (past_of qs v o))

pub has_record-numbered : (e t : ℕ) (rs : List Record) → has_record t (numbered e rs) ≡ has_record t rs
has_record-numbered e t [] = refl
has_record-numbered e t (r ∷ rs) = ap (λ b. (r.tid == t) || b) (has_record-numbered e t rs)

pub outcome_of-append : (t : ℕ) (ks js : List KeptOutcome) → outcome_of t ks ≡ None → outcome_of t (ks ++ js) ≡ outcome_of t js
outcome_of-append t [] js none = refl
outcome_of-append t (k ∷ ks) js none = by_tid (k.tid == t) none (outcome_of-append t ks js)
  where
    by_tid : (b : Bool) → (if b then Some k.outcome else outcome_of t ks) ≡ None → (outcome_of t ks ≡ None → outcome_of t (ks ++ js) ≡ outcome_of t js) → (if b then Some k.outcome else outcome_of t (ks ++ js)) ≡ outcome_of t js
    by_tid true none ih = absurd (none_some k.outcome (sym none))
    by_tid false none ih = ih none

pub outcome_of-kept : (t : ℕ) (ks js : List KeptOutcome) → outcome_of t js ≡ None → outcome_of t (ks ++ js) ≡ outcome_of t ks
outcome_of-kept t [] js none = none
outcome_of-kept t (k ∷ ks) js none = ap (λ o. if k.tid == t then Some k.outcome else o) (outcome_of-kept t ks js none)

pub outcome_of-settled : (d : Outcome) (t : ℕ) (rs : List Record) → outcome_of t (settled_as d rs) ≡ (if has_record t rs then Some d else None)
outcome_of-settled d t [] = refl
outcome_of-settled d t (r ∷ rs) = by_tid (r.tid == t) (outcome_of-settled d t rs)
  where
    by_tid : (b : Bool) → outcome_of t (settled_as d rs) ≡ (if has_record t rs then Some d else None) → (if b then Some d else outcome_of t (settled_as d rs)) ≡ (if b || has_record t rs then Some d else None)
    by_tid true ih = refl
    by_tid false ih = ih

has_active-append : (t e : ℕ) (xs ys : List Active) → has_active t e (xs ++ ys) ≡ (has_active t e xs || has_active t e ys)
has_active-append t e [] ys = refl
has_active-append t e (x ∷ xs) ys = grind (arith, has_active-append t e xs ys)

has_active-pending : (e t : ℕ) (rs : List Record) → has_record t rs ≡ true → has_active t e (pending_of e rs) ≡ true
has_active-pending e t [] has = absurd (false≢true has)
has_active-pending e t (r ∷ rs) has = grind (arith, nat_tests, has_active-pending e t rs)

all_above-append : (low high : ℕ) (xs ys : List Active) → AllAbove low high xs → AllAbove low high ys → AllAbove low high (xs ++ ys)
all_above-append low high [] ys a b = b
all_above-append low high (x ∷ xs) ys a b = (a.0, a.1, all_above-append low high xs ys a.2 b)

all_above_up : (low high more : ℕ) (xs : List Active) → high ≤ more → AllAbove low high xs → AllAbove low more xs
all_above_up low high more [] le a = tt
all_above_up low high more (x ∷ xs) le a = (a.0, (let b = a.1 in omega arith), all_above_up low high more xs le a.2)

all_above-pending : (low e : ℕ) (rs : List Record) → low < e → AllAbove low e (pending_of e rs)
all_above-pending low e [] lt = tt
all_above-pending low e (r ∷ rs) lt = (lt, omega arith, all_above-pending low e rs lt)

pub In-left : (r : Record) (xs ys : List Record) → In r xs → In r (xs ++ ys)
In-left r [] ys m = absurd m
In-left r (x ∷ xs) ys (inl e) = inl e
In-left r (x ∷ xs) ys (inr m) = inr (In-left r xs ys m)

In-right : (r : Record) (xs ys : List Record) → In r ys → In r (xs ++ ys)
In-right r [] ys m = m
In-right r (x ∷ xs) ys m = inr (In-right r xs ys m)

In-numbered : (e : ℕ) (r : Record) (rs : List Record) → In r rs → In (record { tid = r.tid; read = r.read; epoch = e; changes = r.changes }) (numbered e rs)
In-numbered e r [] m = absurd m
In-numbered e r (x ∷ rs) (inl is) = inl (ap (λ (q : Record). record { tid = q.tid; read = q.read; epoch = e; changes = q.changes }) is)
In-numbered e r (x ∷ rs) (inr m) = inr (In-numbered e r rs m)

-- A member of a group: its transaction waits, and its changes at a vertex are the group's part of its number.
pub record Member (g : Ghost) (actor : Name → Actor) (at : Place) (e t : ℕ) (rs : List Record) : Type 0 where
  pub member : Record
  pub tid : member.tid ≡ t
  pub waits : Waits g actor at member
  pub among : In member rs
  pub part : (w : ℕ) → part_of (numbered e rs) w t ≡ stamped e (changes_about w member.changes)

pub member_of : (g : Ghost) (actor : Name → Actor) (at : Place) (e t : ℕ) (rs : List Record) → AllWait g actor at rs → has_record t rs ≡ true → Member g actor at e t rs
member_of g actor at e t [] wait has = absurd (false≢true has)
member_of g actor at e t (r ∷ rs) wait has = ⊎_elim
    (λ (is : r.tid ≡ t). record {
      member = r;
      tid = is;
      waits = wait.0;
      among = inl refl;
      part = λ w. rw (eq-eqb r.tid t is) (rw (no_part (numbered e rs) w t (has_record-numbered e t rs ∙ ap (λ u. has_record u rs) (sym is) ∙ wait.1)) (append-nil (stamped e (changes_about w r.changes))));
    })
    (λ (ne : r.tid ≢ t).
    let more = member_of g actor at e t rs wait.2 (rw (ne_eqb r.tid t ne) at has) in
    record { member = more.member; tid = more.tid; waits = more.waits; among = inr more.among; part = λ w. rw (ne_eqb r.tid t ne) (more.part w) })
    (cases_eq r.tid t)

pub queued_stage : (x : Transaction) (p : Place) → x.stage ≡ Queued → StageOk x.stage x.settled p → x.settled ≡ []
queued_stage x p is ok = (subst (λ (y : Stage). StageOk y x.settled p) is ok).0

-- a record that waits changes only vertices of its own transaction
waits_on : (base : Base) (g : Ghost) (s : State) (at : Place) (r : Record) (w : ℕ) → Good base g s → Waits g s.actor at r → (changes_about w r.changes ≡ []) ⊎ ((s.row w).owner ≡ Some r.tid)
waits_on base g s at r w good wait = by_touch (has_number w wait.txn.touched) refl
  where
    by_touch : (b : Bool) → has_number w wait.txn.touched ≡ b → (changes_about w r.changes ≡ []) ⊎ ((s.row w).owner ≡ Some r.tid)
    by_touch false e = inl (ap (changes_about w) (sym wait.own) ∙ (good.txns (g.who r.tid) wait.txn wait.is).touched w e)
    by_touch true e = inr (good.held (g.who r.tid) wait.txn wait.is w (rw (e, queued_stage wait.txn (g.place wait.txn.tid) wait.stage (good.txns (g.who r.tid) wait.txn wait.is).stage) refl) ∙ ap Some wait.tid)

-- a group has no change at a vertex that nobody owns
free_part : (base : Base) (g : Ghost) (s : State) (at : Place) (e w : ℕ) (rs : List Record) → Good base g s → AllWait g s.actor at rs → (s.row w).owner ≡ None → past_of (numbered e rs) w None ≡ []
free_part base g s at e w [] good wait free = refl
free_part base g s at e w (r ∷ rs) good wait free = ⊎_elim
    (λ (none : changes_about w r.changes ≡ []). rw none (free_part base g s at e w rs good wait.2 free))
    (λ (own : (s.row w).owner ≡ Some r.tid). absurd (none_some r.tid (sym free ∙ own)))
    (waits_on base g s at r w good wait.0)

-- and at an owner's vertex the owner's alone
record Own_part (rs : List Record) (w t : ℕ) : Type 0 where
  others : past_of rs w (Some t) ≡ []
  mine : past_of rs w None ≡ part_of rs w t

own_part : (base : Base) (g : Ghost) (s : State) (at : Place) (e w t : ℕ) (rs : List Record) → Good base g s → AllWait g s.actor at rs → (s.row w).owner ≡ Some t → Own_part (numbered e rs) w t
own_part base g s at e w t [] good wait owner = record { others = refl; mine = refl }
own_part base g s at e w t (r ∷ rs) good wait owner = by_tid (own_part base g s at e w t rs good wait.2 owner)
  where
    by_tid : Own_part (numbered e rs) w t → Own_part (numbered e (r ∷ rs)) w t
    by_tid ih = ⊎_elim
        (λ (is : r.tid ≡ t). record { others = rw (eq-eqb r.tid t is) ih.others; mine = rw (eq-eqb r.tid t is) (ap (λ l. stamped e (changes_about w r.changes) ++ l) ih.mine) })
        (λ (ne : r.tid ≢ t).
        let none : changes_about w r.changes ≡ [] = ⊎_elim (λ (n : changes_about w r.changes ≡ []). n) (λ (own : (s.row w).owner ≡ Some r.tid). absurd (ne (some_is r.tid t (sym own ∙ owner)))) (waits_on base g s at r w good wait.0) in
        record { others = rw (ne_eqb r.tid t ne, none) ih.others; mine = rw (ne_eqb r.tid t ne, none) ih.mine })
        (cases_eq r.tid t)

-- Members of lists.
In-append : (r : Record) (xs ys : List Record) → In r (xs ++ ys) → In r xs ⊎ In r ys
In-append r [] ys m = inr m
In-append r (x ∷ xs) ys (inl e) = inl (inl e)
In-append r (x ∷ xs) ys (inr m) = ⊎_elim (λ (a : In r xs). inl (inr a)) (λ (b : In r ys). inr b) (In-append r xs ys m)

-- a record of the published group, with what it was
record From_group (g : Ghost) (actor : Name → Actor) (at : Place) (e : ℕ) (r : Record) : Type 0 where
  was : Record
  waits : Waits g actor at was
  tid : r.tid ≡ was.tid
  read : r.read ≡ was.read
  epoch : r.epoch ≡ e
  changes : r.changes ≡ was.changes

from_group : (g : Ghost) (actor : Name → Actor) (at : Place) (e : ℕ) (r : Record) (rs : List Record) → AllWait g actor at rs → In r (numbered e rs) → From_group g actor at e r
from_group g actor at e r [] wait m = absurd m
from_group g actor at e r (q ∷ rs) wait (inl is) = record {
  was = q;
  waits = wait.0;
  tid = ap (λ (x : Record). x.tid) is;
  read = ap (λ (x : Record). x.read) is;
  epoch = ap (λ (x : Record). x.epoch) is;
  changes = ap (λ (x : Record). x.changes) is;
}
from_group g actor at e r (q ∷ rs) wait (inr m) = from_group g actor at e r rs wait.2 m

at_group : (r : Record) (e : ℕ) (rs : List Record) → AllAt e rs → In r rs → r.epoch ≡ e
at_group r e [] all m = absurd m
at_group r e (x ∷ rs) all (inl is) = ap (λ (y : Record). y.epoch) is ∙ all.0
at_group r e (x ∷ rs) all (inr m) = at_group r e rs all.1 m

epoch_low : (r : Record) (e : ℕ) (gs : List (List Record)) → Grouped e gs → In r (joined gs) → r.epoch < e + length gs
epoch_low r e [] all m = absurd m
epoch_low r e (rs ∷ gs) all m = ⊎_elim
    (λ (a : In r rs). let is = at_group r e rs all.0 a in omega (arith, is))
    (λ (b : In r (joined gs)). let lt = epoch_low r (e + 1) gs all.3 b in omega (arith, lt))
    (In-append r rs (joined gs) m)

-- what is left of the past is old
stamped_low : (n h : ℕ) (c : Change) (cs : List Change) (xs : List Past) → AllUntil n (stamped h (c ∷ cs) ++ xs) → h ≤ n
stamped_low n h c cs xs low = low.0

AllUntil_rest : (n : ℕ) (xs ys : List Past) → AllUntil n (xs ++ ys) → AllUntil n ys
AllUntil_rest n [] ys low = low
AllUntil_rest n (x ∷ xs) ys low = AllUntil_rest n xs ys low.1

old_low : (n v t : ℕ) (r : Record) (rs : List Record) → AllUntil n (past_of rs v (Some t)) → In r rs → r.tid ≢ t → (changes_about v r.changes ≡ []) ⊎ (r.epoch ≤ n)
old_low n v t r [] low m ne = absurd m
old_low n v t r (x ∷ rs) low (inl is) ne = by_changes (changes_about v x.changes) refl
  where
    apart : (x.tid == t) ≡ false
    apart = ne_eqb x.tid t (λ e. ne (ap (λ (y : Record). y.tid) is ∙ e))

    by_changes : (cs : List Change) → changes_about v x.changes ≡ cs → (changes_about v r.changes ≡ []) ⊎ (r.epoch ≤ n)
    by_changes [] e = inl (ap (λ (y : Record). changes_about v y.changes) is ∙ e)
    by_changes (c ∷ cs) e =
        let all : AllUntil n (stamped x.epoch (c ∷ cs) ++ past_of rs v (Some t)) = rw e at (rw apart at low) in
        inr (rw is (all.0))
old_low n v t r (x ∷ rs) low (inr m) ne = by_skip (x.tid == t) refl (old_low n v t r rs)
  where
    by_skip : (b : Bool) → (x.tid == t) ≡ b → (AllUntil n (past_of rs v (Some t)) → In r rs → r.tid ≢ t → (changes_about v r.changes ≡ []) ⊎ (r.epoch ≤ n)) → (changes_about v r.changes ≡ []) ⊎ (r.epoch ≤ n)
    by_skip true e ih = ih (rw e at low) m ne
    by_skip false e ih = ih (AllUntil_rest n (stamped x.epoch (changes_about v x.changes)) (past_of rs v (Some t)) (rw e at low)) m ne

grouped_more : (e : ℕ) (gs : List (List Record)) (rs : List Record) → Grouped e gs → AllAt (e + length gs) rs → 0 < length rs → length rs ≤ 64 → Grouped e (gs ++ rs ∷ [])
grouped_more e [] rs all at some few = (subst (λ n. AllAt n rs) (omega arith) at, some, few, tt)
grouped_more e (qs ∷ gs) rs all at some few = (all.0, all.1, all.2, grouped_more (e + 1) gs rs all.3 (subst (λ n. AllAt n rs) (omega arith) at) some few)

joined-push : (gs : List (List Record)) (rs : List Record) → joined (gs ++ rs ∷ []) ≡ joined gs ++ rs
joined-push [] rs = append-nil rs
joined-push (qs ∷ gs) rs = ap (λ l. qs ++ l) (joined-push gs rs) ∙ sym (append_assoc qs (joined gs) rs)

pub all_at-numbered : (e : ℕ) (rs : List Record) → AllAt e (numbered e rs)
all_at-numbered e [] = tt
all_at-numbered e (r ∷ rs) = (refl, all_at-numbered e rs)

length-numbered : (e : ℕ) (rs : List Record) → length (numbered e rs) ≡ length rs
length-numbered e [] = refl
length-numbered e (r ∷ rs) = ap suc (length-numbered e rs)

lawful_more : (base : Base) (g : Ghost) (s : State) (i : Name) (e : ℕ) (rs : List Record) → Good base g s → e ≡ s.clock.last + 1 → AllWait g s.actor (InGroup i) rs → 0 < length rs → length rs ≤ 64
    → ContinuesInGroups base e (s.clock.records ++ numbered e rs)
lawful_more base g s i e rs good next whole some few = record {
  groups = l.groups ++ numbered e rs ∷ [];
  are = joined-push l.groups (numbered e rs) ∙ ap (λ cs. cs ++ numbered e rs) l.are;
  grouped = grouped_more (base.epoch + 1) l.groups (numbered e rs) l.grouped (subst (λ n. AllAt n (numbered e rs)) (omega (arith, next, l.last_is)) (all_at-numbered e rs)) (rw length-numbered some) (rw length-numbered few);
  last_is = omega (arith, next, l.last_is, length-append l.groups (numbered e rs ∷ []));
  apart = λ r q in_r in_q ne early late v. by_place r q ne early late v (In-append r s.clock.records (numbered e rs) in_r) (In-append q s.clock.records (numbered e rs) in_q);
}
  where
    l : ContinuesInGroups base s.clock.last s.clock.records
    l = good.lawful

    old : (r : Record) → In r s.clock.records → r.epoch ≤ s.clock.last
    old r m = let lt = epoch_low r (base.epoch + 1) l.groups l.grouped (subst (In r) (sym l.are) m) in omega (arith, lt, l.last_is)

    by_place : (r q : Record) → r.tid ≢ q.tid → r.read < q.epoch → q.epoch ≤ r.epoch → (v : ℕ) → In r s.clock.records ⊎ In r (numbered e rs) → In q s.clock.records ⊎ In q (numbered e rs)
        → (changes_about v r.changes ≡ []) ⊎ (changes_about v q.changes ≡ [])
    by_place r q ne early late v (inl a) (inl b) = l.apart r q a b ne early late v
    by_place r q ne early late v (inl a) (inr b) =
        let f = from_group g s.actor (InGroup i) e q rs whole b in
        let lt = old r a in absurd (omega (arith, lt, f.epoch, next, late))
    by_place r q ne early late v (inr a) (inl b) =
        let f = from_group g s.actor (InGroup i) e r rs whole a in
        ⊎_elim
        (λ (none : changes_about v f.was.changes ≡ []). inl (ap (changes_about v) f.changes ∙ none))
        (λ (own : (s.row v).owner ≡ Some f.was.tid).
        let ok : Owned base g s.clock.records s.actor v (s.row v) f.was.tid = subst (λ (o : Option ℕ). RowOkBy o base g s.clock.records s.actor v (s.row v)) own (good.rows v) in
        let same : ok.txn ≡ f.waits.txn = some_is ok.txn f.waits.txn (sym ok.is ∙ f.waits.is) in
        let low : (s.row v).committed ≤ r.read = rw f.read (rw (← f.waits.read) (rw (← same) ok.read)) in
        ⊎_elim (λ (none : changes_about v q.changes ≡ []). inr none) (λ (le : q.epoch ≤ (s.row v).committed). absurd (omega (arith, low, le, early)))
        (old_low (s.row v).committed v f.was.tid q s.clock.records ok.fits.past_low b (λ z. ne (f.tid ∙ sym z))))
        (waits_on base g s (InGroup i) f.was v good f.waits)
    by_place r q ne early late v (inr a) (inr b) =
        let f = from_group g s.actor (InGroup i) e r rs whole a in
        let h = from_group g s.actor (InGroup i) e q rs whole b in
        ⊎_elim
        (λ (none : changes_about v f.was.changes ≡ []). inl (ap (changes_about v) f.changes ∙ none))
        (λ (own : (s.row v).owner ≡ Some f.was.tid). ⊎_elim
        (λ (none : changes_about v h.was.changes ≡ []). inr (ap (changes_about v) h.changes ∙ none))
        (λ (other : (s.row v).owner ≡ Some h.was.tid). absurd (ne (f.tid ∙ some_is f.was.tid h.was.tid (sym own ∙ other) ∙ sym h.tid)))
        (waits_on base g s (InGroup i) h.was v good h.waits))
        (waits_on base g s (InGroup i) f.was v good f.waits)

-- What an actor's transaction was before the publish.
pub record Was (rs : List Record) (d : Outcome) (o : Option Transaction) (z : Transaction) : Type 0 where
  pub txn : Transaction
  pub is : o ≡ Some txn
  pub now : (z ≡ txn) ⊎ ((has_record txn.tid rs ≡ true) × (z ≡ with_stage txn (Decided d)))

pub told_was : (d : Outcome) (rs : List Record) (o : Option Transaction) (z : Transaction) → told d rs o ≡ Some z → Was rs d o z
told_was d rs None z is = absurd (none_some z is)
told_was d rs (Some x) z is = by_has (has_record x.tid rs) refl
  where
    by_has : (b : Bool) → has_record x.tid rs ≡ b → Was rs d (Some x) z
    by_has true h = record { txn = x; is = refl; now = inr (h, sym (some_is (with_stage x (Decided d)) z (rw h at is))) }
    by_has false h = record { txn = x; is = refl; now = inl (sym (some_is x z (rw h at is))) }

pub told_same : (d : Outcome) (rs : List Record) (o : Option Transaction) (x : Transaction) → o ≡ Some x → has_record x.tid rs ≡ false → told d rs o ≡ Some x
told_same d rs o x is h = rw is (rw h refl)

-- and what it becomes
pub record Becomes (rs : List Record) (d : Outcome) (o : Option Transaction) (x : Transaction) : Type 0 where
  pub txn : Transaction
  pub is : told d rs o ≡ Some txn
  pub same : (w : ℕ) → Same w x txn

pub told_becomes : (d : Outcome) (rs : List Record) (o : Option Transaction) (x : Transaction) → o ≡ Some x → Becomes rs d o x
told_becomes d rs o x is = by_has (has_record x.tid rs) refl
  where
    by_has : (b : Bool) → has_record x.tid rs ≡ b → Becomes rs d o x
    by_has true h = record { txn = with_stage x (Decided d); is = rw is (rw h refl); same = λ w. record { tid = refl; read = refl; held = refl; own = refl } }
    by_has false h = record { txn = x; is = rw is (rw h refl); same = λ w. same_txn w x }

abbrev pub published_ghost : Ghost → List Record → ℕ → Ghost
published_ghost g rs e = record { who = g.who; drawer = g.drawer; place = λ t. if has_record t rs then InLog e else g.place t }

abbrev pub published_clock : Clock → List Record → ℕ → ℕ → Clock
published_clock k rs e m = record {
  next_tid = k.next_tid;
  next_vertex = k.next_vertex;
  last = e;
  visible = k.visible;
  rows = k.rows;
  queue = k.queue;
  pending = k.pending ++ pending_of e rs;
  outcomes = k.outcomes ++ settled_as (Committed e) rs;
  records = k.records ++ numbered e rs;
  moments = k.moments ++ m ∷ [];
}

pub publish_keeps : (base : Base) (g : Ghost) (s : State) (i : Name) (e m : ℕ) (rs : List Record) (a : Actor) → Good base g s → e ≡ s.clock.last + 1 → (s.actor i).group ≡ rs → a.txn ≡ told (Committed e) rs (s.actor i).txn → a.group ≡ [] → a.learnt ≡ (s.actor i).learnt → 0 < length rs
    → Good base (published_ghost g rs e) (record s { clock = published_clock s.clock rs e m; actor = set_name s.actor i a })
publish_keeps base g s i e m rs a good next group is empty learnt some = record {
  low = good.low;
  visible = (let b = good.visible in omega (arith, next));
  next_tid = good.next_tid;
  next_vertex = good.next_vertex;
  pending = all_above-append k.visible e k.pending (pending_of e rs) (all_above_up k.visible k.last e k.pending (omega (arith, next)) good.pending) (all_above-pending k.visible e rs (let b = good.visible in omega (arith, next)));
  records = all_records k.records good.records;
  recorded = λ t. has_record-append t k.records (numbered e rs) ∙ recorded_by t (has_record t rs) refl;
  outcomes = λ t. outcome_by t (has_record t rs) refl;
  nowhere = λ t up. outside t (not_in t (good.nowhere t up) nowhere_group (has_record t rs) refl) ∙ good.nowhere t up;
  before = λ t lt. outside t (not_in t (good.before t lt) nowhere_group (has_record t rs) refl) ∙ good.before t lt;
  queue = all_wait_map g h s.actor now InQueue InQueue k.queue (λ r wait. keep InQueue r wait (not_in r.tid wait.place queue_group (has_record r.tid rs) refl)) good.queue;
  groups = name_each (λ j (b : Actor). AllWait h now (InGroup j) b.group) s.actor i a
      (subst (AllWait h now (InGroup i)) (sym empty) tt)
      (λ j n. all_wait_map g h s.actor now (InGroup j) (InGroup j) (s.actor j).group (λ r wait. keep (InGroup j) r wait (not_in r.tid wait.place (λ q. n (group_is j i q)) (has_record r.tid rs) refl)) (good.groups j));
  txns = λ j z at. let w = was j z at in txn_ok j z w.txn w.is w.now;
  drawn = λ j z at v d. let w = was j z at in let u = good.drawn j w.txn w.is v (was_same j z w.txn v w.now d) in record { drawer = u.drawer; above = u.above; below = u.below; fresh = u.fresh };
  undrawn = good.undrawn;
  held = λ j z at v d. let w = was j z at in good.held j w.txn w.is v (was_holds z w.txn v w.now d) ∙ ap Some (was_tid z w.txn w.now);
  rows = λ w. row_ok (s.row w).owner w refl (good.rows w);
  active = λ t n has. let r = good.active t n has in let b = becomes (g.who t) r.txn r.is in record { txn = b.0; is = b.1; tid = (b.2 0).tid ∙ r.tid; read = (b.2 0).read ∙ r.read };
  learnt = name_each (λ j (b : Actor). LearntOk (published_clock k rs e m) b.learnt) s.actor i a (subst (LearntOk (published_clock k rs e m)) (sym learnt) (learnt_same (good.learnt i))) (λ j n. learnt_same (good.learnt j));
  short = name_each (λ j (b : Actor). length b.group ≤ 64) s.actor i a (rw empty (omega arith)) (λ j n. good.short j);
  lawful = lawful_more base g s i e rs good next whole some (rw (← group) (good.short i));
}
  where
    k : Clock
    k = s.clock

    h : Ghost
    h = published_ghost g rs e

    now : Name → Actor
    now = set_name s.actor i a

    learnt_same : {l : Learnt} → LearntOk s.clock l → LearntOk (published_clock k rs e m) l
    learnt_same ok = record { visible = ok.visible; reads = ok.reads; next = ok.next; tids = ok.tids }

    whole : AllWait g s.actor (InGroup i) rs
    whole = subst (AllWait g s.actor (InGroup i)) group (good.groups i)

    inside : (t : ℕ) → has_record t rs ≡ true → h.place t ≡ InLog e
    inside t is = rw is refl

    outside : (t : ℕ) → has_record t rs ≡ false → h.place t ≡ g.place t
    outside t is = rw is refl

    nowhere_group : Nowhere ≡ InGroup i → ⊥
    nowhere_group q = (cc)

    queue_group : InQueue ≡ InGroup i → ⊥
    queue_group q = (cc)

    group_is : (j l : Name) → InGroup j ≡ InGroup l → j ≡ l
    group_is j l q = (cc)

    not_in : (t : ℕ) {p : Place} → g.place t ≡ p → (p ≡ InGroup i → ⊥) → (b : Bool) → has_record t rs ≡ b → has_record t rs ≡ false
    not_in t is away true has = absurd (away (sym is ∙ wait_place g s.actor (InGroup i) rs t whole has))
    not_in t is away false has = has

    or_true : (b : Bool) → (b || true) ≡ true
    or_true true = refl
    or_true false = refl

    or_false : (b : Bool) → (b || false) ≡ b
    or_false true = refl
    or_false false = refl

    recorded_by : (t : ℕ) (b : Bool) → has_record t rs ≡ b → (has_record t k.records || has_record t (numbered e rs)) ≡ is_in_log (h.place t)
    recorded_by t true has = ap (λ b. has_record t k.records || b) (has_record-numbered e t rs ∙ has) ∙ or_true (has_record t k.records) ∙ ap is_in_log (sym (inside t has))
    recorded_by t false has = ap (λ b. has_record t k.records || b) (has_record-numbered e t rs ∙ has) ∙ or_false (has_record t k.records) ∙ good.recorded t ∙ ap is_in_log (sym (outside t has))

    outcome_by : (t : ℕ) (b : Bool) → has_record t rs ≡ b → outcome_of t (k.outcomes ++ settled_as (Committed e) rs) ≡ outcome_at (h.place t)
    outcome_by t true has =
        outcome_of-append t k.outcomes (settled_as (Committed e) rs) (good.outcomes t ∙ ap outcome_at (wait_place g s.actor (InGroup i) rs t whole has))
        ∙ outcome_of-settled (Committed e) t rs ∙ rw has refl
    outcome_by t false has = outcome_of-kept t k.outcomes (settled_as (Committed e) rs) (outcome_of-settled (Committed e) t rs ∙ rw has refl) ∙ good.outcomes t ∙ ap outcome_at (sym (outside t has))

    becomes : (j : Name) (x : Transaction) → (s.actor j).txn ≡ Some x → (y : Transaction) × ((now j).txn ≡ Some y) × ((w : ℕ) → Same w x y)
    becomes j x at = ⊎_elim
        (λ (q : j ≡ i). let b = told_becomes (Committed e) rs (s.actor i).txn x (ap (λ l. (s.actor l).txn) (sym q) ∙ at) in (b.txn, ap (λ (c : Actor). c.txn) (set_name_here s.actor i a j q) ∙ is ∙ b.is, b.same))
        (λ (n : j ≢ i). (x, ap (λ (c : Actor). c.txn) (set_name_there s.actor i a j n) ∙ at, λ w. same_txn w x))
        (cases_name j i)

    unmoved : (j : Name) (x : Transaction) → (s.actor j).txn ≡ Some x → has_record x.tid rs ≡ false → (now j).txn ≡ Some x
    unmoved j x at none = ⊎_elim
        (λ (q : j ≡ i). ap (λ (c : Actor). c.txn) (set_name_here s.actor i a j q) ∙ is ∙ told_same (Committed e) rs (s.actor i).txn x (ap (λ l. (s.actor l).txn) (sym q) ∙ at) none)
        (λ (n : j ≢ i). ap (λ (c : Actor). c.txn) (set_name_there s.actor i a j n) ∙ at)
        (cases_name j i)

    keep : (p : Place) (r : Record) → Waits g s.actor p r → has_record r.tid rs ≡ false → Waits h now p r
    keep p r wait none = record {
      txn = wait.txn;
      is = unmoved (g.who r.tid) wait.txn wait.is (ap (λ t. has_record t rs) wait.tid ∙ none);
      tid = wait.tid;
      read = wait.read;
      own = wait.own;
      stage = wait.stage;
      place = outside r.tid none ∙ wait.place;
    }

    row_ok : (o : Option ℕ) (w : ℕ) → (s.row w).owner ≡ o → RowOkBy o base g k.records s.actor w (s.row w) → RowOkBy o base h (k.records ++ numbered e rs) now w (s.row w)
    row_ok None w owner ok =
        subst (λ (past : List Past). RowFits base.epoch (root base w) past [] (s.row w))
        (sym (past_of-append k.records (numbered e rs) w None ∙ ap (λ l. past_of k.records w None ++ l) (free_part base g s (InGroup i) e w rs good whole owner) ∙ append-nil (past_of k.records w None))) ok
    row_ok (Some t) w owner ok =
        let parts = own_part base g s (InGroup i) e w t rs good whole owner in
        let now_txn = becomes (g.who t) ok.txn ok.is in
        let same = now_txn.2 w in
        let others : past_of (k.records ++ numbered e rs) w (Some t) ≡ past_of k.records w (Some t) = past_of-append k.records (numbered e rs) w (Some t) ∙ ap (λ l. past_of k.records w (Some t) ++ l) parts.others ∙ append-nil (past_of k.records w (Some t)) in
        record {
          txn = now_txn.0;
          is = now_txn.1;
          tid = same.tid ∙ ok.tid;
          held = same.held ∙ ok.held;
          read = rw same.read ok.read;
          last = past_of-append k.records (numbered e rs) w None ∙ (λ l. ok.last l ++ parts.mine l) ∙ append_assoc (past_of k.records w (Some t)) (part_of k.records w t) (part_of (numbered e rs) w t)
              ∙ (λ l. sym others l ++ sym (part_of-append k.records (numbered e rs) w t) l);
          fits = rw same.own (subst (λ (past : List Past). RowFits base.epoch (root base w) past (changes_about w ok.txn.own) (s.row w)) (sym others) ok.fits);
        }

    was : (j : Name) (z : Transaction) → (now j).txn ≡ Some z → Was rs (Committed e) (s.actor j).txn z
    was j z at = ⊎_elim
        (λ (q : j ≡ i). subst (λ l. Was rs (Committed e) (s.actor l).txn z) (sym q) (told_was (Committed e) rs (s.actor i).txn z (sym is ∙ ap (λ (c : Actor). c.txn) (sym (set_name_here s.actor i a j q)) ∙ at)))
        (λ (n : j ≢ i). record { txn = z; is = ap (λ (c : Actor). c.txn) (sym (set_name_there s.actor i a j n)) ∙ at; now = inl refl })
        (cases_name j i)

    was_same : (j : Name) (z x : Transaction) (v : ℕ) → (z ≡ x) ⊎ ((has_record x.tid rs ≡ true) × (z ≡ with_stage x (Decided (Committed e)))) → has_number v z.drawn ≡ true → has_number v x.drawn ≡ true
    was_same j z x v (inl q) d = ap (λ (y : Transaction). has_number v y.drawn) (sym q) ∙ d
    was_same j z x v (inr q) d = ap (λ (y : Transaction). has_number v y.drawn) (sym q.1) ∙ d

    was_holds : (z x : Transaction) (v : ℕ) → (z ≡ x) ⊎ ((has_record x.tid rs ≡ true) × (z ≡ with_stage x (Decided (Committed e)))) → holds z v ≡ true → holds x v ≡ true
    was_holds z x v (inl q) d = ap (λ (y : Transaction). holds y v) (sym q) ∙ d
    was_holds z x v (inr q) d = ap (λ (y : Transaction). holds y v) (sym q.1) ∙ d

    was_tid : (z x : Transaction) → (z ≡ x) ⊎ ((has_record x.tid rs ≡ true) × (z ≡ with_stage x (Decided (Committed e)))) → x.tid ≡ z.tid
    was_tid z x (inl q) = ap (λ (y : Transaction). y.tid) (sym q)
    was_tid z x (inr q) = ap (λ (y : Transaction). y.tid) (sym q.1)

    group_nowhere : InGroup i ≡ Nowhere → ⊥
    group_nowhere q = (cc)

    log_is : (m n : ℕ) → InLog m ≡ InLog n → m ≡ n
    log_is m n q = (cc)

    log_nowhere : InLog e ≡ Nowhere → ⊥
    log_nowhere q = (cc)

    -- a transaction whose record is not in the group
    txn_out : (j : Name) (x : Transaction) → TxnOk base g k j x → has_record x.tid rs ≡ false → TxnOk base h (published_clock k rs e m) j x
    txn_out j x ok none = record {
      who = ok.who;
      above = ok.above;
      below = ok.below;
      read_above = ok.read_above;
      read_below = ok.read_below;
      row = ok.row;
      touched = ok.touched;
      stage = subst (StageOk x.stage x.settled) (sym (outside x.tid none)) ok.stage;
      record_is = λ v. part_of-append k.records (numbered e rs) v x.tid ∙ ap (λ l. part_of k.records v x.tid ++ l) (no_part (numbered e rs) v x.tid (has_record-numbered e x.tid rs ∙ none)) ∙ append-nil (part_of k.records v x.tid)
          ∙ ok.record_is v ∙ ap (λ (p : Place). published p (changes_about v x.own)) (sym (outside x.tid none));
      pending = λ n at. has_active-append x.tid n k.pending (pending_of e rs) ∙ rw (ok.pending n (sym (outside x.tid none) ∙ at)) refl;
      later = λ n at. ok.later n (sym (outside x.tid none) ∙ at);
      recorded = λ n at. In-left _ k.records (numbered e rs) (ok.recorded n (sym (outside x.tid none) ∙ at));
    }

    -- and one whose record is
    txn_in : (j : Name) (x : Transaction) → (s.actor j).txn ≡ Some x → has_record x.tid rs ≡ true → (stage : Stage) → (stage ≡ x.stage) ⊎ (stage ≡ Decided (Committed e)) → TxnOk base h (published_clock k rs e m) j (with_stage x stage)
    txn_in j x at has stage which =
        let ok = good.txns j x at in
        let m = member_of g s.actor (InGroup i) e x.tid rs whole has in
        let same : m.waits.txn ≡ x = some_is m.waits.txn x (sym m.waits.is ∙ ap (λ l. (s.actor l).txn) (ap g.who m.tid ∙ ok.who) ∙ at) in
        let queued : x.stage ≡ Queued = ap (λ (y : Transaction). y.stage) (sym same) ∙ m.waits.stage in
        let own : m.member.changes ≡ x.own = sym m.waits.own ∙ ap (λ (y : Transaction). y.own) same in
        let place = inside x.tid has in
        record {
          who = ok.who;
          above = ok.above;
          below = ok.below;
          read_above = ok.read_above;
          read_below = ok.read_below;
          row = ok.row;
          touched = ok.touched;
          stage = ⊎_elim
              (λ (q : stage ≡ x.stage). subst (λ (y : Stage). StageOk y x.settled (h.place x.tid)) (sym (q ∙ queued)) (queued_stage x (g.place x.tid) queued ok.stage, λ n. log_nowhere (sym place ∙ n)))
              (λ (q : stage ≡ Decided (Committed e)). subst (λ (y : Stage). StageOk y x.settled (h.place x.tid)) (sym q) place)
              which;
          record_is = λ v.
              part_of-append k.records (numbered e rs) v x.tid
              ∙ (λ l. (ok.record_is v ∙ ap (λ (p : Place). published p (changes_about v x.own)) (wait_place g s.actor (InGroup i) rs x.tid whole has)) l ++ m.part v l)
              ∙ ap (λ (cs : List Change). stamped e (changes_about v cs)) own ∙ ap (λ (p : Place). published p (changes_about v x.own)) (sym place);
          pending = λ n is_n. has_active-append x.tid n k.pending (pending_of e rs) ∙ subst (λ f. (has_active x.tid f k.pending || has_active x.tid f (pending_of e rs)) ≡ true) (log_is e n (sym place ∙ is_n)) (rw (has_active-pending e x.tid rs has) (or_true (has_active x.tid e k.pending)));
          recorded = λ n is_n. let q = log_is e n (sym place ∙ is_n) in In-right _ k.records (numbered e rs) (subst (λ (r : Record). In r (numbered e rs)) (λ l. record { tid = m.tid l; read = (sym m.waits.read ∙ ap (λ (y : Transaction). y.read) same) l; epoch = q l; changes = own l }) (In-numbered e m.member rs m.among));
          later = λ n is_n. let q = log_is e n (sym place ∙ is_n) in let b = ok.read_below in let c = good.visible in omega (arith, q, next);
        }

    by_has : (j : Name) (x : Transaction) → (s.actor j).txn ≡ Some x → (b : Bool) → has_record x.tid rs ≡ b → TxnOk base h (published_clock k rs e m) j x
    by_has j x at true has = txn_in j x at has x.stage (inl refl)
    by_has j x at false has = txn_out j x (good.txns j x at) has

    txn_ok : (j : Name) (z x : Transaction) → (s.actor j).txn ≡ Some x → (z ≡ x) ⊎ ((has_record x.tid rs ≡ true) × (z ≡ with_stage x (Decided (Committed e)))) → TxnOk base h (published_clock k rs e m) j z
    txn_ok j z x at (inl q) = subst (TxnOk base h (published_clock k rs e m) j) (sym q) (by_has j x at (has_record x.tid rs) refl)
    txn_ok j z x at (inr q) = subst (TxnOk base h (published_clock k rs e m) j) (sym q.1) (txn_in j x at q.0 (Decided (Committed e)) (inr refl))

    new_records : (qs : List Record) → AllWait g s.actor (InGroup i) qs → ((t : ℕ) → has_record t qs ≡ true → h.place t ≡ InLog e) → RecordsOk base h k.next_tid (numbered e qs)
    new_records [] wait each = tt
    new_records (r ∷ qs) wait each =
        let ok = good.txns (g.who r.tid) wait.0.txn wait.0.is in
        let above : base.next_tid ≤ r.tid = rw (← wait.0.tid) ok.above in
        let below : r.tid < k.next_tid = rw (← wait.0.tid) ok.below in
        let low : base.epoch ≤ r.read = rw (← wait.0.read) ok.read_above in
        let high : r.read ≤ k.visible = rw (← wait.0.read) ok.read_below in
        (each r.tid (has_self r qs), above, below, low, (let c = good.visible in omega (arith, next)), has_record-numbered e r.tid qs ∙ wait.1, new_records qs wait.2 (λ t has. each t (has_more t r qs has)))

    log_group : (n : ℕ) → InLog n ≡ InGroup i → ⊥
    log_group n q = (cc)

    all_records : (cs : List Record) → RecordsOk base g k.next_tid cs → RecordsOk base h k.next_tid (cs ++ numbered e rs)
    all_records [] ok = new_records rs whole inside
    all_records (r ∷ cs) ok =
        let none = not_in r.tid ok.0 (log_group r.epoch) (has_record r.tid rs) refl in
        (outside r.tid none ∙ ok.0, ok.1, ok.2, ok.3, ok.4, has_record-append r.tid cs (numbered e rs) ∙ rw (ok.5, has_record-numbered e r.tid rs, none) refl, all_records cs ok.6)
