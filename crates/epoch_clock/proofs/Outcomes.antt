-- What the outcomes say of the transactions that run, as outcomes are kept and transactions begin and end.
use Rattle.std.proofs.Common.{ℕ, zero, suc, ◌≡◌, ◌≢◌, ◌+◌, ◌<◌, ◌≤◌, Bool, true, false, ◌||◌, List, [], ◌∷◌, ◌++◌, length, take, drop, Option, Some, None, refl, sym, ap, subst, ◌∙◌, arith, is_some, append_assoc, append-nil}
use Rattle.std.specs.Prelude.{if◌then◌else◌, ◌==◌, nat_eq}
use Rattle.std.proofs.lemmas.Bool.{cases_eq, eq-eqb, eqb-true, eqb-false, ne_eqb, or_parts, or_right, or_left, or_from, or_cases, false≢true}
use Rattle.std.proofs.lemmas.Bool.Decides.{nat_tests}
use Rattle.graph_model.specs.declared.record.Record.{Record}
use Rattle.graph_model.specs.declared.record.Outcome.{Outcome}
use Rattle.graph_model.specs.declared.record.Outcome.TheVariants.{Committed, Failed}
use Rattle.group_commit.specs.Encoded.{Encoded}
use Rattle.group_commit.specs.Members.{records_at}
use Rattle.commit_queue.specs.KeptOutcomes.{outcome_of as outcome_in, has_member, kept_for, AllNew}
use Rattle.core_states.specs.declared.clock.Active.{Active}
use Rattle.core_states.specs.declared.clock.KeptOutcome.{KeptOutcome}
use Rattle.core_states.specs.Numbers.{outcome_of, has_record, settled_as, pending_of, numbered, without_active}
use Rattle.epoch_clock.specs.ActiveRows.{Falling, is_running}
use Rattle.epoch_clock.specs.Decided.{outcomes_of, undone_by, undone_of, undecided, KeptOnce, Awaited, is_lost, count_at}
use Rattle.epoch_clock.proofs.Rows.{not_running, without_absent, without_there}

-- the same outcomes, in pairs
eq_swapped : (a b : ℕ) → (a == b) ≡ (b == a)
eq_swapped a b = grind (arith, nat_tests)

pub outcome_paired : (t : ℕ) (kept : List (ℕ × Outcome)) → outcome_in t kept ≡ outcome_of t (outcomes_of kept)
outcome_paired t [] = refl
outcome_paired t (x ∷ kept) = (λ i. if eq_swapped t x.0 i then Some x.1 else outcome_paired t kept i)

pub outcomes_append : (xs ys : List (ℕ × Outcome)) → outcomes_of (xs ++ ys) ≡ outcomes_of xs ++ outcomes_of ys
outcomes_append [] ys = refl
outcomes_append (x ∷ xs) ys = ap (λ (l : List KeptOutcome). record { tid = x.0; outcome = x.1 } ∷ l) (outcomes_append xs ys)

pub outcomes_for : (o : Outcome) (ms : List Encoded) → outcomes_of (kept_for o ms) ≡ settled_as o (records_at 0 ms)
outcomes_for o [] = refl
outcomes_for o (m ∷ ms) = ap (λ (l : List KeptOutcome). record { tid = m.draft.tid; outcome = o } ∷ l) (outcomes_for o ms)

-- the same records, with their epoch
pub records_numbered : (e : ℕ) (ms : List Encoded) → records_at e ms ≡ numbered e (records_at 0 ms)
records_numbered e [] = refl
records_numbered e (m ∷ ms) = ap (λ (l : List Record). (let r = m.draft in record r { epoch = e }) ∷ l) (records_numbered e ms)

member_record : (t : ℕ) (ms : List Encoded) → has_member t ms ≡ has_record t (records_at 0 ms)
member_record t [] = refl
member_record t (m ∷ ms) = ap (λ (b : Bool). nat_eq m.draft.tid t || b) (member_record t ms)

has_record-append : (t : ℕ) (xs ys : List Record) → has_record t (xs ++ ys) ≡ (has_record t xs || has_record t ys)
has_record-append t [] ys = refl
has_record-append t (x ∷ xs) ys = ap (λ (b : Bool). (x.tid == t) || b) (has_record-append t xs ys) ∙ or_assoc (x.tid == t) (has_record t xs) (has_record t ys)
  where
    or_assoc : (a b c : Bool) → (a || (b || c)) ≡ ((a || b) || c)
    or_assoc true b c = refl
    or_assoc false b c = refl

pub all_new : (rows : List Active) (kept : List (ℕ × Outcome)) (ms : List Encoded) (rest : List Record) → Awaited rows (outcomes_of kept) (records_at 0 ms ++ rest) → AllNew ms kept
all_new rows kept [] rest h = tt
all_new rows kept (m ∷ ms) rest h = (
  outcome_paired m.draft.tid kept ∙ h.1,
  member_record m.draft.tid ms ∙ (or_parts (has_record m.draft.tid (records_at 0 ms)) (has_record m.draft.tid rest) (sym (has_record-append m.draft.tid (records_at 0 ms) rest) ∙ h.2)).0,
  all_new rows kept ms rest h.3,
)

-- one outcome more
outcome_push : (t u : ℕ) (o : Outcome) (kept : List KeptOutcome) → t ≢ u → outcome_of u (kept ++ record { tid = t; outcome = o } ∷ []) ≡ outcome_of u kept
outcome_push t u o [] ne = rw (ne_eqb t u ne) refl
outcome_push t u o (x ∷ kept) ne = ap (λ (r : Option Outcome). if x.tid == u then Some x.outcome else r) (outcome_push t u o kept ne)

pub outcome_pushed : (t : ℕ) (o : Outcome) (kept : List KeptOutcome) → outcome_of t kept ≡ None → outcome_of t (kept ++ record { tid = t; outcome = o } ∷ []) ≡ Some o
outcome_pushed t o [] none = rw (eq-eqb t t refl) refl
outcome_pushed t o (x ∷ kept) none = by (x.tid == t) none (outcome_pushed t o kept)
  where
    by : (b : Bool) → (if b then Some x.outcome else outcome_of t kept) ≡ None → (outcome_of t kept ≡ None → outcome_of t (kept ++ record { tid = t; outcome = o } ∷ []) ≡ Some o)
        → (if b then Some x.outcome else outcome_of t (kept ++ record { tid = t; outcome = o } ∷ [])) ≡ Some o
    by true h ih = absurd (let e : ⊥ = (cc) in e)
    by false h ih = ih h

once_push : (t : ℕ) (o : Outcome) (kept : List KeptOutcome) → outcome_of t kept ≡ None → KeptOnce kept → KeptOnce (kept ++ record { tid = t; outcome = o } ∷ [])
once_push t o [] none once = (refl, tt)
once_push t o (x ∷ kept) none once = by (x.tid == t) refl none (once_push t o kept)
  where
    by : (b : Bool) → (x.tid == t) ≡ b → (if b then Some x.outcome else outcome_of t kept) ≡ None → (outcome_of t kept ≡ None → KeptOnce kept → KeptOnce (kept ++ record { tid = t; outcome = o } ∷ []))
        → KeptOnce ((x ∷ kept) ++ record { tid = t; outcome = o } ∷ [])
    by true e h ih = absurd (let e : ⊥ = (cc) in e)
    by false e h ih = (outcome_push t x.tid o kept (λ same. eqb-false x.tid t e (sym same)) ∙ once.0, ih h once.1)

-- a transaction that does not run counts for nothing
undecided_push_other : (t : ℕ) (o : Outcome) (kept : List KeptOutcome) (rows : List Active) → is_running t rows ≡ false → undecided (kept ++ record { tid = t; outcome = o } ∷ []) rows ≡ undecided kept rows
undecided_push_other t o kept [] no_one = refl
undecided_push_other t o kept (x ∷ rows) no_one =
    let parts = or_parts (x.tid == t) (is_running t rows) no_one in
    let e = outcome_push t x.tid o kept (λ same. eqb-false x.tid t parts.0 (sym same)) in
    let ih = undecided_push_other t o kept rows parts.1 in
    λ i. if is_some (e i) then ih i else suc (ih i)

undecided_push : (n t : ℕ) (o : Outcome) (kept : List KeptOutcome) (rows : List Active) → Falling n rows → is_running t rows ≡ true → outcome_of t kept ≡ None
    → suc (undecided (kept ++ record { tid = t; outcome = o } ∷ []) rows) ≡ undecided kept rows
undecided_push n t o kept [] falls runs none = absurd (false≢true runs)
undecided_push n t o kept (x ∷ rows) falls runs none = by (x.tid == t) refl runs (λ more. undecided_push x.tid t o kept rows falls.1 more none)
  where
    more : List KeptOutcome
    more = kept ++ record { tid = t; outcome = o } ∷ []

    by : (b : Bool) → (x.tid == t) ≡ b → (b || is_running t rows) ≡ true → (is_running t rows ≡ true → suc (undecided (kept ++ record { tid = t; outcome = o } ∷ []) rows) ≡ undecided kept rows)
        → suc (undecided (kept ++ record { tid = t; outcome = o } ∷ []) (x ∷ rows)) ≡ undecided kept (x ∷ rows)
    by true e h ih =
        let same = eqb-true x.tid t e in
        let none_x : outcome_of x.tid kept ≡ None = subst (λ (v : ℕ). outcome_of v kept ≡ None) (sym same) none in
        let some_x : outcome_of x.tid (kept ++ record { tid = t; outcome = o } ∷ []) ≡ Some o =
        subst (λ (v : ℕ). outcome_of v (kept ++ record { tid = t; outcome = o } ∷ []) ≡ Some o) (sym same) (outcome_pushed t o kept none) in
        let rest = undecided_push_other t o kept rows (not_running x.tid t rows (let s = same in omega arith) falls.1) in
        rw (some_x, none_x) (ap suc rest)
    by false e h ih =
        let o_x = outcome_push t x.tid o kept (λ same. eqb-false x.tid t e (sym same)) in
        rw o_x (one (is_some (outcome_of x.tid kept)) (ih h))
      where
        one : (b : Bool) → suc (undecided (kept ++ record { tid = t; outcome = o } ∷ []) rows) ≡ undecided kept rows
            → suc (if b then undecided (kept ++ record { tid = t; outcome = o } ∷ []) rows else suc (undecided (kept ++ record { tid = t; outcome = o } ∷ []) rows)) ≡ (if b then undecided kept rows else suc (undecided kept rows))
        one true ih = ih
        one false ih = ap suc ih

awaited_push : (t : ℕ) (o : Outcome) (rows : List Active) (kept : List KeptOutcome) (rs : List Record) → has_record t rs ≡ false → Awaited rows kept rs
    → Awaited rows (kept ++ record { tid = t; outcome = o } ∷ []) rs
awaited_push t o rows kept [] other h = tt
awaited_push t o rows kept (r ∷ rs) other h =
    let parts = or_parts (r.tid == t) (has_record t rs) other in
    (h.0, outcome_push t r.tid o kept (λ same. eqb-false r.tid t parts.0 (sym same)) ∙ h.1, h.2, awaited_push t o rows kept rs parts.1 h.3)

pub running_below : (n t : ℕ) (rows : List Active) → Falling n rows → is_running t rows ≡ true → t < n
running_below n t [] falls runs = absurd (false≢true runs)
running_below n t (x ∷ rows) falls runs = by (x.tid == t) refl runs (running_below x.tid t rows falls.1)
  where
    by : (b : Bool) → (x.tid == t) ≡ b → (b || is_running t rows) ≡ true → (is_running t rows ≡ true → t < x.tid) → t < n
    by true e h ih = let same = eqb-true x.tid t e in let a = falls.0 in omega arith
    by false e h ih = let lt = ih h in let a = falls.0 in omega arith

-- What is known of the outcomes, the transactions that run, and records whose transactions wait.
pub record Ordered (n : ℕ) (rows : List Active) (kept : List KeptOutcome) (rs : List Record) : Type 0 where
  pub once : KeptOnce kept
  pub drawn : (t : ℕ) → n ≤ t → outcome_of t kept ≡ None
  pub awaited : Awaited rows kept rs

-- a group has its outcome
pub settled : (n : ℕ) (o : Outcome) (rows : List Active) → Falling n rows → (group rest : List Record) (kept : List KeptOutcome) → Ordered n rows kept (group ++ rest)
    → Ordered n rows (kept ++ settled_as o group) rest × (undecided (kept ++ settled_as o group) rows + length group ≡ undecided kept rows)
settled n o rows falls [] rest kept h =
    subst (λ (k : List KeptOutcome). Ordered n rows k rest × (undecided k rows + 0 ≡ undecided kept rows)) (sym (append-nil kept)) (h, omega arith)
settled n o rows falls (r ∷ group) rest kept h =
    let more : List KeptOutcome = kept ++ record { tid = r.tid; outcome = o } ∷ [] in
    let below = running_below n r.tid rows falls h.awaited.0 in
    let next : Ordered n rows (kept ++ record { tid = r.tid; outcome = o } ∷ []) (group ++ rest) = record {
      once = once_push r.tid o kept h.awaited.1 h.once;
      drawn = λ t above. outcome_push r.tid t o kept (λ same. omega arith) ∙ h.drawn t above;
      awaited = awaited_push r.tid o rows kept (group ++ rest) h.awaited.2 h.awaited.3;
    } in
    let ih = settled n o rows falls group rest (kept ++ record { tid = r.tid; outcome = o } ∷ []) next in
    let one = undecided_push n r.tid o kept rows falls h.awaited.0 h.awaited.1 in
    let same = append_assoc kept (record { tid = r.tid; outcome = o } ∷ []) (settled_as o group) in
    subst (λ (k : List KeptOutcome). Ordered n rows k rest × (undecided k rows + suc (length group) ≡ undecided kept rows)) same (ih.0, (let e = ih.1 in omega arith))

-- so no more records wait than transactions have no outcome
pub few_awaited : (n : ℕ) (rows : List Active) (kept : List KeptOutcome) (rs : List Record) → Falling n rows → Ordered n rows kept rs → length rs ≤ undecided kept rows
few_awaited n rows kept rs falls h =
    let s = settled n (Committed 0) rows falls rs [] kept (record { once = h.once; drawn = h.drawn; awaited = subst (Awaited rows kept) (sym (append-nil rs)) h.awaited }) in
    let e = s.1 in omega arith

-- a record waits behind others
pub awaited_more : (r : Record) (rows : List Active) (kept : List KeptOutcome) (rs : List Record) → is_running r.tid rows ≡ true → outcome_of r.tid kept ≡ None → has_record r.tid rs ≡ false
    → Awaited rows kept rs → Awaited rows kept (rs ++ r ∷ [])
awaited_more r rows kept [] runs none other h = (runs, none, refl, tt)
awaited_more r rows kept (x ∷ rs) runs none other h =
    let parts = or_parts (x.tid == r.tid) (has_record r.tid rs) other in (
      h.0,
      h.1,
      has_record-append x.tid rs (r ∷ []) ∙ or_from (has_record x.tid rs) (has_record x.tid (r ∷ [])) h.2 (or_from (r.tid == x.tid) false (ne_eqb r.tid x.tid (λ same. eqb-false x.tid r.tid parts.0 (sym same))) refl),
      awaited_more r rows kept rs runs none parts.1 h.3,
    )

-- the first ones wait no more
pub awaited_less : (n : ℕ) (rows : List Active) (kept : List KeptOutcome) (rs : List Record) → Awaited rows kept rs → Awaited rows kept (drop n rs)
awaited_less zero rows kept rs h = h
awaited_less (suc n) rows kept [] h = tt
awaited_less (suc n) rows kept (r ∷ rs) h = awaited_less n rows kept rs h.3

-- a transaction begins
pub awaited_begun : (x : Active) (rows : List Active) (kept : List KeptOutcome) (rs : List Record) → Awaited rows kept rs → Awaited (x ∷ rows) kept rs
awaited_begun x rows kept [] h = tt
awaited_begun x rows kept (r ∷ rs) h = (or_right (x.tid == r.tid) (is_running r.tid rows) h.0, h.1, h.2, awaited_begun x rows kept rs h.3)

running_without : (t u : ℕ) (rows : List Active) → u ≢ t → is_running u (without_active t rows) ≡ is_running u rows
running_without t u [] ne = refl
running_without t u (x ∷ rows) ne = by (x.tid == t) refl (running_without t u rows ne)
  where
    by : (b : Bool) → (x.tid == t) ≡ b → is_running u (without_active t rows) ≡ is_running u rows → is_running u (if b then without_active t rows else x ∷ without_active t rows) ≡ is_running u (x ∷ rows)
    by true e ih = let same = eqb-true x.tid t e in ih ∙ sym (ap (λ (b : Bool). b || is_running u rows) (ne_eqb x.tid u (λ (s : x.tid ≡ u). ne (sym s ∙ same))))
    by false e ih = ap (λ (b : Bool). (x.tid == u) || b) ih

without_gone : (t : ℕ) (rows : List Active) → is_running t (without_active t rows) ≡ false
without_gone t [] = refl
without_gone t (x ∷ rows) = by (x.tid == t) refl (without_gone t rows)
  where
    by : (b : Bool) → (x.tid == t) ≡ b → is_running t (without_active t rows) ≡ false → is_running t (if b then without_active t rows else x ∷ without_active t rows) ≡ false
    by true e ih = ih
    by false e ih = or_from (x.tid == t) (is_running t (without_active t rows)) e ih

-- a transaction ends that does not wait
pub awaited_ended : (t : ℕ) (rows : List Active) (kept : List KeptOutcome) (rs : List Record) → has_record t rs ≡ false → Awaited rows kept rs → Awaited (without_active t rows) kept rs
awaited_ended t rows kept [] other h = tt
awaited_ended t rows kept (r ∷ rs) other h =
    let parts = or_parts (r.tid == t) (has_record t rs) other in
    (running_without t r.tid rows (eqb-false r.tid t parts.0) ∙ h.0, h.1, h.2, awaited_ended t rows kept rs parts.1 h.3)

-- one that has an outcome does not wait
pub not_awaited : (t : ℕ) (rows : List Active) (kept : List KeptOutcome) (rs : List Record) → is_some (outcome_of t kept) ≡ true → Awaited rows kept rs → has_record t rs ≡ false
not_awaited t rows kept [] some_one h = refl
not_awaited t rows kept (r ∷ rs) some_one h =
    or_from (r.tid == t) (has_record t rs)
    (ne_eqb r.tid t (λ (same : r.tid ≡ t). false≢true (ap is_some (sym (subst (λ (v : ℕ). outcome_of v kept ≡ None) same h.1)) ∙ some_one)))
    (not_awaited t rows kept rs some_one h.3)

-- how many have no outcome, as one ends that has one, or that has none
pub undecided_ended_some : (t : ℕ) (kept : List KeptOutcome) (rows : List Active) → is_some (outcome_of t kept) ≡ true → undecided kept (without_active t rows) ≡ undecided kept rows
undecided_ended_some t kept [] some_one = refl
undecided_ended_some t kept (x ∷ rows) some_one = by (x.tid == t) refl (undecided_ended_some t kept rows some_one)
  where
    by : (b : Bool) → (x.tid == t) ≡ b → undecided kept (without_active t rows) ≡ undecided kept rows
        → undecided kept (if b then without_active t rows else x ∷ without_active t rows) ≡ undecided kept (x ∷ rows)
    by true e ih = let s : is_some (outcome_of x.tid kept) ≡ true = subst (λ (v : ℕ). is_some (outcome_of v kept) ≡ true) (sym (eqb-true x.tid t e)) some_one in rw s ih
    by false e ih = λ i. if is_some (outcome_of x.tid kept) then ih i else suc (ih i)

pub undecided_ended_none : (n t : ℕ) (kept : List KeptOutcome) (rows : List Active) → Falling n rows → is_running t rows ≡ true → outcome_of t kept ≡ None
    → suc (undecided kept (without_active t rows)) ≡ undecided kept rows
undecided_ended_none n t kept [] falls runs none = absurd (false≢true runs)
undecided_ended_none n t kept (x ∷ rows) falls runs none = by (x.tid == t) refl runs (λ more. undecided_ended_none x.tid t kept rows falls.1 more none)
  where
    one : (b : Bool) → suc (undecided kept (without_active t rows)) ≡ undecided kept rows
        → suc (if b then undecided kept (without_active t rows) else suc (undecided kept (without_active t rows))) ≡ (if b then undecided kept rows else suc (undecided kept rows))
    one true ih = ih
    one false ih = ap suc ih

    by : (b : Bool) → (x.tid == t) ≡ b → (b || is_running t rows) ≡ true → (is_running t rows ≡ true → suc (undecided kept (without_active t rows)) ≡ undecided kept rows)
        → suc (undecided kept (if b then without_active t rows else x ∷ without_active t rows)) ≡ undecided kept (x ∷ rows)
    by true e h ih =
        let same = eqb-true x.tid t e in
        let none_x : outcome_of x.tid kept ≡ None = subst (λ (v : ℕ). outcome_of v kept ≡ None) (sym same) none in
        rw none_x (ap (λ (l : List Active). suc (undecided kept l)) (without_absent t rows (not_running x.tid t rows (omega arith) falls.1)))
    by false e h ih = one (is_some (outcome_of x.tid kept)) (ih h)

-- The published records that are not done.
pub undone_append : (xs ys : List KeptOutcome) (rows : List Active) → undone_of (xs ++ ys) rows ≡ undone_of xs rows ++ undone_of ys rows
undone_append [] ys rows = refl
undone_append (x ∷ xs) ys rows = by x.outcome (is_running x.tid rows) (undone_append xs ys rows)
  where
    by : (o : Outcome) (b : Bool) → undone_of (xs ++ ys) rows ≡ undone_of xs rows ++ undone_of ys rows → undone_by o x.tid b (undone_of (xs ++ ys) rows) ≡ undone_by o x.tid b (undone_of xs rows) ++ undone_of ys rows
    by (Committed e) true ih = ap (λ (l : List Active). record { tid = x.tid; epoch = e } ∷ l) ih
    by (Committed e) false ih = ih
    by (Failed before after) b ih = ih

pub undone_published : (e : ℕ) (rows : List Active) (kept : List KeptOutcome) (group rest : List Record) → Awaited rows kept (group ++ rest) → undone_of (settled_as (Committed e) group) rows ≡ pending_of e group
undone_published e rows kept [] rest h = refl
undone_published e rows kept (r ∷ group) rest h = rw h.0 (ap (λ (l : List Active). record { tid = r.tid; epoch = e } ∷ l) (undone_published e rows kept group rest h.3))

pub undone_failed : (before after : ℕ) (rows : List Active) (group : List Record) → undone_of (settled_as (Failed before after) group) rows ≡ []
undone_failed before after rows [] = refl
undone_failed before after rows (r ∷ group) = undone_failed before after rows group

-- a transaction that begins has no outcome
pub undone_begun : (x : Active) (kept : List KeptOutcome) (rows : List Active) → outcome_of x.tid kept ≡ None → undone_of kept (x ∷ rows) ≡ undone_of kept rows
undone_begun x [] rows none = refl
undone_begun x (k ∷ kept) rows none = by (k.tid == x.tid) refl none (undone_begun x kept rows)
  where
    by : (b : Bool) → (k.tid == x.tid) ≡ b → (if b then Some k.outcome else outcome_of x.tid kept) ≡ None → (outcome_of x.tid kept ≡ None → undone_of kept (x ∷ rows) ≡ undone_of kept rows)
        → undone_of (k ∷ kept) (x ∷ rows) ≡ undone_of (k ∷ kept) rows
    by true e h ih = absurd (let e : ⊥ = (cc) in e)
    by false e h ih =
        let other = ne_eqb x.tid k.tid (λ (same : x.tid ≡ k.tid). eqb-false k.tid x.tid e (sym same)) in
        λ i. undone_by k.outcome k.tid (other i || is_running k.tid rows) (ih h i)

-- one that ends leaves them
pub undone_ended : (t : ℕ) (kept : List KeptOutcome) (rows : List Active) → undone_of kept (without_active t rows) ≡ without_active t (undone_of kept rows)
undone_ended t [] rows = refl
undone_ended t (k ∷ kept) rows = by (k.tid == t) refl (undone_ended t kept rows)
  where
    gone : (o : Outcome) (b : Bool) → (k.tid == t) ≡ true → without_active t (undone_of kept rows) ≡ without_active t (undone_by o k.tid b (undone_of kept rows))
    gone (Committed e) true q = rw q refl
    gone (Committed e) false q = refl
    gone (Failed before after) b q = refl

    stays : (o : Outcome) (b : Bool) → (k.tid == t) ≡ false → undone_by o k.tid b (without_active t (undone_of kept rows)) ≡ without_active t (undone_by o k.tid b (undone_of kept rows))
    stays (Committed e) true q = rw q refl
    stays (Committed e) false q = refl
    stays (Failed before after) b q = refl

    drops : (o : Outcome) (l : List Active) → undone_by o k.tid false l ≡ l
    drops (Committed e) l = refl
    drops (Failed before after) l = refl

    by : (b : Bool) → (k.tid == t) ≡ b → undone_of kept (without_active t rows) ≡ without_active t (undone_of kept rows)
        → undone_by k.outcome k.tid (is_running k.tid (without_active t rows)) (undone_of kept (without_active t rows)) ≡ without_active t (undone_by k.outcome k.tid (is_running k.tid rows) (undone_of kept rows))
    by true e ih =
        let none : is_running k.tid (without_active t rows) ≡ false = subst (λ (v : ℕ). is_running v (without_active t rows) ≡ false) (sym (eqb-true k.tid t e)) (without_gone t rows) in
        (λ i. undone_by k.outcome k.tid (none i) (ih i)) ∙ drops k.outcome (without_active t (undone_of kept rows)) ∙ gone k.outcome (is_running k.tid rows) e
    by false e ih =
        (λ i. undone_by k.outcome k.tid (running_without t k.tid rows (eqb-false k.tid t e) i) (ih i)) ∙ stays k.outcome (is_running k.tid rows) e

-- one that has no outcome has no record that is published
undone_none : (t : ℕ) (kept : List KeptOutcome) (rows : List Active) → outcome_of t kept ≡ None → is_running t (undone_of kept rows) ≡ false
undone_none t [] rows none = refl
undone_none t (k ∷ kept) rows none = by (k.tid == t) refl none (undone_none t kept rows)
  where
    other : (o : Outcome) (b : Bool) → (k.tid == t) ≡ false → is_running t (undone_of kept rows) ≡ false → is_running t (undone_by o k.tid b (undone_of kept rows)) ≡ false
    other (Committed e) true q h = or_from (k.tid == t) (is_running t (undone_of kept rows)) q h
    other (Committed e) false q h = h
    other (Failed before after) b q h = h

    by : (b : Bool) → (k.tid == t) ≡ b → (if b then Some k.outcome else outcome_of t kept) ≡ None → (outcome_of t kept ≡ None → is_running t (undone_of kept rows) ≡ false)
        → is_running t (undone_of (k ∷ kept) rows) ≡ false
    by true e h ih = absurd (let e : ⊥ = (cc) in e)
    by false e h ih = other k.outcome (is_running k.tid rows) e (ih h)

-- What is known of a published record that is not done: its epoch, and how the counts change without it.
pub record IsUndone (t : ℕ) (kept : List KeptOutcome) (pending : List Active) : Type 0 where
  pub epoch : ℕ
  pub is : outcome_of t kept ≡ Some (Committed epoch)
  pub counts : (f : ℕ) → count_at f (without_active t pending) + (if epoch == f then 1 else 0) ≡ count_at f pending

pub undone_is : (t : ℕ) (kept : List KeptOutcome) (rows : List Active) → KeptOnce kept → is_running t (undone_of kept rows) ≡ true → IsUndone t kept (undone_of kept rows)
undone_is t [] rows once runs = absurd (false≢true runs)
undone_is t (k ∷ kept) rows once runs = by (k.tid == t) refl (λ more. undone_is t kept rows once.1 more)
  where
    here : (o : Outcome) (b : Bool) → k.outcome ≡ o → (k.tid == t) ≡ true → is_running t (undone_by o k.tid b (undone_of kept rows)) ≡ true → IsUndone t (k ∷ kept) (undone_by o k.tid b (undone_of kept rows))
    here (Committed e) true q same h = record {
      epoch = e;
      is = rw same (ap (λ (o : Outcome). Some o) q);
      counts = λ f. (
          let gone : without_active t (record { tid = k.tid; epoch = e } ∷ undone_of kept rows) ≡ undone_of kept rows =
          rw same (without_absent t (undone_of kept rows) (undone_none t kept rows (subst (λ (v : ℕ). outcome_of v kept ≡ None) (eqb-true k.tid t same) once.0))) in
          ap (λ (l : List Active). count_at f l + (if e == f then 1 else 0)) gone ∙ one (e == f) (count_at f (undone_of kept rows)));
    }
      where
        one : (b : Bool) (n : ℕ) → n + (if b then 1 else 0) ≡ (if b then suc n else n)
        one true n = omega arith
        one false n = omega arith
    here (Committed e) false q same h =
        absurd (false≢true (sym (undone_none t kept rows (subst (λ (v : ℕ). outcome_of v kept ≡ None) (eqb-true k.tid t same) once.0)) ∙ h))
    here (Failed before after) b q same h =
        absurd (false≢true (sym (undone_none t kept rows (subst (λ (v : ℕ). outcome_of v kept ≡ None) (eqb-true k.tid t same) once.0)) ∙ h))

    put : (e : ℕ) → (k.tid == t) ≡ false → IsUndone t kept (undone_of kept rows) → IsUndone t (k ∷ kept) (record { tid = k.tid; epoch = e } ∷ undone_of kept rows)
    put e other u = record {
      epoch = u.epoch;
      is = rw other u.is;
      counts = λ f. (
          let stays : without_active t (record { tid = k.tid; epoch = e } ∷ undone_of kept rows) ≡ record { tid = k.tid; epoch = e } ∷ without_active t (undone_of kept rows) = rw other refl in
          ap (λ (l : List Active). count_at f l + (if u.epoch == f then 1 else 0)) stays
          ∙ one (e == f) (count_at f (without_active t (undone_of kept rows))) (if u.epoch == f then 1 else 0) (count_at f (undone_of kept rows)) (u.counts f));
    }
      where
        one : (b : Bool) (n m s : ℕ) → n + m ≡ s → (if b then suc n else n) + m ≡ (if b then suc s else s)
        one true n m s e = omega arith
        one false n m s e = e

    pass : (k.tid == t) ≡ false → IsUndone t kept (undone_of kept rows) → IsUndone t (k ∷ kept) (undone_of kept rows)
    pass other u = record { epoch = u.epoch; is = rw other u.is; counts = u.counts }

    there : (o : Outcome) (b : Bool) → (k.tid == t) ≡ false → is_running t (undone_by o k.tid b (undone_of kept rows)) ≡ true → (is_running t (undone_of kept rows) ≡ true → IsUndone t kept (undone_of kept rows))
        → IsUndone t (k ∷ kept) (undone_by o k.tid b (undone_of kept rows))
    there (Committed e) true other h ih = put e other (ih (sym (ap (λ (c : Bool). c || is_running t (undone_of kept rows)) other) ∙ h))
    there (Committed e) false other h ih = pass other (ih h)
    there (Failed before after) b other h ih = pass other (ih h)

    by : (b : Bool) → (k.tid == t) ≡ b → (is_running t (undone_of kept rows) ≡ true → IsUndone t kept (undone_of kept rows)) → IsUndone t (k ∷ kept) (undone_of (k ∷ kept) rows)
    by true e ih = here k.outcome (is_running k.tid rows) refl e runs
    by false e ih = there k.outcome (is_running k.tid rows) e runs ih

-- so one that has no published record leaves none
pub undone_lost : (t : ℕ) (kept : List KeptOutcome) (rows : List Active) → KeptOnce kept → is_lost (outcome_of t kept) ≡ true → undone_of kept (without_active t rows) ≡ undone_of kept rows
undone_lost t kept rows once lost = undone_ended t kept rows ∙ without_absent t (undone_of kept rows) (by (is_running t (undone_of kept rows)) refl)
  where
    by : (b : Bool) → is_running t (undone_of kept rows) ≡ b → is_running t (undone_of kept rows) ≡ false
    by false e = e
    by true e = let u = undone_is t kept rows once e in absurd (false≢true (sym (ap is_lost u.is) ∙ lost))
