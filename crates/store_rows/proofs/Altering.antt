-- A change of a session at a row, and the session afterwards.
use Rattle.std.proofs.Common.{arith, ◌≡◌, ◌≢◌, ℕ, ◌+◌, ◌-◌, ◌≤◌, Bool, true, false, ◌||◌, List, [], ◌∷◌, ◌++◌, take, refl, sym, ap, ◌∙◌, ◌⊎◌, inl, inr, Option, Some, None, is_some}
use Rattle.std.proofs.lemmas.List.Sums.{sum_by_push}
use Rattle.std.proofs.lemmas.Bool.Decides.{nat_tests}
use Rattle.std.proofs.lemmas.Bool.{cases_eq, eq-eqb, ne_eqb, false≢true}
use Rattle.std.specs.Prelude.{not, nat_eq, nat_lt, ◌==◌, if◌then◌else◌}
use Rattle.graph_model.specs.declared.change.Change.{Change}
use Rattle.graph_model.specs.declared.change.Change.TheVariants.{New, Set, Drop, Put, Del}
use Rattle.graph_model.specs.Change.{vertex_of, encoded_len, encoded_lens}
use Rattle.graph_model.specs.Places.{changes_about}
use Rattle.graph_model.specs.Records.{transaction_most, has_destination}
use Rattle.vertex_locks.specs.declared.answer.Look.{Look}
use Rattle.vertex_locks.specs.declared.answer.Look.TheVariants.{Taken, Held, Conflict}
use Rattle.core_rows.specs.Rows.{Row, lock_answer}
use Rattle.core_states.specs.declared.actor.Actor.{Actor}
use Rattle.core_states.specs.declared.event.CoreAnswer.{CoreAnswer}
use Rattle.core_states.specs.declared.event.CoreAnswer.TheVariants as answer
use Rattle.core_states.specs.declared.transaction.Transaction.{Transaction}
use Rattle.core_states.specs.Numbers.{has_number, without_number, touch}
use Rattle.core_states.specs.RowEvents.{Limits, RowMove, has_change, has_vertex, is_long, is_full, sees_edge, changed_row, refusal, by_refusal, by_look, changes, puts, news}
use Rattle.core_states.specs.ClockEvents.{for_txn}
use Rattle.core_states.specs.States.{row_event}
use Rattle.core_states.specs.Transactions.{is_working, touching, changing, with_txn}
use Rattle.core_kept.proofs.Changing.{touched_here, touched_there, on-append}
use Rattle.shard_state.specs.Says.{after_change}
use Rattle.store_turns.specs.declared.session.Work.{Work}
use Rattle.store_turns.specs.Takes.{flag_of, is_changed, flag_or_not}
use Rattle.store_turns.specs.Fits.{IsWork}
use Rattle.store_turns.specs.Moves.{KeepsAll}
use Rattle.store_rows.specs.Alters.{change_act, says_made, says_taken, IsChangeAnswer, MakesChange, TakesVertex, WithVertex, AltersBy}

-- ---- a change that is made is not too long

-- a refusal makes no change
pub not_made : (m n : RowMove) → Some m ≡ Some n → says_made m.answer ≡ false → says_made n.answer ≡ true → ⊥
not_made m n e not_so so = let same : m ≡ n = (cc) in false≢true (sym not_so ∙ ap (λ (z : RowMove). says_made z.answer) same ∙ so)

pub nothing : (n : RowMove) → None ≡ Some n → ⊥
nothing n e = let bad : ⊥ = (cc) in bad

module _ (x : Transaction) (c : Change) (row : Row) (a : Actor) (m : RowMove) (made : says_made m.answer ≡ true) where
  by_long : (long : Bool) (rest : Option CoreAnswer) → by_refusal (if long then Some answer.TxnFull else rest) x c row a ≡ Some m → long ≡ false
  by_long true rest e = absurd (not_made _ m e refl made)
  by_long false rest e = refl

  by_sight : (sees long : Bool) → by_refusal (if not sees then Some answer.Absent else if long then Some answer.TxnFull else None) x c row a ≡ Some m → long ≡ false
  by_sight true long e = by_long long None e
  by_sight false long e = absurd (not_made _ m e refl made)

taken_short : (most : Limits) (x : Transaction) (c : Change) (row : Row) (a : Actor) (m : RowMove) → says_made m.answer ≡ true → by_refusal (refusal most x c row) x c row a ≡ Some m → is_long most x c ≡ false
taken_short most x (New v p) row a m made e = by_long x (New v p) row a m made (is_long most x (New v p)) None e
taken_short most x (Set v p) row a m made e = by_long x (Set v p) row a m made (is_long most x (Set v p)) None e
taken_short most x (Drop v) row a m made e = by_long x (Drop v) row a m made (is_long most x (Drop v)) None e
taken_short most x (Put v l d p) row a m made e = by_long x (Put v l d p) row a m made (is_long most x (Put v l d p)) (if is_full most row l p then Some answer.LogFull else None) e
taken_short most x (Del v l d) row a m made e = by_sight x (Del v l d) row a m made (sees_edge x row l d) (is_long most x (Del v l d)) e

changes_short : (most : Limits) (x : Transaction) (c : Change) (row : Row) (a : Actor) (m : RowMove) → says_made m.answer ≡ true → changes most x c row a ≡ Some m → is_long most x c ≡ false
changes_short most x c row a m made e = by_state (is_working x) (has_vertex x row) (lock_answer row x.tid x.read) e
  where
    by_state : (w h : Bool) (look : Look) → (if not w then None else if not h then Some (record { answer = answer.NoVertex; row = row; actor = with_txn a (Some x) }) else by_look look most x c row a) ≡ Some m → is_long most x c ≡ false
    by_state false h look e = absurd (nothing m e)
    by_state true false look e = absurd (not_made _ m e refl made)
    by_state true true Taken e = taken_short most x c row a m made e
    by_state true true (Held u) e = absurd (nothing m e)
    by_state true true (Conflict k) e = absurd (nothing m e)

puts_short : (most : Limits) (x : Transaction) (c : Change) (row : Row) (a : Actor) (m : RowMove) → says_made m.answer ≡ true → puts most x c row a ≡ Some m → is_long most x c ≡ false
puts_short most x c row a m made e = by_end (has_destination c) e
  where
    by_end : (b : Bool) → (if b then changes most x c row a else None) ≡ Some m → is_long most x c ≡ false
    by_end true e = changes_short most x c row a m made e
    by_end false e = absurd (nothing m e)

news_short : (most : Limits) (x : Transaction) (v : ℕ) (p : List ℕ) (row : Row) (a : Actor) (m : RowMove) → says_made m.answer ≡ true → news most x v p row a ≡ Some m → is_long most x (New v p) ≡ false
news_short most x v p row a m made e = by_state (is_working x) (has_number v x.drawn) (is_long most x (New v p)) e
  where
    by_state : (w h long : Bool) → (if not w then None else if not h then None else if long then Some (record { answer = answer.TxnFull; row = row; actor = with_txn a (Some x) }) else Some (record { answer = answer.Done; row = changed_row x (New v p) row; actor = with_txn a (Some (changing x (New v p))) })) ≡ Some m → long ≡ false
    by_state false h long e = absurd (nothing m e)
    by_state true false long e = absurd (nothing m e)
    by_state true true true e = absurd (not_made _ m e refl made)
    by_state true true false e = refl

pub event_short : (most : Limits) (x : Transaction) (c : Change) (row : Row) (a : Actor) (m : RowMove) → a.txn ≡ Some x → says_made m.answer ≡ true → row_event most (change_act c) row a ≡ Some m → is_long most x c ≡ false
event_short most x (New v p) row a m at made e = news_short most x v p row a m made ((λ i. for_txn (λ z. news most z v p row a) (sym at i)) ∙ e)
event_short most x (Set v p) row a m at made e = changes_short most x (Set v p) row a m made ((λ i. for_txn (λ z. changes most z (Set v p) row a) (sym at i)) ∙ e)
event_short most x (Drop v) row a m at made e = changes_short most x (Drop v) row a m made ((λ i. for_txn (λ z. changes most z (Drop v) row a) (sym at i)) ∙ e)
event_short most x (Put v l d p) row a m at made e = puts_short most x (Put v l d p) row a m made ((λ i. for_txn (λ z. puts most z (Put v l d p) row a) (sym at i)) ∙ e)
event_short most x (Del v l d) row a m at made e = changes_short most x (Del v l d) row a m made ((λ i. for_txn (λ z. changes most z (Del v l d) row a) (sym at i)) ∙ e)

pub not_longer : (a b : ℕ) → nat_lt a b ≡ false → b ≤ a
not_longer a b e = grind (arith, nat_tests)

lens-push : (cs : List Change) (c : Change) → encoded_lens (cs ++ c ∷ []) ≡ encoded_lens cs + encoded_len c
lens-push cs c = sum_by_push encoded_len cs c

-- ---- the work afterwards

-- what is not taken out is still there
without_others : (v w : ℕ) (xs : List ℕ) → w ≢ v → has_number w xs ≡ true → has_number w (without_number v xs) ≡ true
without_others v w [] other has = has
without_others v w (x ∷ xs) other has = grind (arith, nat_tests, without_others v w xs other)

has_touch : (v w : ℕ) (xs : List ℕ) → has_number w (touch v xs) ≡ (v == w || has_number w xs)
has_touch v w xs = by_same (cases_eq v w)
  where
    by_same : (v ≡ w) ⊎ (v ≡ w → ⊥) → has_number w (touch v xs) ≡ (v == w || has_number w xs)
    by_same (inl same) = ap (λ z. has_number z (touch v xs)) (sym same) ∙ touched_here v xs ∙ (λ i. sym (eq-eqb v w same) i || has_number w xs)
    by_same (inr other) = touched_there v w xs (λ e. other (sym e)) ∙ (λ i. sym (ne_eqb v w other) i || has_number w xs)

-- what is asked of the flags, with one more
asked : (ask : Option Bool → Bool) (v w : ℕ) (b : Bool) (taken taken' : List (ℕ × Bool)) → WithVertex v b taken taken' → ask (flag_of w taken') ≡ (if v == w then ask (Some b) else ask (flag_of w taken))
asked ask v w b taken taken' one = ap ask (one w) ∙ by_same (cases_eq v w)
  where
    by_same : (v ≡ w) ⊎ (v ≡ w → ⊥) → ask (if nat_eq v w then Some b else flag_of w taken) ≡ (if v == w then ask (Some b) else ask (flag_of w taken))
    by_same (inl same) = rw (eq-eqb v w same) refl
    by_same (inr other) = rw (ne_eqb v w other) refl

or_if : (q b : Bool) → (q || b) ≡ (if q then true else b)
or_if true b = refl
or_if false b = refl

has_more : (xs ys : List Change) → has_change (xs ++ ys) ≡ (has_change xs || has_change ys)
has_more [] ys = refl
has_more (x ∷ xs) ys = refl

has_about : (w : ℕ) (cs : List Change) (c : Change) → has_change (changes_about w (cs ++ c ∷ [])) ≡ (if vertex_of c == w then true else has_change (changes_about w cs))
has_about w cs c = ap has_change (on-append w cs (c ∷ [])) ∙ has_more (changes_about w cs) (changes_about w (c ∷ [])) ∙ by_vertex (vertex_of c == w) (has_change (changes_about w cs))
  where
    by_vertex : (q b : Bool) → (b || has_change (if q then c ∷ [] else [])) ≡ (if q then true else b)
    by_vertex true true = refl
    by_vertex true false = refl
    by_vertex false true = refl
    by_vertex false false = refl

none_free : (w m n : ℕ) (xs ys : List (ℕ × Bool)) → m ≡ 0 → n ≡ 0 → is_some (flag_of w (take m xs)) ≡ is_some (flag_of w (take n ys))
none_free w m n xs ys low low' = (λ i. is_some (flag_of w (take (low i) xs))) ∙ (λ i. is_some (flag_of w (take (sym low' i) ys)))

-- A change was made: the work has it, and may not use the number of its vertex.
pub record Made (c : Change) (t t' : Work) : Type 0 where
  pub tid : t'.tid ≡ t.tid
  pub read : t'.read ≡ t.read
  pub stage : t'.stage ≡ t.stage
  pub drawn : (v : ℕ) → t'.drawn ≡ Some v → (t.drawn ≡ Some v) × (v ≢ vertex_of c)
  pub changes : t'.changes ≡ t.changes ++ c ∷ []
  pub left : t'.left ≡ t.left - encoded_len c
  pub taken : WithVertex (vertex_of c) true t.touched.taken t'.touched.taken
  pub settled : t'.settled ≡ t.settled

pub made_work : (t t' : Work) (x : Transaction) (c : Change) → IsWork t x → t.settled ≡ 0 → Made c t t' → encoded_lens x.own + encoded_len c ≤ transaction_most → IsWork t' (changing x c)
made_work t t' x c work none one short =
    let v = vertex_of c in
    let push = lens-push x.own c in
    let left = work.left in
    let less = one.left in record {
      tid = work.tid ∙ sym one.tid;
      read = work.read ∙ sym one.read;
      stage = work.stage ∙ sym one.stage;
      own = λ open_still. ap (λ cs. cs ++ c ∷ []) (work.own (sym one.stage ∙ open_still)) ∙ sym one.changes;
      drawn = λ w drew. let was = one.drawn w drew in without_others v w x.drawn was.1 (work.drawn w was.0);
      touched = λ w. has_touch v w x.touched ∙ ap (λ z. v == w || z) (work.touched w) ∙ or_if (v == w) (is_some (flag_of w t.touched.taken)) ∙ sym (asked is_some v w true t.touched.taken t'.touched.taken one.taken);
      changed = λ w. has_about w x.own c ∙ ap (λ z. if v == w then true else z) (work.changed w) ∙ sym (asked flag_or_not v w true t.touched.taken t'.touched.taken one.taken);
      settled = λ w. work.settled w ∙ none_free w t.settled t'.settled t.touched.taken t'.touched.taken none (one.settled ∙ none);
      working = λ low. work.working none;
      left = omega (arith, push, left, less, short);
    }

taken_work : (t t' : Work) (x : Transaction) (v : ℕ) → IsWork t x → t.settled ≡ 0 → TakesVertex v t t' → IsWork t' (touching x v)
taken_work t t' x v work none one = record {
  tid = work.tid ∙ sym one.kept.tid;
  read = work.read ∙ sym one.kept.read;
  stage = work.stage ∙ sym one.kept.stage;
  own = λ open_still. work.own (sym one.kept.stage ∙ open_still) ∙ sym one.changes;
  drawn = λ w drew. work.drawn w (sym one.kept.drawn ∙ drew);
  touched = λ w. has_touch v w x.touched ∙ ap (λ z. v == w || z) (work.touched w) ∙ or_if (v == w) (is_some (flag_of w t.touched.taken)) ∙ sym (asked is_some v w (is_changed v t.touched.taken) t.touched.taken t'.touched.taken one.taken);
  changed = λ w. work.changed w ∙ same_flag w (cases_eq v w) ∙ sym (asked flag_or_not v w (is_changed v t.touched.taken) t.touched.taken t'.touched.taken one.taken);
  settled = λ w. work.settled w ∙ none_free w t.settled t'.settled t.touched.taken t'.touched.taken none (one.kept.settled ∙ none);
  working = λ low. work.working none;
  left = ap (λ n. encoded_lens x.own + n) one.left ∙ work.left;
}
  where
    same_flag : (w : ℕ) → (v ≡ w) ⊎ (v ≡ w → ⊥) → is_changed w t.touched.taken ≡ (if v == w then is_changed v t.touched.taken else is_changed w t.touched.taken)
    same_flag w (inl same) = ap (λ z. is_changed z t.touched.taken) (sym same) ∙ (λ i. if sym (eq-eqb v w same) i then is_changed v t.touched.taken else is_changed w t.touched.taken)
    same_flag w (inr other) = (λ i. if sym (ne_eqb v w other) i then is_changed v t.touched.taken else is_changed w t.touched.taken)

pub same_work : (t t' : Work) (x : Transaction) → IsWork t x → KeepsAll t t' → IsWork t' x
same_work t t' x work one = record {
  tid = work.tid ∙ sym one.tid;
  read = work.read ∙ sym one.read;
  stage = work.stage ∙ sym one.stage;
  own = λ open_still. work.own (sym one.stage ∙ open_still) ∙ sym one.changes;
  drawn = λ w drew. work.drawn w (sym one.drawn ∙ drew);
  touched = λ w. work.touched w ∙ ap (λ taken. is_some (flag_of w taken)) (sym one.taken);
  changed = λ w. work.changed w ∙ ap (λ taken. is_changed w taken) (sym one.taken);
  settled = λ w. work.settled w ∙ (λ i. is_some (flag_of w (take (sym one.settled i) (sym one.taken i))));
  working = λ low. work.working (sym one.settled ∙ low);
  left = ap (λ n. encoded_lens x.own + n) one.left ∙ work.left;
}

-- the change of a vertex that is there, where the number that was drawn is another vertex's
changed_work : (t t' : Work) (x : Transaction) (c : Change) → IsWork t x → t.settled ≡ 0 → MakesChange c t t' → encoded_lens x.own + encoded_len c ≤ transaction_most → (t.drawn ≡ Some (vertex_of c) → ⊥) → IsWork t' (changing x c)
changed_work t t' x c work none one short unused = made_work t t' x c work none (record {
  tid = one.kept.tid;
  read = one.kept.read;
  stage = one.kept.stage;
  drawn = λ w drew. (sym one.kept.drawn ∙ drew, λ same. unused (sym one.kept.drawn ∙ drew ∙ ap (λ (z : ℕ). Some z) same));
  changes = one.changes;
  left = one.left;
  taken = one.taken;
  settled = one.kept.settled;
}) short

-- The session's work stands for what a change leaves of the transaction.
pub altered_work : (says : CoreAnswer) (t t' : Work) (x : Transaction) (c : Change) → IsChangeAnswer says → IsWork t x → t.settled ≡ 0 → AltersBy (says_made says) (says_taken says) c t t'
    → (says_made says ≡ true → encoded_lens x.own + encoded_len c ≤ transaction_most) → (says_made says ≡ true → t.drawn ≡ Some (vertex_of c) → ⊥) → IsWork t' (after_change says x c)
altered_work answer.Done t t' x c is work none one short unused = changed_work t t' x c work none one (short refl) (unused refl)
altered_work answer.Added t t' x c is work none one short unused = changed_work t t' x c work none one (short refl) (unused refl)
altered_work answer.Replaced t t' x c is work none one short unused = changed_work t t' x c work none one (short refl) (unused refl)
altered_work answer.Gone t t' x c is work none one short unused = changed_work t t' x c work none one (short refl) (unused refl)
altered_work answer.TxnFull t t' x c is work none one short unused = taken_work t t' x (vertex_of c) work none one
altered_work answer.LogFull t t' x c is work none one short unused = taken_work t t' x (vertex_of c) work none one
altered_work answer.Absent t t' x c is work none one short unused = taken_work t t' x (vertex_of c) work none one
altered_work answer.NoVertex t t' x c is work none one short unused = same_work t t' x work one
altered_work answer.NotEnabled t t' x c is work none one short unused = absurd is
altered_work (answer.Begun n e) t t' x c is work none one short unused = absurd is
altered_work (answer.Number n) t t' x c is work none one short unused = absurd is
altered_work answer.Spent t t' x c is work none one short unused = absurd is
altered_work (answer.Learnt h o) t t' x c is work none one short unused = absurd is
altered_work (answer.Collected n) t t' x c is work none one short unused = absurd is
altered_work (answer.Published e) t t' x c is work none one short unused = absurd is
altered_work (answer.Kept o) t t' x c is work none one short unused = absurd is
altered_work (answer.Visible y) t t' x c is work none one short unused = absurd is
altered_work (answer.Held u) t t' x c is work none one short unused = absurd is
altered_work (answer.Conflict e) t t' x c is work none one short unused = absurd is
altered_work (answer.Shown a) t t' x c is work none one short unused = absurd is
