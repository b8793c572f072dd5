-- Each event keeps what a log must show.
use Rattle.stamps.specs.Stamps.{is_by}
use Rattle.std.proofs.Common.{true≢false}
use Rattle.core_rows.specs.Rows.{committed_log}
use Rattle.edge_log.specs.Entries.{is_entry_of, has_entry_of}
use Rattle.std.proofs.Common.{◌≡◌, ℕ, suc, ◌+◌, ◌<◌, ◌≤◌, Bool, true, false, ◌&&◌, not, List, [], ◌∷◌, ◌++◌, length, refl, sym, ap, ◌∙◌, subst, arith, Option, Some, None, append-nil, ⊎_elim}
use Rattle.std.proofs.lemmas.Bool.{cases_lt, false≢true, eq-eqb}
use Rattle.std.proofs.lemmas.Bool.Decides.{nat_tests}
use Rattle.std.specs.Prelude.{if◌then◌else◌, ◌==◌, nat_le, ◌||◌}
use Rattle.graph_model.specs.declared.change.Change.{Change}
use Rattle.graph_model.specs.declared.change.Change.TheVariants.{Put, Del}
use Rattle.graph_model.specs.declared.pairs.Pair.{Pair}
use Rattle.stamps.specs.Stamps.{Nobody, Txn, counts, converted_stamp, is_private}
use Rattle.stamps.specs.declared.stamp.Stamp.{Stamp}
use Rattle.stamps.specs.declared.stamp.Stamp.TheVariants.{Never, At, By}
use Rattle.edge_log.specs.Contents.{empty_content, with_appended, LogContent, with_converted, with_undone}
use Rattle.edge_log.specs.Entries.{Entry, visible, shown, fresh_entry, converted, cleared}
use Rattle.edge_log.specs.Places.{oldest}
use Rattle.row_pasts.proofs.LogLemmas.{ended_is, end_newest}
use Rattle.core_rows.specs.Rows.{ended_log}
use Rattle.row_pasts.specs.Lives.{without, list_step, lists, put_size, puts, Past, until, changes_of, stamped, AllUntil}
use Rattle.row_pasts.specs.RowFits.{StampFits, StampsFit, createds, settled_count, none_private, private_first, settled_sizes, private_sizes, LogFits}
use Rattle.row_pasts.proofs.LogLemmas.{ended_is, put_own, late, put_nobody, apply_late, apply_early, clear_nobody, createds-end_newest, cut_nobody, none_private_below, fits_put, fits_apply, fits_oldest, fits_cleared, length-createds, settled_few}
use Rattle.row_pasts.proofs.Pasts.{until_late, until-append, until_stamped_late, until_stamped_early, lists-append, changes_of-append, changes_of-stamped}

pub snoc-not-empty : (cs : List Change) (c : Change) → cs ++ c ∷ [] ≡ [] → ⊥
snoc-not-empty [] c e = (cc)
snoc-not-empty (x ∷ cs) c e = (cc)

-- ---- sizes

pub puts-append : (l : ℕ) (xs ys : List Change) → puts l (xs ++ ys) ≡ puts l xs + puts l ys
puts-append l [] ys = omega arith
puts-append l (x ∷ xs) ys = let ih = puts-append l xs ys in omega (arith, ih)

settled-end_newest : (xs : List Entry) (d e t : ℕ) → settled_sizes (end_newest xs d e t) ≡ settled_sizes xs
settled-end_newest [] d e t = refl
settled-end_newest (x ∷ xs) d e t = by_test (visible x e (Txn t) && x.d == d) (is_private x.created) (settled-end_newest xs d e t)
  where
    by_test : (b c : Bool) → settled_sizes (end_newest xs d e t) ≡ settled_sizes xs →
        settled_sizes (if b then record { d = x.d; p = x.p; created = x.created; ended = By t } ∷ xs else x ∷ end_newest xs d e t) ≡ settled_sizes (x ∷ xs)
    by_test true c ih = refl
    by_test false c ih = λ i. if is_private x.created then ih i else 28 + length x.p + ih i

private-end_newest : (xs : List Entry) (d e t : ℕ) → private_sizes (end_newest xs d e t) ≡ private_sizes xs
private-end_newest [] d e t = refl
private-end_newest (x ∷ xs) d e t = by_test (visible x e (Txn t) && x.d == d) (private-end_newest xs d e t)
  where
    by_test : (b : Bool) → private_sizes (end_newest xs d e t) ≡ private_sizes xs →
        private_sizes (if b then record { d = x.d; p = x.p; created = x.created; ended = By t } ∷ xs else x ∷ end_newest xs d e t) ≡ private_sizes (x ∷ xs)
    by_test true ih = refl
    by_test false ih = λ i. if is_private x.created then 28 + length x.p + ih i else ih i

oldest_less : (k : ℕ) (xs : List Entry) → settled_sizes (oldest k xs) ≤ settled_sizes xs
oldest_less k [] = omega arith
oldest_less k (x ∷ xs) = by_test (nat_le (length xs + 1) k) (is_private x.created) refl (oldest_less k xs)
  where
    by_test : (b c : Bool) → is_private x.created ≡ c → settled_sizes (oldest k xs) ≤ settled_sizes xs → settled_sizes (if b then x ∷ xs else oldest k xs) ≤ settled_sizes (x ∷ xs)
    by_test true c e ih = omega arith
    by_test false true e ih = rw e ih
    by_test false false e ih = rw e (omega (arith, ih))

settled-cleared : (t : ℕ) (xs : List Entry) → settled_sizes (cleared t xs) ≡ settled_sizes xs
settled-cleared t [] = refl
settled-cleared t (x ∷ xs) = let ih = settled-cleared t xs in λ i. if is_private x.created then ih i else 28 + length x.p + ih i

private-none : (xs : List Entry) → none_private (createds xs) ≡ true → private_sizes xs ≡ 0
private-none [] h = refl
private-none (x ∷ xs) h = by_test (is_private x.created) refl (private-none xs) h
  where
    by_test : (b : Bool) → is_private x.created ≡ b → (none_private (createds xs) ≡ true → private_sizes xs ≡ 0) → (not b && none_private (createds xs)) ≡ true → private_sizes (x ∷ xs) ≡ 0
    by_test true e ih g = absurd (false≢true g)
    by_test false e ih g = rw e (ih g)

not_private : (n t h : ℕ) (s : Stamp) → StampFits n (Some t) s → is_private (converted_stamp t h s) ≡ false
not_private n t h Never fit = refl
not_private n t h (At m) fit = refl
not_private n t h (By u) fit = grind (arith, nat_tests)

-- all entries are settled once they are converted
settled-converted : (n t h : ℕ) (xs : List Entry) → StampsFit n (Some t) xs → settled_sizes (converted t h xs) ≡ settled_sizes xs + private_sizes xs
settled-converted n t h [] fit = refl
settled-converted n t h (x ∷ xs) fit = by_test (is_private x.created) refl (not_private n t h x.created fit.0) (settled-converted n t h xs fit.2)
  where
    by_test : (b : Bool) → is_private x.created ≡ b → is_private (converted_stamp t h x.created) ≡ false → settled_sizes (converted t h xs) ≡ settled_sizes xs + private_sizes xs →
        settled_sizes (converted t h (x ∷ xs)) ≡ settled_sizes (x ∷ xs) + private_sizes (x ∷ xs)
    by_test true e f ih = rw (e, f) (omega (arith, ih))
    by_test false e f ih = rw (e, f) (omega (arith, ih))

changes_of-front : (l h : ℕ) (past : List Past) (own : List Change) → puts l (changes_of (past ++ stamped h own)) ≡ puts l (changes_of past) + puts l own
changes_of-front l h past own = ap (puts l) (changes_of-append past (stamped h own) ∙ ap (λ cs. changes_of past ++ cs) (changes_of-stamped h own)) ∙ puts-append l (changes_of past) own

put-here : (v l d : ℕ) (p : List ℕ) → put_size l (Put v l d p) ≡ 28 + length p
put-here v l d p = rw (eq-eqb l l refl) refl

-- what the transaction sees of the ended entries
ended_mine : (f n : ℕ) (past : List Past) (t r : ℕ) (own : List Change) (base : List Pair) (l d : ℕ) (log : LogContent) → n ≤ r
    → LogFits f n past (Some t) own base l log → (e : ℕ) → n ≤ e → shown (end_newest log.entries d r t) e (Txn t) ≡ without d (lists l own (lists l (changes_of past) base))
ended_mine f n past t r own base l d log low fit e a =
    late n (Some t) (end_newest log.entries d r t) e r (Txn t) (fits_put n (Some t) log.entries d r t fit.stamps refl) a low
    ∙ put_own log.entries d r t ∙ ap (without d) (fit.mine t refl r low)

pub some_same : (t u : ℕ) → Some t ≡ Some u → t ≡ u
some_same t u e = (cc)

put_mine : (es : List Entry) (xs ys : List Pair) (v l d t e : ℕ) (p : List ℕ) (own : List Change) → shown es e (Txn t) ≡ without d (lists l own xs) → shown (fresh_entry d p t ∷ es) e (Txn t) ≡ lists l (own ++ Put v l d p ∷ []) xs
put_mine es xs ys v l d t e p own h = rw lists-append (grind (arith, nat_tests, h))

del_mine : (es : List Entry) (xs : List Pair) (v l d t e : ℕ) (own : List Change) → shown es e (Txn t) ≡ without d (lists l own xs) → shown es e (Txn t) ≡ lists l (own ++ Del v l d ∷ []) xs
del_mine es xs v l d t e own h = rw lists-append (grind (arith, nat_tests, h))

-- A put ends the edge's entry and sets the new one in front.
pub log_put : (f n : ℕ) (past : List Past) (t r : ℕ) (own : List Change) (base : List Pair) (v l d : ℕ) (p : List ℕ) (log : LogContent) → n ≤ r
    → LogFits f n past (Some t) own base l log → LogFits f n past (Some t) (own ++ Put v l d p ∷ []) base l (with_appended t d p (ended_log d r t log))
log_put f n past t r own base v l d p log low fit = subst (λ (x : LogContent). LogFits f n past (Some t) (own ++ Put v l d p ∷ []) base l (with_appended t d p x)) (sym (ended_is d r t log)) (record {
  stamps = (refl, tt, fits_put n (Some t) log.entries d r t fit.stamps refl);
  plain = λ e. absurd (snoc-not-empty own (Put v l d p) e);
  count = fit.count ∙ ap settled_count (sym (createds-end_newest log.entries d r t));
  order = ap private_first (createds-end_newest log.entries d r t) ∙ fit.order;
  settled_room = (let e = settled-end_newest log.entries d r t in let h = fit.settled_room in omega (arith, e, h));
  private_room = (let e = private-end_newest log.entries d r t in let h = fit.private_room in let q = puts-append l own (Put v l d p ∷ []) in let z = put-here v l d p in omega (arith, e, h, q, z));
  others = λ e a. put_nobody n (Some t) log.entries d r e t fit.stamps refl low ∙ fit.others e a;
  mine = λ u is e a. subst (λ (w : ℕ). shown (fresh_entry d p t ∷ end_newest log.entries d r t) e (Txn w) ≡ lists l (own ++ Put v l d p ∷ []) (lists l (changes_of past) base)) (some_same t u is)
      (put_mine (end_newest log.entries d r t) (lists l (changes_of past) base) [] v l d t e p own (ended_mine f n past t r own base l d log low fit e a));
})

pub log_del : (f n : ℕ) (past : List Past) (t r : ℕ) (own : List Change) (base : List Pair) (v l d : ℕ) (log : LogContent) → n ≤ r
    → LogFits f n past (Some t) own base l log → LogFits f n past (Some t) (own ++ Del v l d ∷ []) base l (ended_log d r t log)
log_del f n past t r own base v l d log low fit = subst (λ (x : LogContent). LogFits f n past (Some t) (own ++ Del v l d ∷ []) base l x) (sym (ended_is d r t log)) (record {
  stamps = fits_put n (Some t) log.entries d r t fit.stamps refl;
  plain = λ e. absurd (snoc-not-empty own (Del v l d) e);
  count = fit.count ∙ ap settled_count (sym (createds-end_newest log.entries d r t));
  order = ap private_first (createds-end_newest log.entries d r t) ∙ fit.order;
  settled_room = (let e = settled-end_newest log.entries d r t in let h = fit.settled_room in omega (arith, e, h));
  private_room = (let e = private-end_newest log.entries d r t in let h = fit.private_room in let q = puts-append l own (Del v l d ∷ []) in omega (arith, e, h, q));
  others = λ e a. put_nobody n (Some t) log.entries d r e t fit.stamps refl low ∙ fit.others e a;
  mine = λ u is e a. subst (λ (w : ℕ). shown (end_newest log.entries d r t) e (Txn w) ≡ lists l (own ++ Del v l d ∷ []) (lists l (changes_of past) base)) (some_same t u is)
      (del_mine (end_newest log.entries d r t) (lists l (changes_of past) base) v l d t e own (ended_mine f n past t r own base l d log low fit e a));
})

-- A change that leaves the list of this label leaves the log as it is.
pub log_kept : (f n : ℕ) (past : List Past) (t : ℕ) (own : List Change) (base : List Pair) (l : ℕ) (c : Change) (log : LogContent) → ((xs : List Pair) → list_step l c xs ≡ xs)
    → LogFits f n past (Some t) own base l log → LogFits f n past (Some t) (own ++ c ∷ []) base l log
log_kept f n past t own base l c log same fit = record {
  stamps = fit.stamps;
  plain = λ e. absurd (snoc-not-empty own c e);
  count = fit.count;
  order = fit.order;
  settled_room = fit.settled_room;
  private_room = (let h = fit.private_room in let q = puts-append l own (c ∷ []) in omega (arith, h, q));
  others = fit.others;
  mine = λ u is e a. fit.mine u is e a ∙ sym (lists-append l own (c ∷ []) (lists l (changes_of past) base) ∙ same (lists l own (lists l (changes_of past) base)));
}

-- where no stamp is private, a transaction sees what nobody sees
pub plain_stamp : (n : ℕ) (s : Stamp) (e t : ℕ) → StampFits n None s → counts s e (Txn t) ≡ counts s e Nobody
plain_stamp n Never e t fit = refl
plain_stamp n (At m) e t fit = refl
plain_stamp n (By u) e t fit = absurd (cc)

pub plain_shown : (n : ℕ) (xs : List Entry) (e t : ℕ) → StampsFit n None xs → shown xs e (Txn t) ≡ shown xs e Nobody
plain_shown n [] e t fit = refl
plain_shown n (x ∷ xs) e t fit = let c = plain_stamp n x.created e t fit.0 in let d = plain_stamp n x.ended e t fit.1 in grind (arith, c, d, plain_shown n xs e t fit.2)

pub plain_owner : (n : ℕ) (o : Option ℕ) (s : Stamp) → StampFits n None s → StampFits n o s
plain_owner n o Never fit = tt
plain_owner n o (At m) fit = fit
plain_owner n o (By u) fit = absurd (cc)

pub plain_owners : (n : ℕ) (o : Option ℕ) (xs : List Entry) → StampsFit n None xs → StampsFit n o xs
plain_owners n o [] fit = tt
plain_owners n o (x ∷ xs) fit = (plain_owner n o x.created fit.0, plain_owner n o x.ended fit.1, plain_owners n o xs fit.2)

-- A look that takes the lock.
pub log_taken : (f n : ℕ) (past : List Past) (t : ℕ) (base : List Pair) (l : ℕ) (log : LogContent) → AllUntil n past
    → LogFits f n past None [] base l log → LogFits f n past (Some t) [] base l log
log_taken f n past t base l log low fit = record {
  stamps = plain_owners n (Some t) log.entries fit.stamps;
  plain = fit.plain;
  count = fit.count;
  order = fit.order;
  settled_room = fit.settled_room;
  private_room = fit.private_room;
  others = fit.others;
  mine = λ u is e a.
      plain_shown n log.entries e u fit.stamps
      ∙ late n None log.entries e (e + f) Nobody fit.stamps a (omega arith)
      ∙ fit.others (e + f) (omega arith)
      ∙ ap (λ cs. lists l cs base) (until_late n (e + f) past low (omega arith));
}

-- Applying turns the private stamps into the record's epoch.
length-converted : (xs : List Entry) (t h : ℕ) → length (createds (converted t h xs)) ≡ length xs
length-converted [] t h = refl
length-converted (x ∷ xs) t h = ap suc (length-converted xs t h)

none_left : (xs : List Entry) (n t h : ℕ) → StampsFit n (Some t) xs → none_private (createds (converted t h xs)) ≡ true
none_left [] n t h fit = refl
none_left (x ∷ xs) n t h fit = let c = not_private n t h x.created fit.0 in grind (arith, c, none_left xs n t h fit.2)

pub all_settled : (xs : List Stamp) → none_private xs ≡ true → settled_count xs ≡ length xs
all_settled [] p = refl
all_settled (x ∷ xs) p = grind arith

pub none_first : (xs : List Stamp) → none_private xs ≡ true → private_first xs ≡ true
none_first [] p = refl
none_first (x ∷ xs) p = grind (arith, none_first xs)

apply_others : (f n : ℕ) (past : List Past) (t h : ℕ) (own : List Change) (base : List Pair) (l : ℕ) (log : LogContent) → n < h → AllUntil n past
    → LogFits f n past (Some t) own base l log → (e : ℕ) → f ≤ e → shown (converted t h log.entries) e Nobody ≡ lists l (until e (past ++ stamped h own)) base
apply_others f n past t h own base l log late_epoch low fit e a = ⊎_elim early later (cases_lt e h)
  where
    early : e < h → shown (converted t h log.entries) e Nobody ≡ lists l (until e (past ++ stamped h own)) base
    early b =
        apply_early log.entries n t h e fit.stamps b ∙ fit.others e a
        ∙ ap (λ cs. lists l cs base) (sym (until-append e past (stamped h own) ∙ ap (λ cs. until e past ++ cs) (until_stamped_early h e own b) ∙ append-nil (until e past)))

    later : h ≤ e → shown (converted t h log.entries) e Nobody ≡ lists l (until e (past ++ stamped h own)) base
    later b =
        apply_late log.entries n t h e fit.stamps b ∙ fit.mine t refl e (omega arith)
        ∙ sym (lists-append l (changes_of past) own base)
        ∙ ap (λ cs. lists l cs base) (sym (until-append e past (stamped h own) ∙ (λ i. until_late n e past low (omega arith) i ++ until_stamped_late h e own b i)))

log_apply : (f n : ℕ) (past : List Past) (t h : ℕ) (own : List Change) (base : List Pair) (l : ℕ) (log : LogContent) → n < h → AllUntil n past
    → LogFits f n past (Some t) own base l log → LogFits f h (past ++ stamped h own) None [] base l (with_converted t h log)
log_apply f n past t h own base l log late_epoch low fit = record {
  stamps = fits_apply n t h log.entries (omega arith) fit.stamps;
  plain = λ _. fits_apply n t h log.entries (omega arith) fit.stamps;
  count = sym (all_settled (createds (converted t h log.entries)) (none_left log.entries n t h fit.stamps) ∙ length-converted log.entries t h);
  order = none_first (createds (converted t h log.entries)) (none_left log.entries n t h fit.stamps);
  settled_room = (let e = settled-converted n t h log.entries fit.stamps in let f = changes_of-front l h past own in let a = fit.settled_room in let b = fit.private_room in omega (arith, e, f, a, b));
  private_room = (let e = private-none (converted t h log.entries) (none_left log.entries n t h fit.stamps) in omega (arith, e));
  others = apply_others f n past t h own base l log late_epoch low fit;
  mine = λ u is. absurd (cc);
}

-- where the log holds nothing of the transaction, converting leaves it
none_converted : (t h : ℕ) (xs : List Entry) → has_entry_of t xs ≡ false → converted t h xs ≡ xs
none_converted t h [] none = refl
none_converted t h (x ∷ xs) none =
    let apart = false_parts (is_entry_of t x) (has_entry_of t xs) none in
    let stamps = false_parts (is_by t x.created) (is_by t x.ended) apart.0 in
    λ i. record { d = x.d; p = x.p; created = same x.created stamps.0 i; ended = same x.ended stamps.1 i } ∷ none_converted t h xs apart.1 i
  where
    false_parts : (a b : Bool) → (a || b) ≡ false → (a ≡ false) × (b ≡ false)
    false_parts false b e = (refl, e)
    false_parts true b e = absurd (true≢false e)

    same : (s : Stamp) → is_by t s ≡ false → converted_stamp t h s ≡ s
    same Never f = refl
    same (At m) f = refl
    same (By u) f = rw f refl

-- so it is then as after its conversion, but for its epoch
pub log_commit : (f n : ℕ) (past : List Past) (t h : ℕ) (own : List Change) (base : List Pair) (l : ℕ) (log : LogContent) → n < h → AllUntil n past
    → LogFits f n past (Some t) own base l log → LogFits f h (past ++ stamped h own) None [] base l (committed_log t h log)
log_commit f n past t h own base l log late_epoch low fit = by_test (has_entry_of t log.entries) refl
  where
    all : LogFits f h (past ++ stamped h own) None [] base l (with_converted t h log)
    all = log_apply f n past t h own base l log late_epoch low fit

    by_test : (b : Bool) → has_entry_of t log.entries ≡ b → LogFits f h (past ++ stamped h own) None [] base l (if b then with_converted t h log else log)
    by_test true e = all
    by_test false e = let same = none_converted t h log.entries e in record {
      stamps = rw same at all.stamps;
      plain = λ _. rw same at all.stamps;
      count = fit.count;
      order = fit.order;
      settled_room = rw same at all.settled_room;
      private_room = rw same at all.private_room;
      others = λ e a. ap (λ xs. shown xs e Nobody) (sym same) ∙ all.others e a;
      mine = λ u is. absurd (cc);
    }

-- A vertex that was touched and not changed is only released.
pub log_release : (f n : ℕ) (past : List Past) (t : ℕ) (base : List Pair) (l : ℕ) (log : LogContent)
    → LogFits f n past (Some t) [] base l log → LogFits f n past None [] base l log
log_release f n past t base l log fit = record {
  stamps = fit.plain refl;
  plain = λ _. fit.plain refl;
  count = fit.count;
  order = fit.order;
  settled_room = fit.settled_room;
  private_room = fit.private_room;
  others = fit.others;
  mine = λ u is. absurd (cc);
}

-- Undoing.
createds-cleared : (t : ℕ) (xs : List Entry) → createds (cleared t xs) ≡ createds xs
createds-cleared t [] = refl
createds-cleared t (x ∷ xs) = ap (λ l. x.created ∷ l) (createds-cleared t xs)

length-oldest : (xs : List Entry) (k : ℕ) → k ≤ length xs → length (oldest k xs) ≡ k
length-oldest [] k a = omega arith
length-oldest (x ∷ xs) k a = grind (arith, nat_tests, length-oldest xs k)

pub log_undo : (f n : ℕ) (past : List Past) (t : ℕ) (own : List Change) (base : List Pair) (l : ℕ) (log : LogContent)
    → LogFits f n past (Some t) own base l log → LogFits f n past None [] base l (with_undone t log)
log_undo f n past t own base l log fit =
    let xs = log.entries in
    let below : none_private (createds (oldest log.committed xs)) ≡ true = rw fit.count (none_private_below xs fit.order) in
    let few : log.committed ≤ length xs = rw fit.count (rw (← length-createds xs) (settled_few (createds xs))) in
    let stamps : StampsFit n None (cleared t (oldest log.committed xs)) = fits_cleared n t (oldest log.committed xs) (fits_oldest n (Some t) log.committed xs fit.stamps) below in
    let same : createds (cleared t (oldest log.committed xs)) ≡ createds (oldest log.committed xs) = createds-cleared t (oldest log.committed xs) in
    record {
      stamps = stamps;
      plain = λ _. stamps;
      count = rw same (sym (all_settled (createds (oldest log.committed xs)) below ∙ length-createds (oldest log.committed xs) ∙ length-oldest xs log.committed few));
      order = rw same (none_first (createds (oldest log.committed xs)) below);
      settled_room = (let e = settled-cleared t (oldest log.committed xs) in let f = oldest_less log.committed xs in let a = fit.settled_room in omega (arith, e, f, a));
      private_room = (let e = private-none (cleared t (oldest log.committed xs)) (rw same below) in omega (arith, e));
      others = λ e a. clear_nobody (oldest log.committed xs) t e ∙ cut_nobody xs log.committed e (omega (arith, fit.count)) ∙ fit.others e a;
      mine = λ u is. absurd (cc);
    }

-- where a label has no log, the empty one stays
pub log_none : (f n : ℕ) (past : List Past) (o : Option ℕ) (own : List Change) (base : List Pair) (l e : ℕ) → LogFits f n past o own base l (record { entries = []; committed = 0; epoch = e }) → LogFits f n past o own base l empty_content
log_none f n past o own base l e fit = record {
  stamps = fit.stamps;
  plain = fit.plain;
  count = fit.count;
  order = fit.order;
  settled_room = fit.settled_room;
  private_room = fit.private_room;
  others = fit.others;
  mine = fit.mine;
}
