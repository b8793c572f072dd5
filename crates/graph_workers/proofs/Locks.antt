-- What a pass says of locks holds of all workers, at close.
use Rattle.std.proofs.Common.{◌≡◌, ℕ, ◌≤◌, ◌<◌, Bool, true, false, not, cond, ◌&&◌, ◌||◌, List, [], ◌∷◌, ◌++◌, refl, sym, ap, ◌∙◌, subst, arith, inl, inr, ◌⊎◌, ⊎_elim}
use Rattle.std.specs.Prelude.{◌==◌, nat_lt, nat_le, Option, Some, None}
use Rattle.std.specs.List.{list_any}
use Rattle.std.proofs.lemmas.Bool.{eqb-true, eq-eqb, ltb-true, ltb-false, le-leb, cases_Bool, cases_eq, both_ways, false≢true, or_right, or_left, or_cases, or_from, and_parts, and_from, and_left, and_right, not_from_true, not_from_false}
use Rattle.graph_model.specs.declared.record.Record.{Record}
use Rattle.graph_model.specs.declared.graph.Base.{Base}
use Rattle.graph_model.specs.Records.{changes_vertex}
use Rattle.request_text.specs.declared.reply.Reply.TheVariants as reply
use Rattle.graph_legal.specs.Lines.{Replied, EachLine, before, is_before, same_worker, any_line}
use Rattle.graph_legal.specs.Traces.{Trace, open_trace, trace_of, taken_at, unsure_at, is_among, is_ending, is_committed, is_trace, has_committed, has_committed_beside, is_blocked, is_taken_by_other, may_hold, is_held_beside, is_held_elsewhere}
use Rattle.graph_legal.specs.TraceOk.{Run, MayTakeVertex, IsHeld, IsConflict}
use Rattle.graph_workers.proofs.Sights.{Txn, Committed_at, Held_by, Conflict_at, Without, Receipt, Pass, known, Grown, seen_epoch, IsUntouched, IsFree, IsHolder, IsNewest, TxnAfter, receipt_told, end_told, Worked}
use Rattle.graph_workers.specs.Lines.{Seated}
use Rattle.graph_workers.proofs.Closing.{In, InRecords, record_of, EndHolds, Leads, Starts, NotEarlier, Ran}
use Rattle.graph_workers.proofs.Growth.{grown_more}
use Rattle.graph_workers.proofs.Leading.{told_in, leaves, leads_more}
use Rattle.graph_workers.proofs.Standing.{Matches, matches, which, at_pass, leads_all, leads_from}
use Rattle.graph_workers.proofs.Befores.{open_trace-before, any-before, any_more}
use Rattle.graph_workers.proofs.Receipted.{at_worker, commits_at, touches_at, committed_in, receipt_commits, touched, Touches, none_some}
use Rattle.graph_workers.proofs.Knowing.{visible_all}
use Rattle.graph_workers.proofs.Recorded.{one_number, any_in, known_whole}

-- a transaction that its pass has and its lines make
abbrev pub like : Txn → List ℕ → List ℕ → Trace
like x took unsure = record { number = x.number; read = x.read; own = x.own; took = took; unsure = unsure }

false_unless : (b c : Bool) → (b ≡ true → c ≡ true) → c ≡ false → b ≡ false
false_unless true c f h = absurd (both_ways c h (f refl))
false_unless false c f h = refl

-- no line before a has this property
none_before : (a : Replied) (f : Replied → Bool) (lines : List Replied) → EachLine (λ b rest. is_before b a ≡ true → f b ≡ false) lines → list_any f (before a lines) ≡ false
none_before a f [] h = refl
none_before a f (b ∷ lines) h = by_before (is_before b a) refl (none_before a f lines h.1)
  where
    by_before : (c : Bool) → is_before b a ≡ c → list_any f (before a lines) ≡ false → list_any f (cond c (b ∷ before a lines) (before a lines)) ≡ false
    by_before true e ih = or_from _ _ (h.0 e) ih
    by_before false e ih = ih

-- some line before a has it
some_before : (a : Replied) (f g : Replied → Bool) (lines : List Replied) → ((b : Replied) → f b ≡ true → (is_before b a ≡ true) × (g b ≡ true)) → list_any f lines ≡ true → list_any g (before a lines) ≡ true
some_before a f g [] h m = absurd (false≢true m)
some_before a f g (b ∷ lines) h m = by_before (is_before b a) refl (or_cases _ _ m) (λ n. some_before a f g lines h n)
  where
    by_before : (c : Bool) → is_before b a ≡ c → (f b ≡ true) ⊎ (list_any f lines ≡ true) → (list_any f lines ≡ true → list_any g (before a lines) ≡ true) → list_any g (cond c (b ∷ before a lines) (before a lines)) ≡ true
    by_before true e (inl now) ih = or_left _ _ (h b now).1
    by_before true e (inr past) ih = or_right _ _ (ih past)
    by_before false e (inl now) ih = absurd (both_ways _ e (h b now).0)
    by_before false e (inr past) ih = ih past

each_seated : (seat : ℕ → ℕ → ℕ) (P : Replied → Type 0) (lines : List Replied) → Seated seat lines → ((b : Replied) → b.worker ≡ seat b.phase b.session → P b) → EachLine (λ b rest. P b) lines
each_seated seat P [] st f = tt
each_seated seat P (b ∷ lines) st f = (f b st.0, each_seated seat P lines st.1 f)

-- the line before, by which the transaction committed
find_commit : (a : Replied) (n : ℕ) (lines : List Replied) → any_line (λ b rest. is_before b a && (is_committed b.reply && is_trace n (trace_of b rest))) lines ≡ true →
    (b : Replied) × (is_before b a ≡ true) × (any_line (λ c rest. commits_at b.phase b.worker n c (trace_of c rest)) lines ≡ true)
find_commit a n [] h = absurd (false≢true h)
find_commit a n (x ∷ lines) h = ⊎_elim
    (λ (now : (is_before x a && (is_committed x.reply && is_trace n (trace_of x lines))) ≡ true).
    let parts = and_parts (is_before x a) (is_committed x.reply && is_trace n (trace_of x lines)) now in
    (x, parts.0, or_left _ _ (and_from _ _ (and_from _ _ (eq-eqb x.phase x.phase refl) (eq-eqb x.worker x.worker refl)) parts.1)))
    (λ (past : any_line (λ b rest. is_before b a && (is_committed b.reply && is_trace n (trace_of b rest))) lines ≡ true).
    let old = find_commit a n lines past in (old.0, old.1, or_right _ _ old.2))
    (or_cases _ _ h)

-- a session of a pass has a transaction only where one of its lines stands
session_line : (base : Base) (first now : ℕ → ℕ → Pass) (lines : List Replied) → ((ph k : ℕ) → Starts base (first ph k)) → Worked base first lines now →
    (ph k s : ℕ) (x : Txn) → (now ph k).sessions s ≡ Some x → list_any (λ b. at_worker ph k b && b.session == s) lines ≡ true
session_line base first now [] starts w ph k s x h = absurd (none_some x (sym ((starts ph k).idle s) ∙ ap (λ (p : Pass). p.sessions s) (sym (w ph k)) ∙ h))
session_line base first now (a ∷ above) starts w ph k s x h = ⊎_elim
    (λ (same : (ph ≡ a.phase) × (k ≡ a.worker)). ⊎_elim
    (λ (e : (s == a.session) ≡ true). or_left _ _ (and_from _ _ (and_from _ _ (eq-eqb a.phase ph (sym same.0)) (eq-eqb a.worker k (sym same.1))) (eq-eqb a.session s (sym (eqb-true s a.session e)))))
    (λ (e : (s == a.session) ≡ false).
    let is : (now ph k).sessions s ≡ (w.0 ph k).sessions s = at_pass (λ i j. (now i j).sessions s ≡ (w.0 i j).sessions s) a ph k same.0 same.1 (w.2.others s e) in
    or_right _ _ (session_line base first w.0 above starts w.1 ph k s x (sym is ∙ h)))
    (cases_Bool (s == a.session)))
    (λ (f : (ph == a.phase && k == a.worker) ≡ false). or_right _ _ (session_line base first w.0 above starts w.1 ph k s x (ap (λ (p : Pass). p.sessions s) (sym (w.3 ph k f)) ∙ h)))
    (which a ph k)

seat_of : (seat : ℕ → ℕ → ℕ) (ph k s : ℕ) (lines : List Replied) → Seated seat lines → list_any (λ b. at_worker ph k b && b.session == s) lines ≡ true → seat ph s ≡ k
seat_of seat ph k s [] st h = absurd (false≢true h)
seat_of seat ph k s (b ∷ lines) st h = ⊎_elim
    (λ (now : (at_worker ph k b && b.session == s) ≡ true).
    let parts = and_parts (at_worker ph k b) (b.session == s) now in
    let place = and_parts (b.phase == ph) (b.worker == k) parts.0 in
    ap (λ i. seat i s) (sym (eqb-true b.phase ph place.0)) ∙ ap (seat b.phase) (sym (eqb-true b.session s parts.1)) ∙ sym st.0 ∙ eqb-true b.worker k place.1)
    (λ (past : list_any (λ c. at_worker ph k c && c.session == s) lines ≡ true). seat_of seat ph k s lines st.1 past)
    (or_cases _ _ h)

-- Line a, above it the other lines of all workers up to it.
module _ (base : Base) (records : List Record) (all : List Replied) (R : Ran base records all) (now : ℕ → ℕ → Pass) (a : Replied) (above : List Replied)
    (w : Worked base R.first (a ∷ above) now) (st : Seated R.seat (a ∷ above)) (ends : (ph k : ℕ) → Leads base (now ph k) (R.last ph k)) where
  abbrev run : Run
  run = record { graph = base.graph; records = records; lines = all }

  abbrev old : Pass
  old = w.0 a.phase a.worker

  abbrev new : Pass
  new = now a.phase a.worker

  old_visible : old.told ≤ seen_epoch base old
  old_visible = visible_all base R.first w.0 above R.starts w.1 a.phase a.worker

  old_grown : Grown base.epoch old.seen records
  old_grown = grown_more base.epoch old.seen new.seen records w.2.grown (grown_more base.epoch new.seen (R.last a.phase a.worker).seen records (ends a.phase a.worker).grown (R.closes.grown a.phase a.worker))

  -- ---- records of lines before are known

  committed_before : (n : ℕ) → has_committed n (before a above) ≡ true →
      (ph : ℕ) × (k : ℕ) × (u : Receipt) × In u (R.last ph k).receipts × (u.txn.number ≡ n) × (e : ℕ) × (u.ends ≡ Committed_at e) × (e ≤ old.told)
  committed_before n h =
      let whole = sym (any-before R.seat a (λ b t. is_committed b.reply && is_trace n t) above st.1) ∙ h in
      let b = find_commit a n above whole in
      let c = committed_in base R.seat R.first w.0 above R.starts st.1 w.1 b.0.phase b.0.worker n b.2 in
      let on = leads_more base (w.0 b.0.phase b.0.worker) (now b.0.phase b.0.worker) (R.last b.0.phase b.0.worker) (leads_all base R.first now a above w b.0.phase b.0.worker) (ends b.0.phase b.0.worker) in
      let le = c.5 in (
        b.0.phase,
        b.0.worker,
        c.0,
        on.kept c.0 c.1,
        c.2,
        c.3,
        c.4,
        ⊎_elim
            (λ (earlier : nat_lt b.0.phase a.phase ≡ true).
            let sees = (R.split b.0.phase b.0.worker a.phase a.worker (ltb-true b.0.phase a.phase earlier)).told in
            let more = (leads_from base R.first w.0 above w.1 a.phase a.worker).told in
            let told = on.told in
            omega (arith, le, told, sees, more))
            (λ (same : (b.0.phase == a.phase && b.0.worker == a.worker) ≡ true).
            let parts = and_parts (b.0.phase == a.phase) (b.0.worker == a.worker) same in
            let is : (w.0 b.0.phase b.0.worker).told ≡ old.told = ap (λ i. (w.0 i b.0.worker).told) (eqb-true b.0.phase a.phase parts.0) ∙ ap (λ i. (w.0 a.phase i).told) (eqb-true b.0.worker a.worker parts.1) in
            omega (arith, le, is))
            (or_cases _ _ b.1),
      )

  -- a record of this number has the receipt's epoch
  epoch_of_receipt : (ph k : ℕ) (u : Receipt) (e : ℕ) (r : Record) → In u (R.last ph k).receipts → u.ends ≡ Committed_at e → InRecords r records → u.txn.number ≡ r.tid → r.epoch ≡ e
  epoch_of_receipt ph k u e r m is among same =
      let agrees : EndHolds R.last records u (Committed_at e) = subst (λ x. EndHolds R.last records u x) is (R.closes.agree ph k u m) in
      ap (λ (x : Record). x.epoch) (one_number r (record_of u.txn e) records R.closes.continues.numbers among agrees (sym same))

  pub none_committed : (v m : ℕ) → list_any (λ r. nat_lt m r.epoch && changes_vertex v r) (known old) ≡ false →
      list_any (λ r. nat_lt m r.epoch && changes_vertex v r && has_committed r.tid (before a above)) records ≡ false
  none_committed v m h = false_unless _ _
      (any_in (λ r. nat_lt m r.epoch && changes_vertex v r && has_committed r.tid (before a above)) (λ r. nat_le r.epoch old.told && (nat_lt m r.epoch && changes_vertex v r)) records
      (λ r among t.
      let parts = and_parts (nat_lt m r.epoch && changes_vertex v r) (has_committed r.tid (before a above)) t in
      let c = committed_before r.tid parts.1 in
      let le = c.7 in
      let same = epoch_of_receipt c.0 c.1 c.2 c.5 r c.3 c.6 among c.4 in
      and_from _ _ (le-leb r.epoch old.told (omega (arith, le, same))) parts.0))
      (known_whole base old records (λ r. nat_lt m r.epoch && changes_vertex v r) old_visible old_grown ∙ h)

  -- ---- what other sessions of the worker took

  session_at : (s : ℕ) → a.worker ≡ R.seat a.phase s → Matches (open_trace a.phase s above) (old.sessions s)
  session_at s e = subst (λ k. Matches (open_trace a.phase s above) ((w.0 a.phase k).sessions s)) (sym e) (matches base R.seat R.first w.0 above R.starts st.1 w.1 a.phase s)

  is_before_here : (s : ℕ) → a.worker ≡ R.seat a.phase s → (nat_lt a.phase a.phase || (a.phase == a.phase && R.seat a.phase s == a.worker)) ≡ true
  is_before_here s e = or_right _ _ (and_from _ _ (eq-eqb a.phase a.phase refl) (eq-eqb _ _ (sym e)))

  not_other : (x : Txn) (t : Trace) (v s : ℕ) → t.number ≡ x.number → old.sessions a.session ≡ Some x → IsUntouched old a.session v → (o : Option Trace) (y : Option Txn) → old.sessions s ≡ y → Matches o y → is_taken_by_other v t o ≡ false
  not_other x t v s same at free None y is m = refl
  not_other x t v s same at free (Some u) None is m = absurd m
  not_other x t v s same at free (Some u) (Some y) is m = ⊎_elim
      (λ (e : (s == a.session) ≡ true).
      let one : y ≡ x = some_is y x (sym is ∙ ap old.sessions (eqb-true s a.session e) ∙ at) in
      and_left _ _ (not_from_true _ (eq-eqb u.number t.number (m.number ∙ ap (λ (z : Txn). z.number) one ∙ sym same))))
      (λ (e : (s == a.session) ≡ false). and_right _ _ (false_unless _ _ (m.took v) (free s y is e)))
      (cases_Bool (s == a.session))
    where
      some_is : (b c : Txn) → Some b ≡ Some c → b ≡ c
      some_is b c e = (cc)

  pub not_blocked : (x : Txn) (t : Trace) (v : ℕ) → t.number ≡ x.number → old.sessions a.session ≡ Some x → IsUntouched old a.session v → is_blocked t a (before a above) v ≡ false
  not_blocked x t v same at free = none_before a (λ b. same_worker b a && is_taken_by_other v t (open_trace b.phase b.session (before a above))) above
      (each_seated R.seat (λ b. is_before b a ≡ true → (same_worker b a && is_taken_by_other v t (open_trace b.phase b.session (before a above))) ≡ false) above st.1
      (λ b seated earlier. ⊎_elim
      (λ (mine : same_worker b a ≡ true).
      let parts = and_parts (b.phase == a.phase) (b.worker == a.worker) mine in
      let p = eqb-true b.phase a.phase parts.0 in
      let worker : a.worker ≡ R.seat a.phase b.session = sym (eqb-true b.worker a.worker parts.1) ∙ seated ∙ ap (λ i. R.seat i b.session) p in
      let trace : open_trace b.phase b.session (before a above) ≡ open_trace a.phase b.session above =
      ap (λ i. open_trace i b.session (before a above)) p ∙ open_trace-before R.seat a a.phase b.session above st.1 (is_before_here b.session worker) in
      and_right _ _ (ap (is_taken_by_other v t) trace ∙ not_other x t v b.session same at free (open_trace a.phase b.session above) (old.sessions b.session) refl (session_at b.session worker)))
      (λ (other : same_worker b a ≡ false). and_left _ _ other)
      (cases_Bool (same_worker b a))))

  pub may_take : (x : Txn) (took unsure : List ℕ) (v : ℕ) → old.sessions a.session ≡ Some x → IsFree old a.session x v → MayTakeVertex run (like x took unsure) a (before a above) v
  may_take x took unsure v at free = record {
    free = not_blocked x (like x took unsure) v refl at free.untouched;
    current = none_committed v x.read free.current;
  }

  -- ---- held

  held_elsewhere : (v n ph k : ℕ) → ph ≡ a.phase → (k == a.worker) ≡ false → Touches v ph k n all → is_held_elsewhere a all v n ≡ true
  held_elsewhere v n ph k here other h = any_more (λ b rest. touches_at v ph k n b (trace_of b rest)) (λ b rest. b.phase == a.phase && not (b.worker == a.worker) && is_trace n (trace_of b rest) && (is_among v (taken_at b.request b.reply) || is_among v (unsure_at b.request b.reply))) all
      (λ b rest t.
      let parts = and_parts (at_worker ph k b) (is_trace n (trace_of b rest) && (is_among v (taken_at b.request b.reply) || is_among v (unsure_at b.request b.reply))) t in
      let place = and_parts (b.phase == ph) (b.worker == k) parts.0 in
      let what = and_parts (is_trace n (trace_of b rest)) (is_among v (taken_at b.request b.reply) || is_among v (unsure_at b.request b.reply)) parts.1 in
      let differs : (b.worker == a.worker) ≡ false = ap (λ j. j == a.worker) (eqb-true b.worker k place.1) ∙ other in
      and_from _ _ (and_from _ _ (and_from _ _ (eq-eqb b.phase a.phase (eqb-true b.phase ph place.0 ∙ here)) (not_from_false _ differs)) what.0) what.1) h

  -- a transaction of a later phase has a number that is not drawn yet
  drawn_later : (ph k : ℕ) (u : Receipt) → In u (R.last ph k).receipts → (R.first ph k).next_tid ≤ u.txn.number
  drawn_later ph k u m = ⊎_elim
      (λ (was : In u (R.now ph k).receipts). ⊎_elim
      (λ (none : In u (R.first ph k).receipts). absurd (subst (In u) (R.starts ph k).receipts none))
      (λ (came : ((s : ℕ) × (x : Txn) × ((R.first ph k).sessions s ≡ Some x) × (x.number ≡ u.txn.number)) ⊎ ((R.first ph k).next_tid ≤ u.txn.number)). ⊎_elim
      (λ (run2 : (s : ℕ) × (x : Txn) × ((R.first ph k).sessions s ≡ Some x) × (x.number ≡ u.txn.number)). absurd (none_some run2.1 (sym ((R.starts ph k).idle run2.0) ∙ run2.2)))
      (λ (late : (R.first ph k).next_tid ≤ u.txn.number). late)
      came)
      (leads.came u was))
      (λ (end : (s : ℕ) × (x : Txn) × ((R.now ph k).sessions s ≡ Some x) × (u ≡ record { txn = x; ends = Without })). ⊎_elim
      (λ (run2 : (j : ℕ) × (y : Txn) × ((R.first ph k).sessions j ≡ Some y) × (y.number ≡ end.1.number)). absurd (none_some run2.1 (sym ((R.starts ph k).idle run2.0) ∙ run2.2)))
      (λ (late : (R.first ph k).next_tid ≤ end.1.number). let same = ap (λ (y : Receipt). y.txn.number) end.3 in omega (arith, late, same))
      (leads.opened end.0 end.1 end.2))
      ((R.wound_up ph k).only u m)
    where
      leads : Leads base (R.first ph k) (R.now ph k)
      leads = leads_from base R.first R.now all R.worked ph k

  -- a transaction that touched a vertex took it at a line, or may have
  touched_last : (v ph k : ℕ) (u : Receipt) → In u (R.last ph k).receipts → is_among v u.txn.touched ≡ true → Touches v ph k u.txn.number all
  touched_last v ph k u m h =
      let t = touched base R.seat R.first R.now all R.starts R.seated R.worked v ph k in
      ⊎_elim
      (λ (was : In u (R.now ph k).receipts). t.ended u was h)
      (λ (end : (s : ℕ) × (x : Txn) × ((R.now ph k).sessions s ≡ Some x) × (u ≡ record { txn = x; ends = Without })).
      subst (λ i. Touches v ph k i all) (ap (λ (y : Receipt). y.txn.number) (sym end.3)) (t.running end.0 end.1 end.2 (ap (λ (y : Receipt). is_among v y.txn.touched) (sym end.3) ∙ h)))
      ((R.wound_up ph k).only u m)

  may_hold_at : (v n : ℕ) (o : Option Trace) (y : Option Txn) (x : Txn) → Matches o y → y ≡ Some x → x.number ≡ n → is_among v x.touched ≡ true → may_hold v n o ≡ true
  may_hold_at v n None None x m is e h = absurd (none_some x is)
  may_hold_at v n None (Some y) x m is e h = absurd m
  may_hold_at v n (Some u) None x m is e h = absurd m
  may_hold_at v n (Some u) (Some y) x m is e h =
      let one : y ≡ x = some_is y x is in
      and_from _ _ (eq-eqb u.number n (m.number ∙ ap (λ (z : Txn). z.number) one ∙ e)) (m.touched v (ap (λ (z : Txn). is_among v z.touched) one ∙ h))
    where
      some_is : (b c : Txn) → Some b ≡ Some c → b ≡ c
      some_is b c e = (cc)

  -- an open session of the worker that touched the vertex holds it
  held_beside : (v n s : ℕ) (y : Txn) → old.sessions s ≡ Some y → y.number ≡ n → is_among v y.touched ≡ true → is_held_beside a (before a above) v n ≡ true
  held_beside v n s y at e h =
      let line = session_line base R.first w.0 above R.starts w.1 a.phase a.worker s y at in
      let seat : a.worker ≡ R.seat a.phase s = sym (seat_of R.seat a.phase a.worker s above st.1 line) in
      let holds : may_hold v n (open_trace a.phase s (before a above)) ≡ true =
      ap (may_hold v n) (open_trace-before R.seat a a.phase s above st.1 (is_before_here s seat)) ∙ may_hold_at v n (open_trace a.phase s above) (old.sessions s) y (session_at s seat) at e h in
      some_before a (λ b. at_worker a.phase a.worker b && b.session == s) (λ b. same_worker b a && may_hold v n (open_trace b.phase b.session (before a above))) above
      (λ b t.
      let parts = and_parts (at_worker a.phase a.worker b) (b.session == s) t in
      let place = and_parts (b.phase == a.phase) (b.worker == a.worker) parts.0 in
      (or_right _ _ parts.0, and_from _ _ parts.0 ((λ i. may_hold v n (open_trace (eqb-true b.phase a.phase place.0 i) (eqb-true b.session s parts.1 i) (before a above))) ∙ holds))) line

  any_receipt : (n : ℕ) (u : Receipt) (us : List Receipt) → In u us → u.txn.number ≡ n → list_any (λ r. r.txn.number == n) us ≡ true
  any_receipt n u [] m e = absurd m
  any_receipt n u (r ∷ us) (inl is) e = or_left _ _ (eq-eqb r.txn.number n (ap (λ (y : Receipt). y.txn.number) (sym is) ∙ e))
  any_receipt n u (r ∷ us) (inr m) e = or_right _ _ (any_receipt n u us m e)

  ended_here : (x : Txn) (v n : ℕ) → a.reply ≡ reply.Held v n → old.sessions a.session ≡ Some x → (y : Txn) → new.sessions a.session ≡ Some y → ⊥
  ended_here x v n r at y is =
      let t : TxnAfter a.request (reply.Held v n) (Some x) (Some y) = subst (λ o. TxnAfter a.request (reply.Held v n) (Some x) o) is
      (subst (λ o. TxnAfter a.request (reply.Held v n) o (new.sessions a.session)) at (subst (λ q. TxnAfter a.request q (old.sessions a.session) (new.sessions a.session)) r w.2.session)) in
      false≢true (sym t.0)

  -- the line's own receipt, at close
  pub own_receipt : (x : Txn) → old.sessions a.session ≡ Some x → is_ending a.reply ≡ true → EndHolds R.last records (record { txn = x; ends = end_told a.reply }) (end_told a.reply)
  own_receipt x at e = R.closes.agree a.phase a.worker (record { txn = x; ends = end_told a.reply })
      ((ends a.phase a.worker).kept _ (subst (λ xs. In (record { txn = x; ends = end_told a.reply }) xs) (sym w.2.receipts)
      (subst (λ o. In (record { txn = x; ends = end_told a.reply }) (receipt_told a.reply o ++ old.receipts)) (sym at) (leaves a.reply x old.receipts e))))

  pub held : NotEarlier R.last a → (x : Txn) (took unsure : List ℕ) (v n : ℕ) → a.reply ≡ reply.Held v n → old.sessions a.session ≡ Some x → IsHolder old new x v n → IsHeld run (like x took unsure) a (before a above) v n
  held early x took unsure v n r at h =
      let mine : EndHolds R.last records (record { txn = x; ends = Held_by v n }) (Held_by v n) =
      subst (λ q. EndHolds R.last records (record { txn = x; ends = end_told q }) (end_told q)) r (own_receipt x at (ap is_ending r)) in
      record {
        other = h.other;
        unseen = mine.0;
        takes = takes_by mine.1.0 mine.1.1 mine.1.2 mine.1.3 mine.1.4 mine.1.5;
      }
    where
      takes_by : (ph k : ℕ) (u : Receipt) → In u (R.last ph k).receipts → u.txn.number ≡ n → is_among v u.txn.touched ≡ true → (is_held_beside a (before a above) v n || is_held_elsewhere a all v n) ≡ true
      takes_by ph k u m e t = ⊎_elim
          (λ (same : (ph ≡ a.phase) × (k ≡ a.worker)). or_left _ _ (⊎_elim
          (λ (here : In u new.receipts). absurd (⊎_elim
          (λ (was : In u old.receipts). both_ways _ h.running (any_receipt n u old.receipts was e))
          (λ (mine : (y : Txn) × (old.sessions a.session ≡ Some y) × (is_ending a.reply ≡ true) × (u ≡ record { txn = y; ends = end_told a.reply })).
          h.other (sym e ∙ ap (λ (z : Receipt). z.txn.number) mine.3 ∙ ap (λ (z : Txn). z.number) (some_is mine.0 x (sym mine.1 ∙ at))))
          (told_in a.reply (old.sessions a.session) u old.receipts (subst (λ xs. In u xs) w.2.receipts here))))
          (λ (came : ((s : ℕ) × (y : Txn) × (new.sessions s ≡ Some y) × (y.number ≡ u.txn.number)) ⊎ (new.next_tid ≤ u.txn.number)). ⊎_elim
          (λ (run2 : (s : ℕ) × (y : Txn) × (new.sessions s ≡ Some y) × (y.number ≡ u.txn.number)). ⊎_elim
          (λ (f : (run2.0 == a.session) ≡ true). absurd (ended_here x v n r at run2.1 (ap new.sessions (sym (eqb-true run2.0 a.session f)) ∙ run2.2)))
          (λ (f : (run2.0 == a.session) ≡ false).
          let was : old.sessions run2.0 ≡ Some run2.1 = sym (w.2.others run2.0 f) ∙ run2.2 in
          held_beside v n run2.0 run2.1 was (run2.3 ∙ e) (h.beside run2.0 run2.1 was (run2.3 ∙ e)))
          (cases_Bool (run2.0 == a.session)))
          (λ (late : new.next_tid ≤ u.txn.number). let below = h.below in absurd (omega (arith, late, e, below)))
          came)
          ((ends a.phase a.worker).came u (subst (λ j. In u (R.last a.phase j).receipts) same.1 (subst (λ i. In u (R.last i k).receipts) same.0 m)))))
          (λ (other : (ph == a.phase && k == a.worker) ≡ false). ⊎_elim
          (λ (here : ph ≡ a.phase). ⊎_elim
          (λ (f : (k == a.worker) ≡ true). absurd (both_ways _ other (and_from _ _ (eq-eqb ph a.phase here) f)))
          (λ (f : (k == a.worker) ≡ false). or_right _ _ (held_elsewhere v n ph k here f (subst (λ i. Touches v ph k i all) e (touched_last v ph k u m t))))
          (cases_Bool (k == a.worker)))
          (λ (there : ph ≡ a.phase → ⊥). ⊎_elim
          (λ (f : nat_lt ph a.phase ≡ true). absurd (early v n r ph k u (ltb-true ph a.phase f) m e))
          (λ (f : nat_lt ph a.phase ≡ false).
          let le = ltb-false ph a.phase f in
          let lt : a.phase < ph = omega (arith, le, there) in
          let below = h.below in
          let up = (ends a.phase a.worker).next_tid in
          let split = (R.split a.phase a.worker ph k lt).next_tid in
          let late = drawn_later ph k u m in
          absurd (omega (arith, below, up, split, late, e)))
          (cases_Bool (nat_lt ph a.phase)))
          (cases_eq ph a.phase))
          (which a ph k)
        where
          some_is : (b c : Txn) → Some b ≡ Some c → b ≡ c
          some_is b c e = (cc)

  -- ---- conflict

  -- a record of the conflict's epoch that this worker committed was committed before the line
  committed_first : (v e : ℕ) (r : Record) → a.reply ≡ reply.Conflict v e → InRecords r records → r.epoch ≡ e → e ≤ seen_epoch base new → has_committed_beside a r.tid all ≡ true → has_committed r.tid (before a above) ≡ true
  committed_first v e r is among epoch met h =
      let c = committed_in base R.seat R.first R.now all R.starts R.seated R.worked a.phase a.worker r.tid
      (any_more (λ b rest. same_worker b a && is_committed b.reply && is_trace r.tid (trace_of b rest)) (λ b rest. commits_at a.phase a.worker r.tid b (trace_of b rest)) all
      (λ b rest t.
      let parts = and_parts (same_worker b a && is_committed b.reply) (is_trace r.tid (trace_of b rest)) t in
      let who = and_parts (same_worker b a) (is_committed b.reply) parts.0 in
      and_from _ _ who.0 (and_from _ _ who.1 parts.1)) h) in
      let last = (R.wound_up a.phase a.worker).kept c.0 c.1 in
      let same = epoch_of_receipt a.phase a.worker c.0 c.3 r last c.4 among c.2 in
      ⊎_elim
      (λ (now_there : In c.0 new.receipts). ⊎_elim
      (λ (was : In c.0 old.receipts).
      sym_any (any_more (λ b rest. commits_at a.phase a.worker r.tid b (trace_of b rest)) (λ b rest. is_before b a && (is_committed b.reply && is_trace r.tid (trace_of b rest))) above
      (λ b rest t. let parts = and_parts (at_worker a.phase a.worker b) (is_committed b.reply && is_trace r.tid (trace_of b rest)) t in and_from _ _ (or_right (nat_lt b.phase a.phase) _ parts.0) parts.1)
      (subst (λ n. any_line (λ b rest. commits_at a.phase a.worker n b (trace_of b rest)) above ≡ true) c.2 (receipt_commits base R.seat R.first w.0 above R.starts st.1 w.1 a.phase a.worker c.0 c.3 was c.4))))
      (λ (mine : (y : Txn) × (old.sessions a.session ≡ Some y) × (is_ending a.reply ≡ true) × (c.0 ≡ record { txn = y; ends = end_told a.reply })).
      absurd (other (sym (ap end_told is) ∙ sym (ap (λ (z : Receipt). z.ends) mine.3) ∙ c.4)))
      (told_in a.reply (old.sessions a.session) c.0 old.receipts (subst (λ xs. In c.0 xs) w.2.receipts now_there)))
      (λ (late : seen_epoch base new < c.3). absurd (omega (arith, late, same, epoch, met)))
      ((ends a.phase a.worker).commits c.0 c.3 last c.4)
    where
      other : {n : ℕ} → Conflict_at v e ≡ Committed_at n → ⊥
      other {n} f = (cc)

      sym_any : any_line (λ b rest. is_before b a && (is_committed b.reply && is_trace r.tid (trace_of b rest))) above ≡ true → has_committed r.tid (before a above) ≡ true
      sym_any h = any-before R.seat a (λ b t. is_committed b.reply && is_trace r.tid t) above st.1 ∙ h

  pub conflict : (x : Txn) (took unsure : List ℕ) (v e : ℕ) → a.reply ≡ reply.Conflict v e → old.sessions a.session ≡ Some x → IsNewest base old new a.session x v e → IsConflict run (like x took unsure) a (before a above) v e
  conflict x took unsure v e r at h =
      let mine : EndHolds R.last records (record { txn = x; ends = Conflict_at v e }) (Conflict_at v e) =
      subst (λ q. EndHolds R.last records (record { txn = x; ends = end_told q }) (end_told q)) r (own_receipt x at (ap is_ending r)) in
      record {
        later = h.later;
        changed = any_in (λ s. s.epoch == e && changes_vertex v s) (λ s. s.epoch == e && changes_vertex v s && (has_committed s.tid (before a above) || not (has_committed_beside a s.tid all))) records
            (λ s among t.
            let parts = and_parts (s.epoch == e) (changes_vertex v s) t in
            and_from _ _ t (⊎_elim
            (λ (beside : has_committed_beside a s.tid all ≡ true). or_left _ _ (committed_first v e s r among (eqb-true s.epoch e parts.0) h.met beside))
            (λ (none : has_committed_beside a s.tid all ≡ false). or_right _ _ (not_from_false _ none))
            (cases_Bool (has_committed_beside a s.tid all))))
            mine;
        free = not_blocked x (like x took unsure) v refl at h.untouched;
        last = none_committed v e h.newest;
      }
