-- The lines of a session without a transaction, and every line.
use Rattle.std.proofs.Common.{◌≡◌, ℕ, ◌≤◌, true, List, [], refl, sym, ap, ◌∙◌, subst, arith, inl, Option, Some, None}
use Rattle.std.proofs.lemmas.Bool.{false≢true}
use Rattle.graph_model.specs.declared.graph.Base.{Base}
use Rattle.graph_model.specs.Records.{IsGood}
use Rattle.request_text.specs.declared.request.Request.{Request}
use Rattle.request_text.specs.declared.request.Request.TheVariants as request
use Rattle.request_text.specs.declared.reply.Reply.{Reply}
use Rattle.request_text.specs.declared.reply.Reply.TheVariants as reply
use Rattle.graph_legal.specs.Kinds.{is_in_kind, is_reply_inside, is_reply_outside, is_no_txn}
use Rattle.core_states.specs.declared.actor.Actor.{Actor}
use Rattle.core_states.specs.declared.event.Act.TheVariants as act
use Rattle.core_states.specs.declared.event.CoreAnswer.TheVariants as answer
use Rattle.core_states.specs.declared.transaction.Transaction.{Transaction}
use Rattle.core_states.specs.Names.{Name}
use Rattle.core_states.specs.Transactions.{is_working}
use Rattle.core_states.specs.ClockEvents.{begun_txn}
use Rattle.core_states.specs.States.{after}
use Rattle.core_states.specs.Openings.{run_limits}
use Rattle.core_states.specs.Sound.{RunsAt}
use Rattle.core_calls.specs.Events.{Told, Did}
use Rattle.core_calls.specs.Calls.{Once, Nothing}
use Rattle.graph_workers.specs.Requests.{OutsideMakes, InsideMakes, LineMakes}
use Rattle.graph_workers.specs.Passes.{Pass, LineRan, told_after, trace_of_txn, EndIs}
use Rattle.graph_workers.proofs.Sights.{Receipt, receipt_told, TxnAfter, NumberDid, DrawnDid, Says, as_traces, fresh_txn}
use Rattle.graph_workers.proofs.Views.{txn_views, sight, Tallies}
use Rattle.graph_workers.proofs.Events.{begun, begin_spent}
use Rattle.graph_workers.proofs.Moving.{Moved, moved_on, moved_by, moved_more, did_first, did_nothing}
use Rattle.graph_workers.proofs.Lining.{Fit, LineOut, line_out}
use Rattle.graph_workers.proofs.Changes.{set_line, drop_line, put_line, del_line}
use Rattle.graph_workers.proofs.Requests.{get_line, edge_line, scan_line, labels_line, begin_line, compact_line, vertex_line, abort_line, commit_line}

only_no_txn : (r : Reply) → is_no_txn r ≡ true → reply.NoTxn ≡ r
only_no_txn reply.NoTxn e = refl
only_no_txn r e = absurd (false≢true e)

module _ (base : Base) (good : IsGood base) (name : ℕ → Name) (apart : (j k : ℕ) → name j ≡ name k → j ≡ k) (p new : Pass) (fit : Fit base name p) (s : ℕ) (rs : List Receipt) (ds : List ℕ) (t : Tallies name p.seen rs ds) where
  module _ (was : (p.seen.actor (name s)).txn ≡ None) where
    -- the session has no transaction after the line, either
    still_none : (q : Request) (r : Reply) → is_reply_outside q r ≡ true → new.told ≡ p.told → (m : Moved base name s p.seen new.seen) → (new.seen.actor (name s)).txn ≡ None → (new.seen.actor (name s)).receipts ≡ (p.seen.actor (name s)).receipts →
        DrawnDid q r (p.seen.actor (name s)).drew (new.seen.actor (name s)).drew → TxnAfter q r None None →
        ((us : List Receipt) (vs : List ℕ) → NumberDid base (sight name p rs ds) (sight name new us vs) q r) → LineOut base name p rs ds s q r new
    still_none q r kind told m idle receipts drew stays number = line_out base name p new s q r rs ds fit t m (omega (arith, told)) (let b = fit.visible in let c = m.later.visible in omega (arith, told, b, c))
        (record {
          session = subst (λ o. TxnAfter q r (txn_views o) (txn_views (new.seen.actor (name s)).txn)) (sym was) (subst (λ o. TxnAfter q r None (txn_views o)) (sym idle) stays);
          works = λ z e. absurd (no_txn z (sym idle ∙ e));
          reads = λ z e. absurd (no_txn z (sym idle ∙ e));
          receipts = inl (receipts, subst (λ o. receipt_told r (txn_views o) ≡ []) (sym was) refl);
          drew = drew;
        })
        (subst (λ o. is_in_kind (as_traces (txn_views o)) q r ≡ true) (sym was) kind)
        (λ us vs. subst (λ o. Says base (sight name p rs ds) (sight name new us vs) s (txn_views o) q r) (sym was) tt) number
      where
        no_txn : (z : Transaction) → None ≡ Some z → ⊥
        no_txn z e = (cc)

    quiet_out : (q : Request) (r : Reply) → is_reply_outside q r ≡ true → new.told ≡ p.told → (es : List Told) → Nothing es → Did base run_limits name (name s) es p.seen new.seen →
        ((new.seen.actor (name s)).drew ≡ (p.seen.actor (name s)).drew → DrawnDid q r (p.seen.actor (name s)).drew (new.seen.actor (name s)).drew) → TxnAfter q r None None →
        ((us : List Receipt) (vs : List ℕ) → NumberDid base (sight name p rs ds) (sight name new us vs) q r) → LineOut base name p rs ds s q r new
    quiet_out q r kind told es e d drew stays number =
        let g = did_nothing base name apart s es p.seen new.seen e d in
        still_none q r kind told (moved_on base name apart s p.seen new.seen g) (ap (λ (b : Actor). b.txn) (g.same s) ∙ was) (ap (λ (b : Actor). b.receipts) (g.same s)) (drew (ap (λ (b : Actor). b.drew) (g.same s))) stays number

    no_txn_out : (q : Request) (r : Reply) → is_reply_outside q reply.NoTxn ≡ true → is_no_txn r ≡ true → new.told ≡ told_after p.told r → (es : List Told) → Nothing es → Did base run_limits name (name s) es p.seen new.seen →
        ((new.seen.actor (name s)).drew ≡ (p.seen.actor (name s)).drew → DrawnDid q reply.NoTxn (p.seen.actor (name s)).drew (new.seen.actor (name s)).drew) → LineOut base name p rs ds s q r new
    no_txn_out q r kind is told es e d drew = subst (λ z. new.told ≡ told_after p.told z → LineOut base name p rs ds s q z new) (only_no_txn r is) (λ g. quiet_out q reply.NoTxn kind g es e d drew refl (λ us vs. tt)) told

    begun_out : (n e : ℕ) → new.told ≡ e → (es : List Told) → Once act.Begin (answer.Begun n e) es → Did base run_limits name (name s) es p.seen new.seen → LineOut base name p rs ds s request.Begin (reply.Begun n e) new
    begun_out n e told es makes d =
        let f = did_first base name apart s act.Begin (answer.Begun n e) [] es p.seen new.seen makes d in
        let now = f.0 in
        let l = begun now (name s) n e (ap (λ (b : Actor). b.txn) (f.1.same s) ∙ was) f.2 in
        let st = after run_limits now (name s) act.Begin in
        let m = moved_more base name apart s p.seen now new.seen (moved_on base name apart s p.seen now f.1) (moved_more base name apart s now st new.seen (moved_by base name apart s now act.Begin f.1.kept) (moved_on base name apart s st new.seen f.3)) in
        let txn : (new.seen.actor (name s)).txn ≡ Some (begun_txn now.clock) = ap (λ (b : Actor). b.txn) (f.3.same s ∙ l.actor) ∙ l.tells.txn in
        let number = l.tells.number in
        let read = l.tells.read in
        let low = f.1.later.next_tid in
        let up = f.1.later.visible in
        let below = fit.visible in
        let next = ap (λ k. k.next_tid) l.clock ∙ l.tells.next_tid in
        let on = f.3.later.next_tid in
        let visible = ap (λ k. k.visible) l.clock ∙ l.tells.visible in
        let on_visible = f.3.later.visible in
        let view : txn_views (new.seen.actor (name s)).txn ≡ Some (fresh_txn n e) = ap txn_views txn ∙ (λ i. Some (fresh_txn (sym number i) (sym read i))) in
        line_out base name p new s request.Begin (reply.Begun n e) rs ds fit t m (omega (arith, told, below, up, read)) (omega (arith, told, read, visible, on_visible))
        (record {
          session = view;
          works = λ z g. subst (λ (w : Transaction). is_working w ≡ true) (the (begun_txn now.clock) z (sym txn ∙ g)) refl;
          reads = λ z g. (let same = ap (λ (w : Transaction). w.read) (the (begun_txn now.clock) z (sym txn ∙ g)) in omega (arith, same, told, read));
          receipts = inl (ap (λ (b : Actor). b.receipts) (f.3.same s ∙ l.actor) ∙ l.tells.receipts ∙ ap (λ (b : Actor). b.receipts) (f.1.same s), subst (λ o. receipt_told (reply.Begun n e) (txn_views o) ≡ []) (sym was) refl);
          drew = ap (λ (b : Actor). b.drew) (f.3.same s ∙ l.actor) ∙ l.tells.drew ∙ ap (λ (b : Actor). b.drew) (f.1.same s);
        })
        (subst (λ o. is_in_kind (as_traces (txn_views o)) request.Begin (reply.Begun n e) ≡ true) (sym was) refl)
        (λ us vs. subst (λ o. Says base (sight name p rs ds) (sight name new us vs) s (txn_views o) request.Begin (reply.Begun n e)) (sym was) tt)
        (λ us vs. (omega (arith, number, low), omega (arith, number, next, on), omega (arith, read, below, up), omega (arith, told)))
      where
        the : (y z : Transaction) → Some y ≡ Some z → y ≡ z
        the y z e = (cc)

    spent_out : new.told ≡ p.told → (es : List Told) → Once act.Begin answer.Spent es → Did base run_limits name (name s) es p.seen new.seen → LineOut base name p rs ds s request.Begin reply.Spent new
    spent_out told es makes d =
        let f = did_first base name apart s act.Begin answer.Spent [] es p.seen new.seen makes d in
        let now = f.0 in
        let l = begin_spent now (name s) (ap (λ (b : Actor). b.txn) (f.1.same s) ∙ was) f.2 in
        let st = after run_limits now (name s) act.Begin in
        let most = l.tells.most in
        let up : now.clock.next_tid ≤ new.seen.clock.next_tid = subst (λ k. k.next_tid ≤ new.seen.clock.next_tid) (l.clock ∙ l.tells.clock) f.3.later.next_tid in
        still_none request.Begin reply.Spent refl told
        (moved_more base name apart s p.seen now new.seen (moved_on base name apart s p.seen now f.1) (moved_more base name apart s now st new.seen (moved_by base name apart s now act.Begin f.1.kept) (moved_on base name apart s st new.seen f.3)))
        (ap (λ (b : Actor). b.txn) (f.3.same s ∙ l.actor) ∙ l.tells.txn) (ap (λ (b : Actor). b.receipts) (f.3.same s ∙ l.actor) ∙ l.tells.receipts ∙ ap (λ (b : Actor). b.receipts) (f.1.same s))
        (ap (λ (b : Actor). b.drew) (f.3.same s ∙ l.actor) ∙ l.tells.drew ∙ ap (λ (b : Actor). b.drew) (f.1.same s)) refl (λ us vs. omega (arith, most, up))

    outside_line : (q : Request) (r : Reply) → is_reply_outside q r ≡ true → new.told ≡ told_after p.told r → (es : List Told) → OutsideMakes q r es → Did base run_limits name (name s) es p.seen new.seen → LineOut base name p rs ds s q r new
    outside_line request.Begin (reply.Begun n e) kind told es makes d = begun_out n e told es makes d
    outside_line request.Begin reply.Spent kind told es makes d = spent_out told es makes d
    outside_line request.Begin reply.NoMemory kind told es makes d = quiet_out request.Begin reply.NoMemory kind told es makes d (λ e. e) refl (λ us vs. tt)
    outside_line request.Begin r kind told es makes d = absurd (false≢true kind)
    outside_line (request.Compact v l) reply.Compacted kind told es makes d = quiet_out (request.Compact v l) reply.Compacted kind told es makes d (λ e. e) refl (λ us vs. tt)
    outside_line (request.Compact v l) reply.NoMemory kind told es makes d = quiet_out (request.Compact v l) reply.NoMemory kind told es makes d (λ e. e) refl (λ us vs. tt)
    outside_line (request.Compact v l) r kind told es makes d = absurd (false≢true kind)
    outside_line q r kind told es makes d = no_txn_out q r refl kind told es makes d (λ e. e)

  inside_line : (x : Transaction) → RunsAt p.seen (name s) x → (q : Request) (r : Reply) → is_reply_inside q r ≡ true → new.told ≡ told_after p.told r → EndIs r (new.seen.actor (name s)) → (es : List Told) → InsideMakes x q r es →
      Did base run_limits name (name s) es p.seen new.seen → LineOut base name p rs ds s q r new
  inside_line x was request.Begin r kind told fin es makes d = begin_line base good name apart p new fit s rs ds t x was r es kind told makes d
  inside_line x was (request.Vertex z) r kind told fin es makes d = vertex_line base good name apart p new fit s rs ds t x was z r es kind told makes d
  inside_line x was (request.Set v z) r kind told fin es makes d = set_line base good name apart p new fit s rs ds t x was v z r es kind told makes d
  inside_line x was (request.Get v) r kind told fin es makes d = get_line base good name apart p new fit s rs ds t x was v r es kind told makes d
  inside_line x was (request.Drop v) r kind told fin es makes d = drop_line base good name apart p new fit s rs ds t x was v r es kind told makes d
  inside_line x was (request.Put v l e z) r kind told fin es makes d = put_line base good name apart p new fit s rs ds t x was v l e z r es kind told makes d
  inside_line x was (request.Del v l e) r kind told fin es makes d = del_line base good name apart p new fit s rs ds t x was v l e r es kind told makes d
  inside_line x was (request.Edge v l e) r kind told fin es makes d = edge_line base good name apart p new fit s rs ds t x was v l e r es kind told makes d
  inside_line x was (request.Scan v l) r kind told fin es makes d = scan_line base good name apart p new fit s rs ds t x was v l r es kind told makes d
  inside_line x was (request.Labels v) r kind told fin es makes d = labels_line base good name apart p new fit s rs ds t x was v r es kind told makes d
  inside_line x was request.Commit r kind told fin es makes d = commit_line base good name apart p new fit s rs ds t x was r es kind told fin makes d
  inside_line x was request.Abort r kind told fin es makes d = abort_line base good name apart p new fit s rs ds t x was r es kind told makes d
  inside_line x was (request.Compact v l) r kind told fin es makes d = compact_line base good name apart p new fit s rs ds t x was v l r es kind told makes d

  -- What a line ran is what it did to the sight of its pass.
  pub ran_line : (q : Request) (r : Reply) → LineRan base name p s q r new → LineOut base name p rs ds s q r new
  ran_line q r ran = by_txn (p.seen.actor (name s)).txn refl ran.kind ran.makes
    where
      by_txn : (o : Option Transaction) → (p.seen.actor (name s)).txn ≡ o → is_in_kind (trace_of_txn o) q r ≡ true → LineMakes o q r ran.events → LineOut base name p rs ds s q r new
      by_txn None was kind makes = outside_line was q r kind ran.told ran.events makes ran.did
      by_txn (Some x) was kind makes = inside_line x was q r kind ran.told ran.ends ran.events makes ran.did
