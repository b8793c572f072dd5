-- The premises of the law can be met: a worker begins, makes a vertex and commits, and its record is durable or fails.
use Rattle.std.proofs.Common.{◌≡◌, ◌≢◌, ℕ, zero, suc, ◌≤◌, ◌<◌, true, false, List, [], ◌∷◌, length, refl, sym, ap, ◌∙◌, subst, arith, inl, inr, ⊎_elim, Some, None}
use Rattle.std.specs.Prelude.{◌==◌, ◌&&◌}
use Rattle.std.proofs.lemmas.Bool.{ne_eqb, and_left}
use Rattle.graph_model.specs.declared.change.Change.TheVariants as change
use Rattle.graph_model.specs.declared.record.Record.{Record}
use Rattle.graph_model.specs.Records.{IsGood, empty_base}
use Rattle.request_text.specs.declared.request.Request.TheVariants as request
use Rattle.request_text.specs.declared.reply.Reply.{Reply}
use Rattle.request_text.specs.declared.reply.Reply.TheVariants as reply
use Rattle.graph_legal.specs.Lines.{Replied}
use Rattle.core_states.specs.declared.actor.Actor.{Actor}
use Rattle.core_states.specs.declared.event.Act.{Act}
use Rattle.core_states.specs.declared.event.Act.TheVariants as act
use Rattle.core_states.specs.declared.event.CoreAnswer.TheVariants as answer
use Rattle.core_states.specs.declared.transaction.End.TheVariants.{Faulted}
use Rattle.core_states.specs.Faults.{FailedAs}
use Rattle.core_states.specs.LogParts.{Found, all_firm}
use Rattle.core_states.specs.Names.{Name}
use Rattle.core_states.specs.States.{State, after}
use Rattle.core_states.specs.Openings.{opening, run_limits}
use Rattle.core_kept.specs.Bounds.{Kept}
use Rattle.core_states.specs.Laters.{Later, LaterLog}
use Rattle.core_states.proofs.Names.{cases_name}
use Rattle.core_kept.proofs.Keeping.{opening_kept, run_may_open, step_kept}
use Rattle.core_laws.proofs.Laters.{kept_later, later_log}
use Rattle.core_calls.proofs.OnParts.{later_more, later_refl, later_log_more, later_log_refl, others}
use Rattle.core_calls.specs.Events.{Told, told, GoesOn}
use Rattle.graph_workers.specs.Passes.{Pass, LineRan, Served, Starts, WoundUp, own_lines}
use Rattle.graph_workers.specs.Workers.{Named, Knows, Closed, AllRan}

-- ---- the actors

abbrev pub name : ℕ → ℕ → ℕ → Name
name ph w k = record { pass = w ∷ ph ∷ []; index = k }

phase_in : List ℕ → ℕ
phase_in [] = 0
phase_in (w ∷ []) = 0
phase_in (w ∷ ph ∷ ns) = ph

worker_in : List ℕ → ℕ
worker_in [] = 0
worker_in (w ∷ ns) = w

named : Named name
unfolding phase_in worker_in
named = record {
  phase_of = λ i. phase_in i.pass;
  worker_of = λ i. worker_in i.pass;
  session_of = λ i. i.index;
  phase = λ ph w k. refl;
  worker = λ ph w k. refl;
  session = λ ph w k. refl;
}

abbrev me : Name
me = name 0 0 0

-- ---- the states: one actor does events, one after the other

good_base : IsGood empty_base
good_base = record { graph = refl; vertices = refl; lists = refl; epoch = refl; numbers = refl; beginning = λ e. refl }

abbrev done_by : State → List Act → State
done_by s [] = s
done_by s (a ∷ acts) = done_by (after run_limits s me a) acts

kept_by : (s : State) (acts : List Act) → Kept empty_base run_limits s → Kept empty_base run_limits (done_by s acts)
kept_by s [] kept = kept
kept_by s (a ∷ acts) kept = kept_by (after run_limits s me a) acts (step_kept empty_base run_limits s me a kept)

later_by : (s : State) (acts : List Act) → Kept empty_base run_limits s → Later s.clock (done_by s acts).clock
later_by s [] kept = later_refl s.clock
later_by s (a ∷ acts) kept = later_more s.clock (after run_limits s me a).clock (done_by (after run_limits s me a) acts).clock (kept_later empty_base run_limits s me a kept)
    (later_by (after run_limits s me a) acts (step_kept empty_base run_limits s me a kept))

log_by : (s : State) (acts : List Act) → LaterLog s.log (done_by s acts).log
log_by s [] = later_log_refl s.log
log_by s (a ∷ acts) = later_log_more s.log (after run_limits s me a).log (done_by (after run_limits s me a) acts).log (later_log run_limits s me a) (log_by (after run_limits s me a) acts)

others_by : (s : State) (acts : List Act) (j : Name) → j ≢ me → (done_by s acts).actor j ≡ s.actor j
others_by s [] j ne = refl
others_by s (a ∷ acts) j ne = others_by (after run_limits s me a) acts j ne ∙ others run_limits s me j a ne

-- from any opening: whatever the disk's count of faults is, and what is on it
module _ (found : Found) where
  abbrev s0 : State
  s0 = opening empty_base found

  abbrev s1 : State
  s1 = done_by s0 (act.Open ∷ [])

  abbrev s2 : State
  s2 = done_by s1 (act.Begin ∷ [])

  abbrev s3 : State
  s3 = done_by s2 (act.Draw ∷ act.New 1 (97 ∷ []) ∷ [])

  abbrev committing : List Act
  committing = act.Enqueue ∷ act.Collect ∷ act.WriteGroup 5 ∷ act.Publish ∷ act.Apply 1 ∷ act.Done ∷ act.Seen ∷ []

  abbrev s4 : State
  s4 = done_by s3 committing

  k0 : Kept empty_base run_limits s0
  k0 = opening_kept empty_base found run_limits (run_may_open empty_base good_base)

  k1 : Kept empty_base run_limits s1
  k1 = kept_by s0 (act.Open ∷ []) k0

  k2 : Kept empty_base run_limits s2
  k2 = kept_by s1 (act.Begin ∷ []) k1

  k3 : Kept empty_base run_limits s3
  k3 = kept_by s2 (act.Draw ∷ act.New 1 (97 ∷ []) ∷ []) k2

  k4 : Kept empty_base run_limits s4
  k4 = kept_by s3 committing k3

  -- ---- the lines

  abbrev a1 : Replied
  a1 = record { phase = 0; worker = 0; session = 0; request = request.Begin; reply = reply.Begun 1 0 }

  abbrev a2 : Replied
  a2 = record { phase = 0; worker = 0; session = 0; request = request.Vertex (97 ∷ []); reply = reply.Vertex 1 }

  abbrev lines : Reply → List Replied
  lines r = record { phase = 0; worker = 0; session = 0; request = request.Commit; reply = r } ∷ a2 ∷ a1 ∷ []

  abbrev p1 : Pass
  p1 = record { told = 0; seen = s1 }

  abbrev p2 : Pass
  p2 = record { told = 0; seen = s2 }

  abbrev p3 : Pass
  p3 = record { told = 0; seen = s3 }

  abbrev p4 : Pass
  p4 = record { told = 1; seen = s4 }

  abbrev idle : Pass
  idle = record { told = 0; seen = s0 }

  stands : (n : ℕ → Name) (s : State) → Kept empty_base run_limits s → GoesOn empty_base run_limits n s s
  stands n s kept = record { kept = kept; later = later_refl s.clock; later_log = later_log_refl s.log; receipts = λ i r among. among; same = λ k. refl }

  kept_next : (s : State) (a : Act) → Kept empty_base run_limits s → Kept empty_base run_limits (after run_limits s me a)
  kept_next s a kept = step_kept empty_base run_limits s me a kept

  ran1 : LineRan empty_base (name 0 0) p1 0 request.Begin (reply.Begun 1 0) p2
  ran1 = record {
    kind = refl;
    events = told act.Begin (answer.Begun 1 0) ∷ [];
    makes = refl;
    did = (s1, stands (name 0 0) s1 k1, refl, stands (name 0 0) s2 k2);
    told = refl;
    ends = tt;
  }

  ran2 : LineRan empty_base (name 0 0) p2 0 (request.Vertex (97 ∷ [])) (reply.Vertex 1) p3
  ran2 = record {
    kind = refl;
    events = told act.Draw (answer.Number 1) ∷ told (act.New 1 (97 ∷ [])) answer.Done ∷ [];
    makes = (told (act.New 1 (97 ∷ [])) answer.Done ∷ [], refl, refl);
    did = (s2, stands (name 0 0) s2 k2, refl, (after run_limits s2 me act.Draw, stands (name 0 0) (after run_limits s2 me act.Draw) (kept_next s2 act.Draw k2), refl, stands (name 0 0) s3 k3));
    told = refl;
    ends = tt;
  }

  abbrev t1 : State
  t1 = done_by s3 (act.Enqueue ∷ [])

  abbrev t2 : State
  t2 = done_by t1 (act.Collect ∷ [])

  abbrev t3 : State
  t3 = done_by t2 (act.WriteGroup 5 ∷ [])

  abbrev t4 : State
  t4 = done_by t3 (act.Publish ∷ [])

  abbrev t5 : State
  t5 = done_by t4 (act.Apply 1 ∷ [])

  abbrev t6 : State
  t6 = done_by t5 (act.Done ∷ [])

  j1 : Kept empty_base run_limits t1
  j1 = kept_next s3 act.Enqueue k3

  j2 : Kept empty_base run_limits t2
  j2 = kept_next t1 act.Collect j1

  j3 : Kept empty_base run_limits t3
  j3 = kept_next t2 (act.WriteGroup 5) j2

  j4 : Kept empty_base run_limits t4
  j4 = kept_next t3 act.Publish j3

  j5 : Kept empty_base run_limits t5
  j5 = kept_next t4 (act.Apply 1) j4

  j6 : Kept empty_base run_limits t6
  j6 = kept_next t5 act.Done j5

  abbrev waits : List Told
  waits = told act.Collect (answer.Collected 1) ∷ told (act.WriteGroup 5) answer.Done ∷ told act.Publish (answer.Published 1) ∷ told (act.Apply 1) answer.Done ∷ told act.Done answer.Done ∷ told act.Seen (answer.Visible true) ∷ []

  ran3 : LineRan empty_base (name 0 0) p3 0 request.Commit (reply.Committed 1) p4
  ran3 = record {
    kind = refl;
    events = told act.Enqueue (answer.Learnt 0 1) ∷ waits;
    makes = (0, 1, (waits, refl, inr (inr (inl (1, refl)), inr (inr (inr (inl (5, refl))), inr (inr (inr (inr (inl (1, refl)))), inl (inr ((1, refl), inl (refl, inl (refl, refl)))))))));
    did = (s3, stands (name 0 0) s3 k3, refl, (t1, stands (name 0 0) t1 j1, refl, (t2, stands (name 0 0) t2 j2, refl, (t3, stands (name 0 0) t3 j3, refl, (t4, stands (name 0 0) t4 j4, refl, (t5, stands (name 0 0) t5 j5, refl, (t6, stands (name 0 0) t6 j6, refl, stands (name 0 0) s4 k4)))))));
    told = refl;
    ends = refl;
  }

-- ---- the run, whatever the last line made

module _ (found : Found) (ending : List Act) (r : Reply) (epoch : ℕ) (ran : LineRan empty_base (name 0 0) (p3 found) 0 request.Commit r (record { told = epoch; seen = done_by (s3 found) ending }))
    (in_sight : epoch ≤ (done_by (s3 found) ending).clock.visible) (left : ((done_by (s3 found) ending).actor me).txn ≡ None) where
  abbrev ended : State
  ended = done_by (s3 found) ending

  abbrev done : Pass
  done = record { told = epoch; seen = ended }

  kept_last : Kept empty_base run_limits ended
  kept_last = kept_by (s3 found) ending (k3 found)

  -- ---- the passes, by phase and worker

  first : ℕ → ℕ → Pass
  first zero zero = p1 found
  first zero (suc w) = idle found
  first (suc ph) w = done

  now : ℕ → ℕ → Pass
  now zero zero = done
  now zero (suc w) = idle found
  now (suc ph) w = done

  -- every other actor is as the run opened with it
  other_is : (i : Name) → i ≢ me → ended.actor i ≡ (s0 found).actor i
  other_is i ne = others_by (s3 found) ending i ne ∙ others_by (s2 found) (act.Draw ∷ act.New 1 (97 ∷ []) ∷ []) i ne ∙ others_by (s1 found) (act.Begin ∷ []) i ne ∙ others_by (s0 found) (act.Open ∷ []) i ne

  other_worker : (w k : ℕ) → name 0 (suc w) k ≢ me
  other_worker w k e = let f = ap named.worker_of e in let g = named.worker 0 (suc w) k in let h = named.worker 0 0 0 in omega (arith, f, g, h)

  other_phase : (ph w k : ℕ) → name (suc ph) w k ≢ me
  other_phase ph w k e = let f = ap named.phase_of e in let g = named.phase (suc ph) w k in let h = named.phase 0 0 0 in omega (arith, f, g, h)

  -- and so are the worker's own sessions but the first, and the first has no transaction in the end
  idle_by : (i : Name) → (ended.actor i).txn ≡ None
  idle_by i = ⊎_elim
      (λ (e : i ≡ me). ap (λ j. (ended.actor j).txn) e ∙ left)
      (λ (ne : i ≢ me). ap (λ (a : Actor). a.txn) (other_is i ne))
      (cases_name i me)

  starts : (ph w : ℕ) → Starts empty_base (name ph w) (first ph w)
  unfolding first
  starts zero zero = record {
    low = omega arith;
    before = s0 found;
    visible = omega arith;
    fresh = λ k. refl;
    sessions = 0 ∷ [];
    opened = (s1 found, told act.Open answer.Done ∷ [], refl, (s0 found, stands found (name 0 0) (s0 found) (k0 found), refl, stands found (name 0 0) (s1 found) (k1 found)), stands found (name 0 0) (s1 found) (k1 found));
  }
  starts zero (suc w) = record { low = omega arith; before = s0 found; visible = omega arith; fresh = λ k. refl; sessions = []; opened = stands found (name 0 (suc w)) (s0 found) (k0 found) }
  starts (suc ph) w = record {
    low = omega arith;
    before = ended;
    visible = in_sight;
    fresh = λ k. other_is (name (suc ph) w k) (other_phase ph w k);
    sessions = [];
    opened = stands found (name (suc ph) w) ended kept_last;
  }

  none_there : (ph w : ℕ) → (0 == ph && 0 == w) ≡ false → own_lines ph w (lines found r) ≡ []
  none_there ph w e = rw e refl

  served : (ph w : ℕ) → Served empty_base (name ph w) (first ph w) (own_lines ph w (lines found r)) (now ph w)
  unfolding first now
  served zero zero = (p3 found, (p2 found, (p1 found, refl, ran1 found), ran2 found), ran)
  served zero (suc w) = subst (λ xs. Served empty_base (name 0 (suc w)) (idle found) xs (idle found)) (sym (none_there 0 (suc w) (ne_eqb 0 (suc w) (λ e. omega (arith, e))))) refl
  served (suc ph) w = subst (λ xs. Served empty_base (name (suc ph) w) done xs done) (sym (none_there (suc ph) w (and_left _ _ (ne_eqb 0 (suc ph) (λ e. omega (arith, e)))))) refl

  wound : (n : ℕ → Name) (p : Pass) → Kept empty_base run_limits p.seen → ((k : ℕ) → (p.seen.actor (n k)).txn ≡ None) → WoundUp empty_base n p p
  wound n p kept none = record { told = refl; sessions = []; closed = stands found n p.seen kept; others = λ k e. none k }

  wound_up : (ph w : ℕ) → WoundUp empty_base (name ph w) (now ph w) (now ph w)
  unfolding now
  wound_up zero zero = wound (name 0 0) done kept_last (λ k. idle_by (name 0 0 k))
  wound_up zero (suc w) = wound (name 0 (suc w)) (idle found) (k0 found) (λ k. refl)
  wound_up (suc ph) w = wound (name (suc ph) w) done kept_last (λ k. idle_by (name (suc ph) w k))

  -- from the opening on
  later_all : Later (s0 found).clock ended.clock
  later_all = later_more (s0 found).clock (s1 found).clock ended.clock (later_by (s0 found) (act.Open ∷ []) (k0 found))
      (later_more (s1 found).clock (s2 found).clock ended.clock (later_by (s1 found) (act.Begin ∷ []) (k1 found)) (later_more (s2 found).clock (s3 found).clock ended.clock (later_by (s2 found) (act.Draw ∷ act.New 1 (97 ∷ []) ∷ []) (k2 found)) (later_by (s3 found) ending (k3 found))))

  log_all : LaterLog (s0 found).log ended.log
  log_all = later_log_more (s0 found).log (s1 found).log ended.log (log_by (s0 found) (act.Open ∷ []))
      (later_log_more (s1 found).log (s2 found).log ended.log (log_by (s1 found) (act.Begin ∷ [])) (later_log_more (s2 found).log (s3 found).log ended.log (log_by (s2 found) (act.Draw ∷ act.New 1 (97 ∷ []) ∷ [])) (log_by (s3 found) ending)))

  split : (ph w ph2 w2 : ℕ) → ph < ph2 → Knows (now ph w) (first ph2 w2)
  unfolding first now
  split ph w zero w2 lt = absurd (omega (arith, lt))
  split zero zero (suc ph2) w2 lt = record { told = omega arith; later = later_refl ended.clock; receipts = λ i r among. among }
  split zero (suc w) (suc ph2) w2 lt = record { told = omega arith; later = later_all; receipts = λ i r among. absurd among }
  split (suc ph) w (suc ph2) w2 lt = record { told = omega arith; later = later_refl ended.clock; receipts = λ i r among. among }

  closed : Closed empty_base found name now ended
  unfolding now
  closed = record {
    kept = kept_last;
    opened = log_all;
    later = later_to;
    same = same_as;
    only = λ i. ⊎_elim
        (λ (e : i ≡ me). inr (0, 0, 0, e))
        (λ (ne : i ≢ me). inl (record { txn = ap (λ (a : Actor). a.txn) (other_is i ne); receipts = ap (λ (a : Actor). a.receipts) (other_is i ne); drew = ap (λ (a : Actor). a.drew) (other_is i ne) }))
        (cases_name i me);
  }
    where
      later_to : (ph w : ℕ) → Later (now ph w).seen.clock ended.clock
      later_to zero zero = later_refl ended.clock
      later_to zero (suc w) = later_all
      later_to (suc ph) w = later_refl ended.clock

      same_as : (ph w k : ℕ) → ended.actor (name ph w k) ≡ (now ph w).seen.actor (name ph w k)
      same_as zero zero k = refl
      same_as zero (suc w) k = other_is (name 0 (suc w) k) (other_worker w k)
      same_as (suc ph) w k = refl

  -- All premises hold of this run.
  all_ran : AllRan empty_base found ended (lines found r)
  all_ran = record { name = name; named = named; first = first; now = now; last = now; starts = starts; served = served; wound_up = wound_up; split = split; closed = closed }

pub can_run : (found : Found) → (closed : State) × (lines : List Replied) × AllRan empty_base found closed lines × (length closed.clock.records ≡ 1)
can_run found = (s4 found, lines found (reply.Committed 1), all_ran found (committing found) (reply.Committed 1) 1 (ran3 found) (omega arith) refl, refl)

-- ---- a commit whose group fails

abbrev three : Found
three = record { count = 3; firm = all_firm; records = Some [] }

abbrev f1 : State
f1 = done_by (s3 three) (act.Enqueue ∷ [])

abbrev f2 : State
f2 = done_by f1 (act.Collect ∷ [])

abbrev f3 : State
f3 = done_by f2 (act.Fail 3 4 ∷ [])

abbrev f4 : State
f4 = done_by f3 (act.Mend ∷ [])

abbrev f5 : State
f5 = done_by f4 (act.Undo 1 ∷ [])

abbrev f6 : State
f6 = done_by f5 (act.End ∷ [])

g3 : Kept empty_base run_limits (s3 three)
g3 = k3 three

h1 : Kept empty_base run_limits f1
h1 = kept_by (s3 three) (act.Enqueue ∷ []) g3

h2 : Kept empty_base run_limits f2
h2 = kept_by f1 (act.Collect ∷ []) h1

h3 : Kept empty_base run_limits f3
h3 = kept_by f2 (act.Fail 3 4 ∷ []) h2

h4 : Kept empty_base run_limits f4
h4 = kept_by f3 (act.Mend ∷ []) h3

h5 : Kept empty_base run_limits f5
h5 = kept_by f4 (act.Undo 1 ∷ []) h4

h6 : Kept empty_base run_limits f6
h6 = kept_by f5 (act.End ∷ []) h5

abbrev fails : List Told
fails = told act.Collect (answer.Collected 1) ∷ told (act.Fail 3 4) answer.Done ∷ told act.Mend answer.Done ∷ told (act.Undo 1) answer.Done ∷ told act.End answer.Done ∷ []

abbrev failing : List Act
failing = act.Enqueue ∷ act.Collect ∷ act.Fail 3 4 ∷ act.Mend ∷ act.Undo 1 ∷ act.End ∷ []

stays : (s : State) → Kept empty_base run_limits s → GoesOn empty_base run_limits (name 0 0) s s
stays s kept = record { kept = kept; later = later_refl s.clock; later_log = later_log_refl s.log; receipts = λ i r among. among; same = λ k. refl }

faulted : LineRan empty_base (name 0 0) (record { told = 0; seen = s3 three }) 0 request.Commit (reply.LogFault 3 4) (record { told = 0; seen = f6 })
faulted = record {
  kind = refl;
  events = told act.Enqueue (answer.Learnt 0 1) ∷ fails;
  makes = (0, 1, (fails, refl, inr (inr (inl (1, refl)), inr (inr (inr (inr (inr (inl (3, 4, refl))))), inr (inr (inr (inr (inr (inr refl)))), inl (inr ((1, refl), inl (refl, refl))))))));
  did = (s3 three, stays (s3 three) g3, refl, (f1, stays f1 h1, refl, (f2, stays f2 h2, refl, (f3, stays f3 h3, refl, (f4, stays f4 h4, refl, (f5, stays f5 h5, refl, stays f6 h6))))));
  told = refl;
  ends = refl;
}

pub can_fault : (p : Pass) × (new : Pass) × LineRan empty_base (name 0 0) p 0 request.Commit (reply.LogFault 3 4) new
can_fault = (record { told = 0; seen = s3 three }, record { told = 0; seen = f6 }, faulted)

-- The transaction of such a run has failed in the end.
pub can_fail : (found : Found) × (closed : State) × (lines : List Replied) × (r : Record) × AllRan empty_base found closed lines × FailedAs closed 3 4 r
can_fail = (
  three,
  f6,
  lines three (reply.LogFault 3 4),
  record { tid = 1; read = 0; epoch = 0; changes = change.New 1 (97 ∷ []) ∷ [] },
  all_ran three failing (reply.LogFault 3 4) 0 faulted (omega arith) refl,
  (
    refl,
    inr (record {
      actor = me;
      receipt = record { tid = 1; read = 0; changes = change.New 1 (97 ∷ []) ∷ []; touched = 1 ∷ []; ends = Faulted 3 4 };
      among = inl refl;
      number = refl;
      read = refl;
      changes = refl;
      ends = refl;
    }),
  ),
)
