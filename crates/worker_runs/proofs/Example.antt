-- A worker opens its session, begins, commits without a change, and closes, and its notes are those of the law.
use Rattle.std.proofs.Common.{◌≡◌, ◌⊎◌, inl, inr, ℕ, zero, suc, ◌-◌, ◌<◌, Bool, true, false, List, [], ◌∷◌, ◌++◌, length, refl, sym, ap, subst, arith, append-nil, None}
use Rattle.std.specs.Prelude.{◌==◌, ◌&&◌, if◌then◌else◌}
use Rattle.std.proofs.lemmas.Bool.{ne_eqb, and_left}
use Rattle.graph_model.specs.Records.{IsGood, empty_base}
use Rattle.request_text.specs.declared.request.Request.TheVariants as request
use Rattle.request_text.specs.declared.reply.Reply.TheVariants as reply
use Rattle.graph_legal.specs.Lines.{Replied}
use Rattle.core_states.specs.declared.actor.Actor.{Actor}
use Rattle.core_states.specs.declared.event.Act.TheVariants as act
use Rattle.core_states.specs.declared.event.CoreAnswer.TheVariants as answer
use Rattle.core_states.specs.declared.event.Reach.TheVariants as reach
use Rattle.core_states.specs.Names.{Name, same_pass, set_at}
use Rattle.core_states.specs.Openings.{run_limits, no_disk, fresh_actor}
use Rattle.core_states.specs.Parts.{Parts, bare_parts, step}
use Rattle.core_states.proofs.Names.{set_at_there}
use Rattle.core_kept.proofs.Keeping.{run_may_open, run_allowed}
use Rattle.core_laws.proofs.Parts.{opens_is, opens_kept, bare_open}
use Rattle.core_calls.specs.Events.{told}
use Rattle.graph_workers.specs.Passes.{own_lines}
use Rattle.turn_board.specs.Views.{Done, Noted, Did, Start, View}
use Rattle.turn_board.specs.Histories.{Reached, noted}
use Rattle.turn_board.proofs.Steps.{reached_after}
use Rattle.worker_runs.specs.Ahead.{state_at}
use Rattle.worker_runs.specs.Notes.{session, WorkerDid}
use Rattle.worker_runs.specs.Runs.{ComesBefore, AllDid, IsToldOf}
use Rattle.worker_runs.proofs.Ahead.{same_passes}

-- ---- the run

abbrev me : Name
me = session (1 ∷ []) 0

abbrev start : Start
start = record { base = empty_base; limits = run_limits; found = no_disk; shards = 1 }

abbrev opens : Done
opens = record { by = me; act = act.Open; answer = answer.Done }

abbrev begins : Done
begins = record { by = me; act = act.Begin; answer = answer.Begun 1 0 }

abbrev ends : Done
ends = record { by = me; act = act.End; answer = answer.Done }

abbrev closes : Done
closes = record { by = me; act = act.Close; answer = answer.Done }

abbrev run : List Done
run = closes ∷ ends ∷ begins ∷ opens ∷ []

abbrev p0 : Parts
p0 = bare_parts empty_base run_limits no_disk 1

abbrev p1 : Parts
p1 = step reach.Clock empty_base p0 me act.Open

abbrev p2 : Parts
p2 = step reach.Clock empty_base p1 me act.Begin

abbrev p3 : Parts
p3 = step reach.Clock empty_base p2 me act.End

abbrev p4 : Parts
p4 = step reach.Clock empty_base p3 me act.Close

good_base : IsGood empty_base
good_base = record { graph = refl; vertices = refl; lists = refl; epoch = refl; numbers = refl; beginning = λ e. refl }

r0 : Reached empty_base p0 []
r0 = record {
  may = run_may_open empty_base good_base;
  allowed = run_allowed;
  some = omega arith;
  kept = opens_kept empty_base no_disk p0 (run_may_open empty_base good_base) (bare_open empty_base run_limits no_disk 1 (omega arith));
  is = opens_is empty_base no_disk p0 (bare_open empty_base run_limits no_disk 1 (omega arith));
  answers = tt;
}

r4 : Reached empty_base p4 run
r4 = reached_after reach.Clock empty_base p3 (ends ∷ begins ∷ opens ∷ []) closes
    (reached_after reach.Clock empty_base p2 (begins ∷ opens ∷ []) ends
    (reached_after reach.Clock empty_base p1 (opens ∷ []) begins (reached_after reach.Clock empty_base p0 [] opens r0 refl refl) refl refl) refl refl) refl refl

-- ---- the notes

abbrev left : List Done → Actor
left done = (state_at start done).actor me

abbrev a1 : Actor
a1 = left (opens ∷ [])

abbrev a2 : Actor
a2 = left (begins ∷ opens ∷ [])

abbrev a3 : Actor
a3 = left (ends ∷ begins ∷ opens ∷ [])

abbrev a4 : Actor
a4 = left run

abbrev notes : List Noted
notes = Did opens a1 ∷ Did begins a2 ∷ Did ends a3 ∷ Did closes a4 ∷ []

abbrev v : View
v = record {
  base = empty_base;
  limits = run_limits;
  found = no_disk;
  shards = 1;
  spent = false;
  number = [];
  joined = (1 ∷ []) ∷ [];
  made = (1 ∷ []) ∷ [];
  splits = 1;
  origins = record { number = 1 ∷ []; passes = [] ∷ []; events = [] } ∷ [];
  held = [];
  actors = p4.actors;
  events = notes;
  seen = [];
  seen_logs = [];
}

abbrev if_so : Bool → Noted → List Noted
if_so b x = if b then x ∷ [] else []

four : (b : Bool) (w x y z : Noted) → ((([] ++ if_so b w) ++ if_so b x) ++ if_so b y) ++ if_so b z ≡ if_so b w ++ (if_so b x ++ (if_so b y ++ (if_so b z ++ [])))
four true w x y z = refl
four false w x y z = refl

is_told : IsToldOf v p4 run
is_told = record {
  reached = r4;
  opened = (refl, refl);
  limits = refl;
  own = λ n. (refl, four (same_pass n.pass (1 ∷ [])) (Did opens a1) (Did begins a2) (Did ends a3) (Did closes a4));
  began = (record { late = run; early = []; are = sym (append-nil run); nothing = refl; before = λ p i. refl }, tt);
}

-- ---- the workers

pass : ℕ → ℕ → List ℕ
pass zero w = suc w ∷ []
pass (suc ph) w = w ∷ ph ∷ []

phase_in : List ℕ → ℕ
phase_in [] = 0
phase_in (x ∷ []) = 0
phase_in (x ∷ y ∷ xs) = suc y

worker_in : List ℕ → ℕ
worker_in [] = 0
worker_in (x ∷ []) = x - 1
worker_in (x ∷ y ∷ xs) = x

phase_is : (ph w : ℕ) → phase_in (pass ph w) ≡ ph
unfolding pass phase_in
phase_is zero w = refl
phase_is (suc ph) w = refl

worker_is : (ph w : ℕ) → worker_in (pass ph w) ≡ w
unfolding pass worker_in
worker_is zero w = omega arith
worker_is (suc ph) w = refl

abbrev fresh : ℕ → Actor
fresh k = fresh_actor empty_base

abbrev after1 : ℕ → Actor
after1 = set_at fresh 0 a1

abbrev after2 : ℕ → Actor
after2 = set_at after1 0 a2

abbrev after3 : ℕ → Actor
after3 = set_at after2 0 a3

abbrev after4 : ℕ → Actor
after4 = set_at after3 0 a4

abbrev asked_begin : Replied
asked_begin = record { phase = 0; worker = 0; session = 0; request = request.Begin; reply = reply.Begun 1 0 }

abbrev asked_commit : Replied
asked_commit = record { phase = 0; worker = 0; session = 0; request = request.Commit; reply = reply.Ended }

abbrev lines : List Replied
lines = asked_commit ∷ asked_begin ∷ []

none_left : (b : Bool) → (if b then a3 else (if b then a2 else (if b then a1 else fresh_actor empty_base))).txn ≡ None
none_left true = refl
none_left false = refl

first : WorkerDid empty_base (1 ∷ []) lines notes
first = record {
  opened = 0 ∷ [];
  at_first = after1;
  opening = Did opens a1 ∷ [];
  opens = (
    after1,
    told act.Open answer.Done ∷ [],
    refl,
    Did opens a1 ∷ [],
    [],
    refl,
    record { are = (a1, [], refl, (refl, refl)); others = λ j ne. set_at_there fresh 0 a1 j ne },
    (refl, λ k. refl),
  );
  at_end = after3;
  serving = Did begins a2 ∷ Did ends a3 ∷ [];
  serves = (
    after2,
    Did begins a2 ∷ [],
    Did ends a3 ∷ [],
    refl,
    (
      after1,
      [],
      Did begins a2 ∷ [],
      refl,
      (refl, λ k. refl),
      record {
        events = told act.Begin (answer.Begun 1 0) ∷ [];
        kind = λ base name i from to did. refl;
        makes = refl;
        did = record { are = (a2, [], refl, (refl, refl)); others = λ j ne. set_at_there after1 0 a2 j ne };
        ends = tt;
      },
    ),
    record {
      events = told act.End answer.Done ∷ [];
      kind = λ base name i from to did. refl;
      makes = (refl, inl (refl, refl));
      did = record { are = (a3, [], refl, (refl, refl)); others = λ j ne. set_at_there after2 0 a3 j ne };
      ends = tt;
    },
  );
  closed = 0 ∷ [];
  left = after4;
  closing = Did closes a4 ∷ [];
  closes = (
    after4,
    told act.Close answer.Done ∷ [],
    refl,
    Did closes a4 ∷ [],
    [],
    refl,
    record { are = (a4, [], refl, (refl, refl)); others = λ j ne. set_at_there after3 0 a4 j ne },
    (refl, λ k. refl),
  );
  others = λ k apart. none_left (k == 0);
  are = refl;
}

-- a worker without lines
idle : (p : List ℕ) → WorkerDid empty_base p [] []
idle p = record {
  opened = [];
  at_first = fresh;
  opening = [];
  opens = (refl, λ k. refl);
  at_end = fresh;
  serving = [];
  serves = (refl, λ k. refl);
  closed = [];
  left = fresh;
  closing = [];
  closes = (refl, λ k. refl);
  others = λ k apart. refl;
  are = refl;
}

nothing_of : (q : List ℕ) → same_pass q (1 ∷ []) ≡ false → noted q notes ≡ []
nothing_of q apart = ap (λ b. if_so b (Did opens a1) ++ (if_so b (Did begins a2) ++ (if_so b (Did ends a3) ++ (if_so b (Did closes a4) ++ [])))) apart

no_lines : (ph w : ℕ) → (0 == ph && 0 == w) ≡ false → own_lines ph w lines ≡ []
no_lines ph w e = rw e refl

and_none : (b : Bool) → (b && false) ≡ false
and_none true = refl
and_none false = refl

idle_there : (p : List ℕ) (xs : List Replied) (ys : List Noted) → xs ≡ [] → ys ≡ [] → WorkerDid empty_base p xs ys
idle_there p xs ys no_line no_note = subst (λ (z : List Replied × List Noted). WorkerDid empty_base p z.0 z.1) (λ i. (sym no_line i, sym no_note i)) (idle p)

all_workers : (ph w : ℕ) → WorkerDid empty_base (pass ph w) (own_lines ph w lines) (noted (pass ph w) notes)
unfolding pass
all_workers zero zero = first
all_workers zero (suc w) = idle_there (suc (suc w) ∷ []) (own_lines 0 (suc w) lines) (noted (suc (suc w) ∷ []) notes)
    (no_lines 0 (suc w) (ne_eqb 0 (suc w) (λ e. omega (arith, e)))) (nothing_of (suc (suc w) ∷ []) (and_left _ _ (ne_eqb (suc (suc w)) 1 (λ e. omega (arith, e)))))
all_workers (suc ph) w = idle_there (w ∷ ph ∷ []) (own_lines (suc ph) w lines) (noted (w ∷ ph ∷ []) notes)
    (no_lines (suc ph) w (and_left _ _ (ne_eqb 0 (suc ph) (λ e. omega (arith, e))))) (nothing_of (w ∷ ph ∷ []) (and_none (w == 1)))

no_others : (p : List ℕ) → (noted p notes ≡ []) ⊎ ((ph : ℕ) × (w : ℕ) × (p ≡ pass ph w))
unfolding pass
no_others p = by_test (same_pass p (1 ∷ [])) refl
  where
    by_test : (b : Bool) → same_pass p (1 ∷ []) ≡ b → (noted p notes ≡ []) ⊎ ((ph : ℕ) × (w : ℕ) × (p ≡ pass ph w))
    by_test true is = inr (0, 0, same_passes p (1 ∷ []) is)
    by_test false is = inl (nothing_of p is)

one_phase : (ph w ph2 w2 : ℕ) → ph < ph2 → ComesBefore v (pass ph w) (pass ph2 w2)
unfolding pass
one_phase ph w zero w2 lt = absurd (omega (arith, lt))
one_phase ph w (suc ph2) w2 lt = inr (inl (nothing_of (w2 ∷ ph2 ∷ []) (and_none (w2 == 1))))

all_did : AllDid v lines
all_did = record {
  pass = pass;
  passes = record { phase_of = phase_in; worker_of = worker_in; phase = phase_is; worker = worker_is };
  did = all_workers;
  only = no_others;
  order = one_phase;
}

-- All premises hold of this run.
pub can_note : (u : View) × (parts : Parts) × (done : List Done) × (asked : List Replied) × AllDid u asked × IsToldOf u parts done × (length asked ≡ 2)
can_note = (v, p4, run, lines, all_did, is_told, refl)
