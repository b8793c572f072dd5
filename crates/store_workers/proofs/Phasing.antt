-- A phase more: what the parent of its passes knows once they are back.
use Rattle.std.proofs.Common.{◌≡◌, ◌⊎◌, inl, inr, ℕ, zero, suc, ◌+◌, ◌≤◌, ◌<◌, Bool, true, false, List, [], ◌∷◌, ◌++◌, length, length-append, map, if◌then◌else◌, refl, sym, ap, ◌∙◌, subst, arith, append-nil, append_assoc}
use Rattle.std.specs.Prelude.{◌==◌, ◌≢◌}
use Rattle.std.proofs.lemmas.Bool.{cases_eq, cases_lt, eq-eqb, ne_eqb, eqb-true}
use Rattle.std.proofs.lemmas.List.{length-map, length-replicate}
use Rattle.core_states.specs.declared.actor.Actor.{Actor}
use Rattle.graph_model.specs.declared.graph.Base.{Base}
use Rattle.graph_legal.specs.Lines.{Phase, Asked, Replied, asked_in, asked_from, answered, history, history_onto}
use Rattle.graph_workers.specs.Passes.{own_lines}
use Rattle.request_text.specs.declared.reply.Reply.{Reply}
use Rattle.request_text.specs.declared.request.Line.{Line}
use Rattle.turn_board.specs.Views.{Noted, Origin, Start, View, In, numbers, next_number, next_origin, fresh_view}
use Rattle.turn_board.specs.Histories.{noted}
use Rattle.turn_board.proofs.HeldLists.{in_append, in_left}
use Rattle.worker_lines.specs.Lines.{lines_of, replied_of}
use Rattle.worker_runs.specs.Notes.{WorkerDid, LinesDid}
use Rattle.worker_sessions.specs.Sessions.{EachIs}
use Rattle.worker_runs.specs.Runs.{AllDid, Passes, IsAfter, HasOrigin, ComesBefore}
use Rattle.store_workers.specs.Crews.{pass_of, origins_of, HasOut}
use Rattle.store_workers.specs.Orders.{replies_of}
use Rattle.store_workers.specs.Phases.{next_parent, parent_in, pass_in, HasRunPhases}
use Rattle.store_workers.proofs.Coming.{nothing-did}
use Rattle.store_workers.proofs.Ordering.{own-onto, other-onto, asked-apart, each-both}

-- ---- the passes of phases

parent-length : (p : List ℕ) (ph : ℕ) → length (parent_in p ph) ≡ suc ph
parent-length [] ph = length-replicate (suc ph) 0
parent-length (k ∷ p) ph = by_case (length p == ph) refl (parent-length p ph)
  where
    by_case : (b : Bool) → (length p == ph) ≡ b → length (parent_in p ph) ≡ suc ph → length (if b then k ∷ p else parent_in p ph) ≡ suc ph
    by_case true same before = ap suc (eqb-true (length p) ph same)
    by_case false apart before = before

parent-here : (k : ℕ) (p : List ℕ) (ph : ℕ) → length p ≡ ph → parent_in (k ∷ p) ph ≡ k ∷ p
parent-here k p ph e = ap (λ (b : Bool). if b then k ∷ p else parent_in p ph) (eq-eqb (length p) ph e)

parent-before : (k : ℕ) (p : List ℕ) (ph : ℕ) → (length p ≡ ph → ⊥) → parent_in (k ∷ p) ph ≡ parent_in p ph
parent-before k p ph ne = ap (λ (b : Bool). if b then k ∷ p else parent_in p ph) (ne_eqb (length p) ph ne)

pass-length : (p : List ℕ) (ph w : ℕ) → length (pass_in p ph w) ≡ suc (suc ph)
pass-length p ph w = ap suc (parent-length p ph)

-- the phase and the worker of a pass
abbrev less : ℕ → ℕ
less zero = 0
less (suc n) = n

abbrev phase_of : List ℕ → ℕ
phase_of p = less (less (length p))

abbrev worker_of : List ℕ → ℕ
worker_of [] = 0
worker_of (k ∷ p) = less k

passes : (p : List ℕ) → Passes (pass_in p)
passes p = record { phase_of = phase_of; worker_of = worker_of; phase = λ ph w. ap (λ (n : ℕ). less (less n)) (pass-length p ph w); worker = λ ph w. refl }

-- ---- what is asked of the lines

-- a pass that has done nothing has run no phase
pub none-ran : (start : Start) (v : View) → v ≡ fresh_view start [] [] [] → HasRunPhases [] [] v
none-ran start v e = subst (λ (u : View). HasRunPhases [] [] u) (sym e) (record {
  last = (inl refl, (λ m made. absurd made), refl);
  depth = refl;
  len = refl;
  did = λ ph w. nothing-did start.base (pass_in [] ph w);
  only = λ p. inl refl;
  order = λ ph w ph2 w2 low. inl refl;
})

-- so the law on replies has what it asks for
pub all-did : (phases : List Phase) (replies : List Reply) (v : View) → HasRunPhases phases replies v → AllDid v (history phases replies)
all-did phases replies v has = record {
  pass = pass_in v.number;
  passes = passes v.number;
  did = has.did;
  only = λ p. by_case p (has.only p);
  order = has.order;
}
  where
    by_case : (p : List ℕ) → (noted p v.events ≡ []) ⊎ ((ph : ℕ) × (w : ℕ) × (ph < length phases) × (p ≡ pass_in v.number ph w) × In p (numbers v)) → (noted p v.events ≡ []) ⊎ ((ph : ℕ) × (w : ℕ) × (p ≡ pass_in v.number ph w))
    by_case p (inl none) = inl none
    by_case p (inr x) = inr (x.0, x.1, x.3)

-- ---- the lines of a phase more

-- no line is of a later phase
phases-apart : (ph m : ℕ) (phases : List Phase) → m + length phases ≤ ph → EachIs (λ a. a.phase ≢ ph) (asked_from m phases)
phases-apart ph m [] high = tt
phases-apart ph m (x ∷ phases) high =
    each-both (λ a. a.phase ≢ ph) (map (asked_in m x.workers) x.script) (asked_from (m + 1) phases) (asked-apart ph m x.workers x.script (λ e. omega (arith, high, e)))
    (phases-apart ph (m + 1) phases (omega (arith, high)))

none-later : (ph w : ℕ) (phases : List Phase) (replies : List Reply) → length phases ≤ ph → own_lines ph w (history phases replies) ≡ []
none-later ph w phases replies high = other-onto ph w [] (asked_from 0 phases) replies (phases-apart ph 0 phases (omega (arith, high)))

onto-both : (past : List Replied) (xs ys : List Asked) (rs ss : List Reply) → length rs ≡ length xs → history_onto past (xs ++ ys) (rs ++ ss) ≡ history_onto (history_onto past xs rs) ys ss
onto-both past [] ys [] ss e = refl
onto-both past [] ys (r ∷ rs) ss e = absurd (omega (arith, e))
onto-both past (x ∷ xs) ys [] ss e = absurd (omega (arith, e))
onto-both past (x ∷ xs) ys (r ∷ rs) ss e = onto-both (answered x r ∷ past) xs ys rs ss (omega (arith, e))

asked-more : (m : ℕ) (phases : List Phase) (phase : Phase) → asked_from m (phases ++ phase ∷ []) ≡ asked_from m phases ++ map (asked_in (m + length phases) phase.workers) phase.script
asked-more m [] phase = append-nil (map (asked_in m phase.workers) phase.script) ∙ ap (λ (k : ℕ). map (asked_in k phase.workers) phase.script) (none m)
  where
    none : (m : ℕ) → m ≡ m + 0
    none m = omega arith
asked-more m (x ∷ phases) phase =
    ap (λ (xs : List Asked). map (asked_in m x.workers) x.script ++ xs) (asked-more (m + 1) phases phase ∙ ap (λ (k : ℕ). asked_from (m + 1) phases ++ map (asked_in k phase.workers) phase.script) (over m (length phases)))
    ∙ sym (append_assoc (map (asked_in m x.workers) x.script) (asked_from (m + 1) phases) (map (asked_in (m + suc (length phases)) phase.workers) phase.script))
  where
    over : (m n : ℕ) → (m + 1) + n ≡ m + suc n
    over m n = omega arith

-- a worker's lines in another phase
abbrev in_phase : ℕ → Replied → Replied
in_phase ph a = record a { phase = ph }

phase-onto : (ph n : ℕ) (past : List Replied) (lines : List Line) (rs : List Reply) → map (in_phase ph) (history_onto past (map (asked_in 0 n) lines) rs) ≡ history_onto (map (in_phase ph) past) (map (asked_in ph n) lines) rs
phase-onto ph n past [] rs = refl
phase-onto ph n past (line ∷ lines) [] = refl
phase-onto ph n past (line ∷ lines) (r ∷ rs) = phase-onto ph n (answered (asked_in 0 n line) r ∷ past) lines rs

lines-in : (ph : ℕ) (p : List ℕ) (old : ℕ → Actor) (lines : List Replied) (notes : List Noted) (new : ℕ → Actor) → LinesDid p old lines notes new → LinesDid p old (map (in_phase ph) lines) notes new
lines-in ph p old [] notes new did = did
lines-in ph p old (a ∷ above) notes new did = (did.0, did.1, did.2, did.3, lines-in ph p old above did.1 did.0 did.4, did.5)

worker-in : (ph : ℕ) (base : Base) (p : List ℕ) (lines : List Replied) (notes : List Noted) → WorkerDid base p lines notes → WorkerDid base p (map (in_phase ph) lines) notes
worker-in ph base p lines notes did = record {
  opened = did.opened;
  at_first = did.at_first;
  opening = did.opening;
  opens = did.opens;
  at_end = did.at_end;
  serving = did.serving;
  serves = lines-in ph p did.at_first lines did.serving did.at_end did.serves;
  closed = did.closed;
  left = did.left;
  closing = did.closing;
  closes = did.closes;
  others = did.others;
  are = did.are;
}

-- ---- what passes were split off from

origin-left : (F G : Origin → Type 0) (os more : List Origin) → ((o : Origin) → F o → G o) → HasOrigin F os → HasOrigin G (os ++ more)
origin-left F G [] more by has = absurd has
origin-left F G (o ∷ os) more by (inl f) = inl (by o f)
origin-left F G (o ∷ os) more by (inr h) = inr (origin-left F G os more by h)

origin-right : (F : Origin → Type 0) (os more : List Origin) → HasOrigin F more → HasOrigin F (os ++ more)
origin-right F [] more has = has
origin-right F (o ∷ os) more has = inr (origin-right F os more has)

-- that of a worker
origin-of : (F : Origin → Type 0) (u : View) (n i : ℕ) → i < n → F (record { number = pass_of u.number i; passes = numbers u; events = u.events }) → HasOrigin F (origins_of u n)
origin-of F u zero i low is = absurd (omega (arith, low))
origin-of F u (suc n) i low is = by_place (cases_eq i n) (λ less. origin-of F u n i less is)
  where
    own : ℕ → Origin
    own j = record { number = pass_of u.number j; passes = numbers u; events = u.events }

    by_place : (i ≡ n) ⊎ (i ≡ n → ⊥) → (i < n → HasOrigin F (origins_of u n)) → HasOrigin F (origins_of u (suc n))
    by_place (inl e) before = origin-right F (origins_of u n) (own n ∷ []) (inl (subst (λ (j : ℕ). F (own j)) e is))
    by_place (inr ne) before = origin-left F F (origins_of u n) (own n ∷ []) (λ o f. f) (before (omega (arith, low, ne)))

-- ---- a phase more

module _ (phases : List Phase) (replies : List Reply) (was : View) (has : HasRunPhases phases replies was) where
  -- nothing was noted of passes whose numbers are longer than those of the phases so far
  pub none-longer : (p : List ℕ) → suc (length phases) < length p → noted p was.events ≡ []
  none-longer p long = by_case (has.only p)
    where
      by_case : (noted p was.events ≡ []) ⊎ ((ph : ℕ) × (w : ℕ) × (ph < length phases) × (p ≡ pass_in was.number ph w) × In p (numbers was)) → noted p was.events ≡ []
      by_case (inl none) = none
      by_case (inr x) = let e = ap length x.3 ∙ pass-length was.number x.0 x.1 in let low = x.2 in absurd (omega (arith, long, e, low))

  -- so nothing of the workers of the next one
  pub new-workers : (i : ℕ) → noted (pass_of (next_parent was).number i) (next_parent was).events ≡ []
  new-workers i = none-longer (pass_of (next_parent was).number i) (let n = has.depth in omega (arith, n))

  -- and all others are joined into its parent
  pub parent-made : (m : List ℕ) → In m (next_parent was).made → In m (numbers (next_parent was))
  parent-made m there = by_case (in_append m was.made (next_number was ∷ []) there)
    where
      by_case : In m was.made ⊎ In m (next_number was ∷ []) → In m (numbers (next_parent was))
      by_case (inl old) = inr (has.last.1 m old)
      by_case (inr (inl e)) = inl e
      by_case (inr (inr never)) = absurd never

  module _ (n : ℕ) (script : List Line) (rs : List Reply) (lines : ℕ → List Replied) (v : View) (out : HasOut (next_parent was) n lines 0 v) (free : v.held ≡ []) (long : length rs ≡ length script)
      (ran : (w : ℕ) → lines w ≡ replied_of w n script (replies_of w n script rs)) where
    abbrev now : Phase
    now = record { script = script; workers = n }

    abbrev parent : List ℕ
    parent = (next_parent was).number

    -- ---- lines and replies

    asked-now : asked_from 0 (phases ++ now ∷ []) ≡ asked_from 0 phases ++ map (asked_in (length phases) n) script
    asked-now = asked-more 0 phases now ∙ ap (λ (k : ℕ). asked_from 0 phases ++ map (asked_in k n) script) (zero-plus (length phases))
      where
        zero-plus : (m : ℕ) → 0 + m ≡ m
        zero-plus m = omega arith

    history-now : history (phases ++ now ∷ []) (replies ++ rs) ≡ history_onto (history phases replies) (map (asked_in (length phases) n) script) rs
    history-now = ap (λ (asked : List Asked). history_onto [] asked (replies ++ rs)) asked-now ∙ onto-both [] (asked_from 0 phases) (map (asked_in (length phases) n) script) replies rs has.len

    many : length (replies ++ rs) ≡ length (asked_from 0 (phases ++ now ∷ []))
    many =
        let a = length-append replies rs in let b = has.len in let c = ap length asked-now in
        let d = length-append (asked_from 0 phases) (map (asked_in (length phases) n) script) in let e = length-map script (asked_in (length phases) n) in
        omega (arith, a, b, c, d, e, long)

    -- ---- the passes

    pass-here : (w : ℕ) → pass_in parent (length phases) w ≡ pass_of parent w
    pass-here w = ap (λ (p : List ℕ). pass_of p w) (parent-here (suc was.splits) was.number (length phases) has.depth)

    pass-before : (ph w : ℕ) → (ph ≡ length phases → ⊥) → pass_in parent ph w ≡ pass_in was.number ph w
    pass-before ph w ne = ap (λ (p : List ℕ). pass_of p w) (parent-before (suc was.splits) was.number ph (λ e. ne (sym e ∙ has.depth)))

    -- what was joined before is joined still
    still : (m : List ℕ) → In m (numbers was) → In m (numbers v)
    still m there = inr (subst (λ (ms : List (List ℕ)). In m ms) (sym out.joined.1) (in_left m (numbers was) out.joined.0 there))

    -- a pass of an earlier phase has done nothing since
    as-before : (p : List ℕ) → (length p ≡ suc (suc (length phases)) → ⊥) → noted p v.events ≡ noted p was.events
    as-before p ne = by_case (out.only p)
      where
        by_case : (noted p v.events ≡ noted p was.events) ⊎ ((i : ℕ) × (0 ≤ i) × (i < n) × (p ≡ pass_of parent i) × In p (numbers v)) → noted p v.events ≡ noted p was.events
        by_case (inl same) = same
        by_case (inr x) = absurd (ne (ap length x.3 ∙ ap (λ (k : ℕ). suc (suc k)) has.depth))

    old-as-before : (ph w : ℕ) → (ph ≡ length phases → ⊥) → noted (pass_in was.number ph w) v.events ≡ noted (pass_in was.number ph w) was.events
    old-as-before ph w ne = as-before (pass_in was.number ph w) (λ e. let l = pass-length was.number ph w in ne (omega (arith, e, l)))

    -- ---- what all did

    did-here : (w : ℕ) → WorkerDid was.base (pass_of parent w) (own_lines (length phases) w (history (phases ++ now ∷ []) (replies ++ rs))) (noted (pass_of parent w) v.events)
    did-here w =
        subst (λ (ls : List Replied). WorkerDid was.base (pass_of parent w) ls (noted (pass_of parent w) v.events)) is
        (worker-in (length phases) was.base (pass_of parent w) (lines w) (noted (pass_of parent w) v.events) (out.did w (omega arith)))
      where
        is : map (in_phase (length phases)) (lines w) ≡ own_lines (length phases) w (history (phases ++ now ∷ []) (replies ++ rs))
        is =
            ap (λ (ls : List Replied). map (in_phase (length phases)) ls) (ran w) ∙ phase-onto (length phases) n [] (lines_of w n script) (replies_of w n script rs)
            ∙ sym (ap (λ (ls : List Replied). own_lines (length phases) w ls) history-now ∙ own-onto w n (length phases) (history phases replies) script rs
            ∙ ap (λ (past : List Replied). history_onto past (map (asked_in (length phases) n) (lines_of w n script)) (replies_of w n script rs)) none-yet)
          where
            none-yet : own_lines (length phases) w (history phases replies) ≡ []
            none-yet = none-later (length phases) w phases replies (omega arith)

    did-before : (ph w : ℕ) → (ph ≡ length phases → ⊥) → WorkerDid was.base (pass_in was.number ph w) (own_lines ph w (history (phases ++ now ∷ []) (replies ++ rs))) (noted (pass_in was.number ph w) v.events)
    did-before ph w ne =
        subst (λ (z : List Replied × List Noted). WorkerDid was.base (pass_in was.number ph w) z.0 z.1)
        (λ i. (sym (ap (λ (ls : List Replied). own_lines ph w ls) history-now ∙ other-onto ph w (history phases replies) (map (asked_in (length phases) n) script) rs (asked-apart ph (length phases) n script (λ e. ne (sym e)))) i, sym (old-as-before ph w ne) i))
        (has.did ph w)

    did-now : (ph w : ℕ) → (ph ≡ length phases) ⊎ (ph ≡ length phases → ⊥) → WorkerDid was.base (pass_in parent ph w) (own_lines ph w (history (phases ++ now ∷ []) (replies ++ rs))) (noted (pass_in parent ph w) v.events)
    did-now ph w (inl e) =
        subst (λ (j : ℕ). WorkerDid was.base (pass_in parent j w) (own_lines j w (history (phases ++ now ∷ []) (replies ++ rs))) (noted (pass_in parent j w) v.events)) (sym e)
        (subst (λ (p : List ℕ). WorkerDid was.base p (own_lines (length phases) w (history (phases ++ now ∷ []) (replies ++ rs))) (noted p v.events)) (sym (pass-here w)) (did-here w))
    did-now ph w (inr ne) =
        subst (λ (p : List ℕ). WorkerDid was.base p (own_lines ph w (history (phases ++ now ∷ []) (replies ++ rs))) (noted p v.events)) (sym (pass-before ph w ne)) (did-before ph w ne)

    -- ---- who did anything

    abbrev Noter : List ℕ → Type 0
    Noter p = (noted p v.events ≡ []) ⊎ ((ph : ℕ) × (w : ℕ) × (ph < length (phases ++ now ∷ [])) × (p ≡ pass_in parent ph w) × In p (numbers v))

    longer : length (phases ++ now ∷ []) ≡ suc (length phases)
    longer = let n = length-append phases (now ∷ []) in omega (arith, n)

    only-old : (p : List ℕ) → noted p v.events ≡ noted p was.events → (noted p was.events ≡ []) ⊎ ((ph : ℕ) × (w : ℕ) × (ph < length phases) × (p ≡ pass_in was.number ph w) × In p (numbers was)) → Noter p
    only-old p same (inl none) = inl (same ∙ none)
    only-old p same (inr x) = let low = x.2 in let l = longer in inr (x.0, x.1, omega (arith, low, l), x.3 ∙ sym (pass-before x.0 x.1 (λ e. omega (arith, low, e))), still p x.4)

    only-now : (p : List ℕ) → (noted p v.events ≡ noted p was.events) ⊎ ((i : ℕ) × (0 ≤ i) × (i < n) × (p ≡ pass_of parent i) × In p (numbers v)) → Noter p
    only-now p (inl same) = only-old p same (has.only p)
    only-now p (inr x) = let l = longer in inr (length phases, x.0, omega (arith, l), x.3 ∙ sym (pass-here x.0), x.4)

    -- ---- which came first

    -- a pass of a later phase has done nothing
    later-silent : (ph w : ℕ) → length phases < ph → noted (pass_in parent ph w) v.events ≡ []
    later-silent ph w high =
        let l = pass-length parent ph w in
        as-before (pass_in parent ph w) (λ e. omega (arith, e, l, high)) ∙ none-longer (pass_in parent ph w) (omega (arith, l, high))

    -- where two were apart before they are now
    still-after : (p q : List ℕ) → noted p v.events ≡ noted p was.events → noted q v.events ≡ noted q was.events → ComesBefore was p q → ComesBefore v p q
    still-after p q a b (inl none) = inl (a ∙ none)
    still-after p q a b (inr (inl none)) = inr (inl (b ∙ none))
    still-after p q a b (inr (inr has)) =
        inr (inr (subst (λ (os : List Origin). HasOrigin (IsAfter v p q) os) (sym out.origins.1)
        (origin-left (IsAfter v p q) (IsAfter v p q) ((was.origins ++ next_origin was ∷ []) ++ origins_of (next_parent was) n) out.origins.0 (λ o f. f)
        (origin-left (IsAfter v p q) (IsAfter v p q) (was.origins ++ next_origin was ∷ []) (origins_of (next_parent was) n) (λ o f. f)
        (origin-left (IsAfter was p q) (IsAfter v p q) was.origins (next_origin was ∷ []) (λ o f. (f.0, f.1, f.2 ∙ sym a)) has)))))

    -- what had done something before comes before a worker of this phase
    comes-before : (p : List ℕ) (w : ℕ) → noted p v.events ≡ noted p was.events → In p (numbers was) → (w < n) ⊎ (n ≤ w) → ComesBefore v p (pass_of parent w)
    comes-before p w same there (inl low) =
        inr (inr (subst (λ (os : List Origin). HasOrigin (IsAfter v p (pass_of parent w)) os) (sym out.origins.1)
        (origin-left (IsAfter v p (pass_of parent w)) (IsAfter v p (pass_of parent w)) ((was.origins ++ next_origin was ∷ []) ++ origins_of (next_parent was) n) out.origins.0 (λ o f. f)
        (origin-right (IsAfter v p (pass_of parent w)) (was.origins ++ next_origin was ∷ []) (origins_of (next_parent was) n)
        (origin-of (IsAfter v p (pass_of parent w)) (next_parent was) n w low (refl, inr there, sym same))))))
    comes-before p w same there (inr high) = inr (inl (by_case (out.only (pass_of parent w))))
      where
        by_case : (noted (pass_of parent w) v.events ≡ noted (pass_of parent w) was.events) ⊎ ((i : ℕ) × (0 ≤ i) × (i < n) × (pass_of parent w ≡ pass_of parent i) × In (pass_of parent w) (numbers v)) → noted (pass_of parent w) v.events ≡ []
        by_case (inl none) = none ∙ new-workers w
        by_case (inr x) = let same : w ≡ x.0 = let e = x.3 in (cc) in let low = x.2 in absurd (omega (arith, same, low, high))

    before-this : (ph w w2 : ℕ) → ph < length phases → ComesBefore v (pass_in was.number ph w) (pass_of parent w2)
    before-this ph w w2 low = by_case (has.only (pass_in was.number ph w))
      where
        same : noted (pass_in was.number ph w) v.events ≡ noted (pass_in was.number ph w) was.events
        same = old-as-before ph w (λ e. omega (arith, low, e))

        by_case : (noted (pass_in was.number ph w) was.events ≡ []) ⊎ ((ph2 : ℕ) × (w2 : ℕ) × (ph2 < length phases) × (pass_in was.number ph w ≡ pass_in was.number ph2 w2) × In (pass_in was.number ph w) (numbers was))
            → ComesBefore v (pass_in was.number ph w) (pass_of parent w2)
        by_case (inl none) = inl (same ∙ none)
        by_case (inr x) = comes-before (pass_in was.number ph w) w2 same x.4 (cases_lt w2 n)

    order-now : (ph w ph2 w2 : ℕ) → ph < ph2 → (length phases < ph2) ⊎ (ph2 ≤ length phases) → (ph2 ≡ length phases) ⊎ (ph2 ≡ length phases → ⊥) → ComesBefore v (pass_in parent ph w) (pass_in parent ph2 w2)
    order-now ph w ph2 w2 low (inl high) place = inr (inl (later-silent ph2 w2 high))
    order-now ph w ph2 w2 low (inr most) (inl here) =
        subst (λ (j : ℕ). ComesBefore v (pass_in parent ph w) (pass_in parent j w2)) (sym here)
        (subst (λ (z : List ℕ × List ℕ). ComesBefore v z.0 z.1) (λ i. (sym (pass-before ph w (λ e. omega (arith, low, here, e))) i, sym (pass-here w2) i)) (before-this ph w w2 (omega (arith, low, here))))
    order-now ph w ph2 w2 low (inr most) (inr ne) =
        subst (λ (z : List ℕ × List ℕ). ComesBefore v z.0 z.1) (λ i. (sym (pass-before ph w (λ e. omega (arith, low, most, e))) i, sym (pass-before ph2 w2 ne) i))
        (still-after (pass_in was.number ph w) (pass_in was.number ph2 w2) (old-as-before ph w (λ e. omega (arith, low, most, e))) (old-as-before ph2 w2 ne) (has.order ph w ph2 w2 low))

    -- ---- all of it

    made-in : (m : List ℕ) → ((i : ℕ) × (i < 0) × (m ≡ pass_of parent i)) ⊎ In m (numbers v) → In m (numbers v)
    made-in m (inl x) = let low = x.1 in absurd (omega (arith, low))
    made-in m (inr h) = h

    base-is : v.base ≡ was.base
    base-is = ap (λ (s : Start). s.base) out.start_is

    pub phase-more : HasRunPhases (phases ++ now ∷ []) (replies ++ rs) v
    phase-more = record {
      last = (still [] has.last.0, (λ m there. made-in m (out.made m there)), free);
      depth = ap length out.number ∙ ap suc has.depth ∙ sym longer;
      len = many;
      did = λ ph w. subst (λ (z : Base × List ℕ). WorkerDid z.0 (pass_in z.1 ph w) (own_lines ph w (history (phases ++ now ∷ []) (replies ++ rs))) (noted (pass_in z.1 ph w) v.events)) (λ i. (sym base-is i, sym out.number i)) (did-now ph w (cases_eq ph (length phases)));
      only = λ p. subst (λ (number : List ℕ). (noted p v.events ≡ []) ⊎ ((ph : ℕ) × (w : ℕ) × (ph < length (phases ++ now ∷ [])) × (p ≡ pass_in number ph w) × In p (numbers v))) (sym out.number) (only-now p (out.only p));
      order = λ ph w ph2 w2 low. subst (λ (number : List ℕ). ComesBefore v (pass_in number ph w) (pass_in number ph2 w2)) (sym out.number) (order-now ph w ph2 w2 low (cases_lt (length phases) ph2) (cases_eq ph2 (length phases)));
    }
