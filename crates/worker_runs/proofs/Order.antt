-- In the run that a close tells of no event is of a phase before that of an earlier event.
use Rattle.std.proofs.Common.{◌≡◌, ◌≢◌, ◌⊎◌, ℕ, ◌+◌, ◌≤◌, ◌<◌, Bool, true, false, List, [], ◌∷◌, ◌++◌, length, refl, sym, ap, ◌∙◌, subst, ⊎_elim, append_assoc, arith}
use Rattle.std.proofs.lemmas.Bool.{cases_lt}
use Rattle.std.specs.Prelude.{if◌then◌else◌}
use Rattle.graph_legal.specs.Lines.{Replied}
use Rattle.core_states.specs.declared.actor.Actor.{Actor}
use Rattle.core_states.specs.Names.{same_pass}
use Rattle.core_states.specs.Parts.{Parts}
use Rattle.core_states.proofs.Names.{same_name_true}
use Rattle.turn_board.specs.Views.{Done, Noted, Did, Start, Origin, View, EachSeen, start_of}
use Rattle.turn_board.specs.Histories.{if_of, did, noted, Began}
use Rattle.worker_runs.specs.Ahead.{state_at}
use Rattle.worker_runs.specs.Runs.{IsAfter, HasOrigin, AllDid, IsToldOf}
use Rattle.worker_runs.proofs.AllWorkers.{AreUpTo, ByPhase}

-- how many events of a run are by actors of a pass
abbrev one_of : List ℕ → Done → ℕ
one_of p e = if same_pass p e.by.pass then 1 else 0

abbrev count : List ℕ → List Done → ℕ
count p [] = 0
count p (e ∷ es) = one_of p e + count p es

count_both : (p : List ℕ) (xs ys : List Done) → count p (xs ++ ys) ≡ count p xs + count p ys
count_both p [] ys = omega arith
count_both p (x ∷ xs) ys = let ih = count_both p xs ys in omega (arith, ih)

length_if : (p : List ℕ) (e : Done) (a : Actor) (xs : List Noted) → length (xs ++ if_of p e a) ≡ one_of p e + length xs
length_if p e a [] = by_pass (same_pass p e.by.pass)
  where
    by_pass : (b : Bool) → length (if b then Did e a ∷ [] else []) ≡ (if b then 1 else 0) + 0
    by_pass true = omega arith
    by_pass false = omega arith
length_if p e a (x ∷ xs) = let ih = length_if p e a xs in omega (arith, ih)

-- as many as what it did
counted : (start : Start) (p : List ℕ) (run : List Done) → length (did start p run) ≡ count p run
counted start p [] = refl
counted start p (e ∷ run) = let ih = counted start p run in let one = length_if p e ((state_at start (e ∷ run)).actor e.by) (did start p run) in omega (arith, ih, one)

own_one : (e : Done) → one_of e.by.pass e ≡ 1
own_one e = ap (λ (b : Bool). if b then 1 else 0) (same_name_true (record { pass = e.by.pass; index = 0 }) (record { pass = e.by.pass; index = 0 }) refl)

-- A pass that did nothing before an event, and another that did nothing after one, that event among them.
none_before : (q : List ℕ) (e : Done) (late early up es : List Done) → late ++ early ≡ up ++ (e ∷ es) → count e.by.pass late ≡ 0 → count q early ≡ 0 → count q es ≡ 0
none_before q e [] early up es is none zero = let both = ap (λ z. count q z) is ∙ count_both q up (e ∷ es) in omega (arith, both, zero)
none_before q e (l ∷ late) early [] es is none zero =
    let first : l ≡ e = (cc) in let some = ap (λ z. one_of e.by.pass z) first ∙ own_one e in absurd (omega (arith, some, none))
none_before q e (l ∷ late) early (u ∷ up) es is none zero = let rest : late ++ early ≡ up ++ (e ∷ es) = (cc) in none_before q e late early up es rest (omega (arith, none)) zero

-- a fact of each pass with an event is one of each event's
up_to_by : (phase_of : List ℕ → ℕ) (n : ℕ) (es : List Done) → ((q : List ℕ) → count q es ≢ 0 → phase_of q ≤ n) → AreUpTo phase_of n es
up_to_by phase_of n [] of = tt
up_to_by phase_of n (x ∷ es) of = (
  of x.by.pass (λ zero. let one = own_one x in omega (arith, zero, one)),
  up_to_by phase_of n es (λ q some. of q (λ zero. some (omega (arith, zero)))),
)

-- an origin that has a fact, of origins that all have another
origin_with : (F G : Origin → Type 0) (C : Type 0) (os : List Origin) → EachSeen F os → HasOrigin G os → ((o : Origin) → F o → G o → C) → C
origin_with F G C [] each has f = absurd has
origin_with F G C (o ∷ os) each has f = ⊎_elim (λ (g : G o). f o each.0 g) (λ (rest : HasOrigin G os). origin_with F G C os each.1 rest f) has

module _ (v : View) (parts : Parts) (run : List Done) (lines : List Replied) (all : AllDid v lines) (t : IsToldOf v parts run) where
  abbrev phase_of : List ℕ → ℕ
  phase_of = all.passes.phase_of

  its : (p : List ℕ) → did (start_of v) p run ≡ noted p v.events
  its p = (t.own (record { pass = p; index = 0 })).1

  none_there : (p : List ℕ) → noted p v.events ≡ [] → count p run ≡ 0
  none_there p none = sym (counted (start_of v) p run) ∙ ap (λ (z : List Noted). length z) (its p ∙ none)

  -- what the second pass did came after what the first one did
  after_all : (q : List ℕ) (e : Done) (up es : List Done) → run ≡ up ++ (e ∷ es) → (o : Origin) → Began (start_of v) run o → IsAfter v e.by.pass q o → count q es ≡ 0
  after_all q e up es is o b a =
      let p = e.by.pass in
      let same : did (start_of v) e.by.pass b.early ≡ did (start_of v) e.by.pass run = b.before e.by.pass a.1 ∙ (a.2 ∙ sym (its e.by.pass)) in
      let early : count e.by.pass b.early ≡ count e.by.pass run = sym (counted (start_of v) e.by.pass b.early) ∙ (ap (λ (z : List Noted). length z) same ∙ counted (start_of v) e.by.pass run) in
      let both = ap (λ z. count e.by.pass z) b.are ∙ count_both e.by.pass b.late b.early in
      let none : count q b.early ≡ 0 = subst (λ r. count r b.early ≡ 0) a.0 (sym (counted (start_of v) o.number b.early) ∙ ap (λ (z : List Noted). length z) b.nothing) in
      none_before q e b.late b.early up es (sym b.are ∙ is) (omega (arith, early, both)) none

  phase_up : (e : Done) (up es : List Done) → run ≡ up ++ (e ∷ es) → (q : List ℕ) → count q es ≢ 0 → phase_of q ≤ phase_of e.by.pass
  phase_up e up es is q some =
      let whole = ap (λ z. count q z) is ∙ count_both q up (e ∷ es) in
      let here = ap (λ z. count e.by.pass z) is ∙ count_both e.by.pass up (e ∷ es) in
      let one = own_one e in
      ⊎_elim
      (λ (none : noted q v.events ≡ []). let zero = none_there q none in absurd (some (omega (arith, whole, zero))))
      (λ (of : (ph : ℕ) × (w : ℕ) × (q ≡ all.pass ph w)). ⊎_elim
      (λ (none : noted e.by.pass v.events ≡ []). let zero = none_there e.by.pass none in absurd (omega (arith, here, one, zero)))
      (λ (mine : (ph : ℕ) × (w : ℕ) × (e.by.pass ≡ all.pass ph w)).
      let late = ap phase_of of.2 ∙ all.passes.phase of.0 of.1 in let soon = ap phase_of mine.2 ∙ all.passes.phase mine.0 mine.1 in ⊎_elim
      (λ (lt : mine.0 < of.0). absurd (⊎_elim
      (λ (none : noted (all.pass mine.0 mine.1) v.events ≡ []). let zero = none_there e.by.pass (ap (λ p. noted p v.events) mine.2 ∙ none) in omega (arith, here, one, zero))
      (λ (rest : (noted (all.pass of.0 of.1) v.events ≡ []) ⊎ HasOrigin (IsAfter v (all.pass mine.0 mine.1) (all.pass of.0 of.1)) v.origins). ⊎_elim
      (λ (none : noted (all.pass of.0 of.1) v.events ≡ []). let zero = none_there q (ap (λ p. noted p v.events) of.2 ∙ none) in some (omega (arith, whole, zero)))
      (λ (has : HasOrigin (IsAfter v (all.pass mine.0 mine.1) (all.pass of.0 of.1)) v.origins).
      some (origin_with (Began (start_of v) run) (IsAfter v (all.pass mine.0 mine.1) (all.pass of.0 of.1)) (count q es ≡ 0) v.origins t.began has
      (λ o b a. after_all q e up es is o b (subst (λ (z : List ℕ × List ℕ). IsAfter v z.0 z.1 o) (λ i. (sym mine.2 i, sym of.2 i)) a))))
      rest)
      (all.order mine.0 mine.1 of.0 of.1 lt)))
      (λ (le : of.0 ≤ mine.0). omega (arith, late, soon, le))
      (cases_lt mine.0 of.0))
      (all.only e.by.pass))
      (all.only q)

  ordered : (up es : List Done) → run ≡ up ++ es → ByPhase phase_of es
  ordered up [] is = tt
  ordered up (e ∷ es) is = (up_to_by phase_of (phase_of e.by.pass) es (phase_up e up es is), ordered (up ++ e ∷ []) es (is ∙ sym (append_assoc up (e ∷ []) es)))

  pub in_order : ByPhase phase_of run
  in_order = ordered [] run refl
