-- A change is tried again and again, and each list of events is one that the call may make.
use Rattle.std.proofs.Common.{arith, ◌≡◌, ℕ, zero, suc, ◌+◌, ◌≤◌, List, [], ◌∷◌, ◌++◌, length, length-append, refl, sym, ap, ◌∙◌, subst, inl, inr, Option, Some, None, Result, Ok, Err}
use Rattle.std.specs.Prelude.{IfSome}
use Rattle.atomic_table.specs.declared.shared.Seat.{Seat}
use Rattle.graph_model.specs.declared.change.Change.{Change}
use Rattle.graph_model.specs.Change.{vertex_of}
use Rattle.core_calls.specs.Calls.{Changes, Nothing, Once, First, Leaves, Gives, AtMost, InVain, retries}
use Rattle.core_calls.specs.Events.{Told, told}
use Rattle.core_states.specs.declared.event.Act.{Act}
use Rattle.core_states.specs.declared.event.Act.TheVariants as act
use Rattle.core_states.specs.declared.event.CoreAnswer.{CoreAnswer}
use Rattle.core_states.specs.declared.event.CoreAnswer.TheVariants as answer
use Rattle.core_states.specs.Transactions.{is_loser}
use Rattle.core_states.proofs.Names.{some_is}
use Rattle.turn_board.specs.Views.{View}
use Rattle.turn_board.specs.declared.board.TurnBoard.{TurnBoard}
use Rattle.store_turns.specs.declared.session.Session.{Session}
use Rattle.store_turns.specs.declared.session.Work.{Work}
use Rattle.store_turns.specs.Grows.{told_if}
use Rattle.store_turns.specs.Moves.{Works, IsLost}
use Rattle.store_board.specs.Standing.{Stands, Goes}
use Rattle.store_board.proofs.Standing.{stays, goes_on}
use Rattle.store_rows.specs.Alters.{change_act, alter_act, GoesOn, KeepsWork, StaysRunning, IsAnswerTo}
use Rattle.store_sessions.specs.declared.refusal.Refusal.{Refusal}
use Rattle.store_sessions.specs.declared.refusal.Refusal.TheVariants as refusal
use Rattle.store_sessions.specs.declared.changing.Tried.{Tried}
use Rattle.store_sessions.specs.declared.changing.Tried.TheVariants as tried
use Rattle.store_sessions.specs.Changing.{CallTells, IsAtWork, StaysAtWork, HasLeft, HadRead, RefusedLeaves, ChangeLeaves, Refuses, ChangeTells, changed, RefusesOnce, EndsOnce, TriedTells, TriedLeaves, AreLooks, LooksInVain}

-- ---- lists of events

at_most : (n v : ℕ) (Rest : List Told → Type 0) (es fs : List Told) → AreLooks v es → length es ≤ n → Rest fs → AtMost n v Rest (es ++ fs)
at_most zero v Rest [] fs looks few rest = rest
at_most zero v Rest (e ∷ es) fs looks few rest = absurd (omega (arith, few))
at_most (suc n) v Rest [] fs looks few rest = inl rest
at_most (suc n) v Rest (e ∷ es) fs looks few rest = inr (looks.0.0, (es ++ fs, ap (λ (x : Told). x ∷ (es ++ fs)) looks.0.1, at_most n v Rest es fs looks.1 (omega (arith, few)) rest))

in_vain : (n v : ℕ) (Rest : List Told → Type 0) (es fs : List Told) → AreLooks v es → length es ≡ n → Rest fs → InVain n v Rest (es ++ fs)
in_vain zero v Rest [] fs looks many rest = rest
in_vain zero v Rest (e ∷ es) fs looks many rest = absurd (omega (arith, many))
in_vain (suc n) v Rest [] fs looks many rest = absurd (omega (arith, many))
in_vain (suc n) v Rest (e ∷ es) fs looks many rest = (looks.0.0, (es ++ fs, ap (λ (x : Told). x ∷ (es ++ fs)) looks.0.1, in_vain n v Rest es fs looks.1 (omega (arith, many)) rest))

one_look_more : (v u : ℕ) (es : List Told) → AreLooks v es → AreLooks v (es ++ told (act.Look v) (answer.Held u) ∷ [])
one_look_more v u [] looks = ((u, refl), tt)
one_look_more v u (e ∷ es) looks = (looks.0, one_look_more v u es looks.1)

-- ---- how a try ends

-- a change that was tried ends, after looks in vain
refused_after : (c : Change) (r : Refusal) (es fs : List Told) → AreLooks (vertex_of c) es → length es ≤ retries → RefusesOnce (vertex_of c) (change_act c) r fs → Refuses (vertex_of c) (change_act c) r (es ++ fs)
refused_after c refusal.NoMemory es fs looks few once = at_most (suc retries) (vertex_of c) _ es fs looks (omega (arith, few)) (inl once)
refused_after c (refusal.Held w u n) es fs looks few once = absurd once
refused_after c (refusal.Conflict w e r) es fs looks few once = (once.0, at_most retries (vertex_of c) (First (act.Look (vertex_of c)) (answer.Conflict e) (Leaves Nothing)) es fs looks few once.1)
refused_after c refusal.NoVertex es fs looks few once = at_most retries (vertex_of c) (Once (change_act c) answer.NoVertex) es fs looks few once
refused_after c refusal.TxnFull es fs looks few once = at_most retries (vertex_of c) (Once (change_act c) answer.TxnFull) es fs looks few once
refused_after c refusal.LogFull es fs looks few once = at_most retries (vertex_of c) (Once (change_act c) answer.LogFull) es fs looks few once
refused_after c (refusal.LogFault b a) es fs looks few once = absurd once
refused_after c refusal.Spent es fs looks few once = absurd once
refused_after c (refusal.Busy t) es fs looks few once = absurd once

ends_after : (c : Change) (end : Result CoreAnswer Refusal) (es fs : List Told) → AreLooks (vertex_of c) es → length es ≤ retries → EndsOnce c end fs → ChangeTells c end (es ++ fs)
ends_after c (Ok says) es fs looks few once = (once.0, at_most retries (vertex_of c) (Once (change_act c) says) es fs looks few once.1)
ends_after c (Err r) es fs looks few once = refused_after c r es fs looks few once

-- an answer that is no look
answered : (c : Change) (says : CoreAnswer) → ((u : ℕ) → says ≡ answer.Held u → ⊥) → ((e : ℕ) → says ≡ answer.Conflict e → ⊥) → IsAnswerTo c says → EndsOnce c (changed says) (told (alter_act c says) says ∷ [])
answered c answer.NotEnabled held conflict is = (is, refl)
answered c answer.Done held conflict is = (is, refl)
answered c (answer.Begun n e) held conflict is = (is, refl)
answered c (answer.Number n) held conflict is = (is, refl)
answered c answer.Spent held conflict is = (is, refl)
answered c (answer.Learnt h o) held conflict is = (is, refl)
answered c (answer.Collected n) held conflict is = (is, refl)
answered c (answer.Published e) held conflict is = (is, refl)
answered c (answer.Kept o) held conflict is = (is, refl)
answered c (answer.Visible y) held conflict is = (is, refl)
answered c (answer.Held u) held conflict is = absurd (held u refl)
answered c (answer.Conflict e) held conflict is = absurd (conflict e refl)
answered c answer.NoVertex held conflict is = refl
answered c answer.TxnFull held conflict is = refl
answered c answer.LogFull held conflict is = refl
answered c answer.Added held conflict is = (is, refl)
answered c answer.Replaced held conflict is = (is, refl)
answered c answer.Gone held conflict is = (is, refl)
answered c answer.Absent held conflict is = (is, refl)
answered c (answer.Shown x) held conflict is = (is, refl)

-- ---- the session

pub works_on : (s s' : Session) → IsAtWork s → StaysRunning s s' → StaysAtWork s s'
works_on s s' at stays = by_work s'.work refl (subst (λ (o : Option Work). GoesOn o s'.work) at.1.is stays.2)
  where
    by_work : (o : Option Work) → s'.work ≡ o → GoesOn (Some at.0) s'.work → StaysAtWork s s'
    by_work None is goes = absurd (subst (λ (o : Option Work). GoesOn (Some at.0) o) is goes)
    by_work (Some t) is goes = kept (subst (λ (o : Option Work). GoesOn (Some at.0) o) is goes)
      where
        kept : KeepsWork at.0 t → StaysAtWork s s'
        kept k = record {
          is_open = stays.0;
          finished = stays.1;
          before = at.0;
          after = t;
          worked = at.1;
          works = record { is = is; stage = k.stage ∙ at.1.stage; settled = k.settled ∙ at.1.settled };
          tid = k.tid;
          read = k.read;
        }

pub at_work_still : (s : Session) → IsAtWork s → StaysAtWork s s
at_work_still s at = record { is_open = refl; finished = refl; before = at.0; after = at.0; worked = at.1; works = at.1; tid = refl; read = refl }

-- what works may be given up
pub may_leave : (s : Session) (t : Work) → Works s t → (x : Work) × (s.work ≡ Some x) × IsLost x
may_leave s t works = (t, works.is, ap is_loser works.stage)

pub has_left : (s s' s'' : Session) → StaysAtWork s s' → s'.index ≡ s.index → s'' ≡ record s' { work = None } → HasLeft s s''
has_left s s' s'' stays index left = left ∙ (λ i. record { index = index i; is_open = stays.is_open i; finished = stays.finished i; work = None })

had_read : (r : ℕ) (s s' : Session) → StaysAtWork s s' → ((t : Work) → s'.work ≡ Some t → r ≡ t.read) → HadRead r s
had_read r s s' stays is t was = is stays.after stays.works.is ∙ stays.read ∙ ap (λ (w : Work). w.read) (some_is stays.before t (sym stays.worked.is ∙ was))

pub stays_on : (s s' s'' : Session) → StaysAtWork s s' → StaysAtWork s' s'' → StaysAtWork s s''
stays_on s s' s'' one two =
    let same : two.before ≡ one.after = some_is two.before one.after (sym two.worked.is ∙ one.works.is) in record {
      is_open = two.is_open ∙ one.is_open;
      finished = two.finished ∙ one.finished;
      before = one.before;
      after = two.after;
      worked = one.worked;
      works = two.works;
      tid = two.tid ∙ ap (λ (w : Work). w.tid) same ∙ one.tid;
      read = two.read ∙ ap (λ (w : Work). w.read) same ∙ one.read;
    }

-- a refusal after the transaction stayed at work
refused_on : (r : Refusal) (s s' s'' : Session) → StaysAtWork s s' → s'.index ≡ s.index → RefusedLeaves r s' s'' → RefusedLeaves r s s''
refused_on refusal.NoMemory s s' s'' stays index leaves = stays_on s s' s'' stays leaves
refused_on (refusal.Held w u n) s s' s'' stays index leaves = has_left s s' s'' stays index leaves
refused_on (refusal.Conflict w e r) s s' s'' stays index leaves = (has_left s s' s'' stays index leaves.0, had_read r s s' stays leaves.1)
refused_on refusal.NoVertex s s' s'' stays index leaves = stays_on s s' s'' stays leaves
refused_on refusal.TxnFull s s' s'' stays index leaves = stays_on s s' s'' stays leaves
refused_on refusal.LogFull s s' s'' stays index leaves = stays_on s s' s'' stays leaves
refused_on (refusal.LogFault b a) s s' s'' stays index leaves = stays_on s s' s'' stays leaves
refused_on refusal.Spent s s' s'' stays index leaves = stays_on s s' s'' stays leaves
refused_on (refusal.Busy t) s s' s'' stays index leaves = stays_on s s' s'' stays leaves

pub leaves_on : (end : Result CoreAnswer Refusal) (s s' s'' : Session) → StaysAtWork s s' → s'.index ≡ s.index → ChangeLeaves end s' s'' → ChangeLeaves end s s''
leaves_on (Ok says) s s' s'' stays index leaves = stays_on s s' s'' stays leaves
leaves_on (Err r) s s' s'' stays index leaves = refused_on r s s' s'' stays index leaves

-- what is answered without a refusal that ends the transaction leaves it at work
pub changed_stays : (says : CoreAnswer) (s s' : Session) → StaysAtWork s s' → ChangeLeaves (changed says) s s'
changed_stays answer.NotEnabled s s' stays = stays
changed_stays answer.Done s s' stays = stays
changed_stays (answer.Begun n e) s s' stays = stays
changed_stays (answer.Number n) s s' stays = stays
changed_stays answer.Spent s s' stays = stays
changed_stays (answer.Learnt h o) s s' stays = stays
changed_stays (answer.Collected n) s s' stays = stays
changed_stays (answer.Published e) s s' stays = stays
changed_stays (answer.Kept o) s s' stays = stays
changed_stays (answer.Visible y) s s' stays = stays
changed_stays (answer.Held u) s s' stays = stays
changed_stays (answer.Conflict e) s s' stays = stays
changed_stays answer.NoVertex s s' stays = stays
changed_stays answer.TxnFull s s' stays = stays
changed_stays answer.LogFull s s' stays = stays
changed_stays answer.Added s s' stays = stays
changed_stays answer.Replaced s s' stays = stays
changed_stays answer.Gone s s' stays = stays
changed_stays answer.Absent s s' stays = stays
changed_stays (answer.Shown x) s s' stays = stays

-- ---- a try at the board

module _ {H : Type 0} (board : TurnBoard H) (shards : ℕ) (c : Change) where
  abbrev pub Tries : Tried → Seat (Option H) View → Seat (Option H) View → Session → Session → Type 0
  Tries x p q s s' = (ts : List Told) × TriedTells c x ts × Goes board shards ts p q s s'

  module _ (p q : Seat (Option H) View) (s s' : Session) (o : Option CoreAnswer) (goes : Goes board shards (told_if (alter_act c) o) p q s s') where
    pub tried_none : o ≡ None → Tries (tried.Ends (Err refusal.NoMemory)) p q s s'
    tried_none none = ([], refl, subst (λ (z : Option CoreAnswer). Goes board shards (told_if (alter_act c) z) p q s s') none goes)

    pub did : (says : CoreAnswer) → o ≡ Some says → Goes board shards (told (alter_act c says) says ∷ []) p q s s'
    did says some = subst (λ (z : Option CoreAnswer). Goes board shards (told_if (alter_act c) z) p q s s') some goes

    pub tried_held : (u : ℕ) → o ≡ Some (answer.Held u) → Tries (tried.Held u) p q s s'
    tried_held u some = (told (act.Look (vertex_of c)) (answer.Held u) ∷ [], refl, did (answer.Held u) some)

    pub tried_conflict : (w e r : ℕ) (end : Seat (Option H) View) (s'' : Session) → w ≡ vertex_of c → o ≡ Some (answer.Conflict e) → ((ts : List Told) × Gives ts × Goes board shards ts q end s' s'')
        → Tries (tried.Ends (Err (refusal.Conflict w e r))) p end s s''
    tried_conflict w e r end s'' is some left = (
      told (act.Look (vertex_of c)) (answer.Conflict e) ∷ left.0,
      (is, (left.0, refl, left.1)),
      goes_on board shards p q end s s' s'' (told (act.Look (vertex_of c)) (answer.Conflict e) ∷ []) left.0 (did (answer.Conflict e) some) left.2,
    )

    pub tried_else : (says : CoreAnswer) → o ≡ Some says → ((u : ℕ) → says ≡ answer.Held u → ⊥) → ((e : ℕ) → says ≡ answer.Conflict e → ⊥) → IfSome o (IsAnswerTo c) → Tries (tried.Ends (changed says)) p q s s'
    tried_else says some held conflict is = (told (alter_act c says) says ∷ [], answered c says held conflict (subst (λ (z : Option CoreAnswer). IfSome z (IsAnswerTo c)) some is), did says some)

  pub no_look : (p : Seat (Option H) View) (s : Session) → Stands board shards p s → IsAtWork s → LooksInVain board shards (vertex_of c) 1 p p s s
  no_look p s stands at = record { events = []; looks = tt; many = refl; goes = stays board shards p s stands; stays = at_work_still s at }

  module _ (p q r : Seat (Option H) View) (s s' s'' : Session) (next : ℕ) (so_far : LooksInVain board shards (vertex_of c) next p q s s') where
    pub look_more : (u : ℕ) → Tries (tried.Held u) q r s' s'' → TriedLeaves (tried.Held u) s' s'' → LooksInVain board shards (vertex_of c) (next + 1) p r s s''
    look_more u tries leaves =
        let many = so_far.many in record {
          events = so_far.events ++ told (act.Look (vertex_of c)) (answer.Held u) ∷ [];
          looks = one_look_more (vertex_of c) u so_far.events so_far.looks;
          many = ap (λ n. n + 1) (length-append so_far.events (told (act.Look (vertex_of c)) (answer.Held u) ∷ []) ∙ many);
          goes = goes_on board shards p q r s s' s'' so_far.events (told (act.Look (vertex_of c)) (answer.Held u) ∷ []) so_far.goes (subst (λ (ts : List Told). Goes board shards ts q r s' s'') tries.1 tries.2);
          stays = stays_on s s' s'' so_far.stays leaves;
        }

    pub change_ends : next ≤ 16 → (end : Result CoreAnswer Refusal) → Tries (tried.Ends end) q r s' s'' → (ts : List Told) × ChangeTells c end ts × Goes board shards ts p r s s''
    change_ends few end tries =
        let many = so_far.many in (
          so_far.events ++ tries.0,
          ends_after c end so_far.events tries.0 so_far.looks (omega (arith, many, few)) tries.1,
          goes_on board shards p q r s s' s'' so_far.events tries.0 so_far.goes tries.2,
        )

    pub ended_leaves : (end : Result CoreAnswer Refusal) → ChangeLeaves end s' s'' → ChangeLeaves end s s''
    ended_leaves end leaves = leaves_on end s s' s'' so_far.stays so_far.goes.index leaves

    pub held_up : next ≡ 16 → (w u : ℕ) (end : Seat (Option H) View) (last : Session) → w ≡ vertex_of c → Tries (tried.Held u) q r s' s'' → ((ts : List Told) × Gives ts × Goes board shards ts r end s'' last)
        → (ts : List Told) × ChangeTells c (Err (refusal.Held w u 16)) ts × Goes board shards ts p end s last
    held_up all w u end last is tries left =
        let many = so_far.many in
        let look = told (act.Look (vertex_of c)) (answer.Held u) in (
          so_far.events ++ look ∷ left.0,
          (is, refl, in_vain retries (vertex_of c) (First (act.Look (vertex_of c)) (answer.Held u) (Leaves Nothing)) so_far.events (look ∷ left.0) so_far.looks (omega (arith, many, all)) (left.0, refl, left.1)),
          goes_on board shards p q end s s' last so_far.events (look ∷ left.0) so_far.goes
              (goes_on board shards q r end s' s'' last (look ∷ []) left.0 (subst (λ (ts : List Told). Goes board shards ts q r s' s'') tries.1 tries.2) left.2),
        )

-- ---- a call at the board

module _ {H : Type 0} (board : TurnBoard H) (shards : ℕ) where
  -- memory ran out before the first event
  pub nothing_done : {A : Type 0} (says : A → CoreAnswer) (v : ℕ) (a : Act) (p : Seat (Option H) View) (s : Session) → Stands board shards p s → (ts : List Told) × CallTells says v a (Err refusal.NoMemory) ts × Goes board shards ts p p s s
  nothing_done says v a p s stands = ([], inl (inl refl), stays board shards p s stands)

  -- the answer by another name
  pub told_as : (c : Change) (a : Act) (p q : Seat (Option H) View) (s s' : Session) (says z : CoreAnswer) → change_act c ≡ a → says ≡ z → ((ts : List Told) × ChangeTells c (Ok says) ts × Goes board shards ts p q s s')
      → (ts : List Told) × Changes (vertex_of c) a z ts × Goes board shards ts p q s s'
  told_as c a p q s s' says z acts is tells = (tells.0, subst (λ (x : Act). Changes (vertex_of c) x z tells.0) acts (subst (λ (x : CoreAnswer). Changes (vertex_of c) (change_act c) x tells.0) is tells.1.1), tells.2)
