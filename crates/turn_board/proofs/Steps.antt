-- An event on the turns that are held: it leaves their parts as its move says, and all other parts as they were.
use Rattle.std.proofs.Common.{◌≡◌, ◌≢◌, ℕ, ◌+◌, ◌<◌, ◌≤◌, ◌%◌, true, false, List, [], ◌∷◌, length, refl, sym, ap, ◌∙◌, subst, Option, Some, None, arith}
use Rattle.std.proofs.lemmas.Bool.{eq-eqb, eqb-true, ne_eqb, false≢true}
use Rattle.std.proofs.lemmas.Bool.Decides.{nat_tests}
use Rattle.std.proofs.lemmas.List.{get_or-set_same, get_or-set_other}
use Rattle.std.proofs.Math.ListN.{get_or, set, length-set}
use Rattle.std.proofs.Math.Nat.{mod-lt}
use Rattle.std.specs.Prelude.{nat_lt, ◌==◌, if◌then◌else◌}
use mathlib.Core.Logic.{dite}
use native.Mathlib.Decide.{ℕ_discrete}
use Rattle.graph_model.specs.declared.graph.Base.{Base}
use Rattle.core_states.specs.declared.actor.Actor.{Actor}
use Rattle.core_states.specs.declared.clock.Clock.{Clock}
use Rattle.core_states.specs.declared.event.Act.{Act}
use Rattle.core_states.specs.declared.event.CoreAnswer.{CoreAnswer}
use Rattle.core_states.specs.declared.event.Reach.{Reach}
use Rattle.core_states.specs.declared.event.Reach.TheVariants as reach
use Rattle.core_states.specs.Names.{Name}
use Rattle.core_states.specs.ClockEvents.{ClockMove}
use Rattle.core_states.specs.RowEvents.{RowMove}
use Rattle.core_states.specs.LogParts.{LogPart, Found}
use Rattle.core_states.specs.LogEvents.{LogMove, GroupMove}
use Rattle.core_states.specs.States.{reach_of, clock_event, row_event, log_event, group_event, after, answer_to}
use Rattle.core_states.specs.Parts.{VertexRow, row_of, actor_of, with_named, OfShard, OfClock, OfLog, LocalMove, clock_local, row_local, log_local, group_local, log_first, clock_last, local_at, Parts, shard_of, state_of_parts, parts_at, after_move, move_of, covers, step}
use Rattle.core_states.specs.Openings.{MayOpen, IsAllowed}
use Rattle.core_states.specs.RowEvents.{Limits}
use Rattle.core_kept.specs.Bounds.{Kept}
use Rattle.core_states.specs.Laters.{Later, LaterLog}
use Rattle.core_laws.proofs.Parts.{step_is_after, step_shards, step_limits, part_keeps, part_later, part_later_log, step_answers}
use Rattle.turn_board.specs.Views.{Done, Held, EachHeld}
use Rattle.turn_board.specs.Works.{turns_under, held_turns, held_parts, holding}
use Rattle.turn_board.specs.Histories.{Reached, reached, found_by, AnswersIn}
use Rattle.turn_board.specs.Turns.{turn_part}

lt_true : (a b : ℕ) → a < b → nat_lt a b ≡ true
lt_true a b h = grind (arith, nat_tests)

lt_false : (a b : ℕ) → b ≤ a → nat_lt a b ≡ false
lt_false a b h = grind (arith, nat_tests)

pub part_shard : (parts : Parts) (k : ℕ) → k < length parts.shards → turn_part parts k ≡ OfShard (get_or parts.shards k [])
part_shard parts k low = rw (lt_true k (length parts.shards) low) refl

pub part_clock : (parts : Parts) (k : ℕ) → k ≡ length parts.shards → turn_part parts k ≡ OfClock parts.clock
part_clock parts k e = rw (lt_false k (length parts.shards) (omega (arith, e))) (rw (eq-eqb k (length parts.shards) e) refl)

pub part_log : (parts : Parts) (k : ℕ) → length parts.shards < k → turn_part parts k ≡ OfLog parts.log
part_log parts k high = rw (lt_false k (length parts.shards) (omega arith)) (rw (ne_eqb k (length parts.shards) (λ e. omega (arith, e, high))) refl)

-- what these turns hold of a state
abbrev pub holds_at : Parts → List ℕ → List Held
holds_at parts [] = []
holds_at parts (k ∷ ks) = record { turn = k; part = turn_part parts k } ∷ holds_at parts ks

-- the turn is none of these
abbrev pub Away : ℕ → List ℕ → Type 0
Away j [] = Unit {0}
Away j (k ∷ ks) = (j ≢ k) × Away j ks

pub turns_at : (parts : Parts) (ks : List ℕ) → held_turns (holds_at parts ks) ≡ ks
turns_at parts [] = refl
turns_at parts (k ∷ ks) = λ i. k ∷ turns_at parts ks i

pub held_is : (parts : Parts) (hs : List Held) → EachHeld (λ k p. turn_part parts k ≡ p) hs → hs ≡ holds_at parts (held_turns hs)
held_is parts [] each = refl
held_is parts (h ∷ hs) each = λ i. record { turn = h.turn; part = sym each.0 i } ∷ held_is parts hs each.1 i

-- What a move leaves of what is held, and of all else.
pub record Stepped (held : Reach) (parts : Parts) (i : Name) (move : LocalMove) (next : Parts) : Type 0 where
  pub left : parts_at held next ≡ move.parts
  pub elsewhere : (j : ℕ) → j < length parts.shards + 2 → Away j (turns_under (length parts.shards) held) → turn_part next j ≡ turn_part parts j
  pub actors : next.actors ≡ with_named (record { name = i; actor = move.actor }) parts.actors

clock_put : (parts : Parts) (i : Name) (says : CoreAnswer) (k : Clock) (a : Actor) → Stepped reach.Clock parts i (record { answer = says; parts = OfClock k ∷ []; actor = a }) (record parts { clock = k; actors = with_named (record { name = i; actor = a }) parts.actors })
clock_put parts i says k a = record {
  left = refl;
  elsewhere = λ j inside away. rw (ne_eqb j (length parts.shards) away.0) refl;
  actors = refl;
}

log_put : (parts : Parts) (i : Name) (says : CoreAnswer) (log : LogPart) (a : Actor) → Stepped reach.Log parts i (record { answer = says; parts = OfLog log ∷ []; actor = a }) (record parts { log = log; actors = with_named (record { name = i; actor = a }) parts.actors })
log_put parts i says log a = record {
  left = refl;
  elsewhere = λ j inside away. let ne = away.0 in dite (ℕ_discrete j (length parts.shards))
      (λ (e : j ≡ length parts.shards). part_clock (record parts { log = log; actors = with_named (record { name = i; actor = a }) parts.actors }) j e ∙ sym (part_clock parts j e))
      (λ other. let low : j < length parts.shards = lower j (length parts.shards) inside ne other in
      part_shard (record parts { log = log; actors = with_named (record { name = i; actor = a }) parts.actors }) j low ∙ sym (part_shard parts j low));
  actors = refl;
}
  where
    lower : (j n : ℕ) → j < n + 2 → j ≢ n + 1 → j ≢ n → j < n
    lower j n inside ne other = omega (arith, inside, ne, other)

both_put : (parts : Parts) (i : Name) (says : CoreAnswer) (log : LogPart) (k : Clock) (a : Actor)
    → Stepped reach.LogAndClock parts i (record { answer = says; parts = OfLog log ∷ OfClock k ∷ []; actor = a }) (record parts { clock = k; log = log; actors = with_named (record { name = i; actor = a }) parts.actors })
both_put parts i says log k a = record {
  left = refl;
  elsewhere = λ j inside away. let low : j < length parts.shards = lower j (length parts.shards) inside away.0 away.1.0 in
      part_shard (record parts { clock = k; log = log; actors = with_named (record { name = i; actor = a }) parts.actors }) j low ∙ sym (part_shard parts j low);
  actors = refl;
}
  where
    lower : (j n : ℕ) → j < n + 2 → j ≢ n → j ≢ n + 1 → j < n
    lower j n inside other ne = omega (arith, inside, ne, other)

row_put : (parts : Parts) (i : Name) (says : CoreAnswer) (v : ℕ) (rows : List VertexRow) (a : Actor) → 0 < length parts.shards
    → Stepped (reach.Row v) parts i (record { answer = says; parts = OfShard rows ∷ []; actor = a }) (record parts { shards = set parts.shards (shard_of parts v) rows; actors = with_named (record { name = i; actor = a }) parts.actors })
row_put parts i says v rows a some = record {
  left = λ k. OfShard (put k) ∷ [];
  elsewhere = λ j inside away. λ k. if nat_lt j (long k) then OfShard (other j away.0 k) else (if j == long k then OfClock parts.clock else OfLog parts.log);
  actors = refl;
}
  where
    long : length (set parts.shards (v % length parts.shards) rows) ≡ length parts.shards
    long = length-set parts.shards (v % length parts.shards) rows

    put : get_or (set parts.shards (v % length parts.shards) rows) (v % length (set parts.shards (v % length parts.shards) rows)) [] ≡ rows
    put = ap (λ n. get_or (set parts.shards (v % length parts.shards) rows) (v % n) []) long ∙ get_or-set_same parts.shards (v % length parts.shards) rows [] (mod-lt v some)

    other : (j : ℕ) → j ≢ v % length parts.shards → get_or (set parts.shards (v % length parts.shards) rows) j [] ≡ get_or parts.shards j []
    other j ne = get_or-set_other parts.shards (v % length parts.shards) j rows [] ne

clock_moved : (parts : Parts) (i : Name) (a : Actor) (m : Option ClockMove) → Stepped reach.Clock parts i (clock_local parts.clock a m) (after_move reach.Clock i (clock_local parts.clock a m) parts)
clock_moved parts i a None = clock_put parts i _ parts.clock a
clock_moved parts i a (Some m) = clock_put parts i _ m.clock m.actor

log_moved : (parts : Parts) (i : Name) (a : Actor) (m : Option LogMove) → Stepped reach.Log parts i (log_local parts.log a m) (after_move reach.Log i (log_local parts.log a m) parts)
log_moved parts i a None = log_put parts i _ parts.log a
log_moved parts i a (Some m) = log_put parts i _ m.log m.actor

group_moved : (parts : Parts) (i : Name) (a : Actor) (m : Option GroupMove) → Stepped reach.LogAndClock parts i (group_local parts.log parts.clock a m) (after_move reach.LogAndClock i (group_local parts.log parts.clock a m) parts)
group_moved parts i a None = both_put parts i _ parts.log parts.clock a
group_moved parts i a (Some m) = both_put parts i _ m.log m.clock m.actor

clock_under : (parts : Parts) (i : Name) (a : Actor) (m : Option ClockMove) → Stepped reach.LogAndClock parts i (log_first (OfLog parts.log) (clock_local parts.clock a m)) (after_move reach.LogAndClock i (log_first (OfLog parts.log) (clock_local parts.clock a m)) parts)
clock_under parts i a None = both_put parts i _ parts.log parts.clock a
clock_under parts i a (Some m) = both_put parts i _ parts.log m.clock m.actor

log_under : (parts : Parts) (i : Name) (a : Actor) (m : Option LogMove) → Stepped reach.LogAndClock parts i (clock_last (OfClock parts.clock) (log_local parts.log a m)) (after_move reach.LogAndClock i (clock_last (OfClock parts.clock) (log_local parts.log a m)) parts)
log_under parts i a None = both_put parts i _ parts.log parts.clock a
log_under parts i a (Some m) = both_put parts i _ m.log parts.clock m.actor

row_moved : (parts : Parts) (i : Name) (v : ℕ) (a : Actor) (m : Option RowMove) → 0 < length parts.shards
    → Stepped (reach.Row v) parts i (row_local (get_or parts.shards (shard_of parts v) []) v a m) (after_move (reach.Row v) i (row_local (get_or parts.shards (shard_of parts v) []) v a m) parts)
row_moved parts i v a None some = row_put parts i _ v (get_or parts.shards (shard_of parts v) []) a some
row_moved parts i v a (Some m) some = row_put parts i _ v _ m.actor some

pub step_moved : (held : Reach) (base : Base) (parts : Parts) (i : Name) (action : Act) → 0 < length parts.shards → covers held (reach_of action) ≡ true
    → Stepped held parts i (move_of held base parts i action) (step held base parts i action)
step_moved held base parts i action some covered = by_reach held (reach_of action) covered
  where
    a : Actor
    a = actor_of base parts.actors i

    by_reach : (h r : Reach) → covers h r ≡ true → Stepped h parts i (local_at r parts.limits base i action (parts_at h parts) a) (after_move h i (local_at r parts.limits base i action (parts_at h parts) a) parts)
    by_reach reach.Clock reach.Clock c = clock_moved parts i a (clock_event action parts.clock a)
    by_reach reach.Clock (reach.Row v) c = absurd (false≢true c)
    by_reach reach.Clock reach.Log c = absurd (false≢true c)
    by_reach reach.Clock reach.LogAndClock c = absurd (false≢true c)
    by_reach (reach.Row v) reach.Clock c = absurd (false≢true c)
    by_reach (reach.Row v) (reach.Row w) c =
        subst (λ u. Stepped (reach.Row v) parts i (local_at (reach.Row u) parts.limits base i action (parts_at (reach.Row v) parts) a) (after_move (reach.Row v) i (local_at (reach.Row u) parts.limits base i action (parts_at (reach.Row v) parts) a) parts)) (eqb-true v w c)
        (row_moved parts i v a (row_event parts.limits action (row_of base (get_or parts.shards (shard_of parts v) []) v) a) some)
    by_reach (reach.Row v) reach.Log c = absurd (false≢true c)
    by_reach (reach.Row v) reach.LogAndClock c = absurd (false≢true c)
    by_reach reach.Log reach.Clock c = absurd (false≢true c)
    by_reach reach.Log (reach.Row v) c = absurd (false≢true c)
    by_reach reach.Log reach.Log c = log_moved parts i a (log_event action i parts.log a)
    by_reach reach.Log reach.LogAndClock c = absurd (false≢true c)
    by_reach reach.LogAndClock (reach.Row v) c = absurd (false≢true c)
    by_reach reach.LogAndClock reach.Clock c = clock_under parts i a (clock_event action parts.clock a)
    by_reach reach.LogAndClock reach.Log c = log_under parts i a (log_event action i parts.log a)
    by_reach reach.LogAndClock reach.LogAndClock c = group_moved parts i a (group_event action i parts.log parts.clock a)

-- the parts of what is held
pub parts_held : (held : Reach) (parts : Parts) → 0 < length parts.shards → held_parts (holds_at parts (turns_under (length parts.shards) held)) ≡ parts_at held parts
parts_held (reach.Row v) parts some = λ i. part_shard parts (v % length parts.shards) (mod-lt v some) i ∷ []
parts_held reach.Clock parts some = λ i. part_clock parts (length parts.shards) refl i ∷ []
parts_held reach.Log parts some = λ i. part_log parts (length parts.shards + 1) (omega arith) i ∷ []
parts_held reach.LogAndClock parts some = λ i. part_log parts (length parts.shards + 1) (omega arith) i ∷ part_clock parts (length parts.shards) refl i ∷ []

-- what is held of the next state
pub held_again : (held : Reach) (parts next : Parts) → 0 < length parts.shards → length next.shards ≡ length parts.shards
    → holding (parts_at held next) (holds_at parts (turns_under (length parts.shards) held)) ≡ holds_at next (turns_under (length parts.shards) held)
held_again (reach.Row v) parts next some long =
    let low : v % length parts.shards < length parts.shards = mod-lt v some in λ i. record {
      turn = v % length parts.shards;
      part = (ap (λ n. OfShard (get_or next.shards (v % n) [])) long ∙ sym (part_shard next (v % length parts.shards) (omega (arith, low, long)))) i;
    } ∷ []
held_again reach.Clock parts next some long = λ i. record { turn = length parts.shards; part = sym (part_clock next (length parts.shards) (sym long)) i } ∷ []
held_again reach.Log parts next some long = λ i. record { turn = length parts.shards + 1; part = sym (part_log next (length parts.shards + 1) (omega (arith, long))) i } ∷ []
held_again reach.LogAndClock parts next some long = λ i.
    record { turn = length parts.shards; part = sym (part_clock next (length parts.shards) (sym long)) i }
    ∷ record { turn = length parts.shards + 1; part = sym (part_log next (length parts.shards + 1) (omega (arith, long))) i } ∷ []

-- An event leads from a state that a run led to, to one that a longer run leads to.
pub reached_after : (held : Reach) (base : Base) (parts : Parts) (run : List Done) (e : Done) → Reached base parts run → covers held (reach_of e.act) ≡ true → e.answer ≡ (move_of held base parts e.by e.act).answer → Reached base (step held base parts e.by e.act) (e ∷ run)
reached_after held base parts run e r covered answer = record {
  may = subst (λ most. MayOpen base most) (sym limits) r.may;
  allowed = subst (λ most. IsAllowed most) (sym limits) r.allowed;
  some = let some = r.some in let same = step_shards held base parts e.by e.act in omega (arith, some, same);
  kept = subst (λ most. Kept base most (state_of_parts base (step held base parts e.by e.act))) (sym limits) (part_keeps held base parts e.by e.act r.some covered r.kept);
  is = step_is_after held base parts e.by e.act r.some covered ∙ ((λ i. after parts.limits (r.is i) e.by e.act) ∙ (λ i. reached (sym limits i) base (sym found i) (e ∷ run)));
  answers = subst (λ (z : Limits × Found). AnswersIn z.0 base z.1 (e ∷ run)) (λ i. (sym limits i, sym found i))
      (answer ∙ (step_answers held base parts e.by e.act covered ∙ (λ i. answer_to parts.limits (r.is i) e.by e.act)), r.answers);
}
  where
    limits : (step held base parts e.by e.act).limits ≡ parts.limits
    limits = step_limits held base parts e.by e.act

    found : found_by (step held base parts e.by e.act).log ≡ found_by parts.log
    found = let l = part_later_log held base parts e.by e.act r.some covered in λ i. record { count = l.opening_count i; firm = l.firm i; records = l.opened i }

pub later_after : (held : Reach) (base : Base) (parts : Parts) (run : List Done) (e : Done) → Reached base parts run → covers held (reach_of e.act) ≡ true → Later parts.clock (step held base parts e.by e.act).clock
later_after held base parts run e r covered = part_later held base parts e.by e.act r.some covered r.kept

pub log_after : (held : Reach) (base : Base) (parts : Parts) (run : List Done) (e : Done) → Reached base parts run → covers held (reach_of e.act) ≡ true → LaterLog parts.log (step held base parts e.by e.act).log
log_after held base parts run e r covered = part_later_log held base parts e.by e.act r.some covered
