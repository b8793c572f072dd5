-- An event on the part that it works on is the event on the whole state.
use Rattle.core_states.specs.declared.clock.Clock.{Clock}
use Rattle.std.proofs.Common.{arith, ◌≡◌, ◌≢◌, ℕ, ◌<◌, ◌≤◌, ◌%◌, Bool, true, false, List, [], ◌∷◌, length, map, refl, sym, ap, ◌∙◌, subst, Option, Some, None, ⊎_elim}
use Rattle.std.proofs.lemmas.Bool.{cases_eq, cases_lt, eq-eqb, eqb-true, eqb-false, ne_eqb, and_parts, ltb-true}
use Rattle.std.proofs.lemmas.List.FromFn.{get_or-map-range_with_len, length-map-range_with_len}
use Rattle.std.specs.List.{list_all}
use Rattle.graph_model.specs.Vertex.{Vertex}
use Rattle.graph_model.specs.Whole.{rise, is_vertex}
use Rattle.core_states.specs.RowEvents.{Limits}
use Rattle.std.proofs.lemmas.List.{set-get_or, get_or-replicate, length-replicate, get_or-set_same, get_or-set_other, get_or_past}
use Rattle.std.proofs.Math.ListN.{get_or, set, length-set}
use Rattle.std.proofs.Math.Nat.{mod-lt}
use Rattle.std.specs.Prelude.{if◌then◌else◌, ◌==◌, nat_lt, filter, replicate}
use Rattle.graph_model.specs.declared.graph.Base.{Base}
use Rattle.core_rows.specs.Rows.{Row}
use Rattle.core_states.specs.declared.actor.Actor.{Actor}
use Rattle.core_states.specs.declared.event.Act.{Act}
use Rattle.core_states.specs.Names.{Name, same_name, set_at, set_name}
use Rattle.core_states.specs.ClockEvents.{ClockMove}
use Rattle.core_states.specs.RowEvents.{RowMove}
use Rattle.core_states.specs.States.{State, clock_event, row_event, log_event, group_event, reach_of, row_answer, clock_answer, log_answer, group_answer, answer_at, answer_to, after_clock, after_row, after_log, after_group, after_at, after}
use Rattle.core_states.specs.LogParts.{Found, LogPart}
use Rattle.core_states.specs.LogEvents.{LogMove, GroupMove}
use Rattle.core_states.specs.declared.event.Reach.{Reach}
use Rattle.core_states.specs.declared.event.Reach.TheVariants as reach
use Rattle.core_states.specs.Parts.{VertexRow, NamedActor, row_of, actor_of, with_row_of, with_named, Part, OfShard, OfClock, OfLog, row_local, clock_local, log_local, group_local, log_first, clock_last, local_at, Parts, shard_of, state_of_parts, parts_at, with_parts, after_move, move_of, covers, step, AreOpened, Opens, loaded_rows, loaded_shards, loaded_parts, bare_parts}
use Rattle.core_kept.specs.Bounds.{Kept}
use Rattle.core_states.specs.Laters.{Later, LaterLog}
use Rattle.graph_model.specs.Graph.{vertex_at}
use Rattle.graph_model.specs.Records.{IsGood}
use Rattle.core_rows.specs.Openings.{opened_row}
use Rattle.core_states.specs.Openings.{opening, MayOpen}
use Rattle.core_kept.proofs.Keeping.{opening_kept, step_kept}
use Rattle.core_laws.proofs.Actors.{actor_here, actor_there}
use Rattle.core_laws.proofs.Laters.{later, later_log}
use Rattle.std.proofs.lemmas.Bool.{false≢true}
use Rattle.core_states.proofs.Names.{set_at_here, set_at_there, set_name_here, set_name_there, cases_name, same_name_is, same_name_true, not_same}

row_here : (base : Base) (x : VertexRow) (rows : List VertexRow) → row_of base (with_row_of x rows) x.vertex ≡ x.row
row_here base x [] = rw (eq-eqb x.vertex x.vertex refl) refl
row_here base x (y ∷ rows) = by_place (nat_lt x.vertex y.vertex) (x.vertex == y.vertex) refl (row_here base x rows)
  where
    by_place : (b c : Bool) → (x.vertex == y.vertex) ≡ c → row_of base (with_row_of x rows) x.vertex ≡ x.row
        → row_of base (if b then x ∷ y ∷ rows else (if c then x ∷ rows else y ∷ with_row_of x rows)) x.vertex ≡ x.row
    by_place true c is ih = rw (eq-eqb x.vertex x.vertex refl) refl
    by_place false true is ih = rw (eq-eqb x.vertex x.vertex refl) refl
    by_place false false is ih = rw (ne_eqb y.vertex x.vertex (λ e. eqb-false x.vertex y.vertex is (sym e))) ih

row_there : (base : Base) (x : VertexRow) (rows : List VertexRow) (w : ℕ) → w ≢ x.vertex → row_of base (with_row_of x rows) w ≡ row_of base rows w
row_there base x [] w n = rw (ne_eqb x.vertex w (λ e. n (sym e))) refl
row_there base x (y ∷ rows) w n = by_place (nat_lt x.vertex y.vertex) (x.vertex == y.vertex) refl (row_there base x rows w n)
  where
    by_place : (b c : Bool) → (x.vertex == y.vertex) ≡ c → row_of base (with_row_of x rows) w ≡ row_of base rows w
        → row_of base (if b then x ∷ y ∷ rows else (if c then x ∷ rows else y ∷ with_row_of x rows)) w ≡ row_of base (y ∷ rows) w
    by_place true c is ih = rw (ne_eqb x.vertex w (λ e. n (sym e))) refl
    by_place false true is ih = rw (ne_eqb x.vertex w (λ e. n (sym e))) (rw (ne_eqb y.vertex w (λ e. n (sym (eqb-true x.vertex y.vertex is ∙ e)))) refl)
    by_place false false is ih = λ i. if y.vertex == w then y.row else ih i

-- the actors after one of them moved
actors_after : (base : Base) (actors : List NamedActor) (i : Name) (a : Actor) (j : Name) → actor_of base (with_named (record { name = i; actor = a }) actors) j ≡ set_name (actor_of base actors) i a j
actors_after base actors i a j = ⊎_elim
    (λ (e : j ≡ i). ap (actor_of base (with_named (record { name = i; actor = a }) actors)) e ∙ actor_here base (record { name = i; actor = a }) actors i refl ∙ sym (set_name_here (actor_of base actors) i a j e))
    (λ (n : j ≢ i). actor_there base (record { name = i; actor = a }) actors j n ∙ sym (set_name_there (actor_of base actors) i a j n))
    (cases_name j i)

-- an actor that did not move
name_again : {A : Type 0} (f : Name → A) (k j : Name) → set_name f k (f k) j ≡ f j
name_again f k j = ⊎_elim (λ (e : j ≡ k). set_name_here f k (f k) j e ∙ ap f (sym e)) (λ (n : j ≢ k). set_name_there f k (f k) j n) (cases_name j k)

shard_low : (parts : Parts) (v : ℕ) → 0 < length parts.shards → shard_of parts v < length parts.shards
shard_low parts v some = mod-lt v some

-- the shards with these rows in place of one shard's
with_shard : Parts → ℕ → List VertexRow → Parts
with_shard parts v rows = record parts { shards = set parts.shards (shard_of parts v) rows }

shard_same : (parts : Parts) (v w : ℕ) (rows : List VertexRow) → w % length (set parts.shards (shard_of parts v) rows) ≡ shard_of parts w
shard_same parts v w rows = ap (λ n. w % n) (length-set parts.shards (shard_of parts v) rows)

-- the rows after one of them moved
rows_after : (base : Base) (parts : Parts) (v : ℕ) (row : Row) (w : ℕ) → 0 < length parts.shards
    → row_of base (get_or (set parts.shards (shard_of parts v) (with_row_of (record { vertex = v; row = row }) (get_or parts.shards (shard_of parts v) []))) (w % length (set parts.shards (shard_of parts v) (with_row_of (record { vertex = v; row = row }) (get_or parts.shards (shard_of parts v) [])))) []) w
    ≡ set_at (λ u. row_of base (get_or parts.shards (shard_of parts u) []) u) v row w
rows_after base parts v row w some =
    ap (λ n. row_of base (get_or shards n []) w) (shard_same parts v w rows)
    ∙ ⊎_elim
    (λ (e : shard_of parts w ≡ shard_of parts v). ap (λ n. row_of base (get_or shards n []) w) e ∙ ap (λ rs. row_of base rs w) (get_or-set_same parts.shards (shard_of parts v) rows [] (shard_low parts v some)) ∙ in_shard e)
    (λ (n : shard_of parts w ≢ shard_of parts v). ap (λ rs. row_of base rs w) (get_or-set_other parts.shards (shard_of parts v) (shard_of parts w) rows [] n) ∙ sym (set_at_there (λ u. row_of base (get_or parts.shards (shard_of parts u) []) u) v row w (λ e. n (ap (shard_of parts) e))))
    (cases_eq (shard_of parts w) (shard_of parts v))
  where
    old : List VertexRow
    old = get_or parts.shards (shard_of parts v) []

    rows : List VertexRow
    rows = with_row_of (record { vertex = v; row = row }) old

    shards : List (List VertexRow)
    shards = set parts.shards (shard_of parts v) rows

    in_shard : shard_of parts w ≡ shard_of parts v → row_of base rows w ≡ set_at (λ u. row_of base (get_or parts.shards (shard_of parts u) []) u) v row w
    in_shard e = ⊎_elim
        (λ (is : w ≡ v). ap (row_of base rows) is ∙ row_here base (record { vertex = v; row = row }) old ∙ sym (set_at_here (λ u. row_of base (get_or parts.shards (shard_of parts u) []) u) v row w is))
        (λ (n : w ≢ v). row_there base (record { vertex = v; row = row }) old w n ∙ ap (λ k. row_of base (get_or parts.shards k []) w) (sym e) ∙ sym (set_at_there (λ u. row_of base (get_or parts.shards (shard_of parts u) []) u) v row w n))
        (cases_eq w v)

-- an actor that stays
still_there : (base : Base) (parts : Parts) (i : Name) (j : Name) → actor_of base (with_named (record { name = i; actor = actor_of base parts.actors i }) parts.actors) j ≡ actor_of base parts.actors j
still_there base parts i j = actors_after base parts.actors i (actor_of base parts.actors i) j ∙ name_again (actor_of base parts.actors) i j

clock_step : (base : Base) (parts : Parts) (i : Name) (m : Option ClockMove) → state_of_parts base (after_move reach.Clock i (clock_local parts.clock (actor_of base parts.actors i) m) parts) ≡ after_clock (state_of_parts base parts) i m
clock_step base parts i None = λ k. record (state_of_parts base parts) { actor = λ j. still_there base parts i j k }
clock_step base parts i (Some m) = λ k. record (state_of_parts base parts) { clock = m.clock; actor = λ j. actors_after base parts.actors i m.actor j k }

log_step : (base : Base) (parts : Parts) (i : Name) (m : Option LogMove) → state_of_parts base (after_move reach.Log i (log_local parts.log (actor_of base parts.actors i) m) parts) ≡ after_log (state_of_parts base parts) i m
log_step base parts i None = λ k. record (state_of_parts base parts) { actor = λ j. still_there base parts i j k }
log_step base parts i (Some m) = λ k. record (state_of_parts base parts) { log = m.log; actor = λ j. actors_after base parts.actors i m.actor j k }

group_step : (base : Base) (parts : Parts) (i : Name) (m : Option GroupMove) → state_of_parts base (after_move reach.LogAndClock i (group_local parts.log parts.clock (actor_of base parts.actors i) m) parts) ≡ after_group (state_of_parts base parts) i m
group_step base parts i None = λ k. record (state_of_parts base parts) { actor = λ j. still_there base parts i j k }
group_step base parts i (Some m) = λ k. record (state_of_parts base parts) { clock = m.clock; log = m.log; actor = λ j. actors_after base parts.actors i m.actor j k }

-- the same with the log and the clock held
clock_behind : (base : Base) (parts : Parts) (i : Name) (m : Option ClockMove) → state_of_parts base (after_move reach.LogAndClock i (log_first (OfLog parts.log) (clock_local parts.clock (actor_of base parts.actors i) m)) parts) ≡ after_clock (state_of_parts base parts) i m
clock_behind base parts i None = λ k. record (state_of_parts base parts) { actor = λ j. still_there base parts i j k }
clock_behind base parts i (Some m) = λ k. record (state_of_parts base parts) { clock = m.clock; actor = λ j. actors_after base parts.actors i m.actor j k }

log_before : (base : Base) (parts : Parts) (i : Name) (m : Option LogMove) → state_of_parts base (after_move reach.LogAndClock i (clock_last (OfClock parts.clock) (log_local parts.log (actor_of base parts.actors i) m)) parts) ≡ after_log (state_of_parts base parts) i m
log_before base parts i None = λ k. record (state_of_parts base parts) { actor = λ j. still_there base parts i j k }
log_before base parts i (Some m) = λ k. record (state_of_parts base parts) { log = m.log; actor = λ j. actors_after base parts.actors i m.actor j k }

row_step : (base : Base) (parts : Parts) (i : Name) (v : ℕ) (m : Option RowMove) → 0 < length parts.shards
    → state_of_parts base (after_move (reach.Row v) i (row_local (get_or parts.shards (shard_of parts v) []) v (actor_of base parts.actors i) m) parts) ≡ after_row (state_of_parts base parts) i v m
row_step base parts i v None some = λ k. record (state_of_parts base parts) {
  actor = λ j. still_there base parts i j k;
  row = λ w. row_of base (get_or (set-get_or parts.shards (shard_of parts v) [] k) (w % length (set-get_or parts.shards (shard_of parts v) [] k)) []) w;
}
row_step base parts i v (Some m) some = λ k. record (state_of_parts base parts) { actor = λ j. actors_after base parts.actors i m.actor j k; row = λ w. rows_after base parts v m.row w some k }

-- An event of the parts is the event of the state that they stand for, where its actor holds what it works on, or the log and the clock.
pub step_is_after : (held : Reach) (base : Base) (parts : Parts) (i : Name) (action : Act) → 0 < length parts.shards → covers held (reach_of action) ≡ true
    → state_of_parts base (step held base parts i action) ≡ after parts.limits (state_of_parts base parts) i action
step_is_after held base parts i action some covered = by_reach held (reach_of action) covered
  where
    a : Actor
    a = actor_of base parts.actors i

    by_reach : (h r : Reach) → covers h r ≡ true → state_of_parts base (after_move h i (local_at r parts.limits base i action (parts_at h parts) a) parts) ≡ after_at r parts.limits (state_of_parts base parts) i action
    by_reach reach.Clock reach.Clock c = clock_step base parts i (clock_event action parts.clock a)
    by_reach reach.Clock (reach.Row v) c = absurd (false≢true c)
    by_reach reach.Clock reach.Log c = absurd (false≢true c)
    by_reach reach.Clock reach.LogAndClock c = absurd (false≢true c)
    by_reach (reach.Row v) reach.Clock c = absurd (false≢true c)
    by_reach (reach.Row v) (reach.Row w) c =
        subst (λ u. state_of_parts base (after_move (reach.Row v) i (local_at (reach.Row u) parts.limits base i action (parts_at (reach.Row v) parts) a) parts) ≡ after_at (reach.Row u) parts.limits (state_of_parts base parts) i action) (eqb-true v w c)
        (row_step base parts i v (row_event parts.limits action (row_of base (get_or parts.shards (shard_of parts v) []) v) a) some)
    by_reach (reach.Row v) reach.Log c = absurd (false≢true c)
    by_reach (reach.Row v) reach.LogAndClock c = absurd (false≢true c)
    by_reach reach.Log reach.Clock c = absurd (false≢true c)
    by_reach reach.Log (reach.Row v) c = absurd (false≢true c)
    by_reach reach.Log reach.Log c = log_step base parts i (log_event action i parts.log a)
    by_reach reach.Log reach.LogAndClock c = absurd (false≢true c)
    by_reach reach.LogAndClock reach.Clock c = clock_behind base parts i (clock_event action parts.clock a)
    by_reach reach.LogAndClock (reach.Row v) c = absurd (false≢true c)
    by_reach reach.LogAndClock reach.Log c = log_before base parts i (log_event action i parts.log a)
    by_reach reach.LogAndClock reach.LogAndClock c = group_step base parts i (group_event action i parts.log parts.clock a)

-- And it is answered as the state answers it.
row_says : (rows : List VertexRow) (v : ℕ) (a : Actor) (m : Option RowMove) → (row_local rows v a m).answer ≡ row_answer m
row_says rows v a None = refl
row_says rows v a (Some m) = refl

clock_says : (k : Clock) (a : Actor) (m : Option ClockMove) → (clock_local k a m).answer ≡ clock_answer m
clock_says k a None = refl
clock_says k a (Some m) = refl

log_says : (log : LogPart) (a : Actor) (m : Option LogMove) → (log_local log a m).answer ≡ log_answer m
log_says log a None = refl
log_says log a (Some m) = refl

group_says : (log : LogPart) (k : Clock) (a : Actor) (m : Option GroupMove) → (group_local log k a m).answer ≡ group_answer m
group_says log k a None = refl
group_says log k a (Some m) = refl

pub step_answers : (held : Reach) (base : Base) (parts : Parts) (i : Name) (action : Act) → covers held (reach_of action) ≡ true → (move_of held base parts i action).answer ≡ answer_to parts.limits (state_of_parts base parts) i action
step_answers held base parts i action covered = by_reach held (reach_of action) covered
  where
    a : Actor
    a = actor_of base parts.actors i

    by_reach : (h r : Reach) → covers h r ≡ true → (local_at r parts.limits base i action (parts_at h parts) a).answer ≡ answer_at r parts.limits (state_of_parts base parts) i action
    by_reach reach.Clock reach.Clock c = clock_says parts.clock a (clock_event action parts.clock a)
    by_reach reach.Clock (reach.Row v) c = absurd (false≢true c)
    by_reach reach.Clock reach.Log c = absurd (false≢true c)
    by_reach reach.Clock reach.LogAndClock c = absurd (false≢true c)
    by_reach (reach.Row v) reach.Clock c = absurd (false≢true c)
    by_reach (reach.Row v) (reach.Row w) c =
        subst (λ u. (local_at (reach.Row u) parts.limits base i action (parts_at (reach.Row v) parts) a).answer ≡ answer_at (reach.Row u) parts.limits (state_of_parts base parts) i action) (eqb-true v w c)
        (row_says (get_or parts.shards (shard_of parts v) []) v a (row_event parts.limits action (row_of base (get_or parts.shards (shard_of parts v) []) v) a))
    by_reach (reach.Row v) reach.Log c = absurd (false≢true c)
    by_reach (reach.Row v) reach.LogAndClock c = absurd (false≢true c)
    by_reach reach.Log reach.Clock c = absurd (false≢true c)
    by_reach reach.Log (reach.Row v) c = absurd (false≢true c)
    by_reach reach.Log reach.Log c = log_says parts.log a (log_event action i parts.log a)
    by_reach reach.Log reach.LogAndClock c = absurd (false≢true c)
    by_reach reach.LogAndClock reach.Clock c = clock_says parts.clock a (clock_event action parts.clock a)
    by_reach reach.LogAndClock (reach.Row v) c = absurd (false≢true c)
    by_reach reach.LogAndClock reach.Log c = log_says parts.log a (log_event action i parts.log a)
    by_reach reach.LogAndClock reach.LogAndClock c = group_says parts.log parts.clock a (group_event action i parts.log parts.clock a)

-- It leaves as many shards, and the limits.
record Same (parts next : Parts) : Type 0 where
  shards : length next.shards ≡ length parts.shards
  limits : next.limits ≡ parts.limits

same_part : (r : Reach) (held : List Part) (parts : Parts) → Same parts (with_parts r held parts)
same_part (reach.Row v) (OfShard rows ∷ []) parts = record { shards = length-set parts.shards (shard_of parts v) rows; limits = refl }
same_part (reach.Row v) [] parts = record { shards = refl; limits = refl }
same_part (reach.Row v) (OfClock k ∷ held) parts = record { shards = refl; limits = refl }
same_part (reach.Row v) (OfLog log ∷ held) parts = record { shards = refl; limits = refl }
same_part (reach.Row v) (OfShard rows ∷ p ∷ held) parts = record { shards = refl; limits = refl }
same_part reach.Clock (OfClock k ∷ []) parts = record { shards = refl; limits = refl }
same_part reach.Clock [] parts = record { shards = refl; limits = refl }
same_part reach.Clock (OfShard rows ∷ held) parts = record { shards = refl; limits = refl }
same_part reach.Clock (OfLog log ∷ held) parts = record { shards = refl; limits = refl }
same_part reach.Clock (OfClock k ∷ p ∷ held) parts = record { shards = refl; limits = refl }
same_part reach.Log (OfLog log ∷ []) parts = record { shards = refl; limits = refl }
same_part reach.Log [] parts = record { shards = refl; limits = refl }
same_part reach.Log (OfShard rows ∷ held) parts = record { shards = refl; limits = refl }
same_part reach.Log (OfClock k ∷ held) parts = record { shards = refl; limits = refl }
same_part reach.Log (OfLog log ∷ p ∷ held) parts = record { shards = refl; limits = refl }
same_part reach.LogAndClock (OfLog log ∷ OfClock k ∷ []) parts = record { shards = refl; limits = refl }
same_part reach.LogAndClock [] parts = record { shards = refl; limits = refl }
same_part reach.LogAndClock (OfShard rows ∷ held) parts = record { shards = refl; limits = refl }
same_part reach.LogAndClock (OfClock k ∷ held) parts = record { shards = refl; limits = refl }
same_part reach.LogAndClock (OfLog log ∷ []) parts = record { shards = refl; limits = refl }
same_part reach.LogAndClock (OfLog log ∷ OfShard rows ∷ held) parts = record { shards = refl; limits = refl }
same_part reach.LogAndClock (OfLog log ∷ OfLog other ∷ held) parts = record { shards = refl; limits = refl }
same_part reach.LogAndClock (OfLog log ∷ OfClock k ∷ p ∷ held) parts = record { shards = refl; limits = refl }

pub step_shards : (held : Reach) (base : Base) (parts : Parts) (i : Name) (action : Act) → length (step held base parts i action).shards ≡ length parts.shards
step_shards held base parts i action = (same_part held (move_of held base parts i action).parts parts).shards

pub step_limits : (held : Reach) (base : Base) (parts : Parts) (i : Name) (action : Act) → (step held base parts i action).limits ≡ parts.limits
step_limits held base parts i action = (same_part held (move_of held base parts i action).parts parts).limits

-- So an event on the parts that are held keeps what is kept.
pub part_keeps : (held : Reach) (base : Base) (parts : Parts) (i : Name) (action : Act) → 0 < length parts.shards → covers held (reach_of action) ≡ true → Kept base parts.limits (state_of_parts base parts) → Kept base parts.limits (state_of_parts base (step held base parts i action))
part_keeps held base parts i action some covered kept = subst (Kept base parts.limits) (sym (step_is_after held base parts i action some covered)) (step_kept base parts.limits (state_of_parts base parts) i action kept)

-- And it takes nothing back.
pub part_later : (held : Reach) (base : Base) (parts : Parts) (i : Name) (action : Act) → 0 < length parts.shards → covers held (reach_of action) ≡ true → Kept base parts.limits (state_of_parts base parts) → Later parts.clock (step held base parts i action).clock
part_later held base parts i action some covered kept = subst (λ (s : State). Later parts.clock s.clock) (sym (step_is_after held base parts i action some covered)) (later base kept.0.0 parts.limits (state_of_parts base parts) i action kept.0.1)

pub part_later_log : (held : Reach) (base : Base) (parts : Parts) (i : Name) (action : Act) → 0 < length parts.shards → covers held (reach_of action) ≡ true → LaterLog parts.log (step held base parts i action).log
part_later_log held base parts i action some covered = subst (λ (s : State). LaterLog parts.log s.log) (sym (step_is_after held base parts i action some covered)) (later_log parts.limits (state_of_parts base parts) i action)

-- ---- the opening

-- rows that are as the base has them say of each vertex what the base says
row_as_opened : (base : Base) (rows : List VertexRow) (v : ℕ) → AreOpened base rows → row_of base rows v ≡ opened_row base.epoch (vertex_at v base.graph)
row_as_opened base [] v are = refl
row_as_opened base (x ∷ rows) v are = by_test (x.vertex == v) refl (row_as_opened base rows v are.1)
  where
    by_test : (b : Bool) → (x.vertex == v) ≡ b → row_of base rows v ≡ opened_row base.epoch (vertex_at v base.graph) → (if b then x.row else row_of base rows v) ≡ opened_row base.epoch (vertex_at v base.graph)
    by_test true e ih = are.0 ∙ ap (λ w. opened_row base.epoch (vertex_at w base.graph)) (eqb-true x.vertex v e)
    by_test false e ih = ih

-- Parts that open stand for the opening state.
pub opens_is : (base : Base) (found : Found) (parts : Parts) → Opens base found parts → state_of_parts base parts ≡ opening base found
opens_is base found parts opens = λ k. record {
  clock = opens.clock k;
  log = opens.log k;
  actor = λ i. actor_of base (opens.actors k) i;
  row = λ v. row_as_opened base (get_or parts.shards (shard_of parts v) []) v (opens.shards (shard_of parts v)) k;
}

-- And so they are kept.
pub opens_kept : (base : Base) (found : Found) (parts : Parts) → MayOpen base parts.limits → Opens base found parts → Kept base parts.limits (state_of_parts base parts)
opens_kept base found parts may opens = subst (Kept base parts.limits) (sym (opens_is base found parts opens)) (opening_kept base found parts.limits may)

-- each shard, where all are as the base has them
opened_each : (base : Base) (shards : List (List VertexRow)) → ((n : ℕ) → n < length shards → AreOpened base (get_or shards n [])) → (n : ℕ) → AreOpened base (get_or shards n [])
opened_each base shards each n = ⊎_elim (each n) (λ (le : length shards ≤ n). subst (AreOpened base) (sym (get_or_past shards n [] le)) tt) (cases_lt n (length shards))

-- each of these vertices is found in the graph by its number
abbrev AreFound : List Vertex → List Vertex → Type 0
AreFound graph [] = Unit {0}
AreFound graph (x ∷ xs) = (vertex_at x.number graph ≡ Some x) × AreFound graph xs

-- so it is with a lower one in front
found_later : (y : Vertex) (graph xs : List Vertex) → list_all (nat_lt y.number) (map (λ x. x.number) xs) ≡ true → AreFound graph xs → AreFound (y ∷ graph) xs
found_later y graph [] above found = tt
found_later y graph (x ∷ xs) above found =
    let low = and_parts (nat_lt y.number x.number) (list_all (nat_lt y.number) (map (λ z. z.number) xs)) above in
    let lt = ltb-true y.number x.number low.0 in
    (rw (ne_eqb y.number x.number (λ e. absurd (omega (arith, lt, e)))) found.0, found_later y graph xs low.1 found.1)

all_found : (graph : List Vertex) → rise (map (λ x. x.number) graph) ≡ true → AreFound graph graph
all_found [] up = tt
all_found (x ∷ graph) up =
    let low = and_parts (list_all (nat_lt x.number) (map (λ y. y.number) graph)) (rise (map (λ y. y.number) graph)) up in
    (rw (eq-eqb x.number x.number refl) refl, found_later x graph graph low.0 (all_found graph low.1))

-- the rows of vertices that are found are as the base has them
found_opened : (base : Base) (test : Vertex → Bool) (xs : List Vertex) → AreFound base.graph xs → AreOpened base (map (λ x. record { vertex = x.number; row = opened_row base.epoch (Some x) }) (filter test xs))
found_opened base test [] found = tt
found_opened base test (x ∷ xs) found = by_test (test x) (found_opened base test xs found.1)
  where
    by_test : (b : Bool) → AreOpened base (map (λ y. record { vertex = y.number; row = opened_row base.epoch (Some y) }) (filter test xs))
        → AreOpened base (map (λ y. record { vertex = y.number; row = opened_row base.epoch (Some y) }) (if b then x ∷ filter test xs else filter test xs))
    by_test true ih = (ap (opened_row base.epoch) (sym found.0), ih)
    by_test false ih = ih

-- The parts with all rows of the base loaded open, with any number of shards, and so do those with none.
pub loaded_open : (base : Base) (most : Limits) (found : Found) (count : ℕ) → IsGood base → 0 < count → Opens base found (loaded_parts base most found count)
loaded_open base most found count good some = record {
  some = (let same = length-loaded in omega (arith, some, same));
  shards = opened_each base (loaded_shards base count) (λ n lt. subst (AreOpened base) (sym (get_or-map-range_with_len (loaded_rows base count) 0 count n n [] (let same = length-loaded in omega (arith, lt, same)) (omega arith))) (found_opened base (λ x. x.number % count == n) base.graph (all_found base.graph (and_parts (rise (map (λ x. x.number) base.graph)) (list_all is_vertex base.graph) good.graph).0)));
  clock = refl;
  log = refl;
  actors = refl;
}
  where
    length-loaded : length (loaded_shards base count) ≡ count
    length-loaded = length-map-range_with_len (loaded_rows base count) 0 count

pub bare_open : (base : Base) (most : Limits) (found : Found) (count : ℕ) → 0 < count → Opens base found (bare_parts base most found count)
bare_open base most found count some = record {
  some = (let same = length-replicate count none in omega (arith, some, same));
  shards = opened_each base (replicate count none) (λ n lt. subst (AreOpened base) (sym (get_or-replicate count n none none (let same = length-replicate count none in omega (arith, lt, same)))) tt);
  clock = refl;
  log = refl;
  actors = refl;
}
  where
    none : List VertexRow
    none = []
