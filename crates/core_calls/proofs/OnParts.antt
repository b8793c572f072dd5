-- A run on the parts is a run of the core, and others' events lead on.
use Rattle.std.proofs.Common.{◌≡◌, ◌≢◌, ℕ, ◌≤◌, ◌<◌, true, List, [], ◌∷◌, ◌++◌, length, refl, sym, ap, ◌∙◌, subst, arith, append-nil, append_assoc, Option, Some, None}
use Rattle.graph_model.specs.declared.graph.Base.{Base}
use Rattle.core_states.specs.Names.{Name}
use Rattle.core_states.specs.Parts.{Parts, state_of_parts, covers, step}
use Rattle.core_states.specs.RowEvents.{Limits}
use Rattle.core_states.specs.declared.event.Reach.{Reach}
use Rattle.core_states.specs.declared.event.Reach.TheVariants as reach
use Rattle.core_states.specs.States.{State, answer_to, after, after_at, after_clock, after_row, after_log, after_group, clock_event, row_event, log_event, group_event, reach_of}
use Rattle.graph_model.specs.declared.record.Record.{Record}
use Rattle.core_states.specs.declared.event.Act.{Act}
use Rattle.core_states.specs.declared.clock.Clock.{Clock}
use Rattle.core_states.specs.ClockEvents.{ClockMove}
use Rattle.core_states.specs.LogParts.{LogPart}
use Rattle.core_states.specs.LogEvents.{LogMove, GroupMove}
use Rattle.core_states.specs.RowEvents.{RowMove}
use Rattle.core_states.specs.Laters.{AllLater, Later, LaterLog, ReceiptsStay}
use Rattle.core_states.proofs.Names.{set_name_there}
use Rattle.core_laws.proofs.FailedRecords.{receipts_stay}
use Rattle.core_kept.specs.Bounds.{Kept}
use Rattle.core_laws.proofs.Parts.{step_is_after, step_answers, step_shards, step_limits, part_keeps, part_later, part_later_log}
use Rattle.core_calls.specs.Events.{Told, GoesOn, Did}
use Rattle.core_calls.specs.OnParts.{PartsGoOn, DidOnParts}

goes_on : (base : Base) (name : ℕ → Name) (p q : Parts) → PartsGoOn base name p q → GoesOn base p.limits name (state_of_parts base p) (state_of_parts base q)
goes_on base name p q g = record { kept = subst (λ m. Kept base m (state_of_parts base q)) g.limits g.kept; later = g.later; later_log = g.later_log; receipts = g.receipts; same = g.same }

pub did : (base : Base) (name : ℕ → Name) (i : Name) (es : List Told) (p q : Parts) → DidOnParts base name i es p q → Did base p.limits name i es (state_of_parts base p) (state_of_parts base q)
did base name i [] p q d = goes_on base name p q d
did base name i (e ∷ es) p q d =
    let now = d.0 in
    let held = d.2 in
    let same : now.limits ≡ p.limits = d.1.limits in
    let next = step held base now i e.act in
    let ih : Did base next.limits name i es (state_of_parts base next) (state_of_parts base q) = did base name i es next q d.5 in
    let at_after : Did base next.limits name i es (after now.limits (state_of_parts base now) i e.act) (state_of_parts base q) =
    subst (λ s. Did base next.limits name i es s (state_of_parts base q)) (step_is_after held base now i e.act d.1.shards d.3) ih in
    let rest : Did base now.limits name i es (after now.limits (state_of_parts base now) i e.act) (state_of_parts base q) =
    subst (λ m. Did base m name i es (after now.limits (state_of_parts base now) i e.act) (state_of_parts base q)) (step_limits held base now i e.act) at_after in (
      state_of_parts base now,
      goes_on base name p now d.1,
      ap (λ m. answer_to m (state_of_parts base now) i e.act) (sym same) ∙ sym (step_answers held base now i e.act d.3) ∙ d.4,
      subst (λ m. Did base m name i es (after m (state_of_parts base now) i e.act) (state_of_parts base q)) same rest,
    )

-- ---- what leads on

-- the actors but the doing one stay
others_clock : (s : State) (i j : Name) (m : Option ClockMove) → j ≢ i → (after_clock s i m).actor j ≡ s.actor j
others_clock s i j None ne = refl
others_clock s i j (Some m) ne = set_name_there s.actor i m.actor j ne

others_row : (s : State) (i j : Name) (v : ℕ) (m : Option RowMove) → j ≢ i → (after_row s i v m).actor j ≡ s.actor j
others_row s i j v None ne = refl
others_row s i j v (Some m) ne = set_name_there s.actor i m.actor j ne

others_log : (s : State) (i j : Name) (m : Option LogMove) → j ≢ i → (after_log s i m).actor j ≡ s.actor j
others_log s i j None ne = refl
others_log s i j (Some m) ne = set_name_there s.actor i m.actor j ne

others_group : (s : State) (i j : Name) (m : Option GroupMove) → j ≢ i → (after_group s i m).actor j ≡ s.actor j
others_group s i j None ne = refl
others_group s i j (Some m) ne = set_name_there s.actor i m.actor j ne

pub others : (most : Limits) (s : State) (i j : Name) (action : Act) → j ≢ i → (after most s i action).actor j ≡ s.actor j
others most s i j action ne = by_reach (reach_of action)
  where
    by_reach : (r : Reach) → (after_at r most s i action).actor j ≡ s.actor j
    by_reach reach.Clock = others_clock s i j (clock_event action s.clock (s.actor i)) ne
    by_reach (reach.Row v) = others_row s i j v (row_event most action (s.row v) (s.actor i)) ne
    by_reach reach.Log = others_log s i j (log_event action i s.log (s.actor i)) ne
    by_reach reach.LogAndClock = others_group s i j (group_event action i s.log s.clock (s.actor i)) ne

later_less : (m n : ℕ) (rs : List Record) → m ≤ n → AllLater n rs → AllLater m rs
later_less m n [] le h = tt
later_less m n (r ∷ rs) le h = let a = h.0 in (omega (arith, a, le), later_less m n rs le h.1)

later-append : (n : ℕ) (rs us : List Record) → AllLater n rs → AllLater n us → AllLater n (rs ++ us)
later-append n [] us f g = g
later-append n (r ∷ rs) us f g = (f.0, later-append n rs us f.1 g)

pub later_more : (k m z : Clock) → Later k m → Later m z → Later k z
later_more k m z f g = record {
  next_tid = omega (arith, f.next_tid, g.next_tid);
  next_vertex = omega (arith, f.next_vertex, g.next_vertex);
  last = omega (arith, f.last, g.last);
  visible = omega (arith, f.visible, g.visible);
  more = f.more ++ g.more;
  is = g.is ∙ ap (λ rs. rs ++ g.more) f.is ∙ append_assoc k.records f.more g.more;
  above = later-append k.last f.more g.more f.above (later_less k.last m.last g.more f.last g.above);
  since = f.since ++ g.since;
  moments = g.moments ∙ ap (λ ms. ms ++ g.since) f.moments ∙ append_assoc k.moments f.since g.since;
}

pub later_refl : (k : Clock) → Later k k
later_refl k = record { next_tid = omega arith; next_vertex = omega arith; last = omega arith; visible = omega arith; more = []; is = sym (append-nil k.records); above = tt; since = []; moments = sym (append-nil k.moments) }

pub later_log_more : (k m z : LogPart) → LaterLog k m → LaterLog m z → LaterLog k z
later_log_more k m z f g = record {
  durable = omega (arith, f.durable, g.durable);
  moment = omega (arith, f.moment, g.moment);
  greatest = omega (arith, f.greatest, g.greatest);
  opening_count = g.opening_count ∙ f.opening_count;
  firm = g.firm ∙ f.firm;
  opened = g.opened ∙ f.opened;
}

pub later_log_refl : (k : LogPart) → LaterLog k k
later_log_refl k = record { durable = omega arith; moment = omega arith; greatest = omega arith; opening_count = refl; firm = refl; opened = refl }

-- The parts as they are.
pub stays : (base : Base) (name : ℕ → Name) (p : Parts) → 0 < length p.shards → Kept base p.limits (state_of_parts base p) → PartsGoOn base name p p
stays base name p some kept = record { limits = refl; shards = some; kept = kept; later = later_refl p.clock; later_log = later_log_refl p.log; receipts = λ i r m. m; same = λ k. refl }

-- One after the other.
pub more : (base : Base) (name : ℕ → Name) (p q z : Parts) → PartsGoOn base name p q → PartsGoOn base name q z → PartsGoOn base name p z
more base name p q z f g = record { limits = g.limits ∙ f.limits; shards = g.shards; kept = g.kept; later = later_more p.clock q.clock z.clock f.later g.later; later_log = later_log_more p.log q.log z.log f.later_log g.later_log; receipts = λ i r m. g.receipts i r (f.receipts i r m); same = λ k. g.same k ∙ f.same k }

-- An event of an actor that is none of the pass's.
pub by_other : (held : Reach) (base : Base) (name : ℕ → Name) (p : Parts) (i : Name) (action : Act) → 0 < length p.shards → covers held (reach_of action) ≡ true → Kept base p.limits (state_of_parts base p) → ((k : ℕ) → name k ≢ i) → PartsGoOn base name p (step held base p i action)
by_other held base name p i action some over kept none =
    let shards = step_shards held base p i action in
    record {
      limits = step_limits held base p i action;
      shards = omega (arith, shards, some);
      kept = subst (λ m. Kept base m (state_of_parts base (step held base p i action))) (sym (step_limits held base p i action)) (part_keeps held base p i action some over kept);
      later = part_later held base p i action some over kept;
      later_log = part_later_log held base p i action some over;
      receipts = subst (ReceiptsStay (state_of_parts base p)) (sym (step_is_after held base p i action some over)) (receipts_stay p.limits (state_of_parts base p) i action);
      same = λ k. ap (λ (s : State). s.actor (name k)) (step_is_after held base p i action some over) ∙ others p.limits (state_of_parts base p) i (name k) action (none k);
    }
