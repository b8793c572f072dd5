-- Giving a turn back keeps the rule: the events lead to another state of the core, and the pass and the value show what they leave.
use Rattle.std.proofs.Common.{◌≡◌, ◌≢◌, inl, inr, ℕ, ◌+◌, ◌<◌, ◌≤◌, ◌-◌, false, List, [], ◌∷◌, ◌++◌, length, get_or, set, sym, refl, ap, ◌∙◌, subst, ⊎_elim, arith, length-set, get_or-set_other, get_or-set_same, Option, Some, None}
use Rattle.std.proofs.lemmas.Bool.{cases_lt}
use Rattle.std.proofs.lemmas.List.{get_or_past}
use mathlib.Core.Logic.{dite}
use mathlib.Core.Option.{some, some-injective}
use native.Mathlib.Decide.{ℕ_discrete}
use lib.ListN.{get_elem?}
use Rattle.atomic_table.specs.Table.{State, rest, gives, stepped, Allows, step}
use Rattle.atomic_table.proofs.Lists.{set_here, set_else}
use Rattle.graph_model.specs.declared.graph.Base.{Base}
use Rattle.core_states.specs.declared.clock.Clock.{Clock}
use Rattle.core_states.specs.LogParts.{LogPart}
use Rattle.core_states.specs.Openings.{MayOpen, IsAllowed}
use Rattle.core_states.specs.RowEvents.{Limits}
use Rattle.core_kept.specs.Bounds.{Kept}
use Rattle.core_states.specs.Names.{Name}
use Rattle.core_states.specs.Parts.{Part, Parts, actor_of, state_of_parts}
use Rattle.core_states.specs.Laters.{Later, LaterLog}
use Rattle.turn_board.specs.Views.{Start, Done, Shown, Belongs, Held, View, start_of, EachHeld, EachSeen, IsDistinct, HasTurn, numbers, behind}
use Rattle.turn_board.specs.Works.{Happen, Leads, IsLeft, SaysSame, Work, held_turns, after_events, notes_of, work_of, giving, clocks_after, logs_after}
use Rattle.turn_board.specs.Histories.{Reached, reached, found_by, AnswersIn, did, Began}
use Rattle.turn_board.specs.Turns.{turn_part, word_of, Told, IsNewest}
use Rattle.turn_board.specs.Spread.{slot_of, turns_in}
use Rattle.turn_board.specs.Board.{IsBoard, Live, Knows, gives_turn, slots_of}
use Rattle.turn_board.proofs.HeldLists.{each_map, each_both, seen_map, slots_given}
use Rattle.core_laws.proofs.Orders.{later_still, log_still}
use Rattle.turn_board.proofs.Newest.{newest_now, clocks_now, logs_now}
use Rattle.turn_board.proofs.Steps.{holds_at, Away, held_is}
use Rattle.turn_board.proofs.Reshowing.{Reshown, reshow}
use Rattle.turn_board.proofs.Running.{Ran, ran}
use Rattle.turn_board.proofs.Moving.{stays, started, began_still}
use Rattle.turn_board.proofs.Spreading.{same_slot}
use Rattle.turn_board.proofs.Taking.{same_turn, still_empty, head_slot}

-- a fact of the turns that are held, with other parts
turns_keep : (F : ℕ → Type 0) (parts : Parts) (hs : List Held) → EachHeld (λ j _. F j) hs → EachHeld (λ j _. F j) (holds_at parts (held_turns hs))
turns_keep F parts [] each = tt
turns_keep F parts (h ∷ hs) each = (each.0, turns_keep F parts hs each.1)

distinct_keep : (parts : Parts) (hs : List Held) → IsDistinct hs → IsDistinct (holds_at parts (held_turns hs))
distinct_keep parts [] each = tt
distinct_keep parts (h ∷ hs) each = (turns_keep (λ k. k ≢ h.turn) parts hs each.0, distinct_keep parts hs each.1)

has_still : (j : ℕ) (parts : Parts) (hs : List Held) → HasTurn j hs → HasTurn j (holds_at parts (held_turns hs))
has_still j parts [] has = absurd has
has_still j parts (h ∷ hs) (inl e) = inl e
has_still j parts (h ∷ hs) (inr has) = inr (has_still j parts hs has)

away_of : (j : ℕ) (hs : List Held) → EachHeld (λ k _. j ≢ k) hs → Away j (held_turns hs)
away_of j [] each = tt
away_of j (h ∷ hs) each = (each.0, away_of j hs each.1)

-- a word that is not 0 is one of the words
inside_up : (ws : List ℕ) (j n : ℕ) → length ws ≡ word_of n → get_or ws (word_of j) 0 ≢ 0 → j < n
inside_up ws j n wide up = ⊎_elim
    (λ (low : word_of j < length ws). omega (arith, low, wide))
    (λ (high : length ws ≤ word_of j). absurd (up (get_or_past ws (word_of j) 0 high)))
    (cases_lt (word_of j) (length ws))

-- the slots that a pass has after a give are those of the turns that it still holds
pub slots_left : {H : Type 0} (me m : Knows H) (v w : View) (k i : ℕ) (y : Option H) (old : List (ℕ × Option H)) (p : Part) (os : List Held) (es : List Done)
    → ◌≡◌ {A = Knows H} me (v, (i, y) ∷ rest old) → ◌≡◌ {A = Knows H} m (w, rest me.1) → old ≡ slots_of v.held → v.held ≡ record { turn = k; part = p } ∷ os → w ≡ giving es v
    → ◌≡◌ {A = Knows H} m (w, slots_of w.held)
slots_left {H} me m v w k i y old p os es was is olds front next =
    is ∙ (λ j. (w, (ap (λ (z : Knows H). rest z.1) was ∙ (ap (λ z. rest z) olds ∙ (ap (λ z. rest (slots_of {H = H} z)) front ∙ (slots_given {H = H} es v k p os front ∙ ap (λ (z : View). slots_of {H = H} z.held) (sym next))))) j))

module _ {H : Type 0} (start : Start) (show : H → Shown) where
  abbrev base : Base
  base = start.base

  abbrev St : Type 0
  St = State (Option H) View

  abbrev Rule : St → Type 0
  Rule = IsBoard start show

  abbrev Facts : (ℕ → ℕ) → Parts → List ℕ → ℕ → ℕ → Part → Type 0
  Facts owner parts ws seat k p = (owner k ≡ seat) × (turn_part parts k ≡ p) × (get_or ws (word_of k) 0 ≢ 0)

  -- the turn given is not among the others
  not_behind : (hs : List Held) (k : ℕ) (p : Part) (os : List Held) → hs ≡ record { turn = k; part = p } ∷ os → IsDistinct hs → EachHeld (λ j _. j ≢ k) os
  not_behind hs k p os is apart = (subst (λ z. IsDistinct z) is apart).0

  module _ (s : St) (r : Rule s) (slots id k : ℕ) (y : H) (v : View) (p : Part) (os : List Held) (es : List Done) (at : get_elem? s.views id ≡ some v) (alive : v.spent ≡ false) (many : length s.homes ≡ slots) (inside : k < turns_in slots) (front : v.held ≡ record { turn = k; part = p } ∷ os) (leads : Leads (turns_in slots - 2) v es (show y).part) (belongs : Belongs (start_of v) k (show y)) where
    abbrev l : Live start s.words r.parts r.run r.all r.owner id v
    l = r.live id v at alive

    abbrev work : Work
    work = after_events v.base (work_of v) es

    abbrev words : List ℕ
    words = set s.words (word_of k) 0

    shards_are : length r.parts.shards ≡ turns_in slots - 2
    shards_are = let deep = r.deep in omega (arith, deep, many)

    held : EachHeld (Facts r.owner r.parts s.words id) (record { turn = k; part = p } ∷ os)
    held = subst (λ z. EachHeld (Facts r.owner r.parts s.words id) z) front l.held

    rn : Ran start (numbers v) r.parts r.run (held_turns v.held) (after_events v.base (work_of v) es) (v.events ++ notes_of v.base (work_of v) es)
    rn = subst (λ (b : Base). Ran start (numbers v) r.parts r.run (held_turns v.held) (after_events b (work_of v) es) (v.events ++ notes_of b (work_of v) es)) (sym l.base_is)
        (ran start (numbers v) (turns_in slots - 2) r.parts r.run (held_turns v.held) (work_of v) v.events es shards_are r.reached r.opened (r.opened.0 ∙ sym l.start_is.0)
        (held_is r.parts v.held (each_map (Facts r.owner r.parts s.words id) (λ j q. turn_part r.parts j ≡ q) (λ j q f. f.1) v.held l.held))
        (λ n i. let o = l.own n i in (subst (λ (b : Base). actor_of b r.parts.actors n ≡ actor_of b v.actors n) l.base_is o.0, ap (λ (z : Start). did z n.pass r.run) (sym (started l)) ∙ o.1))
        l.silent
        (subst (λ (b : Base). Happen b (turns_in slots - 2) (numbers v) (work_of v) es) l.base_is leads.0))

    turns : held_turns v.held ≡ k ∷ held_turns os
    turns = ap (λ z. held_turns z) front

    now_held : work.held ≡ holds_at rn.parts' (k ∷ held_turns os)
    now_held = rn.held ∙ ap (λ z. holds_at rn.parts' z) turns

    says : SaysSame base (show y).part (turn_part rn.parts' k)
    says = subst (λ (b : Base). SaysSame b (show y).part (turn_part rn.parts' k)) l.base_is (subst (λ z. IsLeft v.base (show y).part z) now_held leads.1)

    re : Reshown base rn.parts' k (show y).part
    re = reshow base rn.parts' k (show y).part (turn_part rn.parts' k) refl says

    reached_then : Reached base re.next rn.run'
    reached_then = let o = rn.reached in record {
      may = subst (λ most. MayOpen base most) (sym re.limits) o.may;
      allowed = subst (λ most. IsAllowed most) (sym re.limits) o.allowed;
      some = let some = o.some in let long = re.long in omega (arith, some, long);
      kept = subst (λ z. Kept base re.next.limits z) (sym re.state) (subst (λ most. Kept base most (state_of_parts base rn.parts')) (sym re.limits) o.kept);
      is = re.state ∙ (o.is ∙ (λ i. reached (sym re.limits i) base (found_by (sym re.log i)) rn.run'));
      answers = subst (λ (z : Limits × LogPart). AnswersIn z.0 base (found_by z.1) rn.run') (λ i. (sym re.limits i, sym re.log i)) o.answers;
    }

    long : length re.next.shards ≡ length r.parts.shards
    long = re.long ∙ rn.long

    later : Later r.parts.clock re.next.clock
    later = subst (λ z. Later r.parts.clock z) (sym re.clock) rn.later

    later_log : LaterLog r.parts.log re.next.log
    later_log = subst (λ z. LaterLog r.parts.log z) (sym re.log) rn.later_log

    elsewhere : (j : ℕ) → j < length r.parts.shards + 2 → j ≢ k → EachHeld (λ i _. j ≢ i) os → turn_part re.next j ≡ turn_part r.parts j
    elsewhere j low ne away = re.elsewhere j ne ∙ rn.elsewhere j low (subst (λ z. Away j z) (sym turns) (ne, away_of j os away))

    zero_here : get_or (set s.words (word_of k) 0) (word_of k) 0 ≡ 0
    zero_here = let wide = r.wide in let deep = r.deep in get_or-set_same s.words (word_of k) 0 0 (omega (arith, wide, deep, many, inside))

    word_else : (j : ℕ) → j ≢ k → get_or (set s.words (word_of k) 0) (word_of j) 0 ≡ get_or s.words (word_of j) 0
    word_else j ne = get_or-set_other s.words (word_of k) (word_of j) 0 0 (λ e. ne (same_turn j k e))

    others : EachHeld (λ j _. j ≢ k) os
    others = not_behind v.held k p os front l.distinct

    rest_at : (hs : List Held) → EachHeld (λ j q. Facts r.owner r.parts s.words id j q × (j ≢ k)) hs → EachHeld (Facts r.owner re.next (set s.words (word_of k) 0) id) (holds_at rn.parts' (held_turns hs))
    rest_at [] each = tt
    rest_at (h ∷ hs) each = let f = each.0 in ((f.0.0, re.elsewhere h.turn f.1, (λ z. f.0.2 (sym (word_else h.turn f.1) ∙ z))), rest_at hs each.1)

    rest_held : EachHeld (Facts r.owner re.next (set s.words (word_of k) 0) id) (behind work.held)
    rest_held = subst (λ z. EachHeld (Facts r.owner re.next (set s.words (word_of k) 0) id) (behind z)) (sym now_held)
        (rest_at os (each_both (Facts r.owner r.parts s.words id) (λ j _. j ≢ k) os held.1 others))

    later_seen : EachSeen (λ c. Later c re.next.clock) v.seen
    later_seen = seen_map (λ (c : Clock). Later c r.parts.clock) (λ c. Later c re.next.clock) (λ c le. later_still c r.parts.clock re.next.clock le later) v.seen l.later

    later_logs : EachSeen (λ g. LaterLog g re.next.log) v.seen_logs
    later_logs = seen_map (λ (g : LogPart). LaterLog g r.parts.log) (λ g. LaterLog g re.next.log) (λ g le. log_still g r.parts.log re.next.log le later_log) v.seen_logs l.later_log

    clocks_then : EachSeen (λ c. Later c re.next.clock) (clocks_after work.held v.seen)
    clocks_then = subst (λ z. EachSeen (λ c. Later c re.next.clock) (clocks_after z v.seen)) (sym now_held)
        (subst (λ (k' : Clock). EachSeen (λ c. Later c k') (clocks_after (holds_at rn.parts' (k ∷ held_turns os)) v.seen)) (sym re.clock)
        (clocks_now rn.parts' k (turn_part rn.parts' k) v.seen refl (subst (λ (k' : Clock). EachSeen (λ c. Later c k') v.seen) re.clock later_seen)))

    logs_then : EachSeen (λ g. LaterLog g re.next.log) (logs_after work.held v.seen_logs)
    logs_then = subst (λ z. EachSeen (λ g. LaterLog g re.next.log) (logs_after z v.seen_logs)) (sym now_held)
        (subst (λ (k' : LogPart). EachSeen (λ g. LaterLog g k') (logs_after (holds_at rn.parts' (k ∷ held_turns os)) v.seen_logs)) (sym re.log)
        (logs_now rn.parts' k (turn_part rn.parts' k) v.seen_logs refl (subst (λ (k' : LogPart). EachSeen (λ g. LaterLog g k') v.seen_logs) re.log later_logs)))

    actors_then : (b : Base) (n : Name) → actor_of b re.next.actors n ≡ actor_of b rn.parts'.actors n
    actors_then b n = ap (λ actors. actor_of b actors n) re.actors

    live_after : Live start (set s.words (word_of k) 0) re.next rn.run' r.all r.owner id (giving es v)
    live_after = record {
      base_is = l.base_is;
      start_is = l.start_is;
      held = rest_held;
      distinct = subst (λ z. IsDistinct (behind z)) (sym now_held) (distinct_keep rn.parts' os (subst (λ z. IsDistinct z) front l.distinct).1);
      known = l.known;
      own = λ n i. let o = rn.mine n i in (
        subst (λ (b : Base). actor_of b re.next.actors n ≡ actor_of b work.actors n) (sym l.base_is) (actors_then base n ∙ o.0),
        ap (λ (z : Start). did z n.pass rn.run') (started l) ∙ o.1,
      );
      silent = rn.silent;
      later = clocks_then;
      later_log = logs_then;
      made = l.made;
      count = l.count;
      began = seen_map (Began start r.run) (Began start rn.run') (λ o. began_still start r.run rn.run' rn.more o rn.grew) v.origins l.began;
    }

    -- a turn at home, or with another pass, is none of those that this one holds
    not_mine : (j : ℕ) → get_or s.words (word_of j) 0 ≡ 0 → EachHeld (λ i _. j ≢ i) os
    not_mine j home = each_map (Facts r.owner r.parts s.words id) (λ i _. j ≢ i) (λ i q f e. f.2 (ap (λ (z : ℕ). get_or s.words (word_of z) 0) (sym e) ∙ home)) os held.1

    not_here : (j seat : ℕ) → seat ≢ id → r.owner j ≡ seat → EachHeld (λ i _. j ≢ i) os
    not_here j seat ne is = each_map (Facts r.owner r.parts s.words id) (λ i _. j ≢ i) (λ i q f e. ne (sym is ∙ (ap r.owner e ∙ f.0))) os held.1

    pub given_keeps : (xs : List (ℕ × Option H)) → Rule (stepped s (word_of k) 0 id ((slot_of k, Some y) ∷ xs) (giving es v) gives)
    given_keeps xs = stays start show s r id v (giving es v) at alive alive refl
        (set s.words (word_of k) 0) (set s.homes (slot_of k) (some (Some y))) re.next rn.run' r.owner
        reached_then (re.limits ∙ rn.limits)
        (length-set s.words (word_of k) 0 ∙ (r.wide ∙ ap (λ n. word_of (n + 2)) (sym long)))
        (length-set s.homes (slot_of k) (some (Some y)) ∙ (r.deep ∙ ap (λ n. slot_of (n + 2)) (sym long)))
        (λ j low z. dite (ℕ_discrete j k)
        (λ (e : j ≡ k). (
          y,
          ap (λ (i : ℕ). get_elem? (set s.homes (slot_of k) (some (Some y))) (slot_of i)) e ∙ set_here s.homes (slot_of k) (some (Some y)) (omega (arith, many, inside)),
          ap (turn_part re.next) e ∙ re.here,
          subst (λ (z : Start × ℕ). Belongs z.0 z.1 (show y)) (λ i. (started l i, sym e i)) belongs,
        ))
        (λ ne. let longer = long in let under : j < length r.parts.shards + 2 = omega (arith, low, longer) in let home = sym (word_else j ne) ∙ z in let old = r.at_home j under home in
        (old.0, set_else s.homes (slot_of k) (slot_of j) (some (Some y)) (same_slot j k ne) ∙ old.1, elsewhere j under ne (not_mine j home) ∙ old.2, old.3)))
        (still_empty start show s r k (some (Some y)))
        (λ j low up. let ne : j ≢ k = λ e. up (ap (λ (i : ℕ). get_or (set s.words (word_of k) 0) (word_of i) 0) e ∙ zero_here) in let longer = long in
        inr (
          omega (arith, low, longer),
          (λ z. up (word_else j ne ∙ z)),
          refl,
          λ h. ⊎_elim (λ (e : k ≡ j). absurd (ne (sym e))) (λ (i : HasTurn j os). subst (λ z. HasTurn j (behind z)) (sym now_held) (has_still j rn.parts' os i)) (subst (λ z. HasTurn j z) front h),
        ))
        (λ seat j q ne f. let other : j ≢ k = λ e. ne (sym f.0 ∙ (ap r.owner e ∙ held.0.0)) in
        (f.0, elsewhere j (inside_up s.words j (length r.parts.shards + 2) r.wide f.2) other (not_here j seat ne f.0) ∙ f.1, (λ z. f.2 (sym (word_else j other) ∙ z))))
        (λ n no. (actors_then base n ∙ (rn.theirs n no).0, (rn.theirs n no).1))
        rn.more
        rn.grew
        later
        later_log
        live_after

    pub told_then : Told (turns_in slots) (giving es v)
    told_then = let wide = r.deep in let longer = long in record {
      parts = re.next;
      run = rn.run';
      reached = subst (λ b. Reached b re.next rn.run') (sym l.base_is) reached_then;
      opened = (
        re.limits ∙ rn.limits ∙ r.opened.0 ∙ sym l.start_is.0,
        (λ i. record { count = later_log.opening_count i; firm = later_log.firm i; records = later_log.opened i }) ∙ r.opened.1 ∙ sym l.start_is.1,
      );
      turns_are = omega (arith, wide, longer, many);
      held = each_map (Facts r.owner re.next (set s.words (word_of k) 0) id) (λ j q. turn_part re.next j ≡ q) (λ j q f. f.1) (behind work.held) live_after.held;
      own = live_after.own;
      later = live_after.later;
      later_log = live_after.later_log;
    }

    pub newest_then : IsNewest (show y).part v
    newest_then = newest_now re.next k (show y).part v re.here later_seen later_logs

  gives_at : (slots id k : ℕ) (y : H) (v : View) (xs : List (ℕ × Option H)) (p : Part) (os : List Held) (es : List Done)
      → v.spent ≡ false → k < turns_in slots → v.held ≡ record { turn = k; part = p } ∷ os → Leads (turns_in slots - 2) v es (show y).part → Belongs (start_of v) k (show y)
      → Allows Rule slots id (v, (slot_of k, Some y) ∷ xs) (word_of k) (λ _. 0) (gives_turn (giving es v) (show y).part (step slots (word_of k) 0 0 mathlib.Core.Option.none) (v, (slot_of k, Some y) ∷ xs))
  gives_at slots id k y v xs p os es alive inside front leads belongs s r many at _ = (
    giving es v,
    gives,
    tt,
    given_keeps s r slots id k y v p os es at alive many inside front leads belongs xs,
    (refl, told_then s r slots id k y v p os es at alive many inside front leads belongs, newest_then s r slots id k y v p os es at alive many inside front leads belongs),
  )

  pub brings_home : (before slots id k i j : ℕ) (y : H) (xs : List (ℕ × Option H)) (p : Part) (os : List Held) (es : List Done) (v : View) (me : Knows H) (w : View) (given : Part)
      → i ≡ word_of k → j ≡ slot_of k → before ≡ slots → ◌≡◌ {A = Knows H} me (v, (j, Some y) ∷ xs) → v.spent ≡ false → v.held ≡ record { turn = k; part = p } ∷ os → k < turns_in before → Leads (turns_in before - 2) v es (show y).part → Belongs (start_of v) k (show y)
      → w ≡ giving es v → given ≡ (show y).part
      → Allows Rule slots id me i (λ _. 0) (gives_turn w given (step slots i 0 0 mathlib.Core.Option.none) me)
  brings_home before slots id k i j y xs p os es v me w given word slot same is alive front inside leads belongs next part_is =
      subst (λ (z : Knows H × ℕ × View × Part). Allows Rule slots id z.0 z.1 (λ _. 0) (gives_turn z.2 z.3 (step slots z.1 0 0 mathlib.Core.Option.none) z.0))
      (λ a. (sym (is ∙ (λ b. (v, (slot b, Some y) ∷ xs))) a, sym word a, sym next a, sym part_is a))
      (gives_at slots id k y v xs p os es alive (subst (λ (n : ℕ). k < turns_in n) same inside) front (subst (λ (n : ℕ). Leads (turns_in n - 2) v es (show y).part) same leads) belongs)

-- the slot of the turn that a pass took last is the first that it has
pub first_slot : {H : Type 0} (me : Knows H) (k i : ℕ) (p : Part) (os : List Held) → me.1 ≡ slots_of me.0.held → me.0.held ≡ record { turn = k; part = p } ∷ os → i ≡ slot_of k
    → ◌≡◌ {A = List (ℕ × Option H)} me.1 ((i, None) ∷ rest me.1)
first_slot {H} me k i p os olds front slot = is ∙ (λ j. (sym slot j, None) ∷ ap (λ z. rest z) (sym is) j)
  where
    is : ◌≡◌ {A = List (ℕ × Option H)} me.1 ((slot_of k, None) ∷ slots_of os)
    is = olds ∙ ap (λ z. slots_of {H = H} z) front

-- so nothing comes out of it
pub nothing_there : {H : Type 0} (me : Knows H) (k i : ℕ) (was : Option H) (p : Part) (os : List Held) → me.1 ≡ slots_of me.0.held → me.0.held ≡ record { turn = k; part = p } ∷ os → i ≡ slot_of k
    → ◌≡◌ {A = List (ℕ × Option H)} me.1 ((i, was) ∷ rest me.1) → was ≡ None
nothing_there {H} me k i was p os olds front slot found = ap (λ z. head_slot z) (sym found ∙ first_slot me k i p os olds front slot)
