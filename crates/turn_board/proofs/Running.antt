-- The events of a give, one after another, lead from one state of the core to another.
use Rattle.std.proofs.Common.{◌≡◌, ◌≢◌, ℕ, ◌+◌, ◌<◌, false, List, [], ◌∷◌, ◌++◌, length, sym, refl, ap, ◌∙◌, subst, ⊎_elim, append_assoc}
use Rattle.graph_model.specs.declared.graph.Base.{Base}
use Rattle.core_states.specs.LogParts.{LogPart}
use Rattle.core_states.specs.Names.{Name}
use Rattle.core_states.specs.States.{State}
use Rattle.core_states.specs.Parts.{NamedActor, Parts, actor_of, with_named, local, parts_at, move_of, step}
use Rattle.core_states.specs.Laters.{Later, LaterLog}
use Rattle.core_states.proofs.Names.{cases_name, not_same}
use Rattle.core_laws.proofs.Parts.{step_shards, step_limits}
use Rattle.turn_board.specs.Views.{Start, Done, Noted, Did, In, has_name}
use Rattle.turn_board.specs.Works.{Work, turns_under, held_turns, held_parts, holding, IsUnder, move_on, moved, after_events, notes_of, Happen}
use Rattle.turn_board.specs.Histories.{Reached, reached, found_by, if_of, did, noted}
use Rattle.turn_board.specs.Turns.{turn_part}
use Rattle.turn_board.proofs.Named.{has_there, noted_more, if_other, append_none}
use Rattle.core_laws.proofs.Actors.{actor_here, actor_there}
use Rattle.core_laws.proofs.Orders.{later_self, later_still, log_self, log_still}
use Rattle.turn_board.proofs.Steps.{holds_at, Away, turns_at, Stepped, step_moved, parts_held, held_again, reached_after, later_after, log_after}

-- later log parts found the same of the disk
found_stays : (log log' : LogPart) → LaterLog log log' → found_by log' ≡ found_by log
found_stays log log' l = λ i. record { count = l.opening_count i; firm = l.firm i; records = l.opened i }

module _ (start : Start) (passes : List (List ℕ)) where
  abbrev base : Base
  base = start.base

  -- the parts are those of a run of the board
  abbrev Opened : Parts → Type 0
  Opened parts = (parts.limits ≡ start.limits) × (found_by parts.log ≡ start.found)

  -- an actor of the passes is as they have it, and its pass did what they noted
  abbrev Mine : Parts → List Done → List NamedActor → List Noted → Type 0
  Mine parts run actors events = (n : Name) → In n.pass passes → (actor_of base parts.actors n ≡ actor_of base actors n) × (did start n.pass run ≡ noted n.pass events)

  -- of any other actor they have nothing
  abbrev Others : List NamedActor → List Noted → Type 0
  Others actors events = (n : Name) → (In n.pass passes → ⊥) → (has_name n actors ≡ false) × (noted n.pass events ≡ [])

  -- What events on these turns leave of a state.
  pub record Ran (parts : Parts) (run : List Done) (ks : List ℕ) (w : Work) (events : List Noted) : Type 0 where
    pub parts' : Parts
    pub run' : List Done
    pub reached : Reached base parts' run'
    pub more : List Done
    pub grew : run' ≡ more ++ run
    pub long : length parts'.shards ≡ length parts.shards
    pub limits : parts'.limits ≡ parts.limits
    pub held : w.held ≡ holds_at parts' ks
    pub elsewhere : (j : ℕ) → j < length parts.shards + 2 → Away j ks → turn_part parts' j ≡ turn_part parts j
    pub mine : Mine parts' run' w.actors events
    pub theirs : (n : Name) → (In n.pass passes → ⊥) → (actor_of base parts'.actors n ≡ actor_of base parts.actors n) × (did start n.pass run' ≡ did start n.pass run)
    pub silent : Others w.actors events
    pub later : Later parts.clock parts'.clock
    pub later_log : LaterLog parts.log parts'.log

  -- one event is done on what is held
  one : (parts : Parts) (run : List Done) (ks : List ℕ) (w : Work) (events : List Noted) (e : Done) → Reached base parts run → Opened parts → parts.limits ≡ w.limits → w.held ≡ holds_at parts ks
      → Mine parts run w.actors events → Others w.actors events → In e.by.pass passes → IsUnder (length parts.shards) w.held e.act → e.answer ≡ (move_on base w e).answer
      → Ran parts run ks (moved e.by (move_on base w e) w) (events ++ Did e (move_on base w e).actor ∷ [])
  one parts run ks w events e r opened most is mine others own under answer = record {
    parts' = step under.0 base parts e.by e.act;
    run' = e ∷ run;
    reached = reached_after under.0 base parts run e r under.2 (answer ∙ sym (ap (λ m. m.answer) same));
    more = e ∷ [];
    grew = refl;
    long = step_shards under.0 base parts e.by e.act;
    limits = step_limits under.0 base parts e.by e.act;
    held = (λ i. holding ((sym (ap (λ m. m.parts) same) ∙ sym stepped.left) i) (at i))
        ∙ (held_again under.0 parts (step under.0 base parts e.by e.act) r.some (step_shards under.0 base parts e.by e.act) ∙ ap (λ z. holds_at (step under.0 base parts e.by e.act) z) turns);
    elsewhere = λ j inside away. stepped.elsewhere j inside (subst (λ z. Away j z) (sym turns) away);
    mine = λ n inside. (
      put n ∙ ⊎_elim
          (λ (eq : n ≡ e.by). actor_here base now parts.actors n eq ∙ (ap (λ m. m.actor) same ∙ sym (actor_here base then w.actors n eq)))
          (λ (ne : n ≢ e.by). actor_there base now parts.actors n ne ∙ ((mine n inside).0 ∙ sym (actor_there base then w.actors n ne)))
          (cases_name n e.by),
      (λ i. (mine n inside).1 i ++ if_of n.pass e (left i)) ∙ sym (noted_more n.pass events e (move_on base w e).actor),
    );
    theirs = λ n no. (put n ∙ actor_there base now parts.actors n (far n no), ap (λ z. did start n.pass run ++ z) (if_other n.pass e ((reached start.limits base start.found (e ∷ run)).actor e.by) (apart n no)) ∙ append_none (did start n.pass run));
    silent = λ n no. (
      has_there then w.actors n (not_same n e.by (far n no)) (others n no).0,
      noted_more n.pass events e (move_on base w e).actor ∙ (λ i. (others n no).1 i ++ if_other n.pass e (move_on base w e).actor (apart n no) i),
    );
    later = later_after under.0 base parts run e r under.2;
    later_log = log_after under.0 base parts run e r under.2;
  }
    where
      turns : turns_under (length parts.shards) under.0 ≡ ks
      turns = under.1 ∙ (ap (λ z. held_turns z) is ∙ turns_at parts ks)

      at : w.held ≡ holds_at parts (turns_under (length parts.shards) under.0)
      at = is ∙ ap (λ z. holds_at parts z) (sym turns)

      there : parts_at under.0 parts ≡ held_parts w.held
      there = sym (ap (λ z. held_parts z) at ∙ parts_held under.0 parts r.some)

      same : move_of under.0 base parts e.by e.act ≡ move_on base w e
      same = λ i. local (most i) base e.by e.act (there i) ((mine e.by own).0 i)

      stepped : Stepped under.0 parts e.by (move_of under.0 base parts e.by e.act) (step under.0 base parts e.by e.act)
      stepped = step_moved under.0 base parts e.by e.act r.some under.2

      now : NamedActor
      now = record { name = e.by; actor = (move_of under.0 base parts e.by e.act).actor }

      then : NamedActor
      then = record { name = e.by; actor = (move_on base w e).actor }

      put : (n : Name) → actor_of base (step under.0 base parts e.by e.act).actors n ≡ actor_of base (with_named now parts.actors) n
      put n = ap (λ actors. actor_of base actors n) stepped.actors

      far : (n : Name) → (In n.pass passes → ⊥) → n ≢ e.by
      far n never eq = never (subst (λ (m : Name). In m.pass passes) (sym eq) own)

      apart : (n : Name) → (In n.pass passes → ⊥) → n.pass ≢ e.by.pass
      apart n never eq = never (subst (λ (p : List ℕ). In p passes) (sym eq) own)

      next : Parts
      next = step under.0 base parts e.by e.act

      found : found_by next.log ≡ start.found
      found = found_stays parts.log next.log (log_after under.0 base parts run e r under.2) ∙ opened.1

      -- the actor is in the run as the pass has it
      left : (reached start.limits base start.found (e ∷ run)).actor e.by ≡ (move_on base w e).actor
      left = ap (λ (s : State). s.actor e.by)
          (sym ((reached_after under.0 base parts run e r under.2 (answer ∙ sym (ap (λ m. m.answer) same))).is ∙ (λ i. reached ((step_limits under.0 base parts e.by e.act ∙ opened.0) i) base (found i) (e ∷ run))))
          ∙ (put e.by ∙ (actor_here base now parts.actors e.by refl ∙ ap (λ m. m.actor) same))

  pub ran : (shards : ℕ) (parts : Parts) (run : List Done) (ks : List ℕ) (w : Work) (events : List Noted) (es : List Done) → length parts.shards ≡ shards → Reached base parts run → Opened parts → parts.limits ≡ w.limits → w.held ≡ holds_at parts ks
      → Mine parts run w.actors events → Others w.actors events → Happen base shards passes w es
      → Ran parts run ks (after_events base w es) (events ++ notes_of base w es)
  ran shards parts run ks w events [] many r opened most is mine others all =
      subst (λ evs. Ran parts run ks w evs) (sym (append_none events)) record {
        parts' = parts;
        run' = run;
        reached = r;
        more = [];
        grew = refl;
        long = refl;
        limits = refl;
        held = is;
        elsewhere = λ j inside away. refl;
        mine = mine;
        theirs = λ n no. (refl, refl);
        silent = others;
        later = later_self parts.clock;
        later_log = log_self parts.log;
      }
  ran shards parts run ks w events (e ∷ es) many r opened most is mine others all =
      let first : Ran parts run ks (moved e.by (move_on base w e) w) (events ++ Did e (move_on base w e).actor ∷ []) = one parts run ks w events e r opened most is mine others all.0 (subst (λ n. IsUnder n w.held e.act) (sym many) all.1) all.2 in
      let rest : Ran first.parts' first.run' ks (after_events base (moved e.by (move_on base w e) w) es) ((events ++ Did e (move_on base w e).actor ∷ []) ++ notes_of base (moved e.by (move_on base w e) w) es) =
      ran shards first.parts' first.run' ks (moved e.by (move_on base w e) w) (events ++ Did e (move_on base w e).actor ∷ []) es (first.long ∙ many) first.reached
      (first.limits ∙ opened.0, found_stays parts.log first.parts'.log first.later_log ∙ opened.1) (first.limits ∙ most) first.held first.mine first.silent all.3 in
      subst (λ evs. Ran parts run ks (after_events base (moved e.by (move_on base w e) w) es) evs) (append_assoc events (Did e (move_on base w e).actor ∷ []) (notes_of base (moved e.by (move_on base w e) w) es)) record {
        parts' = rest.parts';
        run' = rest.run';
        reached = rest.reached;
        more = rest.more ++ first.more;
        grew = rest.grew ∙ (ap (λ z. rest.more ++ z) first.grew ∙ sym (append_assoc rest.more first.more run));
        long = rest.long ∙ first.long;
        limits = rest.limits ∙ first.limits;
        held = rest.held;
        elsewhere = λ j inside away. rest.elsewhere j (subst (λ n. j < n + 2) (sym first.long) inside) away ∙ first.elsewhere j inside away;
        mine = rest.mine;
        theirs = λ n no. ((rest.theirs n no).0 ∙ (first.theirs n no).0, (rest.theirs n no).1 ∙ (first.theirs n no).1);
        silent = rest.silent;
        later = later_still parts.clock first.parts'.clock rest.parts'.clock first.later rest.later;
        later_log = log_still parts.log first.parts'.log rest.parts'.log first.later_log rest.later_log;
      }
