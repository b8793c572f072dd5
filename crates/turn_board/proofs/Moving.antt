-- A step of one seat keeps the rule, where what it changes is its own.
use Rattle.std.proofs.Common.{◌≡◌, ◌≢◌, ◌⊎◌, ℕ, ◌+◌, ◌<◌, false, List, ◌++◌, append_assoc, length, get_or, set, sym, refl, ap, ◌∙◌, subst, ⊎_elim, Option, Some, None}
use mathlib.Core.Logic.{dite}
use mathlib.Core.Option.{some, some-injective}
use native.Mathlib.Decide.{ℕ_discrete}
use lib.ListN.{get_elem?}
use Rattle.atomic_table.specs.Table.{State}
use Rattle.atomic_table.proofs.Lists.{at_set, set_here, set_else}
use Rattle.graph_model.specs.declared.graph.Base.{Base}
use Rattle.core_states.specs.Names.{Name}
use Rattle.core_states.specs.Parts.{Part, Parts, actor_of}
use Rattle.core_states.specs.Laters.{Later, LaterLog}
use Rattle.core_states.specs.LogParts.{LogPart}
use Rattle.turn_board.specs.Views.{Start, Done, Origin, Shown, Belongs, View, start_of, In, HasTurn, numbers}
use Rattle.turn_board.specs.Histories.{Reached, did, Began}
use Rattle.turn_board.specs.Turns.{turn_part, word_of}
use Rattle.turn_board.specs.Spread.{slot_of, IsBetween}
use Rattle.turn_board.specs.Board.{IsBoard, Live}
use Rattle.turn_board.proofs.HeldLists.{each_map, seen_map, inside_of}
use Rattle.core_laws.proofs.Orders.{later_still, log_still}

-- what the board of a pass was made for
pub started : {start : Start} {words : List ℕ} {parts : Parts} {run : List Done} {all : List (List ℕ)} {owner : ℕ → ℕ} {seat : ℕ} {v : View} → Live start words parts run all owner seat v → start_of v ≡ start
started l = λ i. record { base = l.base_is i; limits = l.start_is.0 i; found = l.start_is.1 i; shards = l.start_is.2 i }

-- what came before the first event of a pass stays before it
pub began_still : (start : Start) (run run' more : List Done) (o : Origin) → run' ≡ more ++ run → Began start run o → Began start run' o
began_still start run run' more o grew b = record { late = more ++ b.late; early = b.early; are = grew ∙ (ap (λ z. more ++ z) b.are ∙ sym (append_assoc more b.late b.early)); nothing = b.nothing; before = b.before }

module _ {H : Type 0} (start : Start) (show : H → Shown) where
  abbrev base : Base
  base = start.base

  abbrev pub St : Type 0
  St = State (Option H) View

  abbrev pub Rule : St → Type 0
  Rule = IsBoard start show

  abbrev pub Facts : (ℕ → ℕ) → Parts → List ℕ → ℕ → ℕ → Part → Type 0
  Facts owner parts ws seat k p = (owner k ≡ seat) × (turn_part parts k ≡ p) × (get_or ws (word_of k) 0 ≢ 0)

  abbrev pub AtHome : List ℕ → List (mathlib.Core.Option.Option (Option H)) → Parts → Type 0
  AtHome ws hs parts = (k : ℕ) → k < length parts.shards + 2 → get_or ws (word_of k) 0 ≡ 0
      → (x : H) × (get_elem? hs (slot_of k) ≡ some (some (Some x))) × (turn_part parts k ≡ (show x).part) × Belongs start k (show x)

  abbrev pub EmptyBetween : List (mathlib.Core.Option.Option (Option H)) → Type 0
  EmptyBetween hs = (i : ℕ) → i < length hs → IsBetween i → get_elem? hs i ≡ some (some None)

  -- an actor has done no more
  abbrev pub AsWas : Name → Parts → List Done → Parts → List Done → Type 0
  AsWas n parts run parts' run' = (actor_of base parts'.actors n ≡ actor_of base parts.actors n) × (did start n.pass run' ≡ did start n.pass run)

  module _ (s : St) (r : Rule s) (id : ℕ) (v w : View) (at : get_elem? s.views id ≡ some v) (alive : v.spent ≡ false) (awake : w.spent ≡ false) (same : numbers v ≡ numbers w) where
    abbrev Old : ℕ → View → Type 0
    Old seat u = (u0 : View) × (get_elem? s.views seat ≡ some u0) × (u0.spent ≡ false) × (numbers u0 ≡ numbers u)

    old_of : (seat : ℕ) (u : View) → get_elem? (set s.views id w) seat ≡ some u → u.spent ≡ false → Old seat u
    old_of seat u e live = ⊎_elim
        (λ (t : (seat ≡ id) × (w ≡ u)). (v, ap (λ (z : ℕ). get_elem? s.views z) t.0 ∙ at, alive, same ∙ ap (λ (z : View). numbers z) t.1))
        (λ (t : (seat ≢ id) × (get_elem? s.views seat ≡ some u)). (u, t.1, live, refl))
        (at_set s.views id seat w u e)

    apart_after : (seat other : ℕ) (u x : View) (n : List ℕ) → get_elem? (set s.views id w) seat ≡ some u → u.spent ≡ false → get_elem? (set s.views id w) other ≡ some x → x.spent ≡ false → In n (numbers u) → In n (numbers x) → seat ≡ other
    apart_after seat other u x n e le f lf i j = let a = old_of seat u e le in let b = old_of other x f lf in
        r.apart seat other a.0 b.0 n a.1 a.2 b.1 b.2 (subst (λ (z : List (List ℕ)). In n z) (sym a.3) i) (subst (λ (z : List (List ℕ)). In n z) (sym b.3) j)

    pub stays : (ws : List ℕ) (hs : List (mathlib.Core.Option.Option (Option H))) (parts : Parts) (run : List Done) (owner : ℕ → ℕ)
        → Reached base parts run → (parts.limits ≡ r.parts.limits) → length ws ≡ word_of (length parts.shards + 2) → length hs ≡ slot_of (length parts.shards + 2)
        → AtHome ws hs parts → EmptyBetween hs
        → ((k : ℕ) → k < length parts.shards + 2 → get_or ws (word_of k) 0 ≢ 0
        → ((owner k ≡ id) × HasTurn k w.held) ⊎ ((k < length r.parts.shards + 2) × (get_or s.words (word_of k) 0 ≢ 0) × (owner k ≡ r.owner k) × (HasTurn k v.held → HasTurn k w.held)))
        → ((seat j : ℕ) (p : Part) → seat ≢ id → Facts r.owner r.parts s.words seat j p → Facts owner parts ws seat j p)
        → ((n : Name) → (In n.pass (numbers v) → ⊥) → AsWas n r.parts r.run parts run)
        → (more : List Done) → run ≡ more ++ r.run
        → Later r.parts.clock parts.clock
        → LaterLog r.parts.log parts.log
        → Live start ws parts run r.all owner id w
        → Rule record { words = ws; homes = hs; views = set s.views id w }
    stays ws hs parts run owner reached limits wide deep at_home between out frame theirs more grew later later_log mine = record {
      parts = parts;
      run = run;
      all = r.all;
      owner = owner;
      reached = reached;
      opened = (limits ∙ r.opened.0, (λ i. record { count = later_log.opening_count i; firm = later_log.firm i; records = later_log.opened i }) ∙ r.opened.1);
      wide = wide;
      deep = deep;
      at_home = at_home;
      between = between;
      out = λ k inside up. ⊎_elim
          (λ (t : (owner k ≡ id) × HasTurn k w.held). (w, ap (λ (z : ℕ). get_elem? (set s.views id w) z) t.0 ∙ here, awake, t.1))
          (λ (t : (k < length r.parts.shards + 2) × (get_or s.words (word_of k) 0 ≢ 0) × (owner k ≡ r.owner k) × (HasTurn k v.held → HasTurn k w.held)).
          let o = r.out k t.0 t.1 in dite (ℕ_discrete (r.owner k) id)
          (λ (e : r.owner k ≡ id). (
            w,
            ap (λ (z : ℕ). get_elem? (set s.views id w) z) (t.2 ∙ e) ∙ here,
            awake,
            t.3 (subst (λ (u : View). HasTurn k u.held) (some-injective o.0 v (sym o.1 ∙ (ap (λ (z : ℕ). get_elem? s.views z) e ∙ at))) o.3),
          ))
          (λ ne. (o.0, ap (λ (z : ℕ). get_elem? (set s.views id w) z) t.2 ∙ (set_else s.views id (r.owner k) w ne ∙ o.1), o.2, o.3)))
          (out k inside up);
      live = λ seat u e live. ⊎_elim
          (λ (t : (seat ≡ id) × (w ≡ u)). subst (λ (z : ℕ × View). Live start ws parts run r.all owner z.0 z.1) (λ i. (sym t.0 i, t.1 i)) mine)
          (λ (t : (seat ≢ id) × (get_elem? s.views seat ≡ some u)). others seat u t.0 t.1 live)
          (at_set s.views id seat w u e);
      apart = apart_after;
      unused = λ n no. let was = theirs n (λ i. no ((r.live id v at alive).known n.pass i)) in let old = r.unused n no in (was.0 ∙ old.0, was.1 ∙ old.1);
      first = r.first;
      parents = r.parents;
    }
      where
        here : get_elem? (set s.views id w) id ≡ some w
        here = set_here s.views id w (inside_of s.views id v at)

        others : (seat : ℕ) (u : View) → seat ≢ id → get_elem? s.views seat ≡ some u → u.spent ≡ false → Live start ws parts run r.all owner seat u
        others seat u ne e live = let l = r.live seat u e live in record {
          base_is = l.base_is;
          start_is = l.start_is;
          held = each_map (Facts r.owner r.parts s.words seat) (Facts owner parts ws seat) (λ k p. frame seat k p ne) u.held l.held;
          distinct = l.distinct;
          known = l.known;
          own = λ n i. let was = theirs n (λ j. ne (r.apart seat id u v n.pass e live at alive i j)) in let old = l.own n i in
              (subst (λ (b : Base). actor_of b parts.actors n ≡ actor_of b r.parts.actors n) (sym l.base_is) was.0 ∙ old.0, ap (λ (z : Start). did z n.pass run) (started l) ∙ (was.1 ∙ (ap (λ (z : Start). did z n.pass r.run) (sym (started l)) ∙ old.1)));
          silent = l.silent;
          later = seen_map (λ k. Later k r.parts.clock) (λ k. Later k parts.clock) (λ k le. later_still k r.parts.clock parts.clock le later) u.seen l.later;
          later_log = seen_map (λ (g : LogPart). LaterLog g r.parts.log) (λ g. LaterLog g parts.log) (λ g le. log_still g r.parts.log parts.log le later_log) u.seen_logs l.later_log;
          made = l.made;
          count = l.count;
          began = seen_map (Began start r.run) (Began start run) (λ o. began_still start r.run run more o grew) u.origins l.began;
        }
