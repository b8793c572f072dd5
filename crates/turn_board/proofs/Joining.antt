-- Two passes are made one.
use Rattle.std.proofs.Common.{◌≡◌, ◌≢◌, ◌⊎◌, inl, inr, ℕ, false, List, [], ◌∷◌, ◌++◌, set, sym, refl, ap, ◌∙◌, subst, ⊎_elim, Option}
use Rattle.std.proofs.lemmas.Bool.{false≢true}
use mathlib.Core.Logic.{dite}
use mathlib.Core.Option.{some, some-injective}
use native.Mathlib.Decide.{ℕ_discrete}
use lib.ListN.{get_elem?}
use Rattle.atomic_table.specs.Table.{State, Joins}
use Rattle.atomic_table.proofs.Lists.{at_set, set_here, set_else}
use Rattle.graph_model.specs.declared.graph.Base.{Base}
use Rattle.core_states.specs.Parts.{actor_of}
use Rattle.core_states.specs.Laters.{Later, LaterLog}
use Rattle.turn_board.specs.Views.{Start, Shown, Held, View, HasTurn, In, numbers, joining, spent_view}
use Rattle.turn_board.specs.Histories.{did, noted, Began}
use Rattle.turn_board.specs.Board.{IsBoard, Live}
use Rattle.turn_board.proofs.HeldLists.{inside_of, in_append, in_left, in_right, seen_both}
use Rattle.turn_board.proofs.Moving.{started}
use Rattle.turn_board.proofs.Named.{actor_first, actor_second, has_both, noted_both, append_none}

module _ {H : Type 0} (start : Start) (show : H → Shown) where
  abbrev base : Base
  base = start.base

  abbrev St : Type 0
  St = State (Option H) View

  abbrev Rule : St → Type 0
  Rule = IsBoard start show

  both_in : (v w : View) (n : List ℕ) → In n (numbers (joining v w)) → In n (numbers v) ⊎ In n (numbers w)
  both_in v w n (inl e) = inl (inl e)
  both_in v w n (inr h) = ⊎_elim (λ i. inl (inr i)) (λ (i : In n (numbers w)). inr i) (in_append n v.joined (numbers w) h)

  module _ (s : St) (r : Rule s) (id other : ℕ) (v w : View) (at : get_elem? s.views id ≡ some v) (alive : v.spent ≡ false) (apart : ¬ (other ≡ id)) (at' : get_elem? s.views other ≡ some w) (alive' : w.spent ≡ false) (empty : w.held ≡ []) where
    abbrev b : View
    b = joining v w

    abbrev views : List View
    views = set (set s.views id b) other spent_view

    abbrev lv : Live start s.words r.parts r.run r.all r.owner id v
    lv = r.live id v at alive

    abbrev lw : Live start s.words r.parts r.run r.all r.owner other w
    lw = r.live other w at' alive'

    not_both : (n : List ℕ) → In n (numbers v) → In n (numbers w) → ⊥
    not_both n i j = apart (sym (r.apart id other v w n at alive at' alive' i j))

    same_base : w.base ≡ v.base
    same_base = lw.base_is ∙ sym lv.base_is

    together : Live start s.words r.parts r.run r.all r.owner id b
    together = record {
      base_is = lv.base_is;
      start_is = lv.start_is;
      held = lv.held;
      distinct = lv.distinct;
      known = λ n i. ⊎_elim (lv.known n) (lw.known n) (both_in v w n i);
      own = λ n i. ⊎_elim
          (λ (j : In n.pass (numbers v)). let o = lv.own n j in let no_other = lw.silent n (λ k. not_both n.pass j k) in (
            o.0 ∙ sym (actor_first v.base n v.actors w.actors no_other.0),
            o.1 ∙ sym (noted_both n.pass v.events w.events ∙ (ap (λ z. noted n.pass v.events ++ z) no_other.1 ∙ append_none (noted n.pass v.events))),
          ))
          (λ (j : In n.pass (numbers w)). let o = lw.own n j in let no_other = lv.silent n (λ k. not_both n.pass k j) in (
            subst (λ (z : Base). actor_of z r.parts.actors n ≡ actor_of z w.actors n) same_base o.0 ∙ sym (actor_second v.base n v.actors w.actors no_other.0),
            ap (λ (z : Start). did z n.pass r.run) (started lv ∙ sym (started lw)) ∙ (o.1 ∙ sym (noted_both n.pass v.events w.events ∙ ap (λ z. z ++ noted n.pass w.events) no_other.1)),
          ))
          (both_in v w n.pass i);
      silent = λ n never.
          let a = lv.silent n (λ i. never (⊎_elim (λ e. inl e) (λ (h : In n.pass v.joined). inr (in_left n.pass v.joined (numbers w) h)) i)) in
          let z = lw.silent n (λ i. never (inr (in_right n.pass v.joined (numbers w) i))) in
          (has_both n v.actors w.actors a.0 z.0, noted_both n.pass v.events w.events ∙ (λ i. a.1 i ++ z.1 i));
      later = seen_both (λ k. Later k r.parts.clock) v.seen w.seen lv.later lw.later;
      later_log = seen_both (λ g. LaterLog g r.parts.log) v.seen_logs w.seen_logs lv.later_log lw.later_log;
      made = λ k m i j. ⊎_elim
          (λ (h : In m (numbers v)). in_left (k ∷ m) v.made w.made (lv.made k m h j))
          (λ (h : In m (numbers w)). in_right (k ∷ m) v.made w.made (lw.made k m h j))
          (both_in v w m i);
      count = lv.count;
      began = seen_both (Began start r.run) v.origins w.origins lv.began lw.began;
    }

    -- a view of afterwards is that of both, or one of before
    abbrev Now : ℕ → View → Type 0
    Now seat u = ((seat ≡ id) × (b ≡ u)) ⊎ ((seat ≢ id) × (seat ≢ other) × (get_elem? s.views seat ≡ some u))

    now : (seat : ℕ) (u : View) → get_elem? views seat ≡ some u → u.spent ≡ false → Now seat u
    now seat u e live = ⊎_elim
        (λ (t : (seat ≡ other) × (spent_view ≡ u)). absurd (false≢true (sym (ap (λ (z : View). z.spent) t.1 ∙ live))))
        (λ (t : (seat ≢ other) × (get_elem? (set s.views id b) seat ≡ some u)). ⊎_elim
        (λ (x : (seat ≡ id) × (b ≡ u)). inl x)
        (λ (x : (seat ≢ id) × (get_elem? s.views seat ≡ some u)). inr (x.0, t.0, x.1))
        (at_set s.views id seat b u t.1))
        (at_set (set s.views id b) other seat spent_view u e)

    third : (seat : ℕ) (u : View) (n : List ℕ) → seat ≢ id → seat ≢ other → get_elem? s.views seat ≡ some u → u.spent ≡ false → In n (numbers u) → In n (numbers b) → ⊥
    third seat u n ne ne' e live i j = ⊎_elim
        (λ (h : In n (numbers v)). ne (r.apart seat id u v n e live at alive i h))
        (λ (h : In n (numbers w)). ne' (r.apart seat other u w n e live at' alive' i h))
        (both_in v w n j)

    apart_by : (seat seat' : ℕ) (u x : View) (n : List ℕ) → u.spent ≡ false → x.spent ≡ false → Now seat u → Now seat' x → In n (numbers u) → In n (numbers x) → seat ≡ seat'
    apart_by seat seat' u x n lu lx (inl p) (inl q) i j = p.0 ∙ sym q.0
    apart_by seat seat' u x n lu lx (inl p) (inr q) i j = absurd (third seat' x n q.0 q.1 q.2 lx j (subst (λ (z : View). In n (numbers z)) (sym p.1) i))
    apart_by seat seat' u x n lu lx (inr p) (inl q) i j = absurd (third seat u n p.0 p.1 p.2 lu i (subst (λ (z : View). In n (numbers z)) (sym q.1) j))
    apart_by seat seat' u x n lu lx (inr p) (inr q) i j = r.apart seat seat' u x n p.2 lu q.2 lx i j

    here : get_elem? views id ≡ some b
    here = set_else (set s.views id b) other id spent_view (λ e. apart (sym e)) ∙ set_here s.views id b (inside_of s.views id v at)

    pub join_keeps : Rule record { words = s.words; homes = s.homes; views = views }
    join_keeps = record {
      parts = r.parts;
      run = r.run;
      all = r.all;
      owner = r.owner;
      reached = r.reached;
      opened = r.opened;
      wide = r.wide;
      deep = r.deep;
      at_home = r.at_home;
      between = r.between;
      out = λ k inside up. let o = r.out k inside up in dite (ℕ_discrete (r.owner k) id)
          (λ (e : r.owner k ≡ id). (
            b,
            ap (λ (z : ℕ). get_elem? views z) e ∙ here,
            refl,
            subst (λ (u : View). HasTurn k u.held) (some-injective o.0 v (sym o.1 ∙ (ap (λ (z : ℕ). get_elem? s.views z) e ∙ at))) o.3,
          ))
          (λ ne. dite (ℕ_discrete (r.owner k) other)
          (λ (e : r.owner k ≡ other). absurd (subst (λ (z : List Held). HasTurn k z) empty
          (subst (λ (u : View). HasTurn k u.held) (some-injective o.0 w (sym o.1 ∙ (ap (λ (z : ℕ). get_elem? s.views z) e ∙ at'))) o.3)))
          (λ ne'. (o.0, set_else (set s.views id b) other (r.owner k) spent_view ne' ∙ (set_else s.views id (r.owner k) b ne ∙ o.1), o.2, o.3)));
      live = λ seat u e live. ⊎_elim
          (λ (t : (seat ≡ id) × (b ≡ u)). subst (λ (z : ℕ × View). Live start s.words r.parts r.run r.all r.owner z.0 z.1) (λ i. (sym t.0 i, t.1 i)) together)
          (λ (t : (seat ≢ id) × (seat ≢ other) × (get_elem? s.views seat ≡ some u)). r.live seat u t.2 live)
          (now seat u e live);
      apart = λ seat seat' u x n e le f lf. apart_by seat seat' u x n le lf (now seat u e le) (now seat' x f lf);
      unused = r.unused;
      first = r.first;
      parents = r.parents;
    }

  pub joins : (id other : ℕ) (v w : View) → v.spent ≡ false → w.spent ≡ false → w.held ≡ [] → Joins Rule id v other w (joining v w) spent_view
  joins id other v w alive alive' empty s r at apart at' = join_keeps s r id other v w at alive apart (sym (set_else s.views id other (joining v w) apart) ∙ at') alive' empty
