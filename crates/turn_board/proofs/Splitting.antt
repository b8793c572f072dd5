-- A pass is cut in two.
use Rattle.std.proofs.Common.{◌≡◌, ◌≢◌, ◌⊎◌, inl, inr, ℕ, zero, suc, false, List, [], ◌∷◌, ◌++◌, length, set, sym, refl, ap, ◌∙◌, subst, ⊎_elim, arith, Option}
use mathlib.Core.Logic.{dite}
use mathlib.Core.Option.{some, some-injective, some-ne-none}
use native.Mathlib.Decide.{ℕ_discrete}
use lib.ListN.{get_elem?}
use Rattle.atomic_table.specs.Table.{State, Splits}
use Rattle.atomic_table.proofs.Lists.{at_set, set_here, set_else, at_longer}
use Rattle.graph_model.specs.declared.graph.Base.{Base}
use Rattle.core_states.specs.Openings.{fresh_actor}
use Rattle.core_states.specs.Parts.{actor_of}
use Rattle.turn_board.specs.Views.{Start, Shown, View, HasTurn, In, numbers, next_number, next_origin, splitting, split_off}
use Rattle.turn_board.specs.Histories.{did, Began}
use Rattle.turn_board.specs.Board.{IsBoard, Live}
use Rattle.turn_board.proofs.Moving.{started}
use Rattle.turn_board.proofs.HeldLists.{inside_of, in_left, in_right, seen_both}
use Rattle.turn_board.proofs.Named.{named}

at_end : {A : Type 0} (l : List A) (a b : A) (j : ℕ) → get_elem? (l ++ a ∷ []) j ≡ some b → (get_elem? l j ≡ some b) ⊎ ((j ≡ length l) × (a ≡ b))
at_end [] a b zero e = inr (refl, some-injective a b e)
at_end [] a b (suc j) e = absurd (some-ne-none b (sym e))
at_end (x ∷ xs) a b zero e = inl e
at_end (x ∷ xs) a b (suc j) e = ⊎_elim (λ h. inl h) (λ (t : (j ≡ length xs) × (a ≡ b)). inr (ap suc t.0, t.1)) (at_end xs a b j e)

abbrev head_of : List ℕ → ℕ
head_of [] = 0
head_of (x ∷ xs) = x

abbrev tail_of : List ℕ → List ℕ
tail_of [] = []
tail_of (x ∷ xs) = xs

no_loop : (k : ℕ) (n : List ℕ) → n ≡ k ∷ n → ⊥
no_loop k n e = let l : length n ≡ suc (length n) = ap (λ (z : List ℕ). length z) e in omega arith

module _ {H : Type 0} (start : Start) (show : H → Shown) where
  abbrev base : Base
  base = start.base

  abbrev St : Type 0
  St = State (Option H) View

  abbrev Rule : St → Type 0
  Rule = IsBoard start show

  module _ (s : St) (r : Rule s) (id : ℕ) (v : View) (at : get_elem? s.views id ≡ some v) (alive : v.spent ≡ false) where
    abbrev n : List ℕ
    n = next_number v

    abbrev l : Live start s.words r.parts r.run r.all r.owner id v
    l = r.live id v at alive

    not_made : In n r.all → ⊥
    not_made i = let c = l.count (suc v.splits) i in omega arith

    abbrev all : List (List ℕ)
    all = n ∷ r.all

    abbrev views : List View
    views = set s.views id (splitting v) ++ split_off v ∷ []

    -- a view of afterwards is one of before, of the same numbers, or the new one
    abbrev Was : ℕ → View → Type 0
    Was seat u = ((u0 : View) × (get_elem? s.views seat ≡ some u0) × (u0.spent ≡ false) × (numbers u0 ≡ numbers u)) ⊎ ((seat ≡ length (set s.views id (splitting v))) × (numbers u ≡ n ∷ []))

    was : (seat : ℕ) (u : View) → get_elem? views seat ≡ some u → u.spent ≡ false → Was seat u
    was seat u e live = ⊎_elim
        (λ (f : get_elem? (set s.views id (splitting v)) seat ≡ some u). ⊎_elim
        (λ (t : (seat ≡ id) × (splitting v ≡ u)). inl (v, ap (λ (z : ℕ). get_elem? s.views z) t.0 ∙ at, alive, ap (λ (z : View). numbers z) t.1))
        (λ (t : (seat ≢ id) × (get_elem? s.views seat ≡ some u)). inl (u, t.1, live, refl))
        (at_set s.views id seat (splitting v) u f))
        (λ (t : (seat ≡ length (set s.views id (splitting v))) × (split_off v ≡ u)). inr (t.0, sym (ap (λ (z : View). numbers z) t.1)))
        (at_end (set s.views id (splitting v)) (split_off v) u seat e)

    old_made : (u0 : View) (seat : ℕ) (m : List ℕ) → get_elem? s.views seat ≡ some u0 → u0.spent ≡ false → In m (numbers u0) → In m (n ∷ []) → ⊥
    old_made u0 seat m e live i (inl is) = not_made (subst (λ (z : List ℕ). In z r.all) (sym is) ((r.live seat u0 e live).known m i))
    old_made u0 seat m e live i (inr never) = never

    in_it : (m : List ℕ) (xs ys : List (List ℕ)) → xs ≡ ys → In m xs → In m ys
    in_it m xs ys e = subst (λ (z : List (List ℕ)). In m z) e

    apart_by : (seat other : ℕ) (u x : View) (m : List ℕ) → Was seat u → Was other x → In m (numbers u) → In m (numbers x) → seat ≡ other
    apart_by seat other u x m (inl a) (inl b) i j = r.apart seat other a.0 b.0 m a.1 a.2 b.1 b.2 (in_it m (numbers u) (numbers a.0) (sym a.3) i) (in_it m (numbers x) (numbers b.0) (sym b.3) j)
    apart_by seat other u x m (inl a) (inr b) i j = absurd (old_made a.0 seat m a.1 a.2 (in_it m (numbers u) (numbers a.0) (sym a.3) i) (in_it m (numbers x) (n ∷ []) b.1 j))
    apart_by seat other u x m (inr a) (inl b) i j = absurd (old_made b.0 other m b.1 b.2 (in_it m (numbers x) (numbers b.0) (sym b.3) j) (in_it m (numbers u) (n ∷ []) a.1 i))
    apart_by seat other u x m (inr a) (inr b) i j = a.0 ∙ sym b.0

    -- the new pass has done nothing, and the other what it has noted
    begins : Began start r.run (next_origin v)
    begins = record {
      late = [];
      early = r.run;
      are = refl;
      nothing = (r.unused (named (next_number v)) not_made).1;
      before = λ p i. ap (λ (z : Start). did z p r.run) (sym (started l)) ∙ (l.own (named p) i).1;
    }

    left : Live start s.words r.parts r.run all r.owner id (splitting v)
    left = record {
      base_is = l.base_is;
      start_is = l.start_is;
      held = l.held;
      distinct = l.distinct;
      known = λ m i. inr (l.known m i);
      own = l.own;
      silent = l.silent;
      later = l.later;
      later_log = l.later_log;
      made = λ k m i. ⊎_elim
          (λ (e : n ≡ k ∷ m). in_right (k ∷ m) v.made (n ∷ []) (inl e))
          (λ (j : In (k ∷ m) r.all). in_left (k ∷ m) v.made (n ∷ []) (l.made k m i j));
      count = λ k. ⊎_elim
          (λ (e : n ≡ k ∷ v.number). let same : suc v.splits ≡ k = ap (λ (z : List ℕ). head_of z) e in omega arith)
          (λ (j : In (k ∷ v.number) r.all). let c = l.count k j in omega arith);
      began = seen_both (Began start r.run) v.origins (next_origin v ∷ []) l.began (begins, tt);
    }

    others : (seat : ℕ) (u : View) → seat ≢ id → get_elem? s.views seat ≡ some u → u.spent ≡ false → Live start s.words r.parts r.run all r.owner seat u
    others seat u ne e live = let o = r.live seat u e live in record {
      base_is = o.base_is;
      start_is = o.start_is;
      held = o.held;
      distinct = o.distinct;
      known = λ m i. inr (o.known m i);
      own = o.own;
      silent = o.silent;
      later = o.later;
      later_log = o.later_log;
      made = λ k m i. ⊎_elim
          (λ (f : n ≡ k ∷ m). absurd (ne (r.apart seat id u v m e live at alive i (inl (ap (λ (z : List ℕ). tail_of z) f)))))
          (λ (j : In (k ∷ m) r.all). o.made k m i j);
      count = λ k. ⊎_elim
          (λ (f : n ≡ k ∷ u.number). absurd (ne (r.apart seat id u v u.number e live at alive (inl refl) (inl (ap (λ (z : List ℕ). tail_of z) f)))))
          (λ (j : In (k ∷ u.number) r.all). o.count k j);
      began = o.began;
    }

    right : (seat : ℕ) → Live start s.words r.parts r.run all r.owner seat (split_off v)
    right seat = record {
      base_is = l.base_is;
      start_is = l.start_is;
      held = tt;
      distinct = tt;
      known = λ m. ⊎_elim (λ (e : n ≡ m). inl e) (λ (never : ⊥). absurd never);
      own = λ m. ⊎_elim
          (λ (e : n ≡ m.pass). let u = r.unused m (λ i. not_made (subst (λ (z : List ℕ). In z r.all) (sym e) i)) in
          (subst (λ (b : Base). actor_of b r.parts.actors m ≡ fresh_actor b) (sym l.base_is) u.0, ap (λ (z : Start). did z m.pass r.run) (started l) ∙ u.1))
          (λ (never : ⊥). absurd never);
      silent = λ m never. (refl, refl);
      later = l.later;
      later_log = l.later_log;
      made = λ k m. ⊎_elim
          (λ (e : n ≡ m). ⊎_elim
          (λ (f : n ≡ k ∷ m). absurd (no_loop k m (sym e ∙ f)))
          (λ (j : In (k ∷ m) r.all). absurd (not_made (subst (λ (z : List ℕ). In z r.all) (sym e) (r.parents k m j)))))
          (λ (never : ⊥). absurd never);
      count = λ k. ⊎_elim
          (λ (f : n ≡ k ∷ n). absurd (no_loop k n f))
          (λ (j : In (k ∷ n) r.all). absurd (not_made (r.parents k n j)));
      began = tt;
    }

    here : get_elem? views id ≡ some (splitting v)
    here = at_longer (set s.views id (splitting v)) (split_off v ∷ []) id (splitting v) (set_here s.views id (splitting v) (inside_of s.views id v at))

    pub split_keeps : Rule record { words = s.words; homes = s.homes; views = views }
    split_keeps = record {
      parts = r.parts;
      run = r.run;
      all = all;
      owner = r.owner;
      reached = r.reached;
      opened = r.opened;
      wide = r.wide;
      deep = r.deep;
      at_home = r.at_home;
      between = r.between;
      out = λ k inside up. let o = r.out k inside up in dite (ℕ_discrete (r.owner k) id)
          (λ (e : r.owner k ≡ id). (
            splitting v,
            ap (λ (z : ℕ). get_elem? views z) e ∙ here,
            alive,
            subst (λ (u : View). HasTurn k u.held) (some-injective o.0 v (sym o.1 ∙ (ap (λ (z : ℕ). get_elem? s.views z) e ∙ at))) o.3,
          ))
          (λ ne. (o.0, at_longer (set s.views id (splitting v)) (split_off v ∷ []) (r.owner k) o.0 (set_else s.views id (r.owner k) (splitting v) ne ∙ o.1), o.2, o.3));
      live = λ seat u e live. ⊎_elim
          (λ (f : get_elem? (set s.views id (splitting v)) seat ≡ some u). ⊎_elim
          (λ (t : (seat ≡ id) × (splitting v ≡ u)). subst (λ (z : ℕ × View). Live start s.words r.parts r.run all r.owner z.0 z.1) (λ i. (sym t.0 i, t.1 i)) left)
          (λ (t : (seat ≢ id) × (get_elem? s.views seat ≡ some u)). others seat u t.0 t.1 live)
          (at_set s.views id seat (splitting v) u f))
          (λ (t : (seat ≡ length (set s.views id (splitting v))) × (split_off v ≡ u)). subst (λ (z : View). Live start s.words r.parts r.run all r.owner seat z) t.1 (right seat))
          (at_end (set s.views id (splitting v)) (split_off v) u seat e);
      apart = λ seat other u x m e le f lf. apart_by seat other u x m (was seat u e le) (was other x f lf);
      unused = λ m never. r.unused m (λ i. never (inr i));
      first = inr r.first;
      parents = λ k m. ⊎_elim
          (λ (e : n ≡ k ∷ m). inr (subst (λ (z : List ℕ). In z r.all) (ap (λ (z : List ℕ). tail_of z) e) (l.known v.number (inl refl))))
          (λ (j : In (k ∷ m) r.all). inr (r.parents k m j));
    }

  pub splits : (id : ℕ) (v : View) → v.spent ≡ false → Splits Rule id v (splitting v) (split_off v)
  splits id v alive s r at = split_keeps s r id v at alive
