-- The first state keeps the rule, and the last one shows what is left.
use Rattle.std.proofs.Common.{◌≡◌, ◌≢◌, ◌⊎◌, inl, inr, ℕ, zero, suc, ◌+◌, ◌-◌, ◌<◌, false, List, [], ◌∷◌, length, get_or, sym, refl, ap, ◌∙◌, subst, ⊎_elim, Option, Some, None, arith, replicate}
use Rattle.std.proofs.lemmas.List.{length-map}
use mathlib.Core.Logic.{dite}
use mathlib.Core.Option.{some, some-injective, some-ne-none}
use native.Mathlib.Decide.{ℕ_discrete}
use lib.ListN.{get_elem?}
use Rattle.atomic_table.specs.Table.{State, Seen, Final, opening}
use Rattle.atomic_table.proofs.Lists.{at_map}
use Rattle.graph_model.specs.declared.graph.Base.{Base}
use Rattle.core_states.specs.Names.{Name}
use Rattle.core_states.specs.Openings.{fresh_actor, MayOpen, IsAllowed}
use Rattle.core_states.specs.Parts.{Parts, actor_of, state_of_parts}
use Rattle.core_kept.specs.Bounds.{Kept}
use Rattle.core_kept.proofs.Keeping.{opening_kept}
use Rattle.core_states.proofs.Names.{cases_name}
use Rattle.turn_board.specs.Views.{Start, Shown, Belongs, View, HasTurn, In, numbers, EachSeen, fresh_view, IsLast}
use Rattle.turn_board.specs.Histories.{Reached, found_by, did, Began}
use Rattle.turn_board.specs.Turns.{word_of, IsOwn}
use Rattle.turn_board.specs.Spread.{slot_of, turns_in, spread, at_turns, IsSpread}
use Rattle.turn_board.specs.Starts.{found_of, found_at, found_in, shards_in}
use Rattle.turn_board.specs.Board.{IsBoard, Live, Shows, Opens, Ends}
use Rattle.turn_board.proofs.Steps.{part_log}
use Rattle.turn_board.proofs.Spreading.{turns_of_slots, spread_length, spread_at, spread_is, at_turns_length, at_turns_at}
use Rattle.turn_board.proofs.Moving.{started}
use Rattle.turn_board.proofs.Named.{actor_none, named}

only : {A : Type 0} (a b : A) (j : ℕ) → get_elem? (a ∷ []) j ≡ some b → (j ≡ 0) × (a ≡ b)
only a b zero e = (refl, some-injective a b e)
only a b (suc j) e = absurd (some-ne-none b (sym e))

less_one : (m n : ℕ) → m ≡ n + 2 → m - 1 ≡ n + 1
less_one m n e = omega (arith, e)

zeros : (n k : ℕ) → ◌≡◌ {A = ℕ} (get_or (replicate n 0) k 0) 0
zeros zero k = refl
zeros (suc n) zero = refl
zeros (suc n) (suc k) = zeros n k

IsNil : List ℕ → Type 0
IsNil [] = Unit {0}
IsNil (x ∷ xs) = ⊥

not_nil : (k : ℕ) (m : List ℕ) → In (k ∷ m) ([] ∷ []) → ⊥
unfolding IsNil
not_nil k m (inl e) = subst (λ (z : List ℕ). IsNil z) e tt
not_nil k m (inr never) = never

same_numbers : (xs ys : List ℕ) → (xs ≡ ys) ⊎ (xs ≢ ys)
same_numbers xs ys = ⊎_elim
    (λ (e : named xs ≡ named ys). inl (ap (λ (n : Name). n.pass) e))
    (λ (ne : named xs ≢ named ys). inr (λ e. ne (ap (λ z. named z) e)))
    (cases_name (named xs) (named ys))

-- a number is among them or not
is_in : (n : List ℕ) (xs : List (List ℕ)) → In n xs ⊎ (In n xs → ⊥)
is_in n [] = inr (λ never. never)
is_in n (x ∷ xs) = ⊎_elim
    (λ (e : x ≡ n). inl (inl e))
    (λ (ne : x ≢ n). ⊎_elim (λ (i : In n xs). inl (inr i)) (λ (never : In n xs → ⊥). inr (⊎_elim (λ (e : x ≡ n). ne e) never)) (is_in n xs))
    (same_numbers x n)

module _ {H : Type 0} (start : Start) (show : H → Shown) where
  abbrev base : Base
  base = start.base

  abbrev St : Type 0
  St = State (Option H) View

  abbrev Rule : St → Type 0
  Rule = IsBoard start show

  module _ (s : St) (r : Rule s) (id : ℕ) (v : View) (at : get_elem? s.views id ≡ some v) (alive : v.spent ≡ false) (last : IsLast v) where
    abbrev l : Live start s.words r.parts r.run r.all r.owner id v
    l = r.live id v at alive

    -- each pass so far is one of those that this one is made of
    all_joined : (n : List ℕ) → In n r.all → In n (numbers v)
    all_joined [] i = last.0
    all_joined (k ∷ m) i = last.1 (k ∷ m) (l.made k m (all_joined m (r.parents k m i)) i)

    none_out : (k : ℕ) → k < length r.parts.shards + 2 → get_or s.words (word_of k) 0 ≡ 0
    none_out k inside = dite (ℕ_discrete (get_or s.words (word_of k) 0) 0) (λ is. is)
        (λ (up : get_or s.words (word_of k) 0 ≢ 0). let o = r.out k inside up in
        let theirs = r.live (r.owner k) o.0 o.1 o.2 in
        let same : r.owner k ≡ id = r.apart (r.owner k) id o.0 v o.0.number o.1 o.2 at alive (inl refl) (all_joined o.0.number (theirs.known o.0.number (inl refl))) in
        let it : o.0 ≡ v = some-injective o.0 v (sym o.1 ∙ (ap (λ (z : ℕ). get_elem? s.views z) same ∙ at)) in
        absurd (subst (λ z. HasTurn k z) last.2 (subst (λ (u : View). HasTurn k u.held) it o.3)))

    -- each actor is as the pass has it
    own_all : (n : Name) → IsOwn n v r.parts r.run
    own_all n = ⊎_elim
        (λ (i : In n.pass (numbers v)). l.own n i)
        (λ (never : In n.pass (numbers v) → ⊥). let u = r.unused n (λ i. never (all_joined n.pass i)) in let q = l.silent n never in (
          subst (λ (b : Base). actor_of b r.parts.actors n ≡ fresh_actor b) (sym l.base_is) u.0 ∙ sym (actor_none v.base n v.actors q.0),
          ap (λ (z : Start). did z n.pass r.run) (started l) ∙ (u.1 ∙ sym q.1),
        ))
        (is_in n.pass (numbers v))

  -- the log's value says what the log part says
  found_is : (at : Start) (parts : Parts) (xs : List (Option H)) → Shows show at parts xs → found_in show xs ≡ found_by parts.log
  found_is at parts xs shows = let h = shows.1 (length parts.shards + 1) (omega arith) in let long = shows.0 in
      ap (λ (z : ℕ). found_at show (get_elem? xs z)) (less_one (length xs) (length parts.shards) long)
      ∙ (ap (λ z. found_at show z) h.1 ∙ ap (λ p. found_of p) (sym h.2 ∙ part_log parts (length parts.shards + 1) (omega arith)))

  pub closes : (ws : List ℕ) (xs : List (Option H)) (id : ℕ) (v : View) → v.spent ≡ false → IsLast v → Final (Seen Rule id v) ws xs → Ends show (at_turns xs) v
  closes ws xs id v alive last end = let s = end.0 in let r = end.1.0 in let at = end.1.1 in let li = r.live id v at alive in
      let many : length r.parts.shards + 2 ≡ turns_in (length xs) = turns_of_slots (length r.parts.shards + 2) (length xs) (sym end.3 ∙ r.deep) in record {
        parts = r.parts;
        run = r.run;
        reached = subst (λ b. Reached b r.parts r.run) (sym li.base_is) r.reached;
        opened = (r.opened.0 ∙ sym li.start_is.0, r.opened.1 ∙ sym li.start_is.1);
        shows = (
          at_turns_length xs ∙ sym many,
          λ k inside. let h = r.at_home k inside (none_out s r id v at alive last k inside) in (
            h.0,
            at_turns_at xs k (subst (λ (n : ℕ). k < n) many inside) ∙ end.4 (slot_of k) (Some h.0) h.1,
            h.2,
            subst (λ (z : Start). Belongs z k (show h.0)) (sym (started li)) h.3,
          ),
        );
        own = own_all s r id v at alive last;
        silent = λ p never. (li.silent (named p) never).1;
        began = subst (λ (z : Start). EachSeen (Began z r.run) v.origins) (sym (started li)) li.began;
        later = li.later;
        later_log = li.later_log;
      }

  -- the slots between those of turns are still empty
  pub spread_still : (ws : List ℕ) (xs : List (Option H)) (id : ℕ) (v : View) → Final (Seen Rule id v) ws xs → IsSpread xs
  spread_still ws xs id v end i inside between = end.4 i None (end.1.0.between i (subst (λ (n : ℕ). i < n) (sym end.3) inside) between)

  pub opens : (n : ℕ) (ws : List ℕ) (xs : List (Option H)) → ws ≡ replicate n 0 → length ws ≡ word_of (length xs) → Opens base start.limits show xs → found_in show xs ≡ start.found → shards_in xs ≡ start.shards → Rule (opening ws (spread xs) (fresh_view start [] [] []))
  opens n ws xs zero_words many ok found shards = record {
    parts = ok.parts;
    run = [];
    all = [] ∷ [];
    owner = λ _. 0;
    reached = record {
      may = subst (λ most. MayOpen base most) (sym ok.limits) ok.may;
      allowed = subst (λ most. IsAllowed most) (sym ok.limits) ok.allowed;
      some = ok.some;
      kept = subst (λ most. Kept base most (state_of_parts base ok.parts)) (sym ok.limits)
          (subst (λ z. Kept base start.limits z) (sym ok.is) (opening_kept base (found_by ok.parts.log) start.limits ok.may));
      is = ok.is;
      answers = tt;
    };
    opened = (ok.limits, sym (found_is first ok.parts xs ok.shows) ∙ found);
    wide = many ∙ ap (λ z. word_of z) ok.shows.0;
    deep = length-map (spread xs) some ∙ (spread_length xs ∙ ap (λ n. slot_of n) ok.shows.0);
    at_home = λ k inside _. let h = ok.shows.1 k inside in (
      h.0,
      at_map some (spread xs) (slot_of k) (Some h.0) (spread_at xs k ∙ h.1),
      h.2,
      subst (λ (z : Start). Belongs z k (show h.0)) is_first h.3,
    );
    between = λ i inside between. at_map some (spread xs) i None (spread_is xs i (subst (λ (m : ℕ). i < m) (length-map (spread xs) some) inside) between);
    out = λ k inside up. absurd (up (ap (λ (z : List ℕ). get_or z (word_of k) 0) zero_words ∙ zeros n (word_of k)));
    live = λ seat u e live. let t = only (fresh_view start [] [] []) u seat e in subst (λ (z : ℕ × View). Live start ws ok.parts [] ([] ∷ []) (λ _. 0) z.0 z.1) (λ i. (sym t.0 i, t.1 i)) mine;
    apart = λ seat other u x m e le f lf i j. (only (fresh_view start [] [] []) u seat e).0 ∙ sym (only (fresh_view start [] [] []) x other f).0;
    unused = λ m never. (fresh m, refl);
    first = inl refl;
    parents = λ k m j. absurd (not_nil k m j);
  }
    where
      shards_are : (a b : ℕ) → b ≡ a + 2 → a ≡ b - 2
      shards_are a b e = omega (arith, e)

      first : Start
      first = record { base = base; limits = start.limits; found = found_by ok.parts.log; shards = length ok.parts.shards }

      is_first : first ≡ start
      is_first = λ i. record { base = base; limits = start.limits; found = (sym (found_is first ok.parts xs ok.shows) ∙ found) i; shards = (shards_are (length ok.parts.shards) (length xs) ok.shows.0 ∙ shards) i }

      fresh : (m : Name) → actor_of base ok.parts.actors m ≡ fresh_actor base
      fresh m = ap (λ actors. actor_of base actors m) ok.idle

      mine : Live start ws ok.parts [] ([] ∷ []) (λ _. 0) 0 (fresh_view start [] [] [])
      mine = record {
        base_is = refl;
        start_is = (refl, refl, refl);
        held = tt;
        distinct = tt;
        known = λ m i. i;
        own = λ m i. (fresh m, refl);
        silent = λ m i. (refl, refl);
        later = tt;
        later_log = tt;
        made = λ k m i j. absurd (not_nil k m j);
        count = λ k j. absurd (not_nil k [] j);
        began = tt;
      }
