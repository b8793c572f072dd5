-- Taking a turn keeps the rule, and so does finding it taken.
use Rattle.std.proofs.Common.{◌≡◌, ◌≢◌, inl, inr, ℕ, ◌+◌, ◌<◌, false, Bool, eqb, List, [], ◌∷◌, length, get_or, set, sym, refl, ap, ◌∙◌, subst, arith, length-set, IfSome, get_or-set_other, get_or-set_same, eq-eqb, ne_eqb, Option, Some, None}
use mathlib.Core.Logic.{dite}
use mathlib.Core.Option.{none, some, some-injective}
use native.Mathlib.Decide.{ℕ_discrete}
use lib.ListN.{get_elem?}
use lib.Seq.{set-get_or}
use prog.Atomic.{either}
use Rattle.atomic_table.specs.Table.{State, Step, rest, step, Act, keeps, takes, stepped, Allows}
use Rattle.atomic_table.proofs.Lists.{set_else, set_again}
use Rattle.graph_model.specs.declared.graph.Base.{Base}
use Rattle.core_states.specs.Parts.{Part, Parts}
use Rattle.turn_board.specs.Views.{Start, Shown, Belongs, View, start_of, taking, finding_busy}
use Rattle.turn_board.specs.Turns.{turn_part, word_of, Told, IsNewest}
use Rattle.turn_board.specs.Spread.{slot_of, turns_in}
use Rattle.turn_board.specs.Board.{IsBoard, Knows, takes_turn, tries_turn, TakesAt, shows_base, slots_of}
use Rattle.turn_board.proofs.HeldLists.{each_map}
use Rattle.turn_board.proofs.Named.{noted_busy}
use Rattle.core_laws.proofs.Orders.{later_self, log_self}
use Rattle.turn_board.proofs.Newest.{told_newest}
use Rattle.turn_board.proofs.Spreading.{same_slot, turns_of_slots}
use Rattle.turn_board.proofs.Moving.{stays, started, EmptyBetween}

abbrev pub head_slot : {H : Type 0} → List (ℕ × Option H) → Option H
head_slot [] = None
head_slot (x ∷ xs) = x.1

same_word : (j k : ℕ) → j ≢ k → word_of j ≢ word_of k
same_word j k ne e = ne (omega arith)

pub same_turn : (j k : ℕ) → word_of j ≡ word_of k → j ≡ k
same_turn j k e = omega arith

module _ {H : Type 0} (start : Start) (show : H → Shown) where
  abbrev base : Base
  base = start.base

  abbrev St : Type 0
  St = State (Option H) View

  abbrev Rule : St → Type 0
  Rule = IsBoard start show

  abbrev Facts : (ℕ → ℕ) → Parts → List ℕ → ℕ → ℕ → Part → Type 0
  Facts owner parts ws seat k p = (owner k ≡ seat) × (turn_part parts k ≡ p) × (get_or ws (word_of k) 0 ≢ 0)

  abbrev owned_by : (ℕ → ℕ) → ℕ → ℕ → ℕ → ℕ
  owned_by owner k id j = either (eqb j k) id (owner j)

  -- a step that changes neither words nor homes
  unmoved : (s : St) (i id : ℕ) (c : List (ℕ × Option H)) (w : View) → Rule record { words = s.words; homes = s.homes; views = set s.views id w } → Rule (stepped s i (get_or s.words i 0) id c w keeps)
  unmoved s i id c w r = subst (λ (ws : List ℕ). Rule record { words = ws; homes = s.homes; views = set s.views id w }) (sym (set-get_or s.words i 0)) r

  busy : (s : St) (r : Rule s) (k id : ℕ) (v : View) → get_elem? s.views id ≡ some v → v.spent ≡ false → Rule record { words = s.words; homes = s.homes; views = set s.views id (finding_busy k v) }
  busy s r k id v at alive = let l = r.live id v at alive in
      stays start show s r id v (finding_busy k v) at alive alive refl s.words s.homes r.parts r.run r.owner
      r.reached refl r.wide r.deep r.at_home r.between
      (λ j inside up. inr (inside, up, refl, λ h. h))
      (λ seat j p ne f. f)
      (λ n never. (refl, refl))
      []
      refl
      (later_self r.parts.clock)
      (log_self r.parts.log)
      record {
        base_is = l.base_is;
        start_is = l.start_is;
        held = l.held;
        distinct = l.distinct;
        known = l.known;
        own = λ n i. let o = l.own n i in (o.0, o.1 ∙ sym (noted_busy n.pass v.events k));
        silent = λ n never. let o = l.silent n never in (o.0, noted_busy n.pass v.events k ∙ o.1);
        later = l.later;
        later_log = l.later_log;
        made = l.made;
        count = l.count;
        began = l.began;
      }

  same_view : (s : St) (r : Rule s) (id : ℕ) (v : View) → get_elem? s.views id ≡ some v → Rule record { words = s.words; homes = s.homes; views = set s.views id v }
  same_view s r id v at = subst (λ (vs : List View). Rule record { words = s.words; homes = s.homes; views = vs }) (sym (set_again s.views id v at)) r

  -- a turn other than the one that changed is as it was
  elsewhere : (s : St) (r : Rule s) (k n : ℕ) (h : mathlib.Core.Option.Option (Option H)) (j : ℕ) → j ≢ k → j < length r.parts.shards + 2 → get_or (set s.words (word_of k) n) (word_of j) 0 ≡ 0
      → (x : H) × (get_elem? (set s.homes (slot_of k) h) (slot_of j) ≡ some (some (Some x))) × (turn_part r.parts j ≡ (show x).part) × Belongs start j (show x)
  elsewhere s r k n h j other inside is =
      let found = r.at_home j inside (sym (get_or-set_other s.words (word_of k) (word_of j) n 0 (same_word j k other)) ∙ is) in
      (found.0, set_else s.homes (slot_of k) (slot_of j) h (same_slot j k other) ∙ found.1, found.2, found.3)

  -- and the slots between are empty, whatever is put into the slot of a turn
  pub still_empty : (s : St) (r : Rule s) (k : ℕ) (h : mathlib.Core.Option.Option (Option H)) → EmptyBetween start show (set s.homes (slot_of k) h)
  still_empty s r k h i inside between = set_else s.homes (slot_of k) i h (between k) ∙ r.between i (subst (λ (n : ℕ). i < n) (length-set s.homes (slot_of k) h) inside) between

  leaves_home : (s : St) (r : Rule s) (k n id : ℕ) (me : Knows H) (x : H) → n ≢ 0 → get_elem? s.views id ≡ some me.0 → me.0.spent ≡ false → k < length r.parts.shards + 2 → get_or s.words (word_of k) 0 ≡ 0 → turn_part r.parts k ≡ (show x).part
      → Rule (stepped s (word_of k) n id me.1 (taking k (show x).part me.0) (takes (slot_of k) (Some x)))
  leaves_home s r k n id me x some_number at alive inside home is =
      let v : View = me.0 in let w : View = taking k (show x).part v in let l = r.live id v at alive in
      let wide = r.wide in let put : get_or (set s.words (word_of k) n) (word_of k) 0 ≡ n = get_or-set_same s.words (word_of k) n 0 (omega arith) in
      let far : (j : ℕ) → get_or s.words (word_of j) 0 ≢ 0 → j ≢ k = λ j up same. up (ap (λ (z : ℕ). get_or s.words (word_of z) 0) same ∙ home) in
      let mine : owned_by r.owner k id k ≡ id = ap (λ (b : Bool). either b id (r.owner k)) (eq-eqb k k refl) in
      let theirs : (j : ℕ) → j ≢ k → owned_by r.owner k id j ≡ r.owner j = λ j ne. ap (λ (b : Bool). either b id (r.owner j)) (ne_eqb j k ne) in
      let remains : (seat j : ℕ) (p : Part) → Facts r.owner r.parts s.words seat j p → Facts (owned_by r.owner k id) r.parts (set s.words (word_of k) n) seat j p = λ seat j p t.
      (theirs j (far j t.2) ∙ t.0, t.1, λ z. t.2 (sym (get_or-set_other s.words (word_of k) (word_of j) n 0 (same_word j k (far j t.2))) ∙ z)) in
      stays start show s r id v w at alive alive refl
      (set s.words (word_of k) n) (set s.homes (slot_of k) none) r.parts r.run (owned_by r.owner k id)
      r.reached refl (length-set s.words (word_of k) n ∙ r.wide) (length-set s.homes (slot_of k) none ∙ r.deep)
      (λ j l z. elsewhere s r k n none j (λ (e : j ≡ k). some_number (sym put ∙ (sym (ap (λ (i : ℕ). get_or (set s.words (word_of k) n) (word_of i) 0) e) ∙ z))) l z)
      (still_empty s r k none)
      (λ j inner up. dite (ℕ_discrete j k)
      (λ (e : j ≡ k). inl (ap (λ (z : ℕ). owned_by r.owner k id z) e ∙ mine, inl (sym e)))
      (λ ne. inr (inner, (λ z. up (get_or-set_other s.words (word_of k) (word_of j) n 0 (same_word j k ne) ∙ z)), theirs j ne, λ h. inr h)))
      (λ seat j p ne f. remains seat j p f)
      (λ n never. (refl, refl))
      []
      refl
      (later_self r.parts.clock)
      (log_self r.parts.log)
      record {
        base_is = l.base_is;
        start_is = l.start_is;
        held = ((mine, is, λ z. some_number (sym put ∙ z)), each_map (Facts r.owner r.parts s.words id) (Facts (owned_by r.owner k id) r.parts (set s.words (word_of k) n) id) (remains id) v.held l.held);
        distinct = (each_map (Facts r.owner r.parts s.words id) (λ j _. j ≢ k) (λ j p t. far j t.2) v.held l.held, l.distinct);
        known = l.known;
        own = l.own;
        silent = l.silent;
        later = l.later;
        later_log = l.later_log;
        made = l.made;
        count = l.count;
        began = l.began;
      }

  -- what the one who takes is told
  tells_of : (s : St) (r : Rule s) (k slots id : ℕ) (v : View) (x : H) → get_elem? s.views id ≡ some v → v.spent ≡ false → length s.homes ≡ slots → turn_part r.parts k ≡ (show x).part → Told (turns_in slots) (taking k (show x).part v)
  tells_of s r k slots id v x at alive deep is = let l = r.live id v at alive in record {
    parts = r.parts;
    run = r.run;
    reached = subst (λ b. Rattle.turn_board.specs.Histories.Reached b r.parts r.run) (sym l.base_is) r.reached;
    opened = (r.opened.0 ∙ sym l.start_is.0, r.opened.1 ∙ sym l.start_is.1);
    turns_are = turns_of_slots (length r.parts.shards + 2) slots (sym deep ∙ r.deep);
    held = (is, each_map (Facts r.owner r.parts s.words id) (λ j p. turn_part r.parts j ≡ p) (λ j p t. t.1) v.held l.held);
    own = l.own;
    later = l.later;
    later_log = l.later_log;
  }

  pub takes_at : (s : St) (r : Rule s) (k slots id : ℕ) (me : Knows H) (x : H) (st : Step (Option H)) → st.slots ≡ slots → st.word ≡ word_of k → get_elem? s.views id ≡ some me.0 → me.0.spent ≡ false → length s.homes ≡ slots → turn_part r.parts k ≡ (show x).part → Belongs start k (show x)
      → TakesAt show x st me (taking k (show x).part me.0, (slot_of k, Some x) ∷ me.1)
  takes_at s r k slots id me x st slots_are word at alive deep is belongs j other =
      let same : k ≡ j = same_turn k j (sym word ∙ other) in let l = r.live id me.0 at alive in (
        (λ i. (taking (same i) (show x).part me.0, (slot_of (same i), Some x) ∷ me.1)),
        subst (λ (z : ℕ × ℕ). Told (turns_in z.0) (taking z.1 (show x).part me.0)) (λ i. (sym slots_are i, same i)) (tells_of s r k slots id me.0 x at alive deep is),
        subst (λ (z : Start × ℕ). Belongs z.0 z.1 (show x)) (λ i. (sym (started l) i, same i)) belongs,
      )

  pub tries : (slots id k i : ℕ) (me : Knows H) → i ≡ word_of k → me.0.spent ≡ false → k < turns_in slots
      → Allows Rule slots id me i (λ n. either (eqb n 0) 1 n) (tries_turn show (step slots i 0 1 none) me)
  tries slots id k i me word alive inside = subst (λ (i' : ℕ). Allows Rule slots id me i' (λ n. either (eqb n 0) 1 n) (tries_turn show (step slots i' 0 1 none) me)) (sym word) allowed
    where
      st : Step (Option H)
      st = step slots (word_of k) 0 1 none

      allowed : Allows Rule slots id me (word_of k) (λ n. either (eqb n 0) 1 n) (tries_turn show (step slots (word_of k) 0 1 none) me)
      allowed s r deep at _ = let x : ℕ = get_or s.words (word_of k) 0 in let deep' = r.deep in dite (ℕ_discrete x 0)
          (λ hit. let within : k < length r.parts.shards + 2 = omega arith in let h = r.at_home k within hit in let a : Act (Option H) = takes (slot_of k) (Some h.0) in let w : View = taking k (show h.0).part me.0 in (
            w,
            a,
            h.1,
            subst (λ b. Rule (stepped s (word_of k) (either b 1 x) id me.1 w a)) (sym (eq-eqb x 0 hit)) (leaves_home s r k 1 id me h.0 (λ e. omega arith) at alive within hit h.2),
            ((λ _. (h.0, takes_at s r k slots id me h.0 (step slots (word_of k) 0 1 none) refl refl at alive deep h.2 h.3)), λ not. absurd (not hit)),
          ))
          (λ miss. (
            finding_busy k me.0,
            keeps,
            tt,
            subst (λ b. Rule (stepped s (word_of k) (either b 1 x) id me.1 (finding_busy k me.0) keeps)) (sym (ne_eqb x 0 miss)) (unmoved s (word_of k) id me.1 (finding_busy k me.0) (busy s r k id me.0 at alive)),
            ((λ hit. absurd (miss hit)), λ _ j other. λ i. (finding_busy (same_turn k j other i) me.0, me.1)),
          ))

  -- a pass that looks at a word is as it was, and its base is the board's
  pub looks : (slots id : ℕ) (its : Base) (me : Knows H) → its ≡ base → me.0.spent ≡ false → Allows Rule slots id me 0 (λ n. n) (shows_base its (step slots 0 0 0 none) me)
  looks slots id its me is alive s r deep at _ = (
    me.0,
    keeps,
    tt,
    unmoved s 0 id me.1 me.0 (same_view s r id me.0 at),
    (refl, (r.live id me.0 at alive).base_is ∙ sym is),
  )

  -- a word that is not 0 becomes another that is not
  marked : (s : St) (r : Rule s) (k n id : ℕ) (me : Knows H) → n ≢ 0 → get_elem? s.views id ≡ some me.0 → me.0.spent ≡ false → k < length r.parts.shards + 2 → get_or s.words (word_of k) 0 ≢ 0 → Rule (stepped s (word_of k) n id me.1 me.0 keeps)
  marked s r k n id me some_number at alive inside out = let v : View = me.0 in let l = r.live id v at alive in
      let wide = r.wide in let put : get_or (set s.words (word_of k) n) (word_of k) 0 ≡ n = get_or-set_same s.words (word_of k) n 0 (omega arith) in
      let up : (j : ℕ) → get_or s.words (word_of j) 0 ≢ 0 → get_or (set s.words (word_of k) n) (word_of j) 0 ≢ 0 = λ j up. dite (ℕ_discrete j k)
      (λ (e : j ≡ k) z. some_number (sym put ∙ (sym (ap (λ (i : ℕ). get_or (set s.words (word_of k) n) (word_of i) 0) e) ∙ z)))
      (λ ne z. up (sym (get_or-set_other s.words (word_of k) (word_of j) n 0 (same_word j k ne)) ∙ z)) in
      stays start show s r id v v at alive alive refl
      (set s.words (word_of k) n) s.homes r.parts r.run r.owner
      r.reached refl (length-set s.words (word_of k) n ∙ r.wide) r.deep
      (λ j l z. dite (ℕ_discrete j k)
      (λ (e : j ≡ k). absurd (some_number (sym put ∙ (sym (ap (λ (i : ℕ). get_or (set s.words (word_of k) n) (word_of i) 0) e) ∙ z))))
      (λ ne. r.at_home j l (sym (get_or-set_other s.words (word_of k) (word_of j) n 0 (same_word j k ne)) ∙ z)))
      r.between
      (λ j inner up. dite (ℕ_discrete j k)
      (λ (e : j ≡ k). inr (inner, (λ z. out (sym (ap (λ (i : ℕ). get_or s.words (word_of i) 0) e) ∙ z)), refl, λ h. h))
      (λ ne. inr (inner, (λ z. up (get_or-set_other s.words (word_of k) (word_of j) n 0 (same_word j k ne) ∙ z)), refl, λ h. h)))
      (λ seat j p ne f. (f.0, f.1, up j f.2))
      (λ n never. (refl, refl))
      []
      refl
      (later_self r.parts.clock)
      (log_self r.parts.log)
      record {
        base_is = l.base_is;
        start_is = l.start_is;
        held = each_map (Facts r.owner r.parts s.words id) (Facts r.owner r.parts (set s.words (word_of k) n) id) (λ j p f. (f.0, f.1, up j f.2)) v.held l.held;
        distinct = l.distinct;
        known = l.known;
        own = l.own;
        silent = l.silent;
        later = l.later;
        later_log = l.later_log;
        made = l.made;
        count = l.count;
        began = l.began;
      }

  pub takes_or_marks : (slots id k i : ℕ) (me : Knows H) → i ≡ word_of k → me.0.spent ≡ false → k < turns_in slots
      → Allows Rule slots id me i (λ _. 2) (takes_turn show (step slots i 2 0 none) me)
  takes_or_marks slots id k i me word alive inside = subst (λ (i' : ℕ). Allows Rule slots id me i' (λ _. 2) (takes_turn show (step slots i' 2 0 none) me)) (sym word) allowed
    where
      allowed : Allows Rule slots id me (word_of k) (λ _. 2) (takes_turn show (step slots (word_of k) 2 0 none) me)
      allowed s r deep at _ = let deep' = r.deep in let within : k < length r.parts.shards + 2 = omega arith in dite (ℕ_discrete (get_or s.words (word_of k) 0) 0)
          (λ hit. let h = r.at_home k within hit in (
            taking k (show h.0).part me.0,
            takes (slot_of k) (Some h.0),
            h.1,
            leaves_home s r k 2 id me h.0 (λ e. omega arith) at alive within hit h.2,
            ((λ _. (h.0, takes_at s r k slots id me h.0 (step slots (word_of k) 2 0 none) refl refl at alive deep h.2 h.3)), λ not. absurd (not hit)),
          ))
          (λ miss. (me.0, keeps, tt, marked s r k 2 id me (λ e. omega arith) at alive within miss, ((λ hit. absurd (miss hit)), λ _. refl)))

  pub takes_quietly : (slots id k i : ℕ) (me : Knows H) → i ≡ word_of k → me.0.spent ≡ false → k < turns_in slots
      → Allows Rule slots id me i (λ n. either (eqb n 0) 1 n) (takes_turn show (step slots i 0 1 none) me)
  takes_quietly slots id k i me word alive inside = subst (λ (i' : ℕ). Allows Rule slots id me i' (λ n. either (eqb n 0) 1 n) (takes_turn show (step slots i' 0 1 none) me)) (sym word) allowed
    where
      allowed : Allows Rule slots id me (word_of k) (λ n. either (eqb n 0) 1 n) (takes_turn show (step slots (word_of k) 0 1 none) me)
      allowed s r deep at _ = let x : ℕ = get_or s.words (word_of k) 0 in let deep' = r.deep in dite (ℕ_discrete x 0)
          (λ hit. let within : k < length r.parts.shards + 2 = omega arith in let h = r.at_home k within hit in let a : Act (Option H) = takes (slot_of k) (Some h.0) in let w : View = taking k (show h.0).part me.0 in (
            w,
            a,
            h.1,
            subst (λ b. Rule (stepped s (word_of k) (either b 1 x) id me.1 w a)) (sym (eq-eqb x 0 hit)) (leaves_home s r k 1 id me h.0 (λ e. omega arith) at alive within hit h.2),
            ((λ _. (h.0, takes_at s r k slots id me h.0 (step slots (word_of k) 0 1 none) refl refl at alive deep h.2 h.3)), λ not. absurd (not hit)),
          ))
          (λ miss. (
            me.0,
            keeps,
            tt,
            subst (λ b. Rule (stepped s (word_of k) (either b 1 x) id me.1 me.0 keeps)) (sym (ne_eqb x 0 miss)) (unmoved s (word_of k) id me.1 me.0 (same_view s r id me.0 at)),
            ((λ hit. absurd (miss hit)), λ _. refl),
          ))

  -- the value is out of its slot
  pub taken_out : (k i slots : ℕ) (m m1 m2 : Knows H) (o : Option H) (st : Step (Option H)) (x : H) → st.word ≡ word_of k → i ≡ slot_of k → st.slots ≡ slots
      → TakesAt show x st m m1 → m.1 ≡ slots_of m.0.held → m1.1 ≡ (i, o) ∷ rest m1.1 → ◌≡◌ {A = Knows H} m2 (m1.0, (i, None) ∷ rest m1.1)
      → IfSome o (λ y. ◌≡◌ {A = Knows H} m2 (taking k (show y).part m.0, (slot_of k, None) ∷ slots_of m.0.held) × Told (turns_in slots) m2.0 × IsNewest (show y).part m.0 × Belongs (start_of m.0) k (show y))
  taken_out k i slots m m1 m2 o st x word_is slot_is slots_are t held front out =
      let u = t k word_is in
      let is : o ≡ Some x = sym (ap (λ z. head_slot z) front) ∙ ap (λ (z : Knows H). head_slot z.1) u.0 in
      let me : ◌≡◌ {A = Knows H} m2 (taking k (show x).part m.0, (slot_of k, None) ∷ slots_of m.0.held) =
      out ∙ ap (λ (z : Knows H). (z.0, (i, None) ∷ rest z.1)) u.0 ∙ (λ j. (taking k (show x).part m.0, (slot_is j, None) ∷ held j)) in
      let told : Told (turns_in slots) (taking k (show x).part m.0) = subst (λ (z : ℕ). Told (turns_in z) (taking k (show x).part m.0)) slots_are u.1 in
      subst (λ (z : Option H). IfSome z (λ y. ◌≡◌ {A = Knows H} m2 (taking k (show y).part m.0, (slot_of k, None) ∷ slots_of m.0.held) × Told (turns_in slots) m2.0 × IsNewest (show y).part m.0 × Belongs (start_of m.0) k (show y))) (sym is)
      (me, subst (λ (z : Knows H). Told (turns_in slots) z.0) (sym me) told, told_newest (turns_in slots) k (show x).part m.0 told, u.2)

  pub not_none : (k i : ℕ) (m m1 : Knows H) (o : Option H) (st : Step (Option H)) (x : H) → st.word ≡ word_of k → TakesAt show x st m m1 → m1.1 ≡ (i, o) ∷ rest m1.1 → o ≡ None → ⊥
  not_none k i m m1 o st x word_is t front nothing =
      let u = t k word_is in
      let is : Some x ≡ None = sym (ap (λ (z : Knows H). head_slot z.1) u.0) ∙ (ap (λ z. head_slot z) front ∙ nothing) in (cc)

-- the turn and its word are within the table
pub low_turn : (k a b : ℕ) → k < a → a ≡ b → k < b
low_turn k a b low e = omega (arith, low, e)

pub low_word : (i k slots words : ℕ) → i ≡ word_of k → words ≡ word_of slots → k < slots → i < words
low_word i k slots words word spaced low = omega (arith, word, spaced, low)

pub first_word : (slots words : ℕ) → words ≡ word_of slots → 0 < slots → 0 < words
first_word slots words spaced low = omega (arith, spaced, low)
