use Rattle.std.proofs.Common.{rules, ◌≡◌, ◌≤◌, ℕ, zero, suc, ◌+◌, ◌<◌, Bool, false, List, [], ◌∷◌, ◌++◌, length, take, get_or, set, sym, ap, ◌∙◌, subst, arith, get_or-set_other, get_or-set_same, length-set}
use mathlib.Core.Logic.{dite}
use mathlib.Core.Option.{some, some-injective, some-ne-none}
use native.Mathlib.Decide.{ℕ_discrete}
use lib.ListN.{get_elem?}
use Rattle.std.proofs.lemmas.List.{take_all}
use Rattle.std.specs.Mem.Slots.{slots_items, slots_filled, slots_len, slots_counts}
use Rattle.std.specs.Mem.Slots.Ownership.{Filled}
use Rattle.turn_board.specs.Spread.{turns_in, at_turns}
use Rattle.turn_board.proofs.Spreading.{at_turns_at, at_turns_length}
use Rattle.turn_board.proofs.slots.all_out.Goals as goal

take_next : {A : Type 0} (l : List A) (i : ℕ) (a : A) → get_elem? l i ≡ some a → take (suc i) l ≡ take i l ++ a ∷ []
take_next [] i a e = absurd (some-ne-none a (sym e))
take_next (x ∷ xs) zero a e = λ j. some-injective x a e j ∷ []
take_next (x ∷ xs) (suc i) a e = λ j. x ∷ take_next xs i a e j

-- two neighbours are emptied
full_beyond : (fs gs hs : List Bool) (i n : ℕ) → gs ≡ set fs i false → hs ≡ set gs (i + 1) false → Filled fs i n → Filled hs (i + 2) n
full_beyond fs gs hs i n one two full k from to =
    ap (λ l. get_or l k false) two ∙ (get_or-set_other gs (i + 1) k false false (λ e. omega (arith, e, from))
    ∙ (ap (λ l. get_or l k false) one ∙ (get_or-set_other fs i k false false (λ e. omega (arith, e, from)) ∙ full k (omega (arith, from)) to)))

empty_below : (fs gs hs : List Bool) (i : ℕ) → gs ≡ set fs i false → hs ≡ set gs (i + 1) false → i + 1 < length fs → ((k : ℕ) → k < i → get_or fs k false ≡ false) → (k : ℕ) → k < i + 2 → get_or hs k false ≡ false
empty_below fs gs hs i one two inside below k to = ap (λ l. get_or l k false) two ∙ dite (ℕ_discrete k (i + 1))
    (λ (e : k ≡ i + 1). ap (λ j. get_or (set gs (i + 1) false) j false) e ∙ get_or-set_same gs (i + 1) false false long)
    (λ ne. get_or-set_other gs (i + 1) k false false ne ∙ (ap (λ l. get_or l k false) one ∙ dite (ℕ_discrete k i)
    (λ (e : k ≡ i). ap (λ j. get_or (set fs i false) j false) e ∙ get_or-set_same fs i false false (omega (arith, inside)))
    (λ other. get_or-set_other fs i k false false other ∙ below k (omega (arith, to, ne, other)))))
  where
    long : i + 1 < length gs
    long = let same : length gs ≡ length fs = ap (λ (l : List Bool). length l) one ∙ length-set fs i false in omega (arith, inside, same)

pub loop-slot-preserved : goal.loop-slot-preserved
loop-slot-preserved g c = let inv = c.loop-slot.invariant in let o = c.take.ensures.others in let p = c.take-between.ensures.others in let i : ℕ = c.loop-slot.slot in let n : ℕ = turns_in i in
    let old = c.loop-slot.closed.slots in let mid = c.take.new.self.slots in let new = c.take-between.new.self.slots in
    let counts = slots_counts old in
    let apart = c.requires.apart in
    let within : i + 1 < slots_len old = omega (arith, apart, inv.3, inv.6) in
    let inside : i + 1 < length (slots_filled old) = omega (arith, within, counts.1) in
    let low : n < turns_in (length (slots_items old)) = omega (arith, within, counts.0) in
    let at : get_elem? (at_turns (slots_items old)) n ≡ some c.take.result = at_turns_at (slots_items old) n low ∙ (ap (λ (j : ℕ). get_elem? (slots_items old) j) (sym inv.6) ∙ c.take.ensures.value) in
    let next : suc n ≡ turns_in (i + 2) = omega (arith, inv.6) in (
      full_beyond (slots_filled old) (slots_filled mid) (slots_filled new) i (slots_len new) o.1 p.1 (subst (λ (m : ℕ). Filled (slots_filled old) i m) (sym (p.2 ∙ o.2)) inv.0),
      empty_below (slots_filled old) (slots_filled mid) (slots_filled new) i o.1 p.1 inside inv.1,
      search rules,
      search rules,
      search rules,
      omega (arith, within, o.2, p.2),
      omega (arith, inv.6),
      c.append.ensures.added ∙ (ap (λ l. l ++ c.take.result ∷ []) inv.7 ∙ (sym (take_next (at_turns (slots_items old)) n c.take.result at)
          ∙ (ap (λ m. take m (at_turns (slots_items old))) next ∙ ap (λ l. take (turns_in (i + 2)) (at_turns l)) (sym (p.0 ∙ o.0))))),
      search rules,
    )

pub returns : goal.returns
returns g c = let inv = c.loop-slot.invariant in let counts = slots_counts c.loop-slot.closed.slots in let done = c.loop-slot-test.false in let count = c.slot_count.ensures in
    let all : length (at_turns (slots_items c.loop-slot.closed.slots)) ≤ turns_in c.loop-slot.slot =
    let long = at_turns_length (slots_items c.loop-slot.closed.slots) in omega (arith, long, counts.0, inv.5, done, count) in
    inv.7 ∙ (take_all (turns_in c.loop-slot.slot) (at_turns (slots_items c.loop-slot.closed.slots)) all ∙ ap (λ l. at_turns l) inv.2)
