-- Lists of turns that are held, of numbers of passes, and of what was seen.
use Rattle.std.proofs.Common.{◌≡◌, ℕ, zero, suc, ◌<◌, ◌⊎◌, inl, inr, List, [], ◌∷◌, ◌++◌, length, sym, subst, ⊎_elim, arith, refl, ap, ◌∙◌, Option, None}
use mathlib.Core.Option.{some, some-ne-none}
use lib.ListN.{get_elem?}
use Rattle.core_states.specs.Parts.{Part}
use Rattle.graph_model.specs.declared.graph.Base.{Base}
use Rattle.turn_board.specs.Views.{Done, Held, View, In, EachHeld, EachSeen, HasTurn, behind}
use Rattle.turn_board.specs.Works.{Work, held_turns, holding, move_on, moved, after_events, work_of, giving}
use Rattle.turn_board.specs.Spread.{slot_of}
use Rattle.turn_board.specs.Board.{slots_of}

pub each_map : (F G : ℕ → Part → Type 0) → ((k : ℕ) (p : Part) → F k p → G k p) → (hs : List Held) → EachHeld F hs → EachHeld G hs
each_map F G f [] e = tt
each_map F G f (h ∷ hs) e = (f h.turn h.part e.0, each_map F G f hs e.1)

-- both facts of each
pub each_both : (F G : ℕ → Part → Type 0) (hs : List Held) → EachHeld F hs → EachHeld G hs → EachHeld (λ k p. F k p × G k p) hs
each_both F G [] e d = tt
each_both F G (h ∷ hs) e d = ((e.0, d.0), each_both F G hs e.1 d.1)

-- a turn that is held has what each of them has
pub turn_has : (F : ℕ → Type 0) (k : ℕ) (hs : List Held) → HasTurn k hs → EachHeld (λ j p. F j) hs → F k
turn_has F k [] h e = absurd h
turn_has F k (h ∷ hs) (inl is) e = subst F is e.0
turn_has F k (h ∷ hs) (inr has) e = turn_has F k hs has e.1

pub seen_map : {A : Type 0} (F G : A → Type 0) → ((k : A) → F k → G k) → (ks : List A) → EachSeen F ks → EachSeen G ks
seen_map F G f [] e = tt
seen_map F G f (k ∷ ks) e = (f k e.0, seen_map F G f ks e.1)

pub seen_both : {A : Type 0} (F : A → Type 0) (xs ys : List A) → EachSeen F xs → EachSeen F ys → EachSeen F (xs ++ ys)
seen_both F [] ys d e = e
seen_both F (x ∷ xs) ys d e = (d.0, seen_both F xs ys d.1 e)

pub in_append : (n : List ℕ) (xs ys : List (List ℕ)) → In n (xs ++ ys) → In n xs ⊎ In n ys
in_append n [] ys h = inr h
in_append n (x ∷ xs) ys (inl e) = inl (inl e)
in_append n (x ∷ xs) ys (inr h) = ⊎_elim (λ i. inl (inr i)) (λ i. inr i) (in_append n xs ys h)

pub in_left : (n : List ℕ) (xs ys : List (List ℕ)) → In n xs → In n (xs ++ ys)
in_left n [] ys h = absurd h
in_left n (x ∷ xs) ys (inl e) = inl e
in_left n (x ∷ xs) ys (inr h) = inr (in_left n xs ys h)

pub in_right : (n : List ℕ) (xs ys : List (List ℕ)) → In n ys → In n (xs ++ ys)
in_right n [] ys h = h
in_right n (x ∷ xs) ys h = inr (in_right n xs ys h)

pub inside_of : {A : Type 0} (l : List A) (k : ℕ) (a : A) → get_elem? l k ≡ some a → k < length l
inside_of [] k a e = absurd (some-ne-none a (sym e))
inside_of (x ∷ xs) zero a e = omega arith
inside_of (x ∷ xs) (suc k) a e = let less = inside_of xs k a e in omega arith

-- events leave the turns that are held, whatever they leave of the parts
turns_held : (ps : List Part) (hs : List Held) → held_turns (holding ps hs) ≡ held_turns hs
turns_held [] hs = refl
turns_held (p ∷ []) [] = refl
turns_held (p ∷ []) (h ∷ []) = refl
turns_held (p ∷ []) (h ∷ g ∷ hs) = refl
turns_held (p ∷ q ∷ []) [] = refl
turns_held (p ∷ q ∷ []) (h ∷ []) = refl
turns_held (p ∷ q ∷ []) (h ∷ g ∷ []) = refl
turns_held (p ∷ q ∷ []) (h ∷ g ∷ i ∷ hs) = refl
turns_held (p ∷ q ∷ r ∷ ps) hs = refl

turns_after : (base : Base) (w : Work) (es : List Done) → held_turns (after_events base w es).held ≡ held_turns w.held
turns_after base w [] = refl
turns_after base w (e ∷ es) = turns_after base (moved e.by (move_on base w e) w) es ∙ turns_held (move_on base w e).parts w.held

abbrev slots_at : {H : Type 0} → List ℕ → List (ℕ × Option H)
slots_at [] = []
slots_at (k ∷ ks) = (slot_of k, None) ∷ slots_at ks

abbrev rest_of : List ℕ → List ℕ
rest_of [] = []
rest_of (k ∷ ks) = ks

slots_by : {H : Type 0} (hs : List Held) → ◌≡◌ {A = List (ℕ × Option H)} (slots_of hs) (slots_at (held_turns hs))
slots_by [] = refl
slots_by (h ∷ hs) = λ i. (slot_of h.turn, None) ∷ slots_by hs i

behind_by : (hs : List Held) → held_turns (behind hs) ≡ rest_of (held_turns hs)
behind_by [] = refl
behind_by (h ∷ hs) = refl

-- the slots of the turns that a pass holds after a give
pub slots_given : {H : Type 0} (es : List Done) (v : View) (k : ℕ) (p : Part) (os : List Held) → v.held ≡ record { turn = k; part = p } ∷ os
    → ◌≡◌ {A = List (ℕ × Option H)} (slots_of os) (slots_of (giving es v).held)
slots_given es v k p os front = slots_by os ∙ (ap (λ z. slots_at z) (sym turns) ∙ sym (slots_by (giving es v).held))
  where
    turns : held_turns (behind (after_events v.base (work_of v) es).held) ≡ held_turns os
    turns = behind_by (after_events v.base (work_of v) es).held ∙ ap (λ z. rest_of z) (turns_after v.base (work_of v) es ∙ ap (λ z. held_turns z) front)
