-- Passes that were split come back together.
use Rattle.std.proofs.Common.{◌≡◌, inl, inr, List, [], ◌∷◌, ⊎_elim, refl, ℕ, sym, subst}
use Rattle.turn_board.specs.Views.{Start, View, In, numbers, fresh_view, IsLast, next_number, splitting, split_off, joining}
use Rattle.turn_board.proofs.HeldLists.{in_append, in_left, in_right}
use Rattle.board_trials.specs.Passes.{CameBack}

in_both_first : (a b : View) (n : List ℕ) → In n (numbers a) → In n (numbers (joining a b))
in_both_first a b n (inl e) = inl e
in_both_first a b n (inr h) = inr (in_left n a.joined (numbers b) h)

in_both_second : (a b : View) (n : List ℕ) → In n (numbers b) → In n (numbers (joining a b))
in_both_second a b n h = inr (in_right n a.joined (numbers b) h)

pub back_together : (v a b : View) → CameBack (splitting v) a → CameBack (split_off v) b → CameBack v (joining a b)
back_together v a b left right = record {
  kept = λ n i. in_both_first a b n (left.kept n i);
  made = λ n i. ⊎_elim
      (λ (h : In n a.made). ⊎_elim
      (λ (j : In n (splitting v).made). ⊎_elim
      (λ (k : In n v.made). inl k)
      (λ (k : In n (next_number v ∷ [])). inr (in_both_second a b n (right.kept n k)))
      (in_append n v.made (next_number v ∷ []) j))
      (λ (j : In n (numbers a)). inr (in_both_first a b n j))
      (left.made n h))
      (λ (h : In n b.made). ⊎_elim
      (λ (never : ⊥). absurd never)
      (λ (j : In n (numbers b)). inr (in_both_second a b n j))
      (right.made n h))
      (in_append n a.made b.made i);
}

-- the same, of passes that are known to be such
pub came_back : (v v1 w a b z : View) → v1 ≡ splitting v → w ≡ split_off v → CameBack v1 a → CameBack w b → z ≡ joining a b → CameBack v z
came_back v v1 w a b z was is left right both = subst (λ (u : View). CameBack v u) (sym both)
    (back_together v a b (subst (λ (u : View). CameBack u a) was left) (subst (λ (u : View). CameBack u b) is right))

-- once all have come back to the first pass, it is the last
pub is_last : (start : Start) (v w : View) → v ≡ fresh_view start [] [] [] → CameBack v w → w.held ≡ [] → IsLast w
is_last start v w was back free = (
  back.kept [] (subst (λ (u : View). In [] (numbers u)) (sym was) (inl refl)),
  (λ n i. ⊎_elim (λ (h : In n v.made). absurd (subst (λ (u : View). In n u.made) was h)) (λ (h : In n (numbers w)). h) (back.made n i)),
  free,
)
