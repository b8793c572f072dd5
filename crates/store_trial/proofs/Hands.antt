-- What a call leaves of a pass and its session, and what a split and a join make of passes.
use Rattle.std.proofs.Common.{◌≡◌, ◌∙◌, inl, inr, ℕ, false, List, [], ◌∷◌, ⊎_elim, refl, sym, ap, subst, Option, Some, None}
use Rattle.atomic_table.specs.declared.shared.Seat.{Seat}
use Rattle.core_calls.specs.Events.{Told}
use Rattle.graph_model.specs.declared.graph.Base.{Base}
use Rattle.graph_model.specs.Records.{empty_base}
use Rattle.turn_board.specs.Views.{View, Start, In, IsLast, numbers, next_number, splitting, split_off, joining, fresh_view}
use Rattle.turn_board.specs.Board.{known}
use Rattle.turn_board.specs.declared.board.TurnBoard.{TurnBoard}
use Rattle.turn_board.proofs.HeldLists.{in_append, in_left, in_right}
use Rattle.store_turns.specs.declared.session.Session.{Session}
use Rattle.store_turns.specs.Fits.{Fits}
use Rattle.store_log.specs.LogChanges.{IsBaseOf}
use Rattle.store_log.specs.LogValues.{where_told}
use Rattle.store_board.specs.Standing.{Goes}
use Rattle.store_trial.specs.Hands.{HasBase, IsReady, GoesOn, StaysAs, CameBack}

-- ---- a call

pub goes_on : {H : Type 0} (board : TurnBoard H) (shards : ℕ) (ts : List Told) (p q : Seat (Option H) View) (s t : Session)
    → IsReady board shards p s → Goes board shards ts p q s t → GoesOn board shards p q t
goes_on board shards ts p q s t was goes = (
  (goes.stands, subst (λ (u : View). HasBase u) (sym goes.grew.same) was.1),
  (ap (λ (u : View). numbers u) goes.grew.same, ap (λ (u : View). u.made) goes.grew.same),
)

-- a session that has done nothing fits a pass that was split off
pub fresh_fits : (v w : View) (s : Session) → w ≡ split_off v → s ≡ record { index = 0; is_open = false; finished = None; work = None } → Fits s w
fresh_fits v w s off is = subst (λ (u : View). Fits s u) (sym off)
    (subst (λ (t : Session). Fits t (split_off v)) (sym is) (record { row = refl; work = tt; finished = refl; leads = (refl, refl) }))

-- ---- splits and joins

same_back : (v w : View) → StaysAs v w → CameBack v w
same_back v w stays = record {
  kept = λ n i. subst (λ (ns : List (List ℕ)). In n ns) (sym stays.0) i;
  made = λ n i. inl (subst (λ (ns : List (List ℕ)). In n ns) stays.1 i);
}

in_both_first : (a b : View) (n : List ℕ) → In n (numbers a) → In n (numbers (joining a b))
in_both_first a b n (inl e) = inl e
in_both_first a b n (inr h) = inr (in_left n a.joined (numbers b) h)

in_both_second : (a b : View) (n : List ℕ) → In n (numbers b) → In n (numbers (joining a b))
in_both_second a b n h = inr (in_right n a.joined (numbers b) h)

back_together : (v a b : View) → CameBack (splitting v) a → CameBack (split_off v) b → CameBack v (joining a b)
back_together v a b left right = record {
  kept = λ n i. in_both_first a b n (left.kept n i);
  made = λ n i. ⊎_elim
      (λ (h : In n a.made). ⊎_elim
      (λ (j : In n (splitting v).made). ⊎_elim
      (λ (k : In n v.made). inl k)
      (λ (k : In n (next_number v ∷ [])). inr (in_both_second a b n (right.kept n k)))
      (in_append n v.made (next_number v ∷ []) j))
      (λ (j : In n (numbers a)). inr (in_both_first a b n j))
      (left.made n h))
      (λ (h : In n b.made). ⊎_elim
      (λ (never : ⊥). absurd never)
      (λ (j : In n (numbers b)). inr (in_both_second a b n j))
      (right.made n h))
      (in_append n a.made b.made i);
}

-- two passes that were split come back together
pub came_back : (v v1 w a b z : View) → v1 ≡ splitting v → w ≡ split_off v → CameBack v1 a → CameBack w b → z ≡ joining a b → CameBack v z
came_back v v1 w a b z was is left right both = subst (λ (u : View). CameBack v u) (sym both)
    (back_together v a b (subst (λ (u : View). CameBack u a) was left) (subst (λ (u : View). CameBack u b) is right))

-- the same, where the first one did nothing and the second one was neither split nor joined
pub one_back : (v v1 w b z : View) → v1 ≡ splitting v → w ≡ split_off v → StaysAs w b → z ≡ joining v1 b → CameBack v z
one_back v v1 w b z was is stays both = came_back v v1 w v1 b z was is (same_back v1 v1 (refl, refl)) (same_back w b stays) both

-- the base stays what it was
pub base_split : (v w : View) → w ≡ splitting v → HasBase v → HasBase w
base_split v w is has = subst (λ (u : View). HasBase u) (sym is) has

pub base_off : (v w : View) → w ≡ split_off v → HasBase v → HasBase w
base_off v w is has = subst (λ (u : View). HasBase u) (sym is) has

pub base_joined : (a b z : View) → z ≡ joining a b → HasBase a → HasBase z
base_joined a b z is has = subst (λ (u : View). HasBase u) (sym is) has

-- a pass that was the last, and has come back, is the last
pub last_again : (v w : View) → IsLast v → CameBack v w → w.held ≡ [] → IsLast w
last_again v w last back free = (
  back.kept [] last.0,
  (λ n i. ⊎_elim (λ (h : In n v.made). back.kept n (last.1 n h)) (λ (h : In n (numbers w)). h) (back.made n i)),
  free,
)

-- ---- the opening

-- the base of an empty log is that of its records
empty_is_base : (bytes : Option (List ℕ)) → IsBaseOf empty_base (where_told bytes [])
empty_is_base None = tt
empty_is_base (Some bytes) = (record { epochs = refl; groups = refl; each = refl; numbers = refl; made = refl; made_once = refl; fit = refl; no_overlap = refl; lists = refl }, refl)

pub base_of_none : (bytes : Option (List ℕ)) (base : Base) → base ≡ empty_base → IsBaseOf base (where_told bytes [])
base_of_none bytes base is = subst (λ (b : Base). IsBaseOf b (where_told bytes [])) (sym is) (empty_is_base bytes)

pub fresh_base : (start : Start) (v : View) → v ≡ fresh_view start [] [] [] → IsBaseOf start.base start.found.records → HasBase v
fresh_base start v is has = subst (λ (u : View). HasBase u) (sym is) has

pub fresh_last : (start : Start) (v : View) → v ≡ fresh_view start [] [] [] → IsLast v
fresh_last start v is = subst (λ (u : View). IsLast u) (sym is) (inl refl, (λ m made. absurd made), refl)
