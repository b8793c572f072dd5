-- Workers stay at the storm by each call, and their passes are split off the first one and come back to it.
use Rattle.std.proofs.Common.{◌≡◌, ◌⊎◌, ◌∙◌, inl, inr, ℕ, zero, suc, ◌+◌, ◌<◌, false, List, [], ◌∷◌, ◌++◌, length, map, slice_index_or, take, drop, append-nil, length-append, refl, sym, ap, subst, arith, Option, None}
use Rattle.std.specs.List.{All, AllByRecursion}
use Rattle.std.proofs.lemmas.List.{map-append}
use Rattle.std.proofs.lemmas.List.Elements.{All-from_recursion, recursion_from_All, All-push}
use Rattle.atomic_table.specs.declared.shared.Seat.{Seat}
use Rattle.core_calls.specs.Events.{Told}
use Rattle.core_states.specs.declared.clock.Clock.{Clock}
use Rattle.core_states.specs.LogParts.{LogPart}
use Rattle.turn_board.specs.Views.{Start, View, In, IsLast, numbers, fresh_view, start_of, next_number, splitting, split_off, joining}
use Rattle.turn_board.specs.Board.{known}
use Rattle.turn_board.specs.declared.board.TurnBoard.{TurnBoard}
use Rattle.turn_board.proofs.HeldLists.{in_append, in_left, in_right}
use Rattle.store_turns.specs.declared.session.Session.{Session}
use Rattle.store_turns.specs.Fits.{Fits}
use Rattle.store_board.specs.Standing.{IsAtBoard, Goes}
use Rattle.store_log.specs.LogChanges.{IsBaseOf}
use Rattle.store_storms.specs.declared.putter.Putter.{Putter}
use Rattle.store_storms.specs.Putters.{AreAtStorm, IsAtStorm, HasRun, EachRan, HasOut, IsFirst, number_of, numbers_of}

-- a list with one more is longer by one
pub pushed_len : {A : Type 0} (xs ys : List A) (x : A) → ys ≡ xs ++ x ∷ [] → length ys ≡ length xs + 1
pushed_len xs ys x is = ap length is ∙ length-append xs (x ∷ [])

-- ---- one worker

pub still_at : {H : Type 0} (board : TurnBoard H) (shards : ℕ) (ts : List Told) (p q : Seat (Option H) View) (s t : Session)
    → AreAtStorm board shards p s → Goes board shards ts p q s t → AreAtStorm board shards q t
still_at board shards ts p q s t was goes = record {
  stands = goes.stands;
  alone = ap (λ (u : View). u.made) goes.grew.same ∙ was.alone;
  found = subst (λ (u : View). IsBaseOf u.base u.found.records) (sym goes.grew.same) was.found;
}

pub same_number : {H : Type 0} (board : TurnBoard H) (shards : ℕ) (ts : List Told) (p q : Seat (Option H) View) (s t : Session)
    → Goes board shards ts p q s t → (known q).number ≡ (known p).number
same_number board shards ts p q s t goes = ap (λ (u : View). u.number) goes.grew.same

-- a session that has done nothing stands at the board by a pass that has done nothing
fresh_fits : (start : Start) (n : List ℕ) (seen : List Clock) (logs : List LogPart) (i : ℕ) (s : Session) → s ≡ record { index = i; is_open = false; finished = None; work = None } → Fits s (fresh_view start n seen logs)
fresh_fits start n seen logs i s is = subst (λ (t : Session). Fits t (fresh_view start n seen logs)) (sym is) (record { row = refl; work = tt; finished = refl; leads = (refl, refl) })

pub fresh_at : {H : Type 0} (board : TurnBoard H) (shards : ℕ) (start : Start) (n : List ℕ) (seen : List Clock) (logs : List LogPart) (p : Seat (Option H) View) (i : ℕ) (s : Session)
    → IsAtBoard board shards p → known p ≡ fresh_view start n seen logs → s ≡ record { index = i; is_open = false; finished = None; work = None } → IsBaseOf start.base start.found.records → AreAtStorm board shards p s
fresh_at board shards start n seen logs p i s at fresh is base = record {
  stands = (at, subst (λ (v : View). Fits s v) (sym fresh) (fresh_fits start n seen logs i s is));
  alone = ap (λ (v : View). v.made) fresh;
  found = subst (λ (v : View). IsBaseOf v.base v.found.records) (sym fresh) base;
}

-- ---- the first pass

pub none_out : (v : View) → IsLast v → IsBaseOf v.base v.found.records → HasOut [] v
none_out v last found = record { root = last.0; made = λ m there. inr (last.1 m there); found = found }

-- one pass more is split off
module _ (out : List (List ℕ)) (v : View) (has : HasOut out v) where
  goes_out : (m : List ℕ) → In m v.made ⊎ In m (next_number v ∷ []) → In m (out ++ next_number v ∷ []) ⊎ In m (numbers v)
  goes_out m (inl there) = older (has.made m there)
    where
      older : In m out ⊎ In m (numbers v) → In m (out ++ next_number v ∷ []) ⊎ In m (numbers v)
      older (inl h) = inl (in_left m out (next_number v ∷ []) h)
      older (inr h) = inr h
  goes_out m (inr next) = inl (in_right m out (next_number v ∷ []) next)

  pub parts : HasOut (out ++ next_number v ∷ []) (splitting v)
  parts = record { root = has.root; made = λ m there. goes_out m (in_append m v.made (next_number v ∷ []) there); found = has.found }

-- the pass of this number, off which no other was split, comes back
module _ (out : List (List ℕ)) (n : List ℕ) (v w : View) (has : HasOut (out ++ n ∷ []) v) (is : w.number ≡ n) (alone : w.made ≡ []) where
  stays_in : (m : List ℕ) → In m (numbers v) → In m (numbers (joining v w))
  stays_in m (inl e) = inl e
  stays_in m (inr h) = inr (in_left m v.joined (numbers w) h)

  comes_in : (m : List ℕ) → In m out ⊎ In m (n ∷ []) → In m out ⊎ In m (numbers (joining v w))
  comes_in m (inl h) = inl h
  comes_in m (inr (inl e)) = inr (inr (in_right m v.joined (numbers w) (inl (is ∙ e))))
  comes_in m (inr (inr never)) = absurd never

  known_now : (m : List ℕ) → In m (out ++ n ∷ []) ⊎ In m (numbers v) → In m out ⊎ In m (numbers (joining v w))
  known_now m (inl h) = comes_in m (in_append m out (n ∷ []) h)
  known_now m (inr h) = inr (stays_in m h)

  made_now : (m : List ℕ) → In m v.made ⊎ In m w.made → In m out ⊎ In m (numbers (joining v w))
  made_now m (inl h) = known_now m (has.made m h)
  made_now m (inr h) = absurd (subst (λ (ns : List (List ℕ)). In m ns) alone h)

  pub comes : HasOut out (joining v w)
  comes = record { root = stays_in [] has.root; made = λ m there. made_now m (in_append m v.made w.made there); found = has.found }

pub is_last : (v : View) → HasOut [] v → v.held ≡ [] → IsLast v
is_last v has free = (has.root, (λ m there. in_now m (has.made m there)), free)
  where
    in_now : (m : List ℕ) → In m [] ⊎ In m (numbers v) → In m (numbers v)
    in_now m (inl never) = absurd never
    in_now m (inr h) = h

-- ---- all workers

-- a list in place of one as long
none_left : {A : Type 0} (xs ys : List A) → length xs ≡ length ys → drop (length xs) ys ≡ []
none_left [] [] long = refl
none_left [] (y ∷ ys) long = absurd (omega (arith, long))
none_left (x ∷ xs) [] long = absurd (omega (arith, long))
none_left (x ∷ xs) (y ∷ ys) long = none_left xs ys (omega (arith, long))

all_taken : {A : Type 0} (n : ℕ) (xs : List A) → n ≡ length xs → take n xs ≡ xs
all_taken zero [] long = refl
all_taken zero (x ∷ xs) long = absurd (omega (arith, long))
all_taken (suc n) [] long = absurd (omega (arith, long))
all_taken (suc n) (x ∷ xs) long = ap (λ ys. x ∷ ys) (all_taken n xs (omega (arith, long)))

pub written_over : {A : Type 0} (n : ℕ) (xs ys : List A) → length xs ≡ length ys → n ≡ length ys → take n (xs ++ drop (length xs) ys) ≡ xs
written_over {A} n xs ys long many =
    ap (λ (zs : List A). take n (xs ++ zs)) (none_left xs ys long) ∙ ap (λ (zs : List A). take n zs) (append-nil xs) ∙ all_taken n xs (many ∙ sym long)

last_of : {A : Type 0} (P : A → Type 0) (xs : List A) (x : A) → AllByRecursion P (xs ++ x ∷ []) → AllByRecursion P xs × P x
last_of P [] x are = (tt, are.0)
last_of P (y ∷ xs) x are = let rest = last_of P xs x are.1 in ((are.0, rest.0), rest.1)

module _ {H : Type 0} (board : TurnBoard H) (shards : ℕ) where
  abbrev Member : Type 0
  Member = Putter (Seat (Option H) View)

  -- one more was split off
  pub splits_next : (ws zs : List Member) (w : Member) (p q : Seat (Option H) View) → zs ≡ ws ++ w ∷ [] → IsFirst board shards (numbers_of ws) p → IsAtBoard board shards q → known q ≡ splitting (known p) → number_of w ≡ next_number (known p)
      → IsFirst board shards (numbers_of zs) q
  splits_next ws zs w p q is first at knows number = (
    at,
    subst (λ (z : List (List ℕ) × View). HasOut z.0 z.1)
        (λ i. (sym (ap numbers_of is ∙ map-append (λ (x : Member). number_of x) ws (w ∷ []) ∙ ap (λ (n : List ℕ). numbers_of ws ++ n ∷ []) number) i, sym knows i))
        (parts (numbers_of ws) (known p) first.1),
  )

  pub more_at : (ws zs : List Member) (w : Member) → zs ≡ ws ++ w ∷ [] → All (λ (x : Member). IsAtStorm board shards x) ws → IsAtStorm board shards w → All (λ (x : Member). IsAtStorm board shards x) zs
  more_at ws zs w is are at = subst (λ (xs : List Member). All (λ (x : Member). IsAtStorm board shards x) xs) (sym is) (All-push (λ (x : Member). IsAtStorm board shards x) ws w are at)

  -- the last one comes back
  pub less_at : (ws xs : List Member) (w : Member) → ws ≡ xs ++ w ∷ [] → All (λ (x : Member). IsAtStorm board shards x) ws → All (λ (x : Member). IsAtStorm board shards x) xs × IsAtStorm board shards w
  less_at ws xs w is are =
      let both = last_of (λ (x : Member). IsAtStorm board shards x) xs w (recursion_from_All (λ (x : Member). IsAtStorm board shards x) (xs ++ w ∷ []) (subst (λ (ys : List Member). All (λ (x : Member). IsAtStorm board shards x) ys) is are)) in
      (All-from_recursion (λ (x : Member). IsAtStorm board shards x) xs both.0, both.1)

  pub joins_next : (ws xs : List Member) (w : Member) (p q : Seat (Option H) View) → ws ≡ xs ++ w ∷ [] → IsFirst board shards (numbers_of ws) p → IsAtStorm board shards w → IsAtBoard board shards q → known q ≡ joining (known p) (known w.pass)
      → IsFirst board shards (numbers_of xs) q
  joins_next ws xs w p q is first storm at knows = (
    at,
    subst (HasOut (numbers_of xs)) (sym knows)
        (comes (numbers_of xs) (number_of w) (known p) (known w.pass)
        (subst (λ (ns : List (List ℕ)). HasOut ns (known p)) (ap numbers_of is ∙ map-append (λ (x : Member). number_of x) xs (w ∷ [])) first.1) refl storm.alone),
  )

  -- each has run
  pub at_after : (xs ys : List Member) → length ys ≡ length xs → EachRan board shards xs ys → All (λ (x : Member). IsAtStorm board shards x) ys
  at_after xs ys long ran = λ i d low. (ran i d (omega (arith, low, long))).0

  pub same_after : (xs ys : List Member) → length ys ≡ length xs → EachRan board shards xs ys → numbers_of ys ≡ numbers_of xs
  same_after [] [] long ran = refl
  same_after [] (y ∷ ys) long ran = absurd (omega (arith, long))
  same_after (x ∷ xs) [] long ran = absurd (omega (arith, long))
  same_after (x ∷ xs) (y ∷ ys) long ran = λ k. (ran 0 x (omega arith)).1 k ∷ same_after xs ys (omega (arith, long)) (λ i d low. ran (suc i) d (omega (arith, low))) k

  -- what a call left of a worker is what stands in its place
  pub ran_at : (x y a b : Member) → a ≡ x → b ≡ y → HasRun board shards a b → HasRun board shards x y
  ran_at x y a b e f ran = subst (λ (z : Member × Member). HasRun board shards z.0 z.1) (λ j. (e j, f j)) ran
