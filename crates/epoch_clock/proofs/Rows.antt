-- The transactions that run in rows: how they change as a row does, and what they have least.
use Rattle.std.proofs.Common.{ℕ, zero, suc, ◌≡◌, ◌≢◌, ◌+◌, ◌<◌, ◌≤◌, min, Bool, true, false, ◌||◌, List, [], ◌∷◌, ◌++◌, length, slice_get, slice_set, Option, Some, None, ◌⊎◌, inl, inr, refl, sym, ap, subst, ◌∙◌, arith}
use Rattle.std.specs.Prelude.{if◌then◌else◌, ◌==◌, nat_lt}
use Rattle.std.proofs.lemmas.Bool.{cases_eq, lt-ltb, le-ltb, ltb-true, ltb-false, eq-eqb, eqb-true, eqb-false, ne_eqb, or_parts, or_right, or_left, or_from, false≢true}
use Rattle.std.proofs.lemmas.Bool.Decides.{nat_tests}
use Rattle.reader_table.specs.declared.row.Row.{Row}
use Rattle.reader_table.specs.declared.row.Row.TheVariants.{Closed, Idle, Active as Runs}
use Rattle.reader_table.specs.Rows.{is_active, opened, horizon_of, oldest_of}
use Rattle.core_states.specs.declared.clock.Active.{Active}
use Rattle.core_states.specs.Numbers.{without_active, least, least_tid}
use Rattle.epoch_clock.specs.ActiveRows.{put_falling, actives_of, Falling, is_running, tid_in, RunsIn}

pub falling_up : (m n : ℕ) (xs : List Active) → m ≤ n → Falling m xs → Falling n xs
falling_up m n [] le f = tt
falling_up m n (x ∷ xs) le f = ((let a = f.0 in omega arith), f.1)

-- numbers from there on do not run
pub not_running : (n t : ℕ) (xs : List Active) → n ≤ t → Falling n xs → is_running t xs ≡ false
not_running n t [] le f = refl
not_running n t (x ∷ xs) le f =
    let a = f.0 in or_from (x.tid == t) (is_running t xs) (ne_eqb x.tid t (λ same. omega arith)) (not_running x.tid t xs (omega arith) f.1)

pub without_absent : (t : ℕ) (xs : List Active) → is_running t xs ≡ false → without_active t xs ≡ xs
without_absent t [] no_one = refl
without_absent t (x ∷ xs) no_one =
    let parts = or_parts (x.tid == t) (is_running t xs) no_one in rw parts.0 (ap (λ (l : List Active). x ∷ l) (without_absent t xs parts.1))

pub without_here : (x : Active) (xs : List Active) → without_active x.tid (x ∷ xs) ≡ without_active x.tid xs
without_here x xs = rw (eq-eqb x.tid x.tid refl) refl

pub without_there : (t : ℕ) (x : Active) (xs : List Active) → x.tid ≢ t → without_active t (x ∷ xs) ≡ x ∷ without_active t xs
without_there t x xs ne = rw (ne_eqb x.tid t ne) refl

pub put_above : (x y : Active) (ys : List Active) → y.tid < x.tid → put_falling x (y ∷ ys) ≡ x ∷ y ∷ ys
put_above x y ys lt = rw (lt-ltb y.tid x.tid lt) refl

pub put_below : (x y : Active) (ys : List Active) → x.tid ≤ y.tid → put_falling x (y ∷ ys) ≡ y ∷ put_falling x ys
put_below x y ys le = rw (le-ltb y.tid x.tid le) refl

pub put_front : (x : Active) (xs : List Active) → Falling x.tid xs → put_falling x xs ≡ x ∷ xs
put_front x [] f = refl
put_front x (y ∷ ys) f = put_above x y ys f.0

-- one that is put among others whose numbers fall with its own: theirs fall, it is none of them, and its own is below the first
pub record Placed (n : ℕ) (x : Active) (xs : List Active) : Type 0 where
  pub others : Falling n xs
  pub other : is_running x.tid xs ≡ false
  pub below : x.tid < n

pub placed : (n : ℕ) (x : Active) (xs : List Active) → Falling n (put_falling x xs) → Placed n x xs
placed n x [] f = record { others = tt; other = refl; below = f.0 }
placed n x (y ∷ ys) f = by (nat_lt y.tid x.tid) refl (placed y.tid x ys)
  where
    by : (b : Bool) → nat_lt y.tid x.tid ≡ b → (Falling y.tid (put_falling x ys) → Placed y.tid x ys) → Placed n x (y ∷ ys)
    by true e ih =
        let lt = ltb-true y.tid x.tid e in
        let g = subst (Falling n) (put_above x y ys lt) f in
        let a = g.0 in
        record { others = ((omega arith), g.1.1); other = not_running x.tid x.tid (y ∷ ys) (omega arith) g.1; below = g.0 }
    by false e ih =
        let g = subst (Falling n) (put_below x y ys (ltb-false y.tid x.tid e)) f in
        let p = ih g.1 in let b = p.below in let a = g.0 in
        record { others = (g.0, p.others); other = or_from (y.tid == x.tid) (is_running x.tid ys) (ne_eqb y.tid x.tid (λ same. omega arith)) p.other; below = omega arith }

pub running_put : (t : ℕ) (x : Active) (xs : List Active) → is_running t (put_falling x xs) ≡ (x.tid == t || is_running t xs)
running_put t x [] = refl
running_put t x (y ∷ ys) = by (nat_lt y.tid x.tid) (running_put t x ys)
  where
    swap_or : (a b c d : Bool) → d ≡ (b || c) → (a || d) ≡ (b || (a || c))
    swap_or true true c d e = refl
    swap_or true false c d e = refl
    swap_or false b c d e = e

    by : (b : Bool) → is_running t (put_falling x ys) ≡ (x.tid == t || is_running t ys) → is_running t (if b then x ∷ y ∷ ys else y ∷ put_falling x ys) ≡ (x.tid == t || (y.tid == t || is_running t ys))
    by true ih = refl
    by false ih = swap_or (y.tid == t) (x.tid == t) (is_running t ys) (is_running t (put_falling x ys)) ih

-- without the one that was put there, the others are left
pub without_put : (n : ℕ) (x : Active) (xs : List Active) → Falling n (put_falling x xs) → without_active x.tid (put_falling x xs) ≡ xs
without_put n x [] f = without_here x []
without_put n x (y ∷ ys) f = by (nat_lt y.tid x.tid) refl (without_put y.tid x ys)
  where
    by : (b : Bool) → nat_lt y.tid x.tid ≡ b → (Falling y.tid (put_falling x ys) → without_active x.tid (put_falling x ys) ≡ ys) → without_active x.tid (put_falling x (y ∷ ys)) ≡ y ∷ ys
    by true e ih =
        ap (without_active x.tid) (put_above x y ys (ltb-true y.tid x.tid e)) ∙ without_here x (y ∷ ys) ∙ without_absent x.tid (y ∷ ys) (placed n x (y ∷ ys) f).other
    by false e ih =
        let other = (placed n x (y ∷ ys) f).other in
        let g = subst (Falling n) (put_below x y ys (ltb-false y.tid x.tid e)) f in
        ap (without_active x.tid) (put_below x y ys (ltb-false y.tid x.tid e))
        ∙ without_there x.tid y (put_falling x ys) (eqb-false y.tid x.tid (or_parts (y.tid == x.tid) (is_running x.tid ys) other).0)
        ∙ ap (λ (l : List Active). y ∷ l) (ih g.1)

pub without_falls : (n t : ℕ) (xs : List Active) → Falling n xs → Falling n (without_active t xs)
without_falls n t [] f = tt
without_falls n t (x ∷ xs) f = by (x.tid == t) (without_falls x.tid t xs f.1)
  where
    by : (b : Bool) → Falling x.tid (without_active t xs) → Falling n (if b then without_active t xs else x ∷ without_active t xs)
    by true ih = let a = f.0 in falling_up x.tid n (without_active t xs) (omega arith) ih
    by false ih = (f.0, ih)

-- another one is left out before or after
pub without_other : (n t : ℕ) (x : Active) (xs : List Active) → Falling n (put_falling x xs) → x.tid ≢ t → put_falling x (without_active t xs) ≡ without_active t (put_falling x xs)
without_other n t x [] f ne = sym (without_there t x [] ne)
without_other n t x (y ∷ ys) f ne = by (nat_lt y.tid x.tid) refl (λ g. without_other y.tid t x ys g ne)
  where
    by : (b : Bool) → nat_lt y.tid x.tid ≡ b → (Falling y.tid (put_falling x ys) → put_falling x (without_active t ys) ≡ without_active t (put_falling x ys))
        → put_falling x (without_active t (y ∷ ys)) ≡ without_active t (put_falling x (y ∷ ys))
    by true e ih =
        let lt = ltb-true y.tid x.tid e in
        let g = subst (Falling n) (put_above x y ys lt) f in
        put_front x (without_active t (y ∷ ys)) (without_falls x.tid t (y ∷ ys) g.1)
        ∙ sym (without_there t x (y ∷ ys) ne)
        ∙ ap (without_active t) (sym (put_above x y ys lt))
    by false e ih =
        let le = ltb-false y.tid x.tid e in
        let g = subst (Falling n) (put_below x y ys le) f in
        by_tid (y.tid == t) refl (ih g.1) le ∙ ap (without_active t) (sym (put_below x y ys le))
      where
        by_tid : (b : Bool) → (y.tid == t) ≡ b → put_falling x (without_active t ys) ≡ without_active t (put_falling x ys) → x.tid ≤ y.tid
            → put_falling x (without_active t (y ∷ ys)) ≡ without_active t (y ∷ put_falling x ys)
        by_tid true q ih le = rw q ih
        by_tid false q ih le = rw q (put_below x y (without_active t ys) le ∙ ap (λ (l : List Active). y ∷ l) ih)

-- a transaction that runs in a row
pub runs_in : (rows : List Row) (i t e : ℕ) → slice_get rows i ≡ Some (Runs t e) → is_running t (actives_of rows) ≡ true
runs_in [] i t e at = absurd (let e : ⊥ = (cc) in e)
runs_in (Closed ∷ rows) zero t e at = absurd (let e : ⊥ = (cc) in e)
runs_in (Idle ∷ rows) zero t e at = absurd (let e : ⊥ = (cc) in e)
runs_in (Runs u d ∷ rows) zero t e at =
    let same : u ≡ t = (cc) in
    running_put t (record { tid = u; epoch = d }) (actives_of rows) ∙ or_left (u == t) (is_running t (actives_of rows)) (eq-eqb u t same)
runs_in (Closed ∷ rows) (suc i) t e at = runs_in rows i t e at
runs_in (Idle ∷ rows) (suc i) t e at = runs_in rows i t e at
runs_in (Runs u d ∷ rows) (suc i) t e at =
    running_put t (record { tid = u; epoch = d }) (actives_of rows) ∙ or_right (u == t) (is_running t (actives_of rows)) (runs_in rows i t e at)

-- a transaction begins in an idle row, whose number is above all others
pub entered : (rows : List Row) (i t e : ℕ) → slice_get rows i ≡ Some Idle → Falling t (actives_of rows)
    → actives_of (slice_set rows i (Runs t e)) ≡ record { tid = t; epoch = e } ∷ actives_of rows
entered [] i t e at f = absurd (let e : ⊥ = (cc) in e)
entered (Closed ∷ rows) zero t e at f = absurd (let e : ⊥ = (cc) in e)
entered (Idle ∷ rows) zero t e at f = put_front (record { tid = t; epoch = e }) (actives_of rows) f
entered (Runs u d ∷ rows) zero t e at f = absurd (let e : ⊥ = (cc) in e)
entered (Closed ∷ rows) (suc i) t e at f = entered rows i t e at f
entered (Idle ∷ rows) (suc i) t e at f = entered rows i t e at f
entered (Runs u d ∷ rows) (suc i) t e at f =
    let p = placed t (record { tid = u; epoch = d }) (actives_of rows) f in
    let b : u < t = p.below in
    ap (put_falling (record { tid = u; epoch = d })) (entered rows i t e at p.others)
    ∙ put_below (record { tid = u; epoch = d }) (record { tid = t; epoch = e }) (actives_of rows) (omega arith)

-- the transaction of a row is over
pub left : (rows : List Row) (n i t e : ℕ) → slice_get rows i ≡ Some (Runs t e) → Falling n (actives_of rows)
    → actives_of (slice_set rows i Idle) ≡ without_active t (actives_of rows)
left [] n i t e at f = absurd (let e : ⊥ = (cc) in e)
left (Closed ∷ rows) n zero t e at f = absurd (let e : ⊥ = (cc) in e)
left (Idle ∷ rows) n zero t e at f = absurd (let e : ⊥ = (cc) in e)
left (Runs u d ∷ rows) n zero t e at f =
    let same : u ≡ t = (cc) in
    sym (without_put n (record { tid = u; epoch = d }) (actives_of rows) f) ∙ ap (λ (v : ℕ). without_active v (put_falling (record { tid = u; epoch = d }) (actives_of rows))) same
left (Closed ∷ rows) n (suc i) t e at f = left rows n i t e at f
left (Idle ∷ rows) n (suc i) t e at f = left rows n i t e at f
left (Runs u d ∷ rows) n (suc i) t e at f =
    let p = placed n (record { tid = u; epoch = d }) (actives_of rows) f in
    let ne : u ≢ t = λ (same : u ≡ t). false≢true (sym p.other ∙ subst (λ (v : ℕ). is_running v (actives_of rows) ≡ true) (sym same) (runs_in rows i t e at)) in
    ap (put_falling (record { tid = u; epoch = d })) (left rows n i t e at p.others)
    ∙ without_other n t (record { tid = u; epoch = d }) (actives_of rows) f ne

-- an idle row is closed
pub closed : (rows : List Row) (i : ℕ) → slice_get rows i ≡ Some Idle → actives_of (slice_set rows i Closed) ≡ actives_of rows
closed [] i at = absurd (let e : ⊥ = (cc) in e)
closed (Closed ∷ rows) zero at = refl
closed (Idle ∷ rows) zero at = refl
closed (Runs u d ∷ rows) zero at = absurd (let e : ⊥ = (cc) in e)
closed (Closed ∷ rows) (suc i) at = closed rows i at
closed (Idle ∷ rows) (suc i) at = closed rows i at
closed (Runs u d ∷ rows) (suc i) at = ap (put_falling (record { tid = u; epoch = d })) (closed rows i at)

-- and one is opened
pub row_opened : (rows : List Row) → actives_of (opened rows) ≡ actives_of rows
row_opened [] = refl
row_opened (Closed ∷ rows) = refl
row_opened (Idle ∷ rows) = row_opened rows
row_opened (Runs u d ∷ rows) = ap (put_falling (record { tid = u; epoch = d })) (row_opened rows)

-- the transaction of an active row
pub in_row : (rows : List Row) (i : ℕ) → is_active (slice_get rows i) ≡ true → (e : ℕ) × (slice_get rows i ≡ Some (Runs (tid_in (slice_get rows i)) e))
in_row rows i active = by (slice_get rows i) active
  where
    by : (r : Option Row) → is_active r ≡ true → (e : ℕ) × (r ≡ Some (Runs (tid_in r) e))
    by None h = absurd (false≢true h)
    by (Some Closed) h = absurd (false≢true h)
    by (Some Idle) h = absurd (false≢true h)
    by (Some (Runs t e)) h = (e, refl)

-- what they have least
least_min : (n m : ℕ) (xs : List Active) → least (min n m) xs ≡ min m (least n xs)
least_min n m [] = omega arith
least_min n m (x ∷ xs) = ap (λ (k : ℕ). least k xs) (let e : min (min n m) x.epoch ≡ min (min n x.epoch) m = omega arith in e) ∙ least_min (min n x.epoch) m xs

least_put : (n : ℕ) (x : Active) (xs : List Active) → least n (put_falling x xs) ≡ min x.epoch (least n xs)
least_put n x [] = omega arith
least_put n x (y ∷ ys) = by (nat_lt y.tid x.tid) (least_put (min n y.epoch) x ys)
  where
    by : (b : Bool) → least (min n y.epoch) (put_falling x ys) ≡ min x.epoch (least (min n y.epoch) ys)
        → least n (if b then x ∷ y ∷ ys else y ∷ put_falling x ys) ≡ min x.epoch (least (min n y.epoch) ys)
    by true ih = ap (λ (k : ℕ). least k ys) (let e : min (min n x.epoch) y.epoch ≡ min (min n y.epoch) x.epoch = omega arith in e) ∙ least_min (min n y.epoch) x.epoch ys
    by false ih = ih

pub horizon_is : (n : ℕ) (rows : List Row) → horizon_of n rows ≡ least n (actives_of rows)
horizon_is n [] = refl
horizon_is n (Closed ∷ rows) = horizon_is n rows
horizon_is n (Idle ∷ rows) = horizon_is n rows
horizon_is n (Runs t e ∷ rows) = ap (min e) (horizon_is n rows) ∙ sym (least_put n (record { tid = t; epoch = e }) (actives_of rows))

tid_min : (n m : ℕ) (xs : List Active) → least_tid (min n m) xs ≡ min m (least_tid n xs)
tid_min n m [] = omega arith
tid_min n m (x ∷ xs) = ap (λ (k : ℕ). least_tid k xs) (let e : min (min n m) x.tid ≡ min (min n x.tid) m = omega arith in e) ∙ tid_min (min n x.tid) m xs

tid_put : (n : ℕ) (x : Active) (xs : List Active) → least_tid n (put_falling x xs) ≡ min x.tid (least_tid n xs)
tid_put n x [] = omega arith
tid_put n x (y ∷ ys) = by (nat_lt y.tid x.tid) (tid_put (min n y.tid) x ys)
  where
    by : (b : Bool) → least_tid (min n y.tid) (put_falling x ys) ≡ min x.tid (least_tid (min n y.tid) ys)
        → least_tid n (if b then x ∷ y ∷ ys else y ∷ put_falling x ys) ≡ min x.tid (least_tid (min n y.tid) ys)
    by true ih = ap (λ (k : ℕ). least_tid k ys) (let e : min (min n x.tid) y.tid ≡ min (min n y.tid) x.tid = omega arith in e) ∙ tid_min (min n y.tid) x.tid ys
    by false ih = ih

pub oldest_is : (n : ℕ) (rows : List Row) → oldest_of n rows ≡ least_tid n (actives_of rows)
oldest_is n [] = refl
oldest_is n (Closed ∷ rows) = oldest_is n rows
oldest_is n (Idle ∷ rows) = oldest_is n rows
oldest_is n (Runs t e ∷ rows) = ap (min t) (oldest_is n rows) ∙ sym (tid_put n (record { tid = t; epoch = e }) (actives_of rows))

not_head : (u t : ℕ) (b : Bool) → (u ≡ t → ⊥) → (u == t || b) ≡ b
not_head u t b other = rw (ne_eqb u t other) refl

-- a transaction that runs is in one of the rows
pub found_in : (rows : List Row) (t : ℕ) → is_running t (actives_of rows) ≡ true → (i : ℕ) × (i < length rows) × RunsIn (slice_get rows i) t
found_in [] t runs = absurd (let e : ⊥ = (cc) in e)
found_in (Closed ∷ rows) t runs = let f = found_in rows t runs in let low = f.1 in (suc f.0, omega (arith, low), f.2)
found_in (Idle ∷ rows) t runs = let f = found_in rows t runs in let low = f.1 in (suc f.0, omega (arith, low), f.2)
found_in (Runs u d ∷ rows) t runs = by_head (cases_eq u t) (found_in rows t)
  where
    by_head : (u ≡ t) ⊎ (u ≡ t → ⊥) → (is_running t (actives_of rows) ≡ true → (i : ℕ) × (i < length rows) × RunsIn (slice_get rows i) t) → (i : ℕ) × (i < suc (length rows)) × RunsIn (slice_get (Runs u d ∷ rows) i) t
    by_head (inl same) ih = (0, omega arith, same)
    by_head (inr other) ih =
        let f = ih (sym (not_head u t (is_running t (actives_of rows)) other) ∙ sym (running_put t (record { tid = u; epoch = d }) (actives_of rows)) ∙ runs) in
        let low = f.1 in (suc f.0, omega (arith, low), f.2)

-- where there is no row, there are no more
pub past_all : (rows : List Row) (i : ℕ) → slice_get rows i ≡ None → length rows ≤ i
past_all [] i none_there = omega arith
past_all (x ∷ rows) zero none_there = absurd (let e : ⊥ = (cc) in e)
past_all (x ∷ rows) (suc i) none_there = let more = past_all rows i none_there in omega (arith, more)
