-- What the rows have least, by their list.
use Rattle.std.proofs.Common.{ℕ, zero, suc, ◌≡◌, ◌+◌, ◌^◌, ◌<◌, ◌≤◌, false, slice_get, min, List, [], ◌∷◌, ◌++◌, length, refl, ap, ◌∙◌, arith}
use Rattle.std.proofs.Math.ListN.{set}
use Rattle.reader_table.specs.declared.row.Row.{Row}
use Rattle.reader_table.specs.declared.row.Row.TheVariants.{Closed, Idle, Active}
use Rattle.reader_table.specs.declared.least.Least.{Least}
use Rattle.reader_table.specs.Leasts.{least_in, least_of, leasts_of}
use Rattle.reader_table.specs.Rows.{is_open, first_closed, opened, horizon_of, oldest_of}

pub leasts_of-set : (n : ℕ) (rows : List Row) (k : ℕ) (r : Row) → leasts_of n (set rows k r) ≡ set (leasts_of n rows) k (least_in (n + k) r)
leasts_of-set n [] k r = refl
leasts_of-set n (x ∷ rows) zero r = let e : n ≡ n + 0 = omega arith in ap (λ (m : ℕ). least_in m r ∷ leasts_of (n + 1) rows) e
leasts_of-set n (x ∷ rows) (suc k) r =
    let e : n + 1 + k ≡ n + suc k = omega arith in
    ap (λ (xs : List Least). least_in n x ∷ xs) (leasts_of-set (n + 1) rows k r ∙ ap (λ (m : ℕ). set (leasts_of (n + 1) rows) k (least_in m r)) e)

pub leasts_of-push : (n : ℕ) (rows : List Row) (r : Row) → leasts_of n (rows ++ r ∷ []) ≡ leasts_of n rows ++ least_in (n + length rows) r ∷ []
leasts_of-push n [] r = let e : n ≡ n + 0 = omega arith in ap (λ (m : ℕ). least_in m r ∷ []) e
leasts_of-push n (x ∷ rows) r =
    let e : n + 1 + length rows ≡ n + suc (length rows) = omega arith in
    ap (λ (xs : List Least). least_in n x ∷ xs) (leasts_of-push (n + 1) rows r ∙ ap (λ (m : ℕ). leasts_of (n + 1) rows ++ least_in m r ∷ []) e)

pub length-leasts_of : (n : ℕ) (rows : List Row) → length (leasts_of n rows) ≡ length rows
length-leasts_of n [] = refl
length-leasts_of n (x ∷ rows) = ap suc (length-leasts_of (n + 1) rows)

-- the horizon and the oldest number, by what the rows have
pub horizon_is : (n visible : ℕ) (rows : List Row) → visible < 2 ^ 64 → min visible (least_of (leasts_of n rows)).read ≡ horizon_of visible rows
horizon_is n visible [] fits = omega arith
horizon_is n visible (Closed ∷ rows) fits = let h = horizon_is (n + 1) visible rows fits in omega (arith, h)
horizon_is n visible (Idle ∷ rows) fits = let h = horizon_is (n + 1) visible rows fits in omega (arith, h)
horizon_is n visible (Active tid read ∷ rows) fits = let h = horizon_is (n + 1) visible rows fits in omega (arith, h)

pub oldest_is : (n next : ℕ) (rows : List Row) → next < 2 ^ 64 → min next (least_of (leasts_of n rows)).tid ≡ oldest_of next rows
oldest_is n next [] fits = omega arith
oldest_is n next (Closed ∷ rows) fits = let h = oldest_is (n + 1) next rows fits in omega (arith, h)
oldest_is n next (Idle ∷ rows) fits = let h = oldest_is (n + 1) next rows fits in omega (arith, h)
oldest_is n next (Active tid read ∷ rows) fits = let h = oldest_is (n + 1) next rows fits in omega (arith, h)

-- no row has a closed number below the first
at_least : (n : ℕ) (rows : List Row) → n + length rows < 2 ^ 32 → n ≤ (least_of (leasts_of n rows)).closed
at_least n [] few = omega arith
at_least n (Closed ∷ rows) few = let h = at_least (n + 1) rows (omega arith) in omega (arith, h)
at_least n (Idle ∷ rows) few = let h = at_least (n + 1) rows (omega arith) in omega (arith, h)
at_least n (Active tid read ∷ rows) few = let h = at_least (n + 1) rows (omega arith) in omega (arith, h)

-- Some row is closed, and this is the first.
pub record HasClosed (n closed : ℕ) (rows : List Row) : Type 0 where
  pub first : closed ≡ n + first_closed rows
  pub within : first_closed rows < length rows
  pub opened_is : opened rows ≡ set rows (first_closed rows) Idle
  pub not_open : is_open (slice_get rows (first_closed rows)) ≡ false

pub has_closed : (n : ℕ) (rows : List Row) → n + length rows < 2 ^ 32 → (least_of (leasts_of n rows)).closed < 4294967295 → HasClosed n (least_of (leasts_of n rows)).closed rows
has_closed n [] few some = absurd (omega arith)
has_closed n (Closed ∷ rows) few some =
    let h = at_least (n + 1) rows (omega arith) in
    record { first = omega (arith, h); within = omega arith; opened_is = refl; not_open = refl }
has_closed n (Idle ∷ rows) few some =
    let h = has_closed (n + 1) rows (omega arith) (omega arith) in
    record { first = omega (arith, h.first); within = omega (arith, h.within); opened_is = ap (λ (xs : List Row). Idle ∷ xs) h.opened_is; not_open = h.not_open }
has_closed n (Active tid read ∷ rows) few some =
    let h = has_closed (n + 1) rows (omega arith) (omega arith) in
    record { first = omega (arith, h.first); within = omega (arith, h.within); opened_is = ap (λ (xs : List Row). Active tid read ∷ xs) h.opened_is; not_open = h.not_open }

-- No row is closed.
pub record HasNoClosed (rows : List Row) : Type 0 where
  pub first : first_closed rows ≡ length rows
  pub opened_is : opened rows ≡ rows ++ Idle ∷ []
  pub not_open : is_open (slice_get rows (length rows)) ≡ false

pub has_no_closed : (n : ℕ) (rows : List Row) → n + length rows < 2 ^ 32 → 4294967295 ≤ (least_of (leasts_of n rows)).closed → HasNoClosed rows
has_no_closed n [] few none = record { first = refl; opened_is = refl; not_open = refl }
has_no_closed n (Closed ∷ rows) few none = absurd (omega arith)
has_no_closed n (Idle ∷ rows) few none =
    let h = has_no_closed (n + 1) rows (omega arith) (omega arith) in
    record { first = ap suc h.first; opened_is = ap (λ (xs : List Row). Idle ∷ xs) h.opened_is; not_open = h.not_open }
has_no_closed n (Active tid read ∷ rows) few none =
    let h = has_no_closed (n + 1) rows (omega arith) (omega arith) in
    record { first = ap suc h.first; opened_is = ap (λ (xs : List Row). Active tid read ∷ xs) h.opened_is; not_open = h.not_open }
