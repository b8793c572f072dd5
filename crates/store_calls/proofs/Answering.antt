-- What answers of calls say.
use Rattle.std.proofs.Common.{◌≡◌, ℕ, zero, suc, true, false, List, [], ◌∷◌, refl, sym, ap, subst, Option, Some, None, is_some, slice_get, slice_set}
use Rattle.std.specs.Prelude.{Result, Ok, Err, IfOk, OnOk}
use Rattle.std.specs.Result.{result_ok}
use Rattle.reader_table.specs.declared.row.Row.{Row}
use Rattle.reader_table.specs.declared.row.Row.TheVariants.{Closed, Idle, Active as Runs}
use Rattle.reader_table.specs.Rows.{first_closed, opened, is_active}
use Rattle.std.proofs.lemmas.Bool.{true≢false}
use Rattle.graph_model.specs.declared.record.Outcome.TheVariants.{Committed, Failed}
use Rattle.core_states.specs.declared.transaction.Stage.{Stage}
use Rattle.core_states.specs.declared.transaction.Stage.TheVariants.{Open, Queued, Decided}
use Rattle.core_states.specs.Transactions.{is_queued, won_epoch}
use Rattle.store_turns.specs.IdleRows.{has_idle}
use Rattle.epoch_clock.specs.ActiveRows.{RunsIn, tid_in}

pub none_is : {A : Type 0} (o : Option A) → is_some o ≡ false → o ≡ None
none_is None is = refl
none_is (Some x) is = absurd (let e : ⊥ = (cc) in e)

-- the row that was opened is idle
pub opened_idle : (rows : List Row) → slice_get (opened rows) (first_closed rows) ≡ Some Idle
opened_idle [] = refl
opened_idle (Closed ∷ rows) = refl
opened_idle (Idle ∷ rows) = opened_idle rows
opened_idle (Runs t e ∷ rows) = opened_idle rows

-- a row in which a transaction runs is active, and is set
pub runs_active : (row : Option Row) (t : ℕ) → RunsIn row t → (is_active row ≡ true) × (tid_in row ≡ t)
runs_active None t runs = absurd runs
runs_active (Some Closed) t runs = absurd runs
runs_active (Some Idle) t runs = absurd runs
runs_active (Some (Runs u e)) t runs = (refl, runs)

pub set_idle : (rows : List Row) (i t : ℕ) → RunsIn (slice_get rows i) t → slice_get (slice_set rows i Idle) i ≡ Some Idle
set_idle [] i t runs = absurd runs
set_idle (x ∷ rows) zero t runs = refl
set_idle (x ∷ rows) (suc i) t runs = set_idle rows i t runs

pub some_not : {A : Type 0} (o : Option A) (x : A) → o ≡ Some x → o ≡ None → ⊥
some_not o x is not_there = let e : ⊥ = (cc) in e

-- what a call tells that succeeded
pub if_ok : {A E : Type 0} (r : Result A E) (x : A) (P : A → Type 0) → result_ok r ≡ Some x → IfOk r P → P x
if_ok (Ok y) x P is told = let same : y ≡ x = (cc) in subst P same told
if_ok (Err e) x P is told = absurd (let e : ⊥ = (cc) in e)

pub on_ok : {A E : Type 0} (r : Result A E) (x : A) (P : Type 0) → result_ok r ≡ Some x → OnOk r P → P
on_ok (Ok y) x P is told = told
on_ok (Err e) x P is told = absurd (let e : ⊥ = (cc) in e)

pub ok_not_err : {A E : Type 0} (r : Result A E) (x : A) (e : E) → r ≡ Ok x → r ≡ Err e → ⊥
ok_not_err r x e is not_it = let bad : ⊥ = (cc) in bad

-- a row that is opened and set to another row leaves no row idle
pub set_opened : (rows : List Row) (r : Row) → has_idle (r ∷ []) ≡ false → has_idle rows ≡ false → has_idle (slice_set (opened rows) (first_closed rows) r) ≡ false
set_opened [] r busy none = busy
set_opened (Closed ∷ rows) Closed busy none = none
set_opened (Closed ∷ rows) Idle busy none = busy
set_opened (Closed ∷ rows) (Runs t e) busy none = none
set_opened (Idle ∷ rows) r busy none = absurd (true≢false none)
set_opened (Runs t e ∷ rows) r busy none = set_opened rows r busy none

-- and so does one that is left and closed
pub close_left : (rows : List Row) (i : ℕ) → has_idle rows ≡ false → has_idle (slice_set (slice_set rows i Idle) i Closed) ≡ false
close_left [] i none = none
close_left (Closed ∷ rows) zero none = none
close_left (Idle ∷ rows) zero none = absurd (true≢false none)
close_left (Runs t e ∷ rows) zero none = none
close_left (Closed ∷ rows) (suc i) none = close_left rows i none
close_left (Idle ∷ rows) (suc i) none = absurd (true≢false none)
close_left (Runs t e ∷ rows) (suc i) none = close_left rows i none

-- the stage of a record that waits
pub stage_queued : (stage : Stage) → is_queued stage ≡ true → stage ≡ Queued
stage_queued Open is = absurd (true≢false (sym is))
stage_queued Queued is = refl
stage_queued (Decided o) is = absurd (true≢false (sym is))

-- and of one that is committed
pub stage_won : (stage : Stage) (e : ℕ) → won_epoch stage ≡ Some e → stage ≡ Decided (Committed e)
stage_won Open e is = absurd (let none : ⊥ = (cc) in none)
stage_won Queued e is = absurd (let none : ⊥ = (cc) in none)
stage_won (Decided (Committed f)) e is = let same : f ≡ e = (cc) in ap (λ n. Decided (Committed n)) same
stage_won (Decided (Failed b a)) e is = absurd (let none : ⊥ = (cc) in none)
