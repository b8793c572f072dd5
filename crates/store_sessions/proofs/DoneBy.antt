-- A payload that is set, and a vertex that is dropped, are answered as done.
use Rattle.std.proofs.Common.{◌≡◌, ℕ, true, List, refl}
use Rattle.std.proofs.lemmas.Bool.{false≢true}
use Rattle.graph_model.specs.declared.change.Change.TheVariants.{Set, Drop}
use Rattle.core_states.specs.declared.event.CoreAnswer.{CoreAnswer}
use Rattle.core_states.specs.declared.event.CoreAnswer.TheVariants as answer
use Rattle.store_rows.specs.Alters.{is_done_by}

-- a payload is set
pub set_done : (v : ℕ) (p : List ℕ) (says : CoreAnswer) → is_done_by (Set v p) says ≡ true → says ≡ answer.Done
set_done v p answer.NotEnabled is = absurd (false≢true is)
set_done v p answer.Done is = refl
set_done v p (answer.Begun n e) is = absurd (false≢true is)
set_done v p (answer.Number n) is = absurd (false≢true is)
set_done v p answer.Spent is = absurd (false≢true is)
set_done v p (answer.Learnt h o) is = absurd (false≢true is)
set_done v p (answer.Collected n) is = absurd (false≢true is)
set_done v p (answer.Published e) is = absurd (false≢true is)
set_done v p (answer.Kept o) is = absurd (false≢true is)
set_done v p (answer.Visible y) is = absurd (false≢true is)
set_done v p (answer.Held u) is = absurd (false≢true is)
set_done v p (answer.Conflict e) is = absurd (false≢true is)
set_done v p answer.NoVertex is = absurd (false≢true is)
set_done v p answer.TxnFull is = absurd (false≢true is)
set_done v p answer.LogFull is = absurd (false≢true is)
set_done v p answer.Added is = absurd (false≢true is)
set_done v p answer.Replaced is = absurd (false≢true is)
set_done v p answer.Gone is = absurd (false≢true is)
set_done v p answer.Absent is = absurd (false≢true is)
set_done v p (answer.Shown x) is = absurd (false≢true is)

-- a vertex is dropped
pub drop_done : (v : ℕ) (says : CoreAnswer) → is_done_by (Drop v) says ≡ true → says ≡ answer.Done
drop_done v answer.NotEnabled is = absurd (false≢true is)
drop_done v answer.Done is = refl
drop_done v (answer.Begun n e) is = absurd (false≢true is)
drop_done v (answer.Number n) is = absurd (false≢true is)
drop_done v answer.Spent is = absurd (false≢true is)
drop_done v (answer.Learnt h o) is = absurd (false≢true is)
drop_done v (answer.Collected n) is = absurd (false≢true is)
drop_done v (answer.Published e) is = absurd (false≢true is)
drop_done v (answer.Kept o) is = absurd (false≢true is)
drop_done v (answer.Visible y) is = absurd (false≢true is)
drop_done v (answer.Held u) is = absurd (false≢true is)
drop_done v (answer.Conflict e) is = absurd (false≢true is)
drop_done v answer.NoVertex is = absurd (false≢true is)
drop_done v answer.TxnFull is = absurd (false≢true is)
drop_done v answer.LogFull is = absurd (false≢true is)
drop_done v answer.Added is = absurd (false≢true is)
drop_done v answer.Replaced is = absurd (false≢true is)
drop_done v answer.Gone is = absurd (false≢true is)
drop_done v answer.Absent is = absurd (false≢true is)
drop_done v (answer.Shown x) is = absurd (false≢true is)
