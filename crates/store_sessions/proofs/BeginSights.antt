-- What a begin reads is visible on the clock that it meets.
use Rattle.std.proofs.Common.{◌≡◌, ℕ, ◌+◌, Bool, true, false, not, List, [], ◌∷◌, sym, ap, ◌∙◌, arith, Option, Some, None}
use Rattle.std.specs.Prelude.{◌==◌, if◌then◌else◌, Result, Ok, Err}
use Rattle.graph_model.specs.Records.{number_end}
use Rattle.core_calls.specs.Events.{Told, told}
use Rattle.core_states.specs.declared.actor.Actor.{Actor}
use Rattle.core_states.specs.declared.clock.Clock.{Clock}
use Rattle.core_states.specs.declared.event.Act.TheVariants as act
use Rattle.core_states.specs.declared.event.CoreAnswer.{CoreAnswer}
use Rattle.core_states.specs.declared.event.CoreAnswer.TheVariants as answer
use Rattle.core_states.specs.declared.transaction.Transaction.{Transaction}
use Rattle.core_states.specs.ClockEvents.{ClockMove, for_none, same_clock, begins, begun_txn}
use Rattle.core_states.specs.Names.{Name}
use Rattle.core_states.specs.States.{clock_event}
use Rattle.core_states.specs.Transactions.{with_txn}
use Rattle.core_states.proofs.Names.{some_is}
use Rattle.turn_board.specs.Views.{View}
use Rattle.store_turns.specs.Fits.{actor_at}
use Rattle.store_turns.specs.Grows.{told_if}
use Rattle.store_turns.specs.Seeing.{MeetsClock}
use Rattle.store_sessions.specs.declared.beginning.Begun.{Begun}
use Rattle.store_sessions.specs.declared.refusal.Refusal.{Refusal}
use Rattle.store_sessions.specs.Beginning.{BeginTells, BeginSees}

-- a begin read the visible epoch, and left it as it was
record Reads (k : Clock) (m : ClockMove) (e : ℕ) : Type 0 where
  pub read : e ≡ k.visible
  pub same : m.clock.visible ≡ k.visible

same_read : (n e t f : ℕ) → answer.Begun n e ≡ answer.Begun t f → e ≡ f
same_read n e t f is = (cc)

spent_is_not : (n e : ℕ) → answer.Spent ≡ answer.Begun n e → ⊥
spent_is_not n e is = let bad : ⊥ = (cc) in bad

none_is_not : (m : ClockMove) → ◌≡◌ {A = Option ClockMove} None (Some m) → ⊥
none_is_not m is = let bad : ⊥ = (cc) in bad

nothing_is_not : (n e : ℕ) → ◌≡◌ {A = List Told} [] (told act.Begin (answer.Begun n e) ∷ []) → ⊥
nothing_is_not n e is = let bad : ⊥ = (cc) in bad

abbrev begun_move : Clock → Actor → ClockMove
begun_move k a = record {
  answer = answer.Begun k.next_tid k.visible;
  clock = record k { next_tid = k.next_tid + 1; rows = record { tid = k.next_tid; epoch = k.visible } ∷ k.rows };
  actor = record a { txn = Some (begun_txn k); looked = None; finished = None };
}

abbrev spent_move : Clock → Actor → ClockMove
spent_move k a = record { answer = answer.Spent; clock = k; actor = with_txn a None }

begun_reads : (k : Clock) (a : Actor) (m : ClockMove) (n e : ℕ) → clock_event act.Begin k a ≡ Some m → m.answer ≡ answer.Begun n e → Reads k m e
begun_reads k a m n e is says = by_txn a.txn is
  where
    by_row : (b c : Bool) → (if b then None else (if c then Some (spent_move k a) else Some (begun_move k a))) ≡ Some m → Reads k m e
    by_row true c at = absurd (none_is_not m at)
    by_row false true at = absurd (spent_is_not n e (ap (λ (z : ClockMove). z.answer) (some_is (spent_move k a) m at) ∙ says))
    by_row false false at =
        let one : ◌≡◌ {A = ClockMove} (begun_move k a) m = some_is (begun_move k a) m at in record {
          read = sym (same_read k.next_tid k.visible n e (ap (λ (z : ClockMove). z.answer) one ∙ says));
          same = sym (ap (λ (z : ClockMove). z.clock.visible) one);
        }

    by_txn : (o : Option Transaction) → for_none (begins k a) o ≡ Some m → Reads k m e
    by_txn None at = by_row (not a.row) (k.next_tid == number_end) at
    by_txn (Some x) at = absurd (none_is_not m at)

-- the answer to the first of these events
abbrev first_says : CoreAnswer → List Told → CoreAnswer
first_says other [] = other
first_says other (t ∷ ts) = t.says

pub begin_sees : (r : Result Begun Refusal) (o : Option CoreAnswer) (n : Name) (v w : View) → BeginTells r (told_if (λ _. act.Begin) o) → MeetsClock (λ _. act.Begin) o n v w → BeginSees r v w
begin_sees (Err x) o n v w tells meets = tt
begin_sees (Ok b) None n v w tells meets = absurd (nothing_is_not b.tid b.read tells)
begin_sees (Ok b) (Some says) n v w tells meets =
    let r = begun_reads meets.clock (actor_at v n) meets.move b.tid b.read meets.is (meets.answer ∙ ap (λ (ts : List Told). first_says says ts) tells) in
    let read = r.read in let same = r.same in (
      (λ e seen. let low = seen meets.clock meets.met in omega (arith, low, read)),
      (λ k met. let later = (meets.later k met).visible in omega (arith, later, read, same)),
    )
