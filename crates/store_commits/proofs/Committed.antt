-- The events of a commit, and what it leaves.
use Rattle.std.proofs.Common.{◌≡◌, ℕ, List, [], ◌∷◌, ◌++◌, refl, sym, ap, ◌∙◌, inl, inr, false, Option, Some, None}
use Rattle.atomic_table.specs.declared.shared.Seat.{Seat}
use Rattle.graph_model.specs.declared.record.Outcome.{Outcome}
use Rattle.graph_model.specs.declared.record.Outcome.TheVariants.{Committed, Failed}
use Rattle.core_calls.specs.Calls.{Queues, Waits, Applies, Sees, Leaves, Nothing, Gives, Commits, Fails}
use Rattle.core_calls.specs.Events.{Told, told}
use Rattle.core_states.specs.declared.event.Act.TheVariants as act
use Rattle.core_states.specs.declared.event.CoreAnswer.{CoreAnswer}
use Rattle.core_states.specs.declared.event.CoreAnswer.TheVariants as answer
use Rattle.core_states.specs.declared.transaction.Stage.TheVariants.{Decided}
use Rattle.core_states.specs.Transactions.{is_loser}
use Rattle.turn_board.specs.Views.{View}
use Rattle.turn_board.specs.declared.board.TurnBoard.{TurnBoard}
use Rattle.store_turns.specs.declared.session.Session.{Session}
use Rattle.store_turns.specs.declared.session.Work.{Work}
use Rattle.store_turns.specs.Grows.{told_if}
use Rattle.store_turns.specs.Moves as moves
use Rattle.store_turns.specs.Moves.{Works, Won, IsLearnt, IsLost, QueuesWork}
use Rattle.store_board.specs.Standing.{Goes}
use Rattle.store_board.proofs.Standing.{goes_on}
use Rattle.store_leads.specs.Leads.{AreWaits}
use Rattle.store_sessions.specs.Changing.{IsAtWork}
use Rattle.store_commits.specs.Committing.{AreApplies, HasNoChange}
use Rattle.store_commits.proofs.Waited.{Learns}

-- ---- lists of events

-- waits, and then the rest
waits_then : (Rest : List Told → Type 0) (ts us : List Told) → AreWaits ts → Rest us → Waits Rest (ts ++ us)
waits_then Rest [] [] waits rest = rest
waits_then Rest [] (e ∷ us) waits rest = inl rest
waits_then Rest (e ∷ ts) us waits rest = inr (waits.0, waits_then Rest ts us waits.1 rest)

-- it is applied and done, and then its epoch is seen
applies_then : (ts us : List Told) → AreApplies ts → Sees us → Applies (ts ++ told act.Done answer.Done ∷ us)
applies_then [] us applies sees = inl (refl, sees)
applies_then (e ∷ ts) us applies sees = inr (applies.0, applies_then ts us applies.1 sees)

-- the record was queued
record IsEnqueue (says : CoreAnswer) : Type 0 where
  pub horizon : ℕ
  pub oldest : ℕ
  pub is : says ≡ answer.Learnt horizon oldest

queue_so : (says : CoreAnswer) → IsLearnt says → IsEnqueue says
queue_so (answer.Learnt h o) learnt = record { horizon = h; oldest = o; is = refl }
queue_so answer.NotEnabled learnt = absurd learnt
queue_so answer.Done learnt = absurd learnt
queue_so (answer.Begun n e) learnt = absurd learnt
queue_so (answer.Number n) learnt = absurd learnt
queue_so answer.Spent learnt = absurd learnt
queue_so (answer.Collected n) learnt = absurd learnt
queue_so (answer.Published e) learnt = absurd learnt
queue_so (answer.Kept o) learnt = absurd learnt
queue_so (answer.Visible y) learnt = absurd learnt
queue_so (answer.Held u) learnt = absurd learnt
queue_so (answer.Conflict e) learnt = absurd learnt
queue_so answer.NoVertex learnt = absurd learnt
queue_so answer.TxnFull learnt = absurd learnt
queue_so answer.LogFull learnt = absurd learnt
queue_so answer.Added learnt = absurd learnt
queue_so answer.Replaced learnt = absurd learnt
queue_so answer.Gone learnt = absurd learnt
queue_so answer.Absent learnt = absurd learnt
queue_so (answer.Shown x) learnt = absurd learnt

queues_then : (Rest : List Told → Type 0) (says : CoreAnswer) (ts : List Told) → IsLearnt says → Rest ts → Queues Rest (told act.Enqueue says ∷ ts)
queues_then Rest says ts learnt rest = let q = queue_so says learnt in (q.horizon, q.oldest, (ts, (λ i. told act.Enqueue (q.is i) ∷ ts), rest))

-- ---- the session

pub works_lost : (s : Session) → IsAtWork s → (t : Work) × (s.work ≡ Some t) × IsLost t
works_lost s at = (at.0, at.1.is, ap is_loser at.1.stage)

-- a session with a change queues its record
module _ (s s1 : Session) (at : IsAtWork s) (some : HasNoChange s false) where
  queues_not : (o : Option CoreAnswer) → o ≡ None → QueuesWork o s s1 → ⊥
  queues_not None is queues = some at.0 at.1.is (queues.0 at.0 at.1)
  queues_not (Some says) is queues = let bad : ⊥ = (cc) in bad

  pub queued_waits : (o : Option CoreAnswer) → QueuesWork o s s1 → (t : Work) × moves.Waits s1 t
  queued_waits None queues = absurd (queues_not None refl queues)
  queued_waits (Some says) queues = (queues.1, record { is = ap (λ (z : Session). z.work) queues.3; stage = queues.4.stage })

  pub queued_rest : (o : Option CoreAnswer) → QueuesWork o s s1 → s1 ≡ record s { work = s1.work }
  queued_rest None queues = absurd (queues_not None refl queues)
  queued_rest (Some says) queues = queues.3 ∙ ap (λ (w : Option Work). record s { work = w }) (sym (ap (λ (z : Session). z.work) queues.3))

-- ---- the whole commit

module _ {H : Type 0} (board : TurnBoard H) (shards : ℕ) (p q r : Seat (Option H) View) (s s1 s2 : Session) (at : IsAtWork s) (some : HasNoChange s false) (o : Option CoreAnswer) (queues : QueuesWork o s s1) (queued : Goes board shards (told_if (λ _. act.Enqueue) o) p q s s1)
    (waited : (ts : List Told) × AreWaits ts × Goes board shards ts q r s1 s2) where
  -- and then these events
  ends_so : (Rest : List Told → Type 0) (u : Seat (Option H) View) (s3 : Session) → ((ts : List Told) × Rest ts × Goes board shards ts r u s2 s3) → (answered : Option CoreAnswer) → QueuesWork answered s s1 → Goes board shards (told_if (λ _. act.Enqueue) answered) p q s s1 → (ts : List Told) × Queues (Waits Rest) ts × Goes board shards ts p u s s3
  ends_so Rest u s3 more None answered goes = absurd (queues_not s s1 at some None refl answered)
  ends_so Rest u s3 more (Some says) answered goes = (
    told act.Enqueue says ∷ waited.0 ++ more.0,
    queues_then (Waits Rest) says (waited.0 ++ more.0) answered.5 (waits_then Rest waited.0 more.0 waited.1 more.1),
    goes_on board shards p q u s s1 s3 (told act.Enqueue says ∷ []) (waited.0 ++ more.0) goes (goes_on board shards q r u s1 s2 s3 waited.0 more.0 waited.2 more.2),
  )

  pub commits : (u w : Seat (Option H) View) (s3 s4 : Session) → ((ts : List Told) × AreApplies ts × Goes board shards ts r u s2 s3) → ((ts : List Told) × Sees ts × Goes board shards (told act.Done answer.Done ∷ ts) u w s3 s4)
      → (ts : List Told) × Commits ts × Goes board shards ts p w s s4
  commits u w s3 s4 applied seen = ends_so Applies w s4 (
    applied.0 ++ told act.Done answer.Done ∷ seen.0,
    applies_then applied.0 seen.0 applied.1 seen.1,
    goes_on board shards r u w s2 s3 s4 applied.0 (told act.Done answer.Done ∷ seen.0) applied.2 seen.2,
  ) o queues queued

  pub fails : (u : Seat (Option H) View) (s3 : Session) → ((ts : List Told) × Gives ts × Goes board shards ts r u s2 s3) → (ts : List Told) × Fails ts × Goes board shards ts p u s s3
  fails u s3 given = ends_so (Leaves Nothing) u s3 given o queues queued

  -- what is left of the session
  pub learnt_rest : (out : Outcome) → Learns s1 s2 out → s2 ≡ record s { work = s2.work }
  learnt_rest out learns = learns.2 ∙ (λ i. record (queued_rest s s1 at some o queues i) { work = Some (record learns.0 { stage = Decided out }) }) ∙ ap (λ (w : Option Work). record s { work = w }) (sym (ap (λ (z : Session). z.work) learns.2))

pub learnt_won : (s1 s2 : Session) (e : ℕ) → Learns s1 s2 (Committed e) → (t : Work) × (e : ℕ) × Won s2 t e
learnt_won s1 s2 e learns = (record learns.0 { stage = Decided (Committed e) }, e, record { is = ap (λ (z : Session). z.work) learns.2; stage = refl })

pub learnt_epoch : (s1 s2 : Session) (e : ℕ) → Learns s1 s2 (Committed e) → (t : Work) × Won s2 t e
learnt_epoch s1 s2 e learns = (record learns.0 { stage = Decided (Committed e) }, record { is = ap (λ (z : Session). z.work) learns.2; stage = refl })

pub learnt_lost : (s1 s2 : Session) (b a : ℕ) → Learns s1 s2 (Failed b a) → (t : Work) × (s2.work ≡ Some t) × IsLost t
learnt_lost s1 s2 b a learns = (record learns.0 { stage = Decided (Failed b a) }, ap (λ (z : Session). z.work) learns.2, refl)
