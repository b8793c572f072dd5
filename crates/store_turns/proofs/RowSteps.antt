-- What an event on a row, or none, adds to what the pass knows.
use Rattle.std.proofs.Common.{◌≡◌, ◌≢◌, ℕ, ◌+◌, ◌-◌, ◌%◌, inl, List, [], ◌∷◌, refl, sym, ap, ◌∙◌, subst, Option, Some, None}
use Rattle.graph_model.specs.declared.graph.Base.{Base}
use Rattle.graph_model.specs.Records.{transaction_most}
use Rattle.core_states.specs.declared.actor.Actor.{Actor}
use Rattle.core_states.specs.declared.event.Act.{Act}
use Rattle.core_states.specs.declared.event.CoreAnswer.{CoreAnswer}
use Rattle.core_states.specs.declared.event.Reach.TheVariants as reach
use Rattle.core_states.specs.Moves.{row_move}
use Rattle.core_states.specs.Names.{Name}
use Rattle.core_states.specs.Parts.{VertexRow, OfShard, actor_of, row_of}
use Rattle.core_states.specs.RowEvents.{RowMove, Limits}
use Rattle.core_states.specs.States.{reach_of, row_event}
use Rattle.core_calls.specs.Events.{Told, told}
use Rattle.turn_board.specs.Views.{Done, View, ShardPlace, taking}
use Rattle.turn_board.specs.Works.{giving, Leads}
use Rattle.turn_board.specs.Ones.{DoesOne}
use Rattle.turn_board.proofs.Ones.{row_leads}
use Rattle.store_turns.specs.declared.session.Session.{Session}
use Rattle.store_turns.specs.Grows.{Grew, told_if, done_if, done_by}
use Rattle.store_turns.specs.Fits.{Fits, IsSessionOf, name_in}
use Rattle.store_turns.specs.Rows.{DoesRow, limits_at}
use Rattle.store_turns.proofs.Growing.{grew_one, grew_none}
use Rattle.store_turns.proofs.ClockSteps.{session_then, two_less}

module _ (shards x : ℕ) (v : View) (s s' : Session) (place : ShardPlace) (rows rows' : List VertexRow) (acts : CoreAnswer → Act) (free : v.held ≡ []) (reaches : (says : CoreAnswer) → reach_of (acts says) ≡ reach.Row x) (fits : Fits s v) (same : s'.index ≡ s.index) (base : place.base ≡ v.base) (limits : limits_at place ≡ v.limits) where
  abbrev n : Name
  n = name_in v s.index

  abbrev a : Actor
  a = actor_of v.base v.actors n

  abbrev mid : View
  mid = taking (x % shards) (OfShard rows) v

  -- what is asked of a give, and what the pass knows after it
  abbrev pub RowStepped : Option CoreAnswer → Type 0
  RowStepped answer = Leads shards mid (done_if n acts answer) (OfShard rows')
      × (Grew n (told_if acts answer) v (giving (done_if n acts answer) mid) × Fits s' (giving (done_if n acts answer) mid))

  one : (says : CoreAnswer) (m : RowMove) → ((w : ℕ) → w ≢ x → row_of v.base rows' w ≡ row_of v.base rows w) → row_event v.limits (acts says) (row_of v.base rows x) a ≡ Some m → m.answer ≡ says → row_of v.base rows' x ≡ m.row → IsSessionOf s' m.actor → RowStepped (Some says)
  one says m others is answers leaves fit =
      let t : Told = told (acts says) says in let e : Done = done_by n t in
      let does : DoesOne shards mid e (OfShard rows') [] m.actor = row_leads shards x mid rows rows' e m (inl refl) (λ i. record { turn = x % shards; part = OfShard rows } ∷ free i) (reaches says) (ap (row_move (row_of v.base rows x) a) is) (sym answers) leaves others in
      (does.leads, (grew_one shards (x % shards) v (OfShard rows) (OfShard rows') n t m.actor free does tt, session_then v s s' same (giving (e ∷ []) mid) m.actor refl does.actor fit))

  pub row_stepped : (answer : Option CoreAnswer) → DoesRow x acts place rows s answer rows' s' → RowStepped answer
  row_stepped None does = (
    (tt, subst (λ b. (w : ℕ) → row_of b rows' w ≡ row_of b rows w) base does.0),
    (grew_none (x % shards) v (OfShard rows) n tt, session_then v s s' same (giving [] mid) a refl refl (does.1 a fits)),
  )
  row_stepped (Some says) does =
      let m = does.1 a fits in
      one says m.0 (subst (λ b. (w : ℕ) → w ≢ x → row_of b rows' w ≡ row_of b rows w) base does.0)
      (subst (λ (z : Limits × Base). row_event z.0 (acts says) (row_of z.1 rows x) a ≡ Some m.0) (λ i. (limits i, base i)) m.1) m.2 (subst (λ b. row_of b rows' x ≡ m.0.row) base m.3) m.4

-- the same of a pass that took the turn, and gave it back
module _ (shards x turn : ℕ) (v took : View) (s s' : Session) (place : ShardPlace) (rows rows' : List VertexRow) (acts : CoreAnswer → Act) (free : v.held ≡ []) (reaches : (says : CoreAnswer) → reach_of (acts says) ≡ reach.Row x) (fits : Fits s v) (same : s'.index ≡ s.index)
    (place_is : place ≡ record { number = turn; shards = v.shards; log_most = v.limits.log; base = v.base }) (txn : v.limits.txn ≡ transaction_most) (at : turn ≡ x % shards) (answer : Option CoreAnswer) (does : DoesRow x acts place rows s answer rows' s') (taken : took ≡ taking turn (OfShard rows) v) where
  limits : limits_at place ≡ v.limits
  limits = λ i. record { txn = sym txn i; log = (place_is i).log_most }

  step : RowStepped shards x v s s' place rows rows' acts free reaches fits same (ap (λ p. p.base) place_is) limits answer
  step = row_stepped shards x v s s' place rows rows' acts free reaches fits same (ap (λ p. p.base) place_is) limits answer does

  pub row_gives : (new : View) → new ≡ giving (done_if (name_in took s'.index) acts answer) took
      → Grew (name_in v s.index) (told_if acts answer) v new × Fits s' new
  row_gives new given =
      let is : new ≡ giving (done_if (name_in v s.index) acts answer) (taking (x % shards) (OfShard rows) v) =
      given ∙ (λ i. giving (done_if (name_in (taken i) (same i)) acts answer) (taken i)) ∙ (λ i. giving (done_if (name_in v s.index) acts answer) (taking (at i) (OfShard rows) v)) in (
        subst (λ z. Grew (name_in v s.index) (told_if acts answer) v z) (sym is) step.1.0,
        subst (λ z. Fits s' z) (sym is) step.1.1,
      )

  pub row_leads_to : (turns : ℕ) → shards + 2 ≡ turns → Leads (turns - 2) took (done_if (name_in took s'.index) acts answer) (OfShard rows')
  row_leads_to turns many =
      subst (λ (z : ℕ × View × ℕ). Leads z.0 z.1 (done_if (name_in z.1 z.2) acts answer) (OfShard rows')) (λ i. (two_less shards turns many i, (ap (λ n. taking n (OfShard rows) v) (sym at) ∙ sym taken) i, sym same i)) step.0
