-- A session that leads and asks until its record's outcome is known.
use Rattle.std.proofs.Common.{◌≡◌, ℕ, List, [], ◌++◌, refl, sym, ap, ◌∙◌, subst, inl, inr, Option, Some, None}
use Rattle.atomic_table.specs.declared.shared.Seat.{Seat}
use Rattle.graph_model.specs.declared.record.Outcome.{Outcome}
use Rattle.core_calls.specs.Events.{Told, told}
use Rattle.core_states.specs.declared.event.Act.TheVariants as act
use Rattle.core_states.specs.declared.event.CoreAnswer.{CoreAnswer}
use Rattle.core_states.specs.declared.event.CoreAnswer.TheVariants as answer
use Rattle.core_states.specs.declared.transaction.Stage.TheVariants.{Queued, Decided}
use Rattle.core_states.proofs.Names.{some_is}
use Rattle.turn_board.specs.Views.{View}
use Rattle.turn_board.specs.declared.board.TurnBoard.{TurnBoard}
use Rattle.store_turns.specs.declared.session.Session.{Session}
use Rattle.store_turns.specs.declared.session.Work.{Work}
use Rattle.store_turns.specs.Grows.{told_if}
use Rattle.store_turns.specs.Moves.{Waits, HearsBy, HearsOutcome, heard_stage}
use Rattle.store_board.specs.Standing.{Stands, Goes}
use Rattle.store_board.proofs.Standing.{stays, goes_on}
use Rattle.store_calls.proofs.Works.{waits_still}
use Rattle.store_leads.specs.Leads.{AreWaits, KnowsMore, OutcomeTold}
use Rattle.store_leads.proofs.Between.{waits_more}
use Rattle.store_commits.specs.Committing.{Knows, KnowsNone, HasWaited}

-- the session knows this outcome, and is else as it was while it waited
abbrev pub Learns : Session → Session → Outcome → Type 0
Learns s s' o = (t : Work) × Waits s t × (s' ≡ record s { work = Some (record t { stage = Decided o }) })

queued_is_not : (o : Outcome) → Queued ≡ Decided o → ⊥
queued_is_not o e = let bad : ⊥ = (cc) in bad

same_outcome : (o q : Outcome) → Decided o ≡ Decided q → o ≡ q
same_outcome o q e = (cc)

-- a question is answered with what is kept
record IsKept (says : CoreAnswer) (s s' : Session) : Type 0 where
  pub outcome : Option Outcome
  pub says_so : says ≡ answer.Kept outcome
  pub work : Work
  pub waits : Waits s work
  pub after : s' ≡ record s { work = Some (record work { stage = heard_stage outcome }) }

kept_so : (says : CoreAnswer) (s s' : Session) → HearsBy says s s' → IsKept says s s'
kept_so (answer.Kept o) s s' hears = record { outcome = o; says_so = refl; work = hears.0; waits = hears.1; after = hears.2 }
kept_so answer.NotEnabled s s' hears = absurd hears
kept_so answer.Done s s' hears = absurd hears
kept_so (answer.Begun n e) s s' hears = absurd hears
kept_so (answer.Number n) s s' hears = absurd hears
kept_so answer.Spent s s' hears = absurd hears
kept_so (answer.Learnt h o) s s' hears = absurd hears
kept_so (answer.Collected n) s s' hears = absurd hears
kept_so (answer.Published e) s s' hears = absurd hears
kept_so (answer.Visible y) s s' hears = absurd hears
kept_so (answer.Held u) s s' hears = absurd hears
kept_so (answer.Conflict e) s s' hears = absurd hears
kept_so answer.NoVertex s s' hears = absurd hears
kept_so answer.TxnFull s s' hears = absurd hears
kept_so answer.LogFull s s' hears = absurd hears
kept_so answer.Added s s' hears = absurd hears
kept_so answer.Replaced s s' hears = absurd hears
kept_so answer.Gone s s' hears = absurd hears
kept_so answer.Absent s s' hears = absurd hears
kept_so (answer.Shown x) s s' hears = absurd hears

-- ---- what a session knows that waited

module _ (s s' : Session) (t : Work) (waits : Waits s t) where
  -- after a lead
  pub led_knows : KnowsMore s s' → (o : Outcome) → Knows s' o → Learns s s' o
  led_knows more o known = by_work more.work
    where
      by_work : OutcomeTold s.work s'.work → Learns s s' o
      by_work (inl same) = absurd (queued_is_not o (sym waits.stage ∙ ap (λ (w : Work). w.stage) (some_is t known.0 (sym waits.is ∙ sym same ∙ known.1)) ∙ known.2))
      by_work (inr told_so) =
          let q = told_so.1 in
          let one : told_so.0 ≡ t = some_is told_so.0 t (sym told_so.2 ∙ waits.is) in
          let is : q ≡ o = same_outcome q o (ap (λ (w : Work). w.stage) (some_is (record told_so.0 { stage = Decided q }) known.0 (sym told_so.3 ∙ known.1)) ∙ known.2) in
          (t, waits, more.rest ∙ ap (λ (w : Option Work). record s { work = w }) (told_so.3 ∙ (λ i. Some (record (one i) { stage = Decided (is i) }))))

  pub led_still : KnowsMore s s' → KnowsNone s' → s' ≡ s
  led_still more none = by_work more.work
    where
      by_work : OutcomeTold s.work s'.work → s' ≡ s
      by_work (inl same) = more.rest ∙ ap (λ (w : Option Work). record s { work = w }) same
      by_work (inr told_so) = absurd (none told_so.1 (record told_so.0 { stage = Decided told_so.1 }, told_so.3, refl))

  -- after a question
  pub heard_knows : (answered : Option CoreAnswer) → HearsOutcome answered s s' → (o : Outcome) → Knows s' o → Learns s s' o
  heard_knows None hears o known = absurd (hears.0 t waits)
  heard_knows (Some says) hears o known = let k = kept_so says s s' hears in by_outcome k.outcome k.work k.waits k.after
    where
      by_outcome : (kept : Option Outcome) (w : Work) → Waits s w → s' ≡ record s { work = Some (record w { stage = heard_stage kept }) } → Learns s s' o
      by_outcome None w waiting is =
          absurd (queued_is_not o (ap (λ (z : Work). z.stage) (some_is (record w { stage = Queued }) known.0 (sym (ap (λ (z : Session). z.work) is) ∙ known.1)) ∙ known.2))
      by_outcome (Some q) w waiting is =
          let same : q ≡ o = same_outcome q o (ap (λ (z : Work). z.stage) (some_is (record w { stage = Decided q }) known.0 (sym (ap (λ (z : Session). z.work) is) ∙ known.1)) ∙ known.2) in
          (w, waiting, is ∙ ap (λ (z : Outcome). record s { work = Some (record w { stage = Decided z }) }) same)

  pub heard_still : (answered : Option CoreAnswer) → HearsOutcome answered s s' → KnowsNone s' → s' ≡ s
  heard_still None hears none = absurd (hears.0 t waits)
  heard_still (Some says) hears none = let k = kept_so says s s' hears in by_outcome k.outcome k.work k.waits k.after
    where
      by_outcome : (kept : Option Outcome) (w : Work) → Waits s w → s' ≡ record s { work = Some (record w { stage = heard_stage kept }) } → s' ≡ s
      by_outcome None w waiting is = is ∙ sym (waits_still s w waiting)
      by_outcome (Some q) w waiting is = absurd (none q (record w { stage = Decided q }, ap (λ (z : Session). z.work) is, refl))

  pub heard_waits : (answered : Option CoreAnswer) → HearsOutcome answered s s' → AreWaits (told_if (λ _. act.Outcome) answered)
  heard_waits None hears = tt
  heard_waits (Some says) hears = let k = kept_so says s s' hears in (inl (k.outcome, ap (λ z. told act.Outcome z) k.says_so), tt)

-- ---- the loop

module _ {H : Type 0} (board : TurnBoard H) (shards : ℕ) where
  pub waited_none : (p : Seat (Option H) View) (s : Session) → Stands board shards p s → HasWaited board shards p p s s
  waited_none p s stands = record { events = []; waits = tt; goes = stays board shards p s stands; same = refl }

  abbrev pub Waited : Seat (Option H) View → Seat (Option H) View → Session → Session → Type 0
  Waited p q s s' = (ts : List Told) × AreWaits ts × Goes board shards ts p q s s'

  pub waited_on : (p q r : Seat (Option H) View) (s s' s'' : Session) → Waited p q s s' → Waited q r s' s'' → Waited p r s s''
  waited_on p q r s s' s'' one two = (one.0 ++ two.0, waits_more one.0 two.0 one.1 two.1, goes_on board shards p q r s s' s'' one.0 two.0 one.2 two.2)

  module _ (p q r : Seat (Option H) View) (s s1 s2 : Session) (t : Work) (waits : Waits s t) (so_far : HasWaited board shards p q s s1) (led : Waited q r s1 s2) (more : KnowsMore s1 s2) where
    waits_now : Waits s1 t
    waits_now = subst (λ z. Waits z t) (sym so_far.same) waits

    pub led_goes : Waited p r s s2
    led_goes = waited_on p q r s s1 s2 (so_far.events, so_far.waits, so_far.goes) led

    pub led_learns : (o : Outcome) → Knows s2 o → Learns s s2 o
    led_learns o known = subst (λ z. Learns z s2 o) so_far.same (led_knows s1 s2 t waits_now more o known)

    module _ (u : Seat (Option H) View) (s3 : Session) (none : KnowsNone s2) (answered : Option CoreAnswer) (hears : HearsOutcome answered s2 s3) (heard : Goes board shards (told_if (λ _. act.Outcome) answered) r u s2 s3) where
      still : s2 ≡ s1
      still = led_still s1 s2 t waits_now more none

      waits_then : Waits s2 t
      waits_then = subst (λ z. Waits z t) (sym still) waits_now

      pub heard_goes : Waited p u s s3
      heard_goes = waited_on p r u s s2 s3 led_goes (told_if (λ _. act.Outcome) answered, heard_waits s2 s3 t waits_then answered hears, heard)

      pub heard_learns : (o : Outcome) → Knows s3 o → Learns s s3 o
      heard_learns o known = subst (λ z. Learns z s3 o) (still ∙ so_far.same) (heard_knows s2 s3 t waits_then answered hears o known)

      pub waits_on : KnowsNone s3 → HasWaited board shards p u s s3
      waits_on none_then = let w = heard_goes in record { events = w.0; waits = w.1; goes = w.2; same = heard_still s2 s3 t waits_then answered hears none_then ∙ still ∙ so_far.same }
