-- A session after a call is ready for its next line.
use Rattle.std.proofs.Common.{◌≡◌, true, sym, ap, ◌∙◌, subst, Option, Some, None, Ok}
use Rattle.core_states.specs.declared.transaction.Stage.TheVariants.{Open}
use Rattle.store_turns.specs.declared.session.Session.{Session}
use Rattle.store_turns.specs.declared.session.Work.{Work}
use Rattle.store_turns.specs.Moves.{Works}
use Rattle.store_sessions.specs.declared.beginning.Begun.{Begun}
use Rattle.store_sessions.specs.declared.refusal.Refusal.{Refusal}
use Rattle.store_sessions.specs.declared.refusal.Refusal.TheVariants as refusal
use Rattle.store_sessions.specs.Beginning.{BeginLeaves}
use Rattle.store_sessions.specs.Changing.{StaysAtWork, HasLeft, RefusedLeaves}
use Rattle.store_lines.specs.Lines.{IsAtLine, IsInside, IsOutside}

-- a transaction that there is works
abbrev IsOpenWork : Option Work → Type 0
IsOpenWork None = Unit {0}
IsOpenWork (Some t) = (t.stage ≡ Open) × (t.settled ≡ 0)

-- there is none
abbrev IsNoWork : Option Work → Type 0
IsNoWork None = Unit {0}
IsNoWork (Some t) = ⊥

-- the same transaction works on
pub works_ready : (s : Session) (t : Work) → s.is_open ≡ true → Works s t → IsAtLine s
works_ready s t is_open works = (
  is_open,
  λ u is.
      let at = subst IsOpenWork (sym works.is ∙ is) (works.stage, works.settled) in
      record { is = is; stage = at.0; settled = at.1 },
)

-- none is left
pub none_ready : (s : Session) → s.is_open ≡ true → s.work ≡ None → IsAtLine s
none_ready s is_open idle = (is_open, λ u is. absurd (subst IsNoWork (sym idle ∙ is) tt))

pub stays_ready : (s s' : Session) → IsInside s → StaysAtWork s s' → IsAtLine s'
stays_ready s s' inside stays = works_ready s' stays.after (stays.is_open ∙ inside.0) stays.works

pub left_ready : (s s' : Session) → s.is_open ≡ true → HasLeft s s' → IsAtLine s'
left_ready s s' is_open left = none_ready s' (ap (λ (z : Session). z.is_open) left ∙ is_open) (ap (λ (z : Session). z.work) left)

pub same_ready : (s s' : Session) → IsInside s → s' ≡ s → IsAtLine s'
same_ready s s' inside same = subst IsAtLine (sym same) (works_ready s inside.1.0 inside.0 inside.1.1)

pub refused_ready : (r : Refusal) (s s' : Session) → IsInside s → RefusedLeaves r s s' → IsAtLine s'
refused_ready refusal.NoMemory s s' inside stays = stays_ready s s' inside stays
refused_ready (refusal.Held v u n) s s' inside left = left_ready s s' inside.0 left
refused_ready (refusal.Conflict v e r) s s' inside left = left_ready s s' inside.0 left.0
refused_ready refusal.NoVertex s s' inside stays = stays_ready s s' inside stays
refused_ready refusal.TxnFull s s' inside stays = stays_ready s s' inside stays
refused_ready refusal.LogFull s s' inside stays = stays_ready s s' inside stays
refused_ready (refusal.LogFault b a) s s' inside stays = stays_ready s s' inside stays
refused_ready refusal.Spent s s' inside stays = stays_ready s s' inside stays
refused_ready (refusal.Busy t) s s' inside stays = stays_ready s s' inside stays

-- a transaction has begun, or none has
pub begun_ready : (b : Begun) (s s' : Session) → IsOutside s → BeginLeaves (Ok b) s s' → IsAtLine s'
begun_ready b s s' outside new = works_ready s' new.0 (ap (λ (z : Session). z.is_open) new.1 ∙ outside.0)
    (record { is = ap (λ (z : Session). z.work) new.1; stage = new.2.stage; settled = new.2.settled })

pub idle_ready : (s s' : Session) → IsOutside s → s' ≡ s → IsAtLine s'
idle_ready s s' outside same = subst IsAtLine (sym same) (none_ready s outside.0 outside.1)
