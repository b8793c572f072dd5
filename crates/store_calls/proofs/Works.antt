-- A session's transaction, by its fields.
use Rattle.std.proofs.Common.{◌≡◌, ℕ, List, ap, ◌∙◌, subst, Option, Some, None}
use Rattle.std.specs.Prelude.{IsTrue}
use Rattle.std.specs.List.{list_all}
use Rattle.graph_model.specs.declared.change.Change.{Change}
use Rattle.graph_model.specs.declared.record.Outcome.{Outcome}
use Rattle.group_codec.specs.Spelling.{changes_bytes, has_fields}
use Rattle.group_commit.specs.Encoded.{Spells}
use Rattle.store_turns.specs.declared.session.Session.{Session}
use Rattle.store_turns.specs.declared.session.Work.{Work}
use Rattle.store_turns.specs.Moves.{Works, Waits, heard_stage}
use denote.Struct.Props.{props}

-- bytes spell changes in one way
spells_prop : (bytes : List ℕ) (cs : List Change) → IsProp (Spells bytes cs)
spells_prop bytes cs x y =
    let spelling_prop : IsProp (bytes ≡ changes_bytes cs) = hlevel props in
    let fields_prop : IsProp (IsTrue (list_all has_fields cs)) = hlevel props in
    λ i. record { spelling = spelling_prop x.spelling y.spelling i; fields = fields_prop x.fields y.fields i }

-- so a work with another number that it drew is known by its other fields
pub same_drawn : (t : Work) (v : ℕ) (spells : Spells t.spelling t.changes) → record t { drawn = Some v; spelled = spells } ≡ record t { drawn = Some v }
same_drawn t v spells i = record t { drawn = Some v; spelled = spells_prop t.spelling t.changes spells t.spelled i }

-- and so is one that is further
pub same_heard : (t : Work) (o : Option Outcome) (spells : Spells t.spelling t.changes) → record t { stage = heard_stage o; spelled = spells } ≡ record t { stage = heard_stage o }
same_heard t o spells i = record t { stage = heard_stage o; spelled = spells_prop t.spelling t.changes spells t.spelled i }

-- a session has one transaction at most
pub one_work : (s : Session) (t u : Work) → s.work ≡ Some t → s.work ≡ Some u → t ≡ u
one_work s t u has is = let same : t ≡ u = (cc) in same

-- which works
pub works_too : (s : Session) (t u : Work) → Works s t → s.work ≡ Some u → Works s u
works_too s t u at is = subst (λ z. Works s z) (one_work s t u at.is is) at

-- or waits
pub waits_too : (s : Session) (t u : Work) → Waits s t → s.work ≡ Some u → Waits s u
waits_too s t u at is = subst (λ z. Waits s z) (one_work s t u at.is is) at

-- a session whose record waits is as it was where no outcome is noted
pub waits_still : (s : Session) (t : Work) → Waits s t → s ≡ record s { work = Some (record t { stage = heard_stage None }) }
waits_still s t at = ap (λ w. record s { work = w }) (at.is ∙ ap (λ stage. Some (record t { stage = stage })) at.stage)
