-- What the receipts say once no transaction runs.
use Rattle.std.proofs.Common.{◌≡◌, ℕ, ◌<◌, ◌≤◌, true, ◌&&◌, List, [], ◌∷◌, refl, sym, ap, ◌∙◌, subst, ⊎_elim, inl, inr}
use Rattle.std.proofs.lemmas.Bool.{eqb-true, and_parts, or_cases, false≢true}
use Rattle.std.proofs.Common.{map}
use Rattle.std.specs.Prelude.{◌==◌}
use Rattle.graph_model.specs.declared.graph.Base.{Base}
use Rattle.graph_model.specs.declared.record.Record.{Record}
use Rattle.core_states.specs.declared.transaction.Receipt.{Receipt}
use Rattle.core_states.specs.declared.transaction.End.{End}
use Rattle.core_states.specs.declared.transaction.End.TheVariants.{CommittedAt, Faulted, HeldBy, ConflictAt, Without}
use Rattle.core_states.specs.Names.{Name}
use Rattle.core_states.specs.Numbers.{has_number}
use Rattle.core_states.specs.States.{State}
use Rattle.core_kept.specs.Good.{Ghost, Nowhere, InLog, InFault, In, Good, RecordsOk}
use Rattle.core_kept.specs.Tellings.{EndOk, ReceiptOk, AllReceipts, Told}
use Rattle.core_states.specs.Touches.{receipt_touched}
use Rattle.core_states.specs.Sound.{InReceipts}
use Rattle.core_states.specs.Ends.{Idle}
use Rattle.core_states.specs.Draws.{with_tid, TidsDrawn}

pub record_facts : (base : Base) (g : Ghost) (n : ℕ) (r : Record) (rs : List Record) → RecordsOk base g n rs → In r rs → (g.place r.tid ≡ InLog r.epoch) × (base.next_tid ≤ r.tid) × (r.tid < n)
record_facts base g n r [] ok m = absurd m
record_facts base g n r (x ∷ rs) ok (inl is) = subst (λ (y : Record). (g.place y.tid ≡ InLog y.epoch) × (base.next_tid ≤ y.tid) × (y.tid < n)) (sym is) (ok.0, ok.1, ok.2)
record_facts base g n r (x ∷ rs) ok (inr m) = record_facts base g n r rs ok.6 m

pub receipt_ok : (g : Ghost) (s : State) (u : Receipt) (us : List Receipt) → AllReceipts g s us → InReceipts u us → ReceiptOk g s u
receipt_ok g s u [] ok m = absurd m
receipt_ok g s u (x ∷ us) ok (inl is) = subst (λ y. ReceiptOk g s y) (sym is) ok.0
receipt_ok g s u (x ∷ us) ok (inr m) = receipt_ok g s u us ok.1 m

-- a receipt of a number whose record is in the log says so
logged_end : (g : Ghost) (s : State) (u : Receipt) (end : End) (e : ℕ) → EndOk g s u end → g.place u.tid ≡ InLog e → end ≡ CommittedAt e
logged_end g s u (CommittedAt f) e ok at = same f e (sym ok.0 ∙ at)
  where
    same : (a b : ℕ) → InLog a ≡ InLog b → CommittedAt a ≡ CommittedAt b
    same a b q = let f : a ≡ b = (cc) in ap CommittedAt f
logged_end g s u (Faulted b a) e ok at = let q : InFault b a ≡ InLog e = sym ok ∙ at in absurd (cc)
logged_end g s u (HeldBy v t) e ok at = let q : Nowhere ≡ InLog e = sym ok.0 ∙ at in absurd (cc)
logged_end g s u (ConflictAt v f) e ok at = let q : Nowhere ≡ InLog e = sym ok.0 ∙ at in absurd (cc)
logged_end g s u Without e ok at = let q : Nowhere ≡ InLog e = sym ok ∙ at in absurd (cc)

-- Each record has a receipt that says committed, with its epoch.
receipt_found : (t : ℕ) (us : List Receipt) → has_number t (map (λ u. u.tid) us) ≡ true → (u : Receipt) × InReceipts u us × (u.tid ≡ t)
receipt_found t [] has = absurd (false≢true has)
receipt_found t (u ∷ us) has = ⊎_elim
    (λ (e : (u.tid == t) ≡ true). (u, inl refl, eqb-true u.tid t e))
    (λ (e : has_number t (map (λ x. x.tid) us) ≡ true). let f = receipt_found t us e in (f.0, inr f.1, f.2))
    (or_cases (u.tid == t) (has_number t (map (λ x. x.tid) us)) has)

pub recorded : (base : Base) (g : Ghost) (s : State) → Good base g s → Told g s → TidsDrawn base s → Idle s → (r : Record) → In r s.clock.records →
    (i : Name) × (u : Receipt) × InReceipts u (s.actor i).receipts × (u.tid ≡ r.tid) × (u.ends ≡ CommittedAt r.epoch)
recorded base g s good told drawn idle r m =
    let f = record_facts base g s.clock.next_tid r s.clock.records good.records m in
    let i = drawn.drawer r.tid in
    let u = receipt_found r.tid (s.actor i).receipts (ap (λ o. has_number r.tid (with_tid o (map (λ x. x.tid) (s.actor i).receipts))) (sym (idle i)) ∙ drawn.each r.tid f.1 f.2) in
    let ok = receipt_ok g s u.0 (s.actor i).receipts (told i).0 u.1 in
    (i, u.0, u.1, u.2, logged_end g s u.0 u.0.ends r.epoch ok.ends (ap g.place u.2 ∙ f.0))

pub touch_found : (t v : ℕ) (us : List Receipt) → receipt_touched us t v ≡ true → (u : Receipt) × InReceipts u us × (u.tid ≡ t) × (has_number v u.touched ≡ true)
touch_found t v [] h = absurd (false≢true h)
touch_found t v (x ∷ us) h = ⊎_elim
    (λ (now : (x.tid == t && has_number v x.touched) ≡ true). let parts = and_parts (x.tid == t) (has_number v x.touched) now in (x, inl refl, eqb-true x.tid t parts.0, parts.1))
    (λ (past : receipt_touched us t v ≡ true). let old = touch_found t v us past in (old.0, inr old.1, old.2, old.3))
    (or_cases (x.tid == t && has_number v x.touched) (receipt_touched us t v) h)
