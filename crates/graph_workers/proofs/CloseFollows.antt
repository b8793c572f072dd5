-- What `close` tells follows from the laws of the core: the closed state is kept, and no transaction runs in it.
use Rattle.std.proofs.Common.{◌≡◌, ℕ, Bool, true, false, ◌&&◌, List, [], ◌∷◌, refl, sym, ap, ◌∙◌, subst, arith, ⊎_elim, inl, inr, map}
use Rattle.std.specs.Prelude.{◌==◌, nat_le}
use Rattle.std.specs.List.{list_any}
use Rattle.std.proofs.lemmas.Bool.{and_parts, and_from, leb-true, false≢true, or_cases, or_left, or_right, or_from, eq-eqb, eqb-true, false_from_ne_true}
use Rattle.graph_model.specs.declared.graph.Base.{Base}
use Rattle.graph_model.specs.declared.record.Record.{Record}
use Rattle.graph_model.specs.Records.{IsGood, changes_vertex}
use Rattle.graph_legal.specs.Traces.{is_among}
use Rattle.core_states.specs.declared.transaction.Receipt.{Receipt as CoreReceipt}
use Rattle.core_states.specs.declared.transaction.End.{End as CoreEnd}
use Rattle.core_states.specs.declared.transaction.End.TheVariants as core_end
use Rattle.core_states.specs.LogParts.{Found}
use Rattle.core_states.specs.Names.{Name}
use Rattle.core_states.specs.Numbers.{has_number}
use Rattle.core_states.specs.Draws.{with_tid, tids_of}
use Rattle.core_states.specs.Records.{In as InLog}
use Rattle.core_states.specs.States.{State}
use Rattle.core_states.specs.Openings.{run_limits}
use Rattle.core_kept.specs.Bounds.{Kept}
use Rattle.core_states.specs.Ends.{Idle, AllEnded}
use Rattle.core_states.specs.Sound.{InReceipts, Sound, WasHeld}
use Rattle.core_states.specs.Sound.{EndAgrees}
use Rattle.core_kept.proofs.Keeping.{run_allowed}
use Rattle.core_laws.proofs.Sounds.{kept_sound}
use Rattle.core_laws.proofs.AllEnded.{all_ended}
use Rattle.graph_workers.specs.Passes.{Pass}
use Rattle.graph_workers.specs.Workers.{Named, IsUnused, Closed}
use Rattle.graph_workers.proofs.Sights.{Receipt, End, Committed_at, Faulted, Held_by, Conflict_at, Without, Pass as Sight}
use Rattle.graph_workers.proofs.Closing.{In, InRecords, EndHolds, Closes}
use Rattle.graph_workers.proofs.Views.{among, sight, EndAlike, Alike, Tallies, grows}

in_records : (r : Record) (rs : List Record) → InLog r rs → InRecords r rs
in_records r [] m = m
in_records r (x ∷ rs) (inl e) = inl e
in_records r (x ∷ rs) (inr m) = inr (in_records r rs m)

in_log : (r : Record) (rs : List Record) → InRecords r rs → InLog r rs
in_log r [] m = m
in_log r (x ∷ rs) (inl e) = inl e
in_log r (x ∷ rs) (inr m) = inr (in_log r rs m)

any_of : (p : Record → Bool) (r : Record) (rs : List Record) → InLog r rs → p r ≡ true → list_any p rs ≡ true
any_of p r [] m h = absurd m
any_of p r (x ∷ rs) (inl e) h = or_left _ _ (ap p (sym e) ∙ h)
any_of p r (x ∷ rs) (inr m) h = or_right (p x) _ (any_of p r rs m h)

none_of : (p : Record → Bool) (rs : List Record) → ((r : Record) → InLog r rs → p r ≡ true → ⊥) → list_any p rs ≡ false
none_of p [] f = refl
none_of p (x ∷ rs) f = or_from _ _ (false_from_ne_true (p x) (f x (inl refl))) (none_of p rs (λ r m. f r (inr m)))

number_in : (r : CoreReceipt) (us : List CoreReceipt) → InReceipts r us → has_number r.tid (map (λ (u : CoreReceipt). u.tid) us) ≡ true
number_in r [] m = absurd m
number_in r (u ∷ us) (inl e) = or_left _ _ (eq-eqb u.tid r.tid (ap (λ (x : CoreReceipt). x.tid) (sym e)))
number_in r (u ∷ us) (inr m) = or_right (u.tid == r.tid) _ (number_in r us m)

receipt_found : (t : ℕ) (us : List CoreReceipt) → has_number t (map (λ (u : CoreReceipt). u.tid) us) ≡ true → (u : CoreReceipt) × InReceipts u us × (u.tid ≡ t)
receipt_found t [] h = absurd (false≢true h)
receipt_found t (u ∷ us) h = ⊎_elim
    (λ (e : (u.tid == t) ≡ true). (u, inl refl, eqb-true u.tid t e))
    (λ (e : has_number t (map (λ (x : CoreReceipt). x.tid) us) ≡ true). let f = receipt_found t us e in (f.0, inr f.1, f.2))
    (or_cases (u.tid == t) (has_number t (map (λ (x : CoreReceipt). x.tid) us)) h)

module _ (base : Base) (found : Found) (name : ℕ → ℕ → ℕ → Name) (named : Named name) (last : ℕ → ℕ → Pass) (s : State) (good : IsGood base) (c : Closed base found name last s) (idle : Idle s)
    (low : (ph w : ℕ) → Kept base run_limits (last ph w).seen) (rs : ℕ → ℕ → List Receipt) (ds : ℕ → ℕ → List ℕ) (tallies : (ph w : ℕ) → Tallies (name ph w) (last ph w).seen (rs ph w) (ds ph w)) where
  abbrev sights : ℕ → ℕ → Sight
  sights ph w = sight (name ph w) (last ph w) (rs ph w) (ds ph w)

  sound : Sound base s
  sound = kept_sound base run_limits s good run_allowed c.kept

  ended : AllEnded s
  ended = all_ended base run_limits s c.kept idle

  -- a receipt of the closed state is one of a worker's pass
  receipt_of : (i : Name) (r : CoreReceipt) → InReceipts r (s.actor i).receipts → (ph : ℕ) × (w : ℕ) × (u : Receipt) × In u (rs ph w) × Alike r u
  receipt_of i r m = ⊎_elim
      (λ (none : IsUnused (s.actor i)). absurd (subst (InReceipts r) none.receipts m))
      (λ (of : (ph : ℕ) × (w : ℕ) × (k : ℕ) × (i ≡ name ph w k)).
      let here : InReceipts r ((last of.0 of.1).seen.actor (name of.0 of.1 of.2)).receipts = subst (λ a. InReceipts r a) (ap (λ j. (s.actor j).receipts) of.3 ∙ ap (λ a. a.receipts) (c.same of.0 of.1 of.2)) m in
      let u = (tallies of.0 of.1).came of.2 r here in
      (of.0, of.1, u.0, u.1, u.2))
      (c.only i)

  -- and the other way round
  kept_by : (ph w : ℕ) (u : Receipt) → In u (rs ph w) → (k : ℕ) × (r : CoreReceipt) × InReceipts r (s.actor (name ph w k)).receipts × Alike r u
  kept_by ph w u m =
      let b = (tallies ph w).back u m in
      (b.0, b.1, subst (λ a. InReceipts b.1 a) (ap (λ a. a.receipts) (sym (c.same ph w b.0))) b.2, b.3)

  holder : (v t read : ℕ) → WasHeld s v t read → (ph : ℕ) × (w : ℕ) × (u : Receipt) × In u (rs ph w) × (u.txn.number ≡ t) × (is_among v u.txn.touched ≡ true)
  holder v t read h =
      let e = ended.holders v t read h in
      let f = receipt_of e.actor e.receipt e.among in
      (f.0, f.1, f.2, f.3, f.4.number ∙ e.number, ap (is_among v) f.4.touched ∙ among v e.receipt.touched ∙ e.touched)

  agrees : (r : CoreReceipt) (u : Receipt) (core : CoreEnd) (end : End) → Alike r u → EndAlike core end → EndAgrees s r core → EndHolds sights s.clock.records u end
  agrees r u (core_end.CommittedAt e) (Committed_at f) a h g = in_records _ s.clock.records
      (subst (λ (x : Record). InLog x s.clock.records) (λ i. record { tid = sym a.number i; read = sym a.read i; epoch = h i; changes = sym a.own i }) g)
  agrees r u (core_end.CommittedAt e) (Faulted b d) a h g = absurd h
  agrees r u (core_end.CommittedAt e) (Held_by v n) a h g = absurd h
  agrees r u (core_end.CommittedAt e) (Conflict_at v f) a h g = absurd h
  agrees r u (core_end.CommittedAt e) Without a h g = absurd h
  agrees r u (core_end.Faulted b d) (Committed_at f) a h g = absurd h
  agrees r u (core_end.Faulted b d) (Faulted x y) a h g = tt
  agrees r u (core_end.Faulted b d) (Held_by v n) a h g = absurd h
  agrees r u (core_end.Faulted b d) (Conflict_at v f) a h g = absurd h
  agrees r u (core_end.Faulted b d) Without a h g = absurd h
  agrees r u (core_end.HeldBy v t) (Committed_at f) a h g = absurd h
  agrees r u (core_end.HeldBy v t) (Faulted x y) a h g = absurd h
  agrees r u (core_end.HeldBy v t) (Held_by w n) a h g =
      let o = holder v t r.read g.1 in (
        none_of (λ x. x.tid == n && nat_le x.epoch u.txn.read) s.clock.records (λ x m e.
            let parts = and_parts (x.tid == n) (nat_le x.epoch u.txn.read) e in
            let late = g.1.later x m (eqb-true x.tid n parts.0 ∙ sym h.1) in
            let early = leb-true x.epoch u.txn.read parts.1 in
            let same = a.read in
            omega (arith, late, early, same)),
        (o.0, o.1, o.2, o.3, o.4 ∙ h.1, ap (λ z. is_among z o.2.txn.touched) (sym h.0) ∙ o.5),
      )
  agrees r u (core_end.HeldBy v t) (Conflict_at w f) a h g = absurd h
  agrees r u (core_end.HeldBy v t) Without a h g = tt
  agrees r u (core_end.ConflictAt v e) (Committed_at f) a h g = absurd h
  agrees r u (core_end.ConflictAt v e) (Faulted x y) a h g = absurd h
  agrees r u (core_end.ConflictAt v e) (Held_by w n) a h g = absurd h
  agrees r u (core_end.ConflictAt v e) (Conflict_at w f) a h g =
      let was = g.1 in
      any_of (λ x. x.epoch == f && changes_vertex w x) was.record_is s.clock.records was.among
      (and_from _ _ (eq-eqb was.record_is.epoch f (was.epoch ∙ h.1)) (ap (λ z. changes_vertex z was.record_is) (sym h.0) ∙ was.changed))
  agrees r u (core_end.ConflictAt v e) Without a h g = tt
  agrees r u core_end.Without (Committed_at f) a h g = absurd h
  agrees r u core_end.Without (Faulted x y) a h g = absurd h
  agrees r u core_end.Without (Held_by v n) a h g = absurd h
  agrees r u core_end.Without (Conflict_at v f) a h g = absurd h
  agrees r u core_end.Without Without a h g = tt

  is_committed : (core : CoreEnd) (end : End) (e : ℕ) → EndAlike core end → core ≡ core_end.CommittedAt e → end ≡ Committed_at e
  is_committed core end e h is = at_end end (subst (λ z. EndAlike z end) is h)
    where
      at_end : (end : End) → EndAlike (core_end.CommittedAt e) end → end ≡ Committed_at e
      at_end (Committed_at f) g = ap Committed_at (sym g)
      at_end (Faulted b a) g = absurd g
      at_end (Held_by v n) g = absurd g
      at_end (Conflict_at v f) g = absurd g
      at_end Without g = absurd g

  -- a number that an actor keeps is below the next one, and the actor is its drawer
  tid_kept : (i : Name) (r : CoreReceipt) → InReceipts r (s.actor i).receipts → has_number r.tid (tids_of (s.actor i)) ≡ true
  tid_kept i r m = ap (λ o. has_number r.tid (with_tid o (map (λ (u : CoreReceipt). u.tid) (s.actor i).receipts))) (idle i) ∙ number_in r (s.actor i).receipts m

  pub closes : Closes base s.clock.records sights
  closes = record {
    continues = sound.history.continues;
    next_tid = s.clock.next_tid;
    next_vertex = s.clock.next_vertex;
    tid_end = c.kept.1.next_tid;
    vertex_end = c.kept.1.next_vertex;
    grown = λ ph w. grows base run_limits (last ph w).seen s (low ph w) (c.later ph w);
    tids = λ ph w. (c.later ph w).next_tid;
    vertices = λ ph w. (c.later ph w).next_vertex;
    agree = λ ph w u m. let b = kept_by ph w u m in agrees b.1 u b.1.ends u.ends b.3 b.3.ends (sound.receipts.ends (name ph w b.0) b.1 b.2);
    recorded = λ r m.
        let h = ended.records r (in_log r s.clock.records m) in
        let f = receipt_of h.actor h.receipt h.among in
        (f.0, f.1, f.2, f.3, f.4.number ∙ h.number, is_committed h.receipt.ends f.2.ends r.epoch f.4.ends h.ends);
    phase_of = λ n. named.phase_of (sound.history.tids.drawer n);
    worker_of = λ n. named.worker_of (sound.history.tids.drawer n);
    who = λ ph w u m.
        let b = kept_by ph w u m in
        let k = sound.history.tids.kept (name ph w b.0) b.1.tid (tid_kept (name ph w b.0) b.1 b.2) in
        let number = b.3.number in
        let below = k.2 in
        let is = ap sound.history.tids.drawer number ∙ k.0 in
        (ap named.phase_of is ∙ named.phase ph w b.0, ap named.worker_of is ∙ named.worker ph w b.0, omega (arith, number, below));
    drawn_tids = λ n from to.
        let i = sound.history.tids.drawer n in
        let u = receipt_found n (s.actor i).receipts (ap (λ o. has_number n (with_tid o (map (λ (x : CoreReceipt). x.tid) (s.actor i).receipts))) (sym (idle i)) ∙ sound.history.tids.each n from to) in
        let f = receipt_of i u.0 u.1 in
        (f.0, f.1, f.2, f.3, f.4.number ∙ u.2);
    phase_drawing = λ v. named.phase_of (sound.history.vertices.drawer v);
    worker_drawing = λ v. named.worker_of (sound.history.vertices.drawer v);
    drawer = λ ph w v m.
        let d = (tallies ph w).drawn v m in
        let k = sound.history.vertices.kept (name ph w d.0) v (ap (λ a. has_number v a.drew) (c.same ph w d.0) ∙ d.1) in
        (ap named.phase_of k.0 ∙ named.phase ph w d.0, ap named.worker_of k.0 ∙ named.worker ph w d.0, k.2);
    drawn_vertices = λ v from to.
        let has = sound.history.vertices.each v from to in
        ⊎_elim
        (λ (none : IsUnused (s.actor (sound.history.vertices.drawer v))). absurd (false≢true (ap (has_number v) (sym none.drew) ∙ has)))
        (λ (of : (ph : ℕ) × (w : ℕ) × (k : ℕ) × (sound.history.vertices.drawer v ≡ name ph w k)).
        (of.0, of.1, (tallies of.0 of.1).drew of.2 v (sym (ap (λ j. has_number v (s.actor j).drew) of.3 ∙ ap (λ a. has_number v a.drew) (c.same of.0 of.1 of.2)) ∙ has)))
        (c.only (sound.history.vertices.drawer v));
  }
