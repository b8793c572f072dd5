-- Two passes of one store stay apart by each call of one of them.
use Rattle.std.proofs.Common.{◌≡◌, ◌⊎◌, ◌∙◌, inl, inr, ℕ, false, List, [], ◌∷◌, ◌++◌, refl, sym, ap, subst, Option, None, Result, Ok, Err}
use Rattle.disk_model.specs.declared.disk.Disk.{Ghosts}
use Rattle.atomic_table.specs.declared.shared.Seat.{Seat}
use Rattle.graph_model.specs.declared.graph.Base.{Base}
use Rattle.graph_model.specs.declared.record.Record.{Record}
use Rattle.core_calls.specs.Events.{Told}
use Rattle.core_states.specs.Parts.{Part}
use Rattle.turn_board.specs.Views.{View, In, IsLast, numbers, next_number, splitting, split_off, joining, taking, finding_busy}
use Rattle.turn_board.specs.Works.{giving}
use Rattle.turn_board.specs.Board.{known, Knowing}
use Rattle.turn_board.specs.declared.board.TurnBoard.{TurnBoard}
use Rattle.turn_board.proofs.HeldLists.{in_append, in_left, in_right}
use Rattle.store_turns.specs.declared.session.Session.{Session}
use Rattle.store_turns.specs.Fits.{Fits}
use Rattle.store_board.specs.Standing.{IsAtBoard, Stands, Goes}
use Rattle.store_log.specs.LogChanges.{IsBaseOf}
use Rattle.store_sessions.specs.declared.beginning.Begun.{Begun}
use Rattle.store_sessions.specs.declared.refusal.Refusal.{Refusal}
use Rattle.store_sessions.specs.declared.refusal.Refusal.TheVariants as refusal
use Rattle.store_tries.specs.Trying.{TryBegins, FoundTaken}
use Rattle.graph_store.specs.declared.pass.Pass.{Pass}
use Rattle.graph_store.specs.Passes.{SpotOf, HoldsNone}
use Rattle.store_stories.specs.AtDesk.{AreAtDesk}
use Rattle.store_stories.specs.Apart.{AreApart}

-- A pass is made of the same ones as before, no other was split off it, and it knows the base and what was found as before.
abbrev pub HasSameNumbers : View → View → Type 0
HasSameNumbers v w = (numbers w ≡ numbers v) × (w.made ≡ v.made) × (◌≡◌ {A = Base × Option (List Record)} (w.base, w.found.records) (v.base, v.found.records))

-- ---- the second pass is split off

fresh_fits : (v : View) (s : Session) → s ≡ record { index = 0; is_open = false; finished = None; work = None } → Fits s (split_off v)
fresh_fits v s is = subst (λ (t : Session). Fits t (split_off v)) (sym is) (record { row = refl; work = tt; finished = refl; leads = (refl, refl) })

pub comes_apart : {D : Type 0} {g : Ghosts D} (board : TurnBoard (SpotOf D)) (shards : ℕ) (p q r : Pass D g) (s t x : Session) → AreAtDesk board shards p s t → IsAtBoard board shards q.seat × IsAtBoard board shards r.seat
    → known q.seat ≡ splitting (known p.seat) → known r.seat ≡ split_off (known p.seat) → q.held ≡ p.held → HoldsNone r → x ≡ record { index = 0; is_open = false; finished = None; work = None } → AreApart board shards q r x
comes_apart board shards p q r s t x desk at left right held free is = record {
  at = at.0;
  stands = (at.1, subst (λ (v : View). Fits x v) (sym right) (fresh_fits (known p.seat) x is));
  free = (held ∙ desk.free, free);
  root = subst (λ (v : View). In [] (numbers v)) (sym left) desk.last.0;
  made = λ m there. in_now m (in_append m (known p.seat).made (next_number (known p.seat) ∷ []) (subst (λ (v : View). In m v.made) left there));
  none = ap (λ (v : View). v.made) right;
  found = (subst (λ (v : View). IsBaseOf v.base v.found.records) (sym left) desk.found, subst (λ (v : View). IsBaseOf v.base v.found.records) (sym right) desk.found);
}
  where
    in_now : (m : List ℕ) → In m (known p.seat).made ⊎ In m (next_number (known p.seat) ∷ []) → ((known r.seat).number ≡ m) ⊎ In m (numbers (known q.seat))
    in_now m (inl there) = inr (subst (λ (v : View). In m (numbers v)) (sym left) (desk.last.1 m there))
    in_now m (inr (inl e)) = inl (ap (λ (v : View). v.number) right ∙ e)
    in_now m (inr (inr never)) = absurd never

-- ---- each call

-- the first pass is made of the same ones, and the second has its number
pub still_apart : {D : Type 0} {g : Ghosts D} (board : TurnBoard (SpotOf D)) (shards : ℕ) (p p' q q' : Pass D g) (s s' : Session) → AreApart board shards p q s → IsAtBoard board shards p'.seat → HoldsNone p' → HasSameNumbers (known p.seat) (known p'.seat)
    → Stands board shards q'.seat s' → q'.held ≡ q.held → HasSameNumbers (known q.seat) (known q'.seat) → AreApart board shards p' q' s'
still_apart board shards p p' q q' s s' was at none same stands held alike = record {
  at = at;
  stands = stands;
  free = (none, held ∙ was.free.1);
  root = subst (λ (ns : List (List ℕ)). In [] ns) (sym same.0) was.root;
  made = λ m there. in_now m (was.made m (subst (λ (ns : List (List ℕ)). In m ns) same.1 there));
  none = alike.1 ∙ was.none;
  found = (
    subst (λ (f : Base × Option (List Record)). IsBaseOf f.0 f.1) (sym same.2) was.found.0,
    subst (λ (f : Base × Option (List Record)). IsBaseOf f.0 f.1) (sym alike.2) was.found.1,
  );
}
  where
    first_of : List (List ℕ) → List ℕ
    first_of [] = []
    first_of (n ∷ ns) = n

    in_now : (m : List ℕ) → ((known q.seat).number ≡ m) ⊎ In m (numbers (known p.seat)) → ((known q'.seat).number ≡ m) ⊎ In m (numbers (known p'.seat))
    in_now m (inl e) = inl (ap first_of alike.0 ∙ e)
    in_now m (inr h) = inr (subst (λ (ns : List (List ℕ)). In m ns) (sym same.0) h)

pub same_self : (v : View) → HasSameNumbers v v
same_self v = (refl, refl, refl)

pub same_goes : {H : Type 0} (board : TurnBoard H) (shards : ℕ) (ts : List Told) (p q : Seat (Option H) View) (s t : Session) → Goes board shards ts p q s t → HasSameNumbers (known p) (known q)
same_goes board shards ts p q s t goes =
    (ap (λ (v : View). numbers v) goes.grew.same, ap (λ (v : View). v.made) goes.grew.same, ap (λ (v : View). (v.base, v.found.records)) goes.grew.same)

module _ {H : Type 0} (board : TurnBoard H) (shards : ℕ) (p q : Seat (Option H) View) (s t : Session) where
  abbrev pub Stood : Type 0
  Stood = Stands board shards q t × HasSameNumbers (known p) (known q)

  taken_stands : (turn : ℕ) → FoundTaken board shards turn p q s t → Stood
  taken_stands turn found =
      let is : known q ≡ finding_busy turn (known p) = ap (λ m. m.0) found.noted in
      (found.stands, (ap (λ (v : View). numbers v) is, ap (λ (v : View). v.made) is, ap (λ (v : View). (v.base, v.found.records)) is))

  gone_stands : (ts : List Told) → Goes board shards ts p q s t → Stood
  gone_stands ts goes = (goes.stands, same_goes board shards ts p q s t goes)

  -- however it is answered
  pub tried_stands : (r : Result Begun Refusal) → TryBegins board shards r p q s t → Stood
  tried_stands (Ok b) tried = gone_stands tried.events tried.goes
  tried_stands (Err refusal.NoMemory) tried = gone_stands tried.events tried.goes
  tried_stands (Err (refusal.Held v u n)) tried = gone_stands tried.events tried.goes
  tried_stands (Err (refusal.Conflict v e r)) tried = gone_stands tried.events tried.goes
  tried_stands (Err refusal.NoVertex) tried = gone_stands tried.events tried.goes
  tried_stands (Err refusal.TxnFull) tried = gone_stands tried.events tried.goes
  tried_stands (Err refusal.LogFull) tried = gone_stands tried.events tried.goes
  tried_stands (Err (refusal.LogFault b a)) tried = gone_stands tried.events tried.goes
  tried_stands (Err refusal.Spent) tried = gone_stands tried.events tried.goes
  tried_stands (Err (refusal.Busy turn)) tried = taken_stands turn tried

-- ---- they are made one

pub is_last : (v w : View) → v.held ≡ [] → In [] (numbers v) → ((m : List ℕ) → In m v.made → (w.number ≡ m) ⊎ In m (numbers v)) → w.made ≡ [] → IsLast (joining v w)
is_last v w free root made none = (stays [] root, (λ m there. in_now m (in_append m v.made w.made there)), free)
  where
    stays : (m : List ℕ) → In m (numbers v) → In m (numbers (joining v w))
    stays m (inl e) = inl e
    stays m (inr h) = inr (in_left m v.joined (numbers w) h)

    comes : (m : List ℕ) → (w.number ≡ m) ⊎ In m (numbers v) → In m (numbers (joining v w))
    comes m (inl e) = inr (in_right m v.joined (numbers w) (inl e))
    comes m (inr h) = stays m h

    in_now : (m : List ℕ) → In m v.made ⊎ In m w.made → In m (numbers (joining v w))
    in_now m (inl there) = comes m (made m there)
    in_now m (inr there) = absurd (subst (λ (ns : List (List ℕ)). In m ns) none there)

-- a third one is split off, and the second joined
pub comes_anew : {D : Type 0} {g : Ghosts D} (board : TurnBoard (SpotOf D)) (shards : ℕ) (p q r p' p'' : Pass D g) (s x : Session) → AreApart board shards p q s → IsAtBoard board shards p''.seat → IsAtBoard board shards r.seat
    → known p'.seat ≡ splitting (known p.seat) → known r.seat ≡ split_off (known p.seat) → known p''.seat ≡ joining (known p'.seat) (known q.seat) → p''.held ≡ p.held → HoldsNone r
    → x ≡ record { index = 0; is_open = false; finished = None; work = None } → AreApart board shards p'' r x
comes_anew board shards p q r p' p'' s x was at there left right both held free is = record {
  at = at;
  stands = (there, subst (λ (v : View). Fits x v) (sym right) (fresh_fits (known p.seat) x is));
  free = (held ∙ was.free.0, free);
  root = subst (λ (v : View). In [] (numbers v)) (sym now) (stays [] was.root);
  made = λ m in_made. in_now m (in_append m ((known p.seat).made ++ next_number (known p.seat) ∷ []) (known q.seat).made (subst (λ (v : View). In m v.made) now in_made));
  none = ap (λ (v : View). v.made) right;
  found = (
    subst (λ (v : View). IsBaseOf v.base v.found.records) (sym now) was.found.0,
    subst (λ (v : View). IsBaseOf v.base v.found.records) (sym right) was.found.0,
  );
}
  where
    now : known p''.seat ≡ joining (splitting (known p.seat)) (known q.seat)
    now = both ∙ ap (λ (v : View). joining v (known q.seat)) left

    stays : (m : List ℕ) → In m (numbers (known p.seat)) → In m (numbers (joining (splitting (known p.seat)) (known q.seat)))
    stays m (inl e) = inl e
    stays m (inr h) = inr (in_left m (known p.seat).joined (numbers (known q.seat)) h)

    comes : (m : List ℕ) → ((known q.seat).number ≡ m) ⊎ In m (numbers (known p.seat)) → In m (numbers (joining (splitting (known p.seat)) (known q.seat)))
    comes m (inl e) = inr (in_right m (known p.seat).joined (numbers (known q.seat)) (inl e))
    comes m (inr h) = stays m h

    in_split : (m : List ℕ) → In m (known p.seat).made ⊎ In m (next_number (known p.seat) ∷ []) → ((known r.seat).number ≡ m) ⊎ In m (numbers (known p''.seat))
    in_split m (inl there) = inr (subst (λ (v : View). In m (numbers v)) (sym now) (comes m (was.made m there)))
    in_split m (inr (inl e)) = inl (ap (λ (v : View). v.number) right ∙ e)
    in_split m (inr (inr never)) = absurd never

    in_now : (m : List ℕ) → In m ((known p.seat).made ++ next_number (known p.seat) ∷ []) ⊎ In m (known q.seat).made → ((known r.seat).number ≡ m) ⊎ In m (numbers (known p''.seat))
    in_now m (inl there) = in_split m (in_append m (known p.seat).made (next_number (known p.seat) ∷ []) there)
    in_now m (inr there) = absurd (subst (λ (ns : List (List ℕ)). In m ns) was.none there)

-- ---- a turn is held

pub same_taken : {H : Type 0} (turn : ℕ) (part : Part) (p q : Seat (Option H) View) → Knowing q (taking turn part (known p)) → HasSameNumbers (known p) (known q)
same_taken turn part p q taken = (ap (λ m. numbers m.0) taken, ap (λ m. m.0.made) taken, ap (λ m. (m.0.base, m.0.found.records)) taken)

pub same_given : {H : Type 0} (p q : Seat (Option H) View) → Knowing q (giving [] (known p)) → HasSameNumbers (known p) (known q)
same_given p q given = (ap (λ m. numbers m.0) given, ap (λ m. m.0.made) given, ap (λ m. (m.0.base, m.0.found.records)) given)

pub same_then : (u v w : View) → HasSameNumbers u v → HasSameNumbers v w → HasSameNumbers u w
same_then u v w a b = (b.0 ∙ a.0, b.1 ∙ a.1, b.2 ∙ a.2)
