-- Two sessions stay at the desk by each call of one of them.
use Rattle.std.proofs.Common.{◌∙◌, ◌≡◌, ◌≢◌, ℕ, List, [], inl, refl, false, sym, ap, subst, Option, Some, None, arith}
use Rattle.disk_model.specs.declared.disk.Disk.{Ghosts}
use Rattle.core_calls.specs.Events.{Told}
use Rattle.core_states.specs.declared.actor.Actor.{Actor}
use Rattle.core_states.specs.Names.{Name}
use Rattle.graph_model.specs.declared.graph.Base.{Base}
use Rattle.graph_model.specs.Records.{empty_base}
use Rattle.turn_board.specs.Views.{Start, fresh_view}
use Rattle.store_log.specs.LogValues.{where_told}
use Rattle.turn_board.specs.Views.{View, IsLast, In, numbers}
use Rattle.turn_board.specs.Board.{known}
use Rattle.turn_board.specs.declared.board.TurnBoard.{TurnBoard}
use Rattle.store_turns.specs.declared.session.Session.{Session}
use Rattle.store_turns.specs.Fits.{Fits, IsSessionOf, name_in, actor_at}
use Rattle.store_turns.specs.Grows.{Grew}
use Rattle.store_board.specs.Standing.{IsAtBoard, Goes}
use Rattle.store_log.specs.LogChanges.{IsBaseOf}
use Rattle.graph_store.specs.declared.pass.Pass.{Pass}
use Rattle.graph_store.specs.Passes.{SpotOf, HoldsNone}
use Rattle.store_stories.specs.AtDesk.{AreAtDesk}

-- the pass is still the only one
still_last : (n : Name) (ts : List Told) (v w : View) → Grew n ts v w → IsLast v → IsLast w
still_last n ts v w grew last = (
  subst (λ (u : View). In [] (numbers u)) (sym grew.same) last.0,
  (λ m made. subst (λ (u : View). In m (numbers u)) (sym grew.same) (last.1 m (subst (λ (u : View). In m u.made) grew.same made))),
  grew.held ∙ last.2,
)

-- another session of the pass stands for its actor as before
other_fits : (i : ℕ) (ts : List Told) (v w : View) (s : Session) → Grew (name_in v i) ts v w → s.index ≢ i → Fits s v → Fits s w
other_fits i ts v w s grew apart fits =
    let differs : name_in v s.index ≢ name_in v i = λ e. apart (ap (λ (n : Name). n.index) e) in
    let number : w.number ≡ v.number = ap (λ (u : View). u.number) grew.same in
    let same : actor_at w (name_in w s.index) ≡ actor_at v (name_in v s.index)
    = ap (λ (k : List ℕ). actor_at w (record { pass = k; index = s.index })) number ∙ grew.others (name_in v s.index) differs in
    subst (λ (a : Actor). IsSessionOf s a) (sym same) fits

pub still_at_desk : {D : Type 0} {g : Ghosts D} (board : TurnBoard (SpotOf D)) (shards : ℕ) (ts : List Told) (p q : Pass D g) (s t other : Session)
    → AreAtDesk board shards p s other → Goes board shards ts p.seat q.seat s t → q.held ≡ p.held → AreAtDesk board shards q t other
still_at_desk board shards ts p q s t other was goes held = record {
  stands = goes.stands;
  free = held ∙ was.free;
  beside = other_fits s.index ts (known p.seat) (known q.seat) other goes.grew was.apart was.beside;
  apart = λ e. was.apart (e ∙ goes.index);
  last = still_last _ ts (known p.seat) (known q.seat) goes.grew was.last;
  found = subst (λ (u : View). IsBaseOf u.base u.found.records) (sym goes.grew.same) was.found;
}

-- the base of an empty log is that of its records
empty_is_base : (bytes : Option (List ℕ)) → IsBaseOf empty_base (where_told bytes [])
empty_is_base None = tt
empty_is_base (Some bytes) = (record { epochs = refl; groups = refl; each = refl; numbers = refl; made = refl; made_once = refl; fit = refl; no_overlap = refl; lists = refl }, refl)

pub base_of_none : (bytes : Option (List ℕ)) (base : Base) → base ≡ empty_base → IsBaseOf base (where_told bytes [])
base_of_none bytes base is = subst (λ (b : Base). IsBaseOf b (where_told bytes [])) (sym is) (empty_is_base bytes)

-- a session that has done nothing may begin with a pass that has
fresh_fits : (start : Start) (i : ℕ) (s : Session) → s ≡ record { index = i; is_open = false; finished = None; work = None } → Fits s (fresh_view start [] [] [])
fresh_fits start i s is = subst (λ (t : Session). Fits t (fresh_view start [] [] [])) (sym is) (record { row = refl; work = tt; finished = refl; leads = (refl, refl) })

fresh_last : (start : Start) → IsLast (fresh_view start [] [] [])
fresh_last start = (inl refl, (λ m made. absurd made), refl)

-- two sessions that have done nothing may begin at a board that was just opened
pub fresh_at_desk : {D : Type 0} {g : Ghosts D} (board : TurnBoard (SpotOf D)) (shards : ℕ) (start : Start) (pass : Pass D g) (s t : Session)
    → IsAtBoard board shards pass.seat → HoldsNone pass → known pass.seat ≡ fresh_view start [] [] []
    → s ≡ record { index = 0; is_open = false; finished = None; work = None } → t ≡ record { index = 1; is_open = false; finished = None; work = None }
    → IsBaseOf start.base start.found.records → AreAtDesk board shards pass s t
fresh_at_desk board shards start pass s t at free fresh is beside base =
    let one : t.index ≡ 1 = ap (λ (u : Session). u.index) beside in
    let zero : s.index ≡ 0 = ap (λ (u : Session). u.index) is in
    record {
      free = free;
      stands = (at, subst (λ (v : View). Fits s v) (sym fresh) (fresh_fits start 0 s is));
      beside = subst (λ (v : View). Fits t v) (sym fresh) (fresh_fits start 1 t beside);
      apart = λ e. omega (arith, e, one, zero);
      last = subst (λ (v : View). IsLast v) (sym fresh) (fresh_last start);
      found = subst (λ (v : View). IsBaseOf v.base v.found.records) (sym fresh) base;
    }
