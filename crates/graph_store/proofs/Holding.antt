-- A pass takes one turn and gives it back, and nothing else comes of it.
use Rattle.disk_model.specs.declared.disk.Disk.{Ghosts}
use Rattle.std.proofs.Common.{◌≡◌, ◌∙◌, ℕ, ◌+◌, ◌≤◌, List, [], ◌∷◌, refl, sym, ap, subst, Option, Some, arith}
use Rattle.atomic_table.specs.declared.shared.Seat.{Seat}
use Rattle.graph_model.specs.declared.graph.Base.{Base}
use Rattle.core_states.specs.Parts.{Part, OfShard, OfClock, OfLog}
use Rattle.turn_board.specs.Views.{View, Held, Shown, Start, Belongs, behind, start_of, taking}
use Rattle.turn_board.specs.Works.{giving, IsLeft, SaysSame, Leads}
use Rattle.turn_board.specs.Board.{known, Knowing, HoldsLast, SameSeat, slots_of}
use Rattle.turn_board.specs.Spread.{turns_in}
use Rattle.turn_board.specs.declared.board.TurnBoard.{TurnBoard}
use Rattle.store_board.specs.Standing.{Holds, IsAtBoard}
use Rattle.graph_store.specs.declared.pass.Pass.{Pass}
use Rattle.graph_store.specs.declared.pass.HeldTurn.{HeldTurn}
use Rattle.graph_store.specs.Passes.{HoldsTurn, SpotOf, shown_by}

-- it has taken the turn
pub holds_one : {H : Type 0} (board : TurnBoard H) (shards turn : ℕ) (part : Part) (p q : Seat (Option H) View) → IsAtBoard board shards p → Knowing q (taking turn part (known p)) → SameSeat p q
    → Holds board shards (record { turn = turn; part = part } ∷ []) q
holds_one board shards turn part p q at taken keeps =
    let is : known q ≡ taking turn part (known p) = ap (λ m. m.0) taken in
    record {
      own = keeps.0 ∙ at.own;
      ready = (ap (λ (v : View). v.spent) is ∙ at.ready.0, ap (λ m. m.1) taken ∙ ap (λ (v : View). slots_of v.held) (sym is));
      held = ap (λ (v : View). v.held) is ∙ ap (λ (hs : List Held). record { turn = turn; part = part } ∷ hs) at.held;
      turns = at.turns ∙ sym (ap (λ t. turns_in t.slots) keeps.0);
      as_many = at.as_many ∙ sym (ap (λ (v : View). v.shards) is);
      some = at.some;
      limits = ap (λ (v : View). v.limits.txn) is ∙ at.limits;
    }

-- and the value still belongs to its turn
pub belongs_still : {H : Type 0} (turn : ℕ) (part : Part) (p q : Seat (Option H) View) (x : Shown) → Knowing q (taking turn part (known p)) → Belongs (start_of (known p)) turn x → Belongs (start_of (known q)) turn x
belongs_still turn part p q x taken belongs = subst (λ (s : Start). Belongs s turn x) (sym (ap (λ m. start_of m.0) taken)) belongs

-- it has given it back
pub holds_none : {H : Type 0} (board : TurnBoard H) (shards : ℕ) (h : Held) (p q : Seat (Option H) View) → Holds board shards (h ∷ []) p → Knowing q (giving [] (known p)) → SameSeat p q → IsAtBoard board shards q
holds_none board shards h p q holds given keeps =
    let is : known q ≡ giving [] (known p) = ap (λ m. m.0) given in
    record {
      own = keeps.0 ∙ holds.own;
      ready = (ap (λ (v : View). v.spent) is ∙ holds.ready.0, ap (λ m. m.1) given ∙ ap (λ (v : View). slots_of v.held) (sym is));
      held = ap (λ (v : View). v.held) is ∙ ap behind holds.held;
      turns = holds.turns ∙ sym (ap (λ t. turns_in t.slots) keeps.0);
      as_many = holds.as_many ∙ sym (ap (λ (v : View). v.shards) is);
      some = holds.some;
      limits = ap (λ (v : View). v.limits.txn) is ∙ holds.limits;
    }

-- the turn and the value are those that the pass holds
pub held_one : {D : Type 0} {g : Ghosts D} (moment : D → ℕ) (board : TurnBoard (SpotOf D)) (shards turn : ℕ) (p : Pass D g) (h : HeldTurn D) → HoldsTurn moment board shards turn p → p.held ≡ Some h
    → (h.turn ≤ shards + 1) × Holds board shards (record { turn = h.turn; part = (shown_by moment h.value).part } ∷ []) p.seat × Belongs (start_of (known p.seat)) h.turn (shown_by moment h.value)
held_one {D} moment board shards turn p h w there =
    let both : ◌≡◌ {A = Option (HeldTurn D)} (Some (record { turn = turn; value = w.value })) (Some h) = sym w.held ∙ there in
    let is : ◌≡◌ {A = HeldTurn D} (record { turn = turn; value = w.value }) h = (cc) in
    subst (λ (x : HeldTurn D). (x.turn ≤ shards + 1) × Holds board shards (record { turn = x.turn; part = (shown_by moment x.value).part } ∷ []) p.seat × Belongs (start_of (known p.seat)) x.turn (shown_by moment x.value)) is
    (w.turn_is, w.holds, w.belongs)

-- it is the last that was taken
pub holds_last : {H : Type 0} (board : TurnBoard H) (shards turn : ℕ) (part : Part) (p : Seat (Option H) View) → turn ≤ shards + 1 → Holds board shards (record { turn = turn; part = part } ∷ []) p → HoldsLast turn p
holds_last board shards turn part p low holds = let many = holds.turns in (part, [], holds.held, omega (arith, low, many))

-- a part says what it says
says_itself : (base : Base) (part : Part) → SaysSame base part part
says_itself base (OfShard rows) = λ v. refl
says_itself base (OfClock k) = refl
says_itself base (OfLog log) = refl

-- the part as it was taken is what is left of it where nothing was done
pub leads_nowhere : (shards turn : ℕ) (part : Part) (v : View) → v.held ≡ record { turn = turn; part = part } ∷ [] → Leads shards v [] part
leads_nowhere shards turn part v held = (tt, subst (λ (hs : List Held). IsLeft v.base part hs) (sym held) (says_itself v.base part))
