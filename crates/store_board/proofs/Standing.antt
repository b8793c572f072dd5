-- How the events of a session follow one another.
use Rattle.std.proofs.Common.{◌≡◌, ℕ, List, [], ◌++◌, refl, sym, ap, ◌∙◌, subst, Option}
use Rattle.atomic_table.specs.declared.shared.Seat.{Seat}
use Rattle.core_calls.specs.Events.{Told}
use Rattle.core_states.specs.Names.{Name}
use Rattle.turn_board.specs.Views.{Held, View}
use Rattle.turn_board.specs.Spread.{turns_in}
use Rattle.turn_board.specs.Board.{known, Ready, SameSeat}
use Rattle.turn_board.specs.declared.board.TurnBoard.{TurnBoard}
use Rattle.store_turns.specs.declared.session.Session.{Session}
use Rattle.store_turns.specs.Fits.{Fits, name_in}
use Rattle.store_turns.specs.Grows.{Went, Grew}
use Rattle.store_turns.proofs.Growing.{grew_nothing, grew_on}
use Rattle.store_board.specs.Standing.{Holds, IsAtBoard, Stands, Goes}

module _ {H : Type 0} (board : TurnBoard H) (shards : ℕ) where
  pub still_holds : (p q : Seat (Option H) View) (hs gs : List Held) (n : Name) (ts : List Told) → Holds board shards hs p → Went n ts gs (known p) (known q) → Ready q → SameSeat p q → Holds board shards gs q
  still_holds p q hs gs n ts was grew ready same = record {
    own = same.0 ∙ was.own;
    ready = ready;
    held = grew.held;
    turns = was.turns ∙ sym (ap (λ id. turns_in id.slots) same.0);
    as_many = was.as_many ∙ sym (ap (λ (u : View). u.shards) grew.same);
    some = was.some;
    limits = ap (λ (u : View). u.limits.txn) grew.same ∙ was.limits;
  }

  pub goes_by : (p q : Seat (Option H) View) (s s' : Session) (ts : List Told) → IsAtBoard board shards p → Grew (name_in (known p) s.index) ts (known p) (known q) → Fits s' (known q) → s'.index ≡ s.index → Ready q → SameSeat p q → Goes board shards ts p q s s'
  goes_by p q s s' ts was grew fits index ready same = record {
    stands = (subst (λ hs. Holds board shards hs q) was.held (still_holds p q [] (known p).held (name_in (known p) s.index) ts was grew ready same), fits);
    grew = grew;
    index = index;
    seat = same;
  }

  -- no event
  pub stays : (p : Seat (Option H) View) (s : Session) → Stands board shards p s → Goes board shards [] p p s s
  stays p s stands = record { stands = stands; grew = grew_nothing (name_in (known p) s.index) (known p); index = refl; seat = (refl, refl) }

  -- events, and more behind them
  pub goes_on : (p q r : Seat (Option H) View) (s s' s'' : Session) (ts us : List Told) → Goes board shards ts p q s s' → Goes board shards us q r s' s'' → Goes board shards (ts ++ us) p r s s''
  goes_on p q r s s' s'' ts us one two = record {
    stands = two.stands;
    grew = grew_on (name_in (known p) s.index) ts us (known p) (known q) (known r) one.grew (subst (λ n. Grew n us (known q) (known r)) same two.grew);
    index = two.index ∙ one.index;
    seat = (two.seat.0 ∙ one.seat.0, two.seat.1 ∙ one.seat.1);
  }
    where
      same : name_in (known q) s'.index ≡ name_in (known p) s.index
      same = λ i. record { pass = (one.grew.same i).number; index = one.index i }
