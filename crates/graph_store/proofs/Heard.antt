-- What a pass was told, it has seen visible, and so it stays.
use Rattle.std.proofs.Common.{◌≡◌, ℕ, ◌≤◌, List, [], sym, ap, subst, Option}
use Rattle.std.specs.Prelude.{Result, Ok, Err, IfOk, IfSome}
use Rattle.atomic_table.specs.declared.shared.Seat.{Seat}
use Rattle.core_calls.specs.Events.{Told}
use Rattle.turn_board.specs.Board.{known, Knowing}
use Rattle.turn_board.specs.Views.{View, Start, fresh_view}
use Rattle.turn_board.specs.declared.board.TurnBoard.{TurnBoard}
use Rattle.store_turns.specs.declared.session.Session.{Session}
use Rattle.store_turns.specs.Fits.{name_in}
use Rattle.store_turns.specs.Seeing.{HasSeen}
use Rattle.store_turns.proofs.Seeing.{seen_on}
use Rattle.store_board.specs.Standing.{Goes}
use Rattle.store_sessions.specs.declared.beginning.Begun.{Begun}
use Rattle.store_sessions.specs.declared.refusal.Refusal.{Refusal}
use Rattle.store_sessions.specs.Beginning.{BeginSees}
use Rattle.store_commits.specs.declared.committing.CommitEnd.{CommitEnd}
use Rattle.store_commits.specs.declared.committing.CommitEnd.TheVariants as ending
use Rattle.store_commits.specs.Committing.{CommitSees}
use Rattle.graph_store.specs.Passes.{read_in, committed_in}

-- a pass that becomes another has seen what that one has
pub heard_as : {H : Type 0} (q : Seat (Option H) View) (v : View) → Knowing q v → (e : ℕ) → HasSeen e v → HasSeen e (known q)
heard_as q v knowing e seen = subst (λ (u : View). HasSeen e u) (sym (ap (λ m. m.0) knowing)) seen

-- the first pass has seen the epoch of the base
pub heard_first : (start : Start) → HasSeen start.base.epoch (fresh_view start [] [] [])
heard_first start = λ k met. met.0

-- events of one of its sessions
pub heard_on : {H : Type 0} (board : TurnBoard H) (shards : ℕ) (ts : List Told) (p q : Seat (Option H) View) (s s' : Session) → Goes board shards ts p q s s' → (e : ℕ) → HasSeen e (known p) → HasSeen e (known q)
heard_on board shards ts p q s s' goes e seen = seen_on (name_in (known p) s.index) ts (known p).held (known p) (known q) goes.grew e seen

-- what a begin answers
pub read_seen : (r : Result Begun Refusal) (v w : View) → BeginSees r v w → (o : Option ℕ) → o ≡ read_in r → IfSome o (λ e. HasSeen e w)
read_seen (Ok b) v w sees o is = subst (λ (z : Option ℕ). IfSome z (λ e. HasSeen e w)) (sym is) sees.1
read_seen (Err x) v w sees o is = subst (λ (z : Option ℕ). IfSome z (λ e. HasSeen e w)) (sym is) tt

pub read_newest : (r : Result Begun Refusal) (v w : View) → BeginSees r v w → (e : ℕ) → HasSeen e v → IfOk r (λ b. e ≤ b.read)
read_newest (Ok b) v w sees e seen = sees.0 e seen
read_newest (Err x) v w sees e seen = tt

-- and what a commit answers
pub committed_seen : (r : Result CommitEnd Refusal) (w : View) → CommitSees r w → (o : Option ℕ) → o ≡ committed_in r → IfSome o (λ e. HasSeen e w)
committed_seen (Ok (ending.Committed e)) w sees o is = subst (λ (z : Option ℕ). IfSome z (λ e. HasSeen e w)) (sym is) sees
committed_seen (Ok ending.Ended) w sees o is = subst (λ (z : Option ℕ). IfSome z (λ e. HasSeen e w)) (sym is) tt
committed_seen (Err x) w sees o is = subst (λ (z : Option ℕ). IfSome z (λ e. HasSeen e w)) (sym is) tt
