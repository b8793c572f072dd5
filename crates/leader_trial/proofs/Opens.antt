-- The values of the small board show the state that a run of an empty log starts from.
use Rattle.std.proofs.Common.{◌≡◌, ℕ, zero, suc, ◌<◌, ◌≤◌, ◌+◌, ◌∙◌, List, [], ◌∷◌, length, refl, sym, ap, subst, arith, Option, Some}
use mathlib.Core.Option.{some}
use lib.ListN.{get_elem?}
use Rattle.graph_model.specs.Records.{IsGood, empty_base}
use Rattle.core_rows.specs.Rows.{fresh_row}
use Rattle.core_states.specs.Openings.{no_disk, opened_clock, opening, run_limits}
use Rattle.core_states.specs.LogParts.{LogPart, opened_part}
use Rattle.core_states.specs.Parts.{OfShard, OfClock, OfLog, Parts}
use Rattle.core_events.specs.CoreLogs.{log_of}
use Rattle.turn_board.specs.Views.{Shown, Belongs}
use Rattle.turn_board.specs.Histories.{found_by}
use Rattle.turn_board.specs.Openings.{opening_of}
use Rattle.turn_board.specs.Turns.{turn_part}
use Rattle.turn_board.specs.Homes.{home_shown}
use Rattle.turn_board.specs.Board.{Opens}
use Rattle.turn_board.specs.declared.home.Home.{Home}
use Rattle.turn_board.specs.declared.home.Home.TheVariants as home
use Rattle.turn_board.proofs.Starting.{opening_is}
use Rattle.turn_board.proofs.Reshowing.{Reshown, reshow}
use Rattle.turn_board.proofs.Ones.{loaded_same}
use Rattle.leader_trial.specs.Shards.{first_row, first_place}
use Rattle.leader_trial.specs.declared.parts.Hand.{Hand}
use Rattle.leader_trial.specs.declared.parts.Paper.{Paper}
use Rattle.leader_trial.specs.declared.parts.Rows.{Rows}

abbrev pub Spot : Type 0
Spot = Home Rows Hand Paper

-- what the value of a turn shows
abbrev pub home_of : Spot → Shown
home_of value = home_shown (λ r. first_row r.first) (λ _. first_place) (λ h. h.clock) (λ p. log_of p.log) (λ p. p.time) value

good : IsGood empty_base
good = record { graph = refl; vertices = refl; lists = refl; epoch = refl; numbers = refl; beginning = λ _. refl }

abbrev bare : Parts
bare = opening_of empty_base run_limits no_disk 1

-- a shard with the row of a vertex that was never there says what one without rows says
shown : Reshown empty_base bare 0 (OfShard (first_row fresh_row))
shown = reshow empty_base bare 0 (OfShard (first_row fresh_row)) (OfShard []) refl (loaded_same empty_base [] 1)

module _ (r : Rows) (h : Hand) (p : Paper) (r_is : r.first ≡ fresh_row) (h_is : h.clock ≡ opened_clock empty_base) (p_is : log_of p.log ≡ opened_part 0 no_disk) where
  abbrev items : List (Option Spot)
  items = Some (home.Shard r) ∷ Some (home.Clock h) ∷ Some (home.Log p) ∷ []

  each : (k : ℕ) → k < length shown.next.shards + 2 → (x : Spot) × (get_elem? items k ≡ some (Some x)) × (turn_part shown.next k ≡ (home_of x).part) × Belongs (record { base = empty_base; limits = run_limits; found = found_by shown.next.log; shards = length shown.next.shards }) k (home_of x)
  each zero inside = (home.Shard r, refl, shown.here ∙ ap (λ row. OfShard (first_row row)) (sym r_is), λ i. record { number = 0; shards = sym shown.long i; log_most = run_limits.log; base = empty_base })
  each (suc zero) inside = (home.Clock h, refl, shown.elsewhere 1 (λ e. omega (arith, e)) ∙ ap (λ k. OfClock k) (sym h_is), tt)
  each (suc (suc zero)) inside = (home.Log p, refl, shown.elsewhere 2 (λ e. omega (arith, e)) ∙ ap (λ g. OfLog g) (sym p_is), subst (λ (g : LogPart). g.moment ≤ p.time) (sym p_is) (omega arith))
  each (suc (suc (suc k))) inside = let long : length shown.next.shards ≡ 1 = shown.long in absurd (omega (arith, inside, long))

  pub first_opens : Opens empty_base run_limits home_of items
  first_opens = record {
    may = record { good = good; lists = refl };
    allowed = record { txn = omega arith; log = omega arith };
    parts = shown.next;
    some = subst (λ (m : ℕ). 0 < m) (sym shown.long) (omega arith);
    few = subst (λ (m : ℕ). m ≤ 64) (sym shown.long) (omega arith);
    limits = shown.limits;
    idle = shown.actors;
    is = shown.state ∙ (opening_is empty_base run_limits no_disk 1 (omega arith) ∙ ap (λ g. opening empty_base (found_by g)) (sym shown.log));
    shows = (ap (λ (m : ℕ). m + 2) (sym shown.long), each);
  }
