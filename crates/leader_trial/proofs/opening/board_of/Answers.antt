use Rattle.std.proofs.Common.{[], ◌∷◌, ◌++◌, List, Option, Some, sym, refl, subst}
use Rattle.graph_model.specs.declared.graph.Base.{Base}
use Rattle.core_rows.specs.Rows.{fresh_row}
use Rattle.core_states.specs.Openings.{run_limits}
use Rattle.turn_board.specs.Board.{Opens}
use Rattle.turn_board.specs.declared.home.Home.TheVariants as home
use Rattle.leader_trial.proofs.Opens.{Spot, home_of, first_opens}
use Rattle.leader_trial.proofs.opening.board_of.Goals as goal

pub make-requires : goal.make-requires
make-requires c = record {
  opens = subst (λ (z : Base × List (Option Spot)). Opens z.0 run_limits home_of z.1)
      (λ i. (sym c.base_of-base.ensures i, (sym c.in_ok-shards.ensures i ++ Some (home.Clock c.clock_of-clock.result) ∷ []) ++ Some (home.Log c.paper_of-log.result) ∷ []))
      (first_opens (record { first = fresh_row }) c.clock_of-clock.result c.paper_of-log.result refl c.clock_of-clock.ensures c.paper_of-log.ensures.log);
}
