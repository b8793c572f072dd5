use Rattle.std.proofs.Common.{◌∙◌, [], ◌∷◌, ◌++◌, ap, subst, sym, arith, Some}
use Rattle.graph_model.specs.declared.graph.Base.{Base}
use Rattle.core_states.specs.Openings.{opened_clock}
use Rattle.core_states.specs.Parts.{OfClock, OfLog}
use Rattle.turn_board.specs.Openings.{limits_of}
use Rattle.turn_board.specs.Board.{Opens}
use Rattle.turn_board.specs.Views.{Belongs}
use Rattle.turn_board.specs.declared.home.Home.TheVariants as home
use Rattle.board_trials.specs.Opened.{home_of, small_start}
use Rattle.board_trials.specs.Papers.{paper_log}
use Rattle.board_trials.specs.declared.spot.Paper.{Paper}
use Rattle.board_trials.proofs.Opens.{small_opens}
use Rattle.board_trials.proofs.opening.board_of.Goals as goal

pub make-requires : goal.make-requires
make-requires c = record {
  opens = subst (λ (base : Base). Opens base (limits_of 4096) home_of ((c.in_ok-shards.shards.values.items ++ Some (home.Clock c.opened_clock-clock.result) ∷ []) ++ Some (home.Log c.blank_paper-log.result) ∷ []))
      (sym c.small_base-base.ensures)
      (small_opens c.args.count c.requires.some c.requires.few c.in_ok-shards.shards.values.items c.in_ok-shards.ensures (home.Clock c.opened_clock-clock.result) (home.Log c.blank_paper-log.result)
      (ap (λ k. OfClock k) (c.opened_clock-clock.ensures ∙ ap (λ base. opened_clock base) c.small_base-base.ensures))
      (ap (λ (p : Paper). OfLog (paper_log p)) c.blank_paper-log.ensures)
      (λ k. tt) (λ k. subst (λ (p : Paper). Belongs (small_start c.args.count) k (home_of (home.Log p))) (sym c.blank_paper-log.ensures) (omega arith)));
}
