use Rattle.std.proofs.Common.{ℕ, [], ◌∙◌, sym, ap, subst}
use Rattle.core_states.specs.LogParts.{Found}
use Rattle.turn_board.specs.Homes.{home_shown}
use Rattle.turn_board.specs.Openings.{limits_of}
use Rattle.turn_board.specs.Starts.{found_in, shards_in}
use Rattle.turn_board.specs.Views.{fresh_view}
use Rattle.turn_board.specs.Board.{Opens, Knowing}
use Rattle.turn_board.proofs.Laying.{found_laid, shards_laid}
use Rattle.turn_board.proofs.home.«TurnBoard+Home+X+E+W».make.Goals as goal

pub make_of-requires : goal.make_of-requires
make_of-requires g c = record {
  opens = subst (λ xs. Opens c.args.base.now (limits_of c.args.log_most) (home_shown g.X.ShowsRows.rows g.X.ShowsRows.place g.E.ShowsClock.clock g.W.ShowsLog.log g.W.ShowsLog.moment) xs) (sym c.in_ok-into_values.ensures.laid) c.requires.opens;
}

pub returns-in-Ok-clause-pass : goal.returns-in-Ok-clause-pass
returns-in-Ok-clause-pass g c =
    let found = ap (λ xs. found_in (home_shown g.X.ShowsRows.rows g.X.ShowsRows.place g.E.ShowsClock.clock g.W.ShowsLog.log g.W.ShowsLog.moment) xs) c.in_ok-into_values.ensures.laid
    ∙ found_laid g.X.ShowsRows.rows g.X.ShowsRows.place g.E.ShowsClock.clock g.W.ShowsLog.log g.W.ShowsLog.moment c.args.homes in
    let shards = ap (λ xs. shards_in xs) c.in_ok-into_values.ensures.laid
    ∙ shards_laid g.X.ShowsRows.rows g.X.ShowsRows.place g.E.ShowsClock.clock g.W.ShowsLog.log g.W.ShowsLog.moment c.args.homes in
    subst (λ (z : Found × ℕ). Knowing c.in-Ok.made.1 (fresh_view (record { base = c.args.base.now; limits = limits_of c.args.log_most; found = z.0; shards = z.1 }) [] [] []))
    (λ i. (found i, shards i)) c.in-Ok.ensures.pass
