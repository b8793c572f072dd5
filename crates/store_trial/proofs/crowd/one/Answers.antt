use Rattle.std.proofs.Common.{ap}
use Rattle.turn_board.specs.Board.{known}
use Rattle.store_trial.proofs.Hands.{fresh_fits, base_split, base_off, base_joined, one_back}
use Rattle.store_trial.proofs.crowd.one.Goals as goal

pub work-tally-requires : goal.work-tally-requires
work-tally-requires g c =
    let split = c.split_pass-second in
    let off = ap (λ m. m.0) split.ensures.right in
    record { ready = ((split.ensures.stands.1, fresh_fits (known c.args.pass) (known split.result) c.new.result off c.new.ensures), base_off (known c.args.pass) (known split.result) off c.requires.free.1) }

pub join_pass-requires : goal.join_pass-requires
join_pass-requires g c = record { stands = (c.split_pass-second.ensures.stands.0, c.work-tally.ensures.goes_on.0.0.0) }

pub returns : goal.returns
returns g c =
    let split = c.split_pass-second in
    let left = ap (λ m. m.0) split.ensures.left in
    let off = ap (λ m. m.0) split.ensures.right in
    let both = ap (λ m. m.0) c.join_pass.ensures.both in
    record {
      free = (c.join_pass.ensures.stands, base_joined (known split.new.pass) (known c.work-tally.new.hand.pass) (known c.join_pass.new.into) both (base_split (known c.args.pass) (known split.new.pass) left c.requires.free.1));
      back = one_back (known c.args.pass) (known split.new.pass) (known split.result) (known c.work-tally.new.hand.pass) (known c.join_pass.new.into) left off c.work-tally.ensures.goes_on.1 both;
    }
