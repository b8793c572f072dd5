use Rattle.std.proofs.Common.{arith, inl, refl}
use Rattle.store_sessions.specs.declared.refusal.Refusal.TheVariants as refusal
use Rattle.store_sessions.proofs.MakeMoves.{new_nothing, too_long, has_drawn, new_drawn, new_stays, none_stays}
use Rattle.store_sessions.proofs.making.new_vertex.Goals as goal

pub returns-in_default-clause-goes : goal.returns-in_default-clause-goes
returns-in_default-clause-goes g c = new_nothing c.args.board.now.turns c.args.board.now.shards c.args.pass.now c.args.session.now c.args.p.now refusal.NoMemory c.requires.stands (inl refl)

pub returns-then-size-left_of-clause-goes : goal.returns-then-size-left_of-clause-goes
returns-then-size-left_of-clause-goes g c =
    let t = c.requires.works.0 in
    let is = c.requires.works.1.is in
    let left = c.left_of.ensures t is in
    let size = c.in-Ok.ensures in
    let more = c.if-size-left_of.true in
    new_nothing c.args.board.now.turns c.args.board.now.shards c.args.pass.now c.args.session.now c.args.p.now refusal.TxnFull c.requires.stands (too_long c.args.session.now c.args.p.now t is (omega (arith, left, size, more)))

pub make_drawn-requires-clause-drawn : goal.make_drawn-requires-clause-drawn
make_drawn-requires-clause-drawn g c = has_drawn c.args.board.now.turns c.args.board.now.shards c.by_clock.result c.args.pass.now c.by_clock.new.pass c.args.session.now c.by_clock.new.session c.requires.works c.by_clock.ensures.goes c.by_clock.ensures.leaves c.in-Ok-drawn_by.v c.in-Ok-drawn_by.ensures

pub returns-in-Ok-drawn_by-clause-goes : goal.returns-in-Ok-drawn_by-clause-goes
returns-in-Ok-drawn_by-clause-goes g c = new_drawn c.args.board.now.turns c.args.board.now.shards c.by_clock.result c.args.pass.now c.by_clock.new.pass c.args.session.now c.by_clock.new.session c.requires.works c.by_clock.ensures.goes c.by_clock.ensures.leaves c.in-Ok-drawn_by.v c.args.p.now c.make_drawn.new.pass c.make_drawn.new.session c.make_drawn.result c.in-Ok-drawn_by.ensures c.make_drawn.ensures.goes

pub returns-in-Ok-drawn_by-clause-session : goal.returns-in-Ok-drawn_by-clause-session
returns-in-Ok-drawn_by-clause-session g c = new_stays c.args.board.now.turns c.args.board.now.shards c.by_clock.result c.args.pass.now c.by_clock.new.pass c.args.session.now c.by_clock.new.session c.requires.works c.by_clock.ensures.goes c.by_clock.ensures.leaves c.in-Ok-drawn_by.v c.make_drawn.new.session c.in-Ok-drawn_by.ensures c.make_drawn.ensures.session

pub returns-in-Err-clause-session : goal.returns-in-Err-clause-session
returns-in-Err-clause-session g c = none_stays c.args.board.now.turns c.args.board.now.shards c.by_clock.result c.args.pass.now c.by_clock.new.pass c.args.session.now c.by_clock.new.session c.requires.works c.by_clock.ensures.goes c.by_clock.ensures.leaves c.in-Err.refusal c.in-Err.ensures
