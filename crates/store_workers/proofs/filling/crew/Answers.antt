use Rattle.std.proofs.Common.{ℕ, arith, subst}
use Rattle.worker_sessions.specs.Sessions.{IsSpaced, indices}
use Rattle.store_workers.proofs.Seating.{seats-of}
use Rattle.store_workers.proofs.filling.crew.Goals as goal

pub returns : goal.returns
returns c =
    let ks = indices c.in_ok-sessions.sessions.items in
    let spaced : IsSpaced c.args.number c.args.count c.args.limit ks = subst (λ (z : ℕ × ℕ). IsSpaced z.0 z.1 c.args.limit ks) (λ i. (c.from.ensures i, c.from-2.ensures i)) c.in_ok-sessions.ensures.spaced in
    record {
      ready = c.in_ok-sessions.ensures.ready;
      seated = seats-of c.args.number c.args.count c.args.limit ks c.args.script.now spaced c.requires.above;
      none = c.in_ok-replies.ensures.items;
      room = let lines = c.requires.lines in let room = c.in_ok-replies.ensures.capacity in omega (arith, lines, room);
    }
