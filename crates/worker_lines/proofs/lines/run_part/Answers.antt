use Rattle.std.proofs.Common.{◌≡◌, ◌+◌, List, [], ◌∷◌, ◌++◌, ℕ, length, drop, drop_of_length-le, slice_index_or, vec_capacity, refl, sym, ap, ◌∙◌, subst, arith}
use Rattle.request_text.specs.declared.request.Line.{Line}
use Rattle.std.proofs.lemmas.List.{drop_more}
use Rattle.worker_sessions.specs.Sessions.{AreApart, indices}
use Rattle.worker_lines.specs.Lines.{IsSeated, AreAtLine}
use Rattle.worker_lines.specs.Going.{SoFar}
use Rattle.worker_lines.proofs.Running.{all-ahead, room-at}
use Rattle.worker_lines.proofs.Parts.{InPart, line-done}
use Rattle.worker_lines.proofs.lines.run_part.Goals as goal
use Rattle.worker_lines.proofs.lines.run_part.Goals.{In-loop-line}
use Rattle.worker_lines.proofs.lines.run_part.Given.{Over}

pub loop-line-init : goal.loop-line-init
loop-line-init g c = record {
  in_part = record {
    at_line = c.requires.at_line;
    found = c.requires.found;
    seated = c.requires.seated;
    within = c.requires.within;
    ahead = all-ahead c.args.shared.now.workers c.args.shared.now.owners.now c.args.place c.args.lines.now c.requires.owned;
    room = c.requires.room;
    goes_on = λ v js script rest so. so;
  };
  capacity = refl;
}

-- the line that is next
next : (g : Over) (c : In-loop-line g) (line : Line) → line ≡ slice_index_or c.args.lines.now c.loop-line.line-index line
    → InPart c.args.shared.now.board.now.turns c.args.shared.now.board.now.shards c.args.number c.args.shared.now.workers c.args.shared.now.owners.now (c.args.place + length c.args.lines.now) c.args.pass.now c.loop-line.pass (indices c.args.sessions.now) c.args.sessions.now c.loop-line.sessions c.args.lines.now (line ∷ drop (c.loop-line.line-index + 1) c.args.lines.now) c.loop-line.place c.args.replies.now.items c.loop-line.replies.items (vec_capacity c.args.replies.now)
next g c line is =
    subst (λ (left : List Line). InPart c.args.shared.now.board.now.turns c.args.shared.now.board.now.shards c.args.number c.args.shared.now.workers c.args.shared.now.owners.now (c.args.place + length c.args.lines.now) c.args.pass.now c.loop-line.pass (indices c.args.sessions.now) c.args.sessions.now c.loop-line.sessions c.args.lines.now left c.loop-line.place c.args.replies.now.items c.loop-line.replies.items (vec_capacity c.args.replies.now))
    (drop_more c.args.lines.now c.loop-line.line-index line c.loop-line-test.true ∙ ap (λ (l : Line). l ∷ drop (c.loop-line.line-index + 1) c.args.lines.now) (sym is)) c.loop-line.invariant.in_part

pub run_if_own-requires-clause-at_line : goal.run_if_own-requires-clause-at_line
run_if_own-requires-clause-at_line g c =
    let b = c.args.shared.now.board.now in let was = c.loop-line.invariant.in_part.at_line in
    subst (λ (js : List ℕ). AreAtLine b.turns b.shards c.loop-line.pass js c.loop-line.sessions) (sym was.same) was

pub run_if_own-requires-clause-found : goal.run_if_own-requires-clause-found
run_if_own-requires-clause-found g c = c.loop-line.invariant.in_part.found

pub run_if_own-requires-clause-apart : goal.run_if_own-requires-clause-apart
run_if_own-requires-clause-apart g c = subst AreApart (sym c.loop-line.invariant.in_part.at_line.same) c.requires.apart

pub run_if_own-requires-clause-seated : goal.run_if_own-requires-clause-seated
run_if_own-requires-clause-seated g c =
    let was = next g (goal.at.run_if_own-requires-clause-seated g c).In-loop-line c.line-item.result c.line-item.is in
    subst (λ (js : List ℕ). IsSeated c.args.number c.args.shared.now.workers js c.line-item.result) (sym was.at_line.same) was.seated.0

pub run_if_own-requires-clause-within : goal.run_if_own-requires-clause-within
run_if_own-requires-clause-within g c = (next g (goal.at.run_if_own-requires-clause-within g c).In-loop-line c.line-item.result c.line-item.is).within.0

pub run_if_own-requires-clause-owned : goal.run_if_own-requires-clause-owned
run_if_own-requires-clause-owned g c = (next g (goal.at.run_if_own-requires-clause-owned g c).In-loop-line c.line-item.result c.line-item.is).ahead.owned.0

pub run_if_own-requires-clause-numbered : goal.run_if_own-requires-clause-numbered
run_if_own-requires-clause-numbered g c =
    let left = (next g (goal.at.run_if_own-requires-clause-numbered g c).In-loop-line c.line-item.result c.line-item.is).ahead.left in let few = c.requires.numbered in omega (arith, left, few)

pub run_if_own-requires-clause-room : goal.run_if_own-requires-clause-room
run_if_own-requires-clause-room g c = λ own.
    let was = next g (goal.at.run_if_own-requires-clause-room g c).In-loop-line c.line-item.result c.line-item.is in
    let low = room-at c.args.number c.args.shared.now.workers c.line-item.result _ _ _ _ refl was.room own in
    let len = c.loop-line.replies.ok.0 in let same = c.loop-line.invariant.capacity in
    omega (arith, low, len, same)

pub overflow_add-place : goal.overflow_add-place
overflow_add-place g c =
    let left = (next g (goal.at.overflow_add-place g c).In-loop-line c.line-item.result c.line-item.is).ahead.left in let few = c.requires.numbered in omega (arith, left, few)

pub loop-line-preserved : goal.loop-line-preserved
loop-line-preserved g c =
    let b = c.args.shared.now.board.now in
    let was = next g (goal.at.loop-line-preserved g c).In-loop-line c.line-item.result c.line-item.is in
    let ran = c.run_if_own.ensures in
    record {
      in_part = line-done b.turns b.shards c.args.number c.args.shared.now.workers c.args.shared.now.owners.now (c.args.place + length c.args.lines.now) c.args.pass.now (indices c.args.sessions.now) c.args.sessions.now c.args.lines.now c.args.replies.now.items (vec_capacity c.args.replies.now)
          c.loop-line.pass c.run_if_own.new.pass c.loop-line.sessions c.run_if_own.new.sessions c.line-item.result (drop (c.loop-line.line-index + 1) c.args.lines.now) c.loop-line.place c.loop-line.replies.items c.run_if_own.new.replies.items
          was (subst (λ (js : List ℕ). AreAtLine b.turns b.shards c.run_if_own.new.pass js c.run_if_own.new.sessions) was.at_line.same ran.at_line) ran.ran;
      capacity = ran.capacity ∙ c.loop-line.invariant.capacity;
    }

pub returns-clause-goes_on : goal.returns-clause-goes_on
returns-clause-goes_on g c = λ v js script rest so.
    let b = c.args.shared.now.board.now in
    let none : drop c.loop-line.line-index c.args.lines.now ≡ [] = drop_of_length-le c.args.lines.now (let end = c.loop-line-test.false in omega (arith, end)) in
    subst (λ (left : List Line). SoFar b.turns b.shards c.args.number c.args.shared.now.workers v c.loop-line.pass js c.loop-line.sessions script (left ++ rest) c.loop-line.replies.items) none
    (c.loop-line.invariant.in_part.goes_on v js script rest so)
