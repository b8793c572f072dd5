use Rattle.std.proofs.Common.{rules, ◌≡◌, ◌+◌, List, [], ◌∷◌, ◌++◌, ◌∙◌, length, drop, drop_of_length-le, vec_capacity, refl, sym, ap, subst, arith}
use Rattle.std.specs.Vec.Iter.{into_iter_items}
use Rattle.std.proofs.lemmas.List.{drop_more}
use Rattle.request_text.specs.declared.request.Line.{Line}
use Rattle.script_parts.specs.InParts.{lines_in}
use Rattle.turn_board.specs.Board.{known}
use Rattle.worker_sessions.specs.Sessions.{indices}
use Rattle.worker_lines.specs.Wholes.{all_lines}
use Rattle.worker_lines.proofs.Running.{none-run, script-ahead, all-run}
use Rattle.worker_lines.proofs.Parts.{AtPart, MayRun, may-run, part-done}
use Rattle.worker_lines.proofs.lines.run_lines.Goals as goal
use Rattle.worker_lines.proofs.lines.run_lines.Goals.{In-loop-part, At-loop-part-2}
use Rattle.worker_lines.proofs.lines.run_lines.Given.{Over}

none-left : (parts : List (List Line)) → length parts ≡ 0 → parts ≡ []
none-left [] none = refl
none-left (part ∷ parts) none = absurd (omega (arith, none))

pub loop-part-init : goal.loop-part-init
loop-part-init g c =
    let b = c.args.shared.now.board.now in let ks = indices c.args.sessions.now in let whole = all_lines c.args.whole in
    let all : whole ≡ lines_in c.parts-part-items.result.now = ap all_lines c.in-Shared.is ∙ sym c.parts-part-items.ensures.parts in
    record {
      at_part = subst (λ (rest : List Line). AtPart c.args.shared.now.board.now.turns c.args.shared.now.board.now.shards c.args.number c.args.shared.now.workers c.args.shared.now.owners.now (known c.args.pass.now) c.args.pass.now ks c.args.sessions.now whole 0 rest c.args.replies.now.items (vec_capacity c.args.replies.now)) all (record {
        so_far = none-run b.turns b.shards c.args.number c.args.shared.now.workers (known c.args.pass.now) ks whole c.args.pass.now c.args.sessions.now c.args.replies.now.items refl c.requires.at_line c.requires.seated c.requires.within c.requires.none;
        ahead = script-ahead c.args.shared.now.workers c.args.shared.now.owners.now whole c.requires.owned;
        room = c.requires.room;
      });
    }

-- the part that is next
next : (g : Over) (c : In-loop-part g) (part lines : List Line) (more : List (List Line)) → drop c.loop-part.part-index c.parts-part-items.result.now ≡ part ∷ more → lines ≡ part
    → AtPart c.args.shared.now.board.now.turns c.args.shared.now.board.now.shards c.args.number c.args.shared.now.workers c.args.shared.now.owners.now (known c.args.pass.now) c.loop-part.pass (indices c.args.sessions.now) c.loop-part.sessions (all_lines c.args.whole) c.loop-part.place (lines ++ lines_in more) c.loop-part.replies.items (vec_capacity c.loop-part.replies)
next g c part lines more is same =
    subst (λ (rest : List Line). AtPart c.args.shared.now.board.now.turns c.args.shared.now.board.now.shards c.args.number c.args.shared.now.workers c.args.shared.now.owners.now (known c.args.pass.now) c.loop-part.pass (indices c.args.sessions.now) c.loop-part.sessions (all_lines c.args.whole) c.loop-part.place rest c.loop-part.replies.items (vec_capacity c.loop-part.replies))
    (ap lines_in is ∙ ap (λ (ls : List Line). ls ++ lines_in more) (sym same)) c.loop-part.invariant.at_part

may : (g : Over) (c : In-loop-part g) (part lines : List Line) (more : List (List Line)) → drop c.loop-part.part-index c.parts-part-items.result.now ≡ part ∷ more → lines ≡ part → MayRun c.args.shared.now.board.now.turns c.args.shared.now.board.now.shards c.args.number c.args.shared.now.workers c.args.shared.now.owners.now c.loop-part.pass c.loop-part.sessions c.loop-part.place lines c.loop-part.replies.items (vec_capacity c.loop-part.replies)
may g c part lines more is same =
    let b = c.args.shared.now.board.now in
    may-run b.turns b.shards c.args.number c.args.shared.now.workers c.args.shared.now.owners.now (known c.args.pass.now) (indices c.args.sessions.now) (all_lines c.args.whole) c.loop-part.pass c.loop-part.sessions c.loop-part.place lines (lines_in more) c.loop-part.replies.items (vec_capacity c.loop-part.replies)
    (next g c part lines more is same)

pub run_part-requires-clause-seated : goal.run_part-requires-clause-seated
run_part-requires-clause-seated g c = (may g (goal.at.run_part-requires-clause-seated g c).In-loop-part c.part-item.result c.lines-lines.result.now _ (drop_more c.parts-part-items.result.now c.loop-part.part-index c.part-item.result c.loop-part-test.true ∙ ap (λ (part : List Line). part ∷ drop (c.loop-part.part-index + 1) c.parts-part-items.result.now) (sym c.part-item.is)) c.lines-lines.ensures).seated

pub run_part-requires-clause-within : goal.run_part-requires-clause-within
run_part-requires-clause-within g c = (may g (goal.at.run_part-requires-clause-within g c).In-loop-part c.part-item.result c.lines-lines.result.now _ (drop_more c.parts-part-items.result.now c.loop-part.part-index c.part-item.result c.loop-part-test.true ∙ ap (λ (part : List Line). part ∷ drop (c.loop-part.part-index + 1) c.parts-part-items.result.now) (sym c.part-item.is)) c.lines-lines.ensures).within

pub run_part-requires-clause-owned : goal.run_part-requires-clause-owned
run_part-requires-clause-owned g c = (may g (goal.at.run_part-requires-clause-owned g c).In-loop-part c.part-item.result c.lines-lines.result.now _ (drop_more c.parts-part-items.result.now c.loop-part.part-index c.part-item.result c.loop-part-test.true ∙ ap (λ (part : List Line). part ∷ drop (c.loop-part.part-index + 1) c.parts-part-items.result.now) (sym c.part-item.is)) c.lines-lines.ensures).owned

pub loop-part-preserved : goal.loop-part-preserved
loop-part-preserved g c =
    let b = c.args.shared.now.board.now in let ks = indices c.args.sessions.now in let whole = all_lines c.args.whole in
    record {
      at_part = part-done b.turns b.shards c.args.number c.args.shared.now.workers c.args.shared.now.owners.now (known c.args.pass.now) ks whole c.loop-part.pass c.run_part.new.pass c.loop-part.sessions c.run_part.new.sessions c.loop-part.place c.lines-lines.result.now (lines_in (drop (c.loop-part.part-index + 1) c.parts-part-items.result.now)) c.loop-part.replies.items c.run_part.new.replies.items (vec_capacity c.loop-part.replies) (vec_capacity c.run_part.new.replies)
          (next g (goal.at.loop-part-preserved g c).In-loop-part c.part-item.result c.lines-lines.result.now _ (drop_more c.parts-part-items.result.now c.loop-part.part-index c.part-item.result c.loop-part-test.true ∙ ap (λ (part : List Line). part ∷ drop (c.loop-part.part-index + 1) c.parts-part-items.result.now) (sym c.part-item.is)) c.lines-lines.ensures) (c.run_part.ensures.goes_on (known c.args.pass.now) ks whole (lines_in (drop (c.loop-part.part-index + 1) c.parts-part-items.result.now))) c.run_part.ensures.capacity;
    }

pub returns-after-loop-part-clause-ran : goal.returns-after-loop-part-clause-ran
returns-after-loop-part-clause-ran g c =
    let b = c.args.shared.now.board.now in
    all-run b.turns b.shards c.args.number c.args.shared.now.workers (known c.args.pass.now) (indices c.args.sessions.now) (all_lines c.args.whole) c.loop-part.pass c.loop-part.sessions _ c.loop-part.replies.items
    (ap lines_in (drop_of_length-le c.parts-part-items.result.now (let end = c.loop-part-test.false in omega (arith, end)))) c.loop-part.invariant.at_part.so_far

pub loop-part-2-init : goal.loop-part-2-init
loop-part-2-init g c =
    let b = c.args.shared.now.board.now in let ks = indices c.args.sessions.now in let whole = all_lines c.args.whole in
    let all : whole ≡ lines_in (into_iter_items c.into_iter-part-iterator.result) = ap all_lines c.in-Own.is ∙ sym c.into_parts-part-items.ensures.parts ∙ ap lines_in (sym c.into_iter-part-iterator.ensures.into_iter_gives.0) in
    record {
      at_part = subst (λ (rest : List Line). AtPart c.args.shared.now.board.now.turns c.args.shared.now.board.now.shards c.args.number c.args.shared.now.workers c.args.shared.now.owners.now (known c.args.pass.now) c.args.pass.now ks c.args.sessions.now whole 0 rest c.args.replies.now.items (vec_capacity c.args.replies.now)) all (record {
        so_far = none-run b.turns b.shards c.args.number c.args.shared.now.workers (known c.args.pass.now) ks whole c.args.pass.now c.args.sessions.now c.args.replies.now.items refl c.requires.at_line c.requires.seated c.requires.within c.requires.none;
        ahead = script-ahead c.args.shared.now.workers c.args.shared.now.owners.now whole c.requires.owned;
        room = c.requires.room;
      });
    }

-- the part that is next
next-own : (g : Over) (c : At-loop-part-2 g) (part lines : List Line) (more : List (List Line)) → into_iter_items c.loop-part-2.part-iterator ≡ part ∷ more → lines ≡ part
    → AtPart c.args.shared.now.board.now.turns c.args.shared.now.board.now.shards c.args.number c.args.shared.now.workers c.args.shared.now.owners.now (known c.args.pass.now) c.loop-part-2.pass (indices c.args.sessions.now) c.loop-part-2.sessions (all_lines c.args.whole) c.loop-part-2.place (lines ++ lines_in more) c.loop-part-2.replies.items (vec_capacity c.loop-part-2.replies)
next-own g c part lines more is same =
    subst (λ (rest : List Line). AtPart c.args.shared.now.board.now.turns c.args.shared.now.board.now.shards c.args.number c.args.shared.now.workers c.args.shared.now.owners.now (known c.args.pass.now) c.loop-part-2.pass (indices c.args.sessions.now) c.loop-part-2.sessions (all_lines c.args.whole) c.loop-part-2.place rest c.loop-part-2.replies.items (vec_capacity c.loop-part-2.replies))
    (ap lines_in is ∙ ap (λ (ls : List Line). ls ++ lines_in more) (sym same)) c.loop-part-2.invariant.at_part

may-own : (g : Over) (c : At-loop-part-2 g) (part lines : List Line) (more : List (List Line)) → into_iter_items c.loop-part-2.part-iterator ≡ part ∷ more → lines ≡ part → MayRun c.args.shared.now.board.now.turns c.args.shared.now.board.now.shards c.args.number c.args.shared.now.workers c.args.shared.now.owners.now c.loop-part-2.pass c.loop-part-2.sessions c.loop-part-2.place lines c.loop-part-2.replies.items (vec_capacity c.loop-part-2.replies)
may-own g c part lines more is same =
    let b = c.args.shared.now.board.now in
    may-run b.turns b.shards c.args.number c.args.shared.now.workers c.args.shared.now.owners.now (known c.args.pass.now) (indices c.args.sessions.now) (all_lines c.args.whole) c.loop-part-2.pass c.loop-part-2.sessions c.loop-part-2.place lines (lines_in more) c.loop-part-2.replies.items (vec_capacity c.loop-part-2.replies)
    (next-own g c part lines more is same)

pub run_part-requires-in-loop-part-2-clause-seated : goal.run_part-requires-in-loop-part-2-clause-seated
run_part-requires-in-loop-part-2-clause-seated g c = (may-own g (goal.at.run_part-requires-in-loop-part-2-clause-seated g c).At-loop-part-2 c.in-Some.part c.lines-lines-in-loop-part-2.result.now _ (c.in-Some.ensures.steps.0) c.lines-lines-in-loop-part-2.ensures).seated

pub run_part-requires-in-loop-part-2-clause-within : goal.run_part-requires-in-loop-part-2-clause-within
run_part-requires-in-loop-part-2-clause-within g c = (may-own g (goal.at.run_part-requires-in-loop-part-2-clause-within g c).At-loop-part-2 c.in-Some.part c.lines-lines-in-loop-part-2.result.now _ (c.in-Some.ensures.steps.0) c.lines-lines-in-loop-part-2.ensures).within

pub run_part-requires-in-loop-part-2-clause-owned : goal.run_part-requires-in-loop-part-2-clause-owned
run_part-requires-in-loop-part-2-clause-owned g c = (may-own g (goal.at.run_part-requires-in-loop-part-2-clause-owned g c).At-loop-part-2 c.in-Some.part c.lines-lines-in-loop-part-2.result.now _ (c.in-Some.ensures.steps.0) c.lines-lines-in-loop-part-2.ensures).owned

pub loop-part-2-preserved : goal.loop-part-2-preserved
loop-part-2-preserved g c =
    let b = c.args.shared.now.board.now in let ks = indices c.args.sessions.now in let whole = all_lines c.args.whole in
    record {
      at_part = part-done b.turns b.shards c.args.number c.args.shared.now.workers c.args.shared.now.owners.now (known c.args.pass.now) ks whole c.loop-part-2.pass c.run_part-in-loop-part-2.new.pass c.loop-part-2.sessions c.run_part-in-loop-part-2.new.sessions c.loop-part-2.place c.lines-lines-in-loop-part-2.result.now (lines_in (into_iter_items c.next.new.self)) c.loop-part-2.replies.items c.run_part-in-loop-part-2.new.replies.items (vec_capacity c.loop-part-2.replies) (vec_capacity c.run_part-in-loop-part-2.new.replies)
          (next-own g (goal.at.loop-part-2-preserved g c).At-loop-part-2 c.in-Some.part c.lines-lines-in-loop-part-2.result.now _ (c.in-Some.ensures.steps.0) c.lines-lines-in-loop-part-2.ensures) (c.run_part-in-loop-part-2.ensures.goes_on (known c.args.pass.now) ks whole (lines_in (into_iter_items c.next.new.self))) c.run_part-in-loop-part-2.ensures.capacity;
    }

pub returns-in-None-clause-ran : goal.returns-in-None-clause-ran
returns-in-None-clause-ran g c =
    let b = c.args.shared.now.board.now in
    all-run b.turns b.shards c.args.number c.args.shared.now.workers (known c.args.pass.now) (indices c.args.sessions.now) (all_lines c.args.whole) c.loop-part-2.pass c.loop-part-2.sessions _ c.loop-part-2.replies.items
    (ap lines_in (let end : length (into_iter_items c.loop-part-2.part-iterator) ≡ 0 = search rules in none-left (into_iter_items c.loop-part-2.part-iterator) end)) c.loop-part-2.invariant.at_part.so_far
