use Rattle.std.proofs.Common.{rules, ℕ, ◌+◌, ◌%◌, ◌<◌, List, [], ◌∷◌, length, map, refl, slice_index_or, sym, subst, ap, ◌∙◌, arith, Vec, Global, vec_capacity}
use Rattle.std.proofs.Math.Nat.{mod-lt}
use Rattle.request_text.specs.declared.request.Line.{Line}
use Rattle.request_text.specs.declared.request.Request.{Request}
use Rattle.script_parts.specs.InParts.{session_of}
use Rattle.script_parts.proofs.Going.{left_in, next_part, next_line, part_over, parts_over}
use Rattle.store_workers.proofs.Counting.{AreCounted, part_at, with_session, as-many, line-of, none-counted, one-counted, few-done, few-noted, are-owned}
use Rattle.store_workers.proofs.Numbering.{any-default}
use Rattle.store_workers.proofs.filling.counted.Goals as goal
use Rattle.store_workers.proofs.filling.counted.Goals.{In-loop-session, then-count-gt1, else-count-gt1, then-count-gt1-2, else-count-gt1-2}

pub loop-part-init : goal.loop-part-init
loop-part-init c = record {
  counted = subst (λ (rest : List Line). AreCounted c.args.count c.args.script.now rest c.in_ok-lines.lines.items c.in_ok-owners.owners.items 0) (sym c.parts-part-items.ensures.parts)
      (none-counted c.args.count c.args.script.now c.in_ok-lines.lines.items c.in_ok-owners.owners.items (search rules)
      (let len = c.in_ok-lines.ensures.len in let same = c.in_ok-lines.lines.ok.0 in omega (arith, len, same)) c.in_ok-owners.ensures.items);
  room = λ several. elim c.if-count-gt1.branch [
    | then-count-gt1 w ↦ let long = w.len-noted.ensures in let is = w.noted-is in let room = c.in_ok-owners.ensures.capacity in omega (arith, long, is, room)
    | else-count-gt1 w ↦ absurd (let few = w.if-count-gt1.false in omega (arith, few, several))
  ];
}

pub loop-session-init : goal.loop-session-init
loop-session-init c =
    let same = c.part-item.is ∙ any-default c.parts-part-items.result.now c.loop-part.part-index c.part-item.result [] c.loop-part-test.true in
    record {
      counted = subst (λ (rest : List Line). AreCounted c.args.count c.args.script.now rest c.loop-part.lines.items c.loop-part.owners.items c.loop-part.limit)
          (next_part c.parts-part-items.result.now c.loop-part.part-index c.part-item.result (part_at c.parts-part-items.result.now c.loop-part.part-index) c.loop-part-test.true c.part-item.is (sym same)) c.loop-part.invariant.counted;
      sessions = c.sessions-session-items.ensures ∙ ap (λ (part : List Line). map session_of part) same;
      room = c.loop-part.invariant.room;
    }

-- the line that is next, whose session is looked at
abbrev its-session : In-loop-session → ℕ
its-session c = slice_index_or c.sessions-session-items.result.now c.loop-session.session-index 0

next : (c : In-loop-session) → (request : Request) × AreCounted c.args.count c.args.script.now
    (with_session (its-session c) request ∷ left_in c.parts-part-items.result.now c.loop-part.part-index (part_at c.parts-part-items.result.now c.loop-part.part-index) (c.loop-session.session-index + 1)) c.loop-session.lines.items c.loop-session.owners.items c.loop-session.limit
next c =
    let parts = c.parts-part-items.result.now in let part = part_at parts c.loop-part.part-index in let j = c.loop-session.session-index in
    let sessions = c.sessions-session-items.result.now in let inside = c.loop-session-test.true in
    let line = line-of part sessions j (its-session c) c.loop-session.invariant.sessions inside refl in
    let low : j < length part = let same = as-many part sessions c.loop-session.invariant.sessions in omega (arith, inside, same) in (
      line.0,
      subst (λ (rest : List Line). AreCounted c.args.count c.args.script.now rest c.loop-session.lines.items c.loop-session.owners.items c.loop-session.limit)
          (next_line parts c.loop-part.part-index part j (with_session (its-session c) line.0) low line.1) c.loop-session.invariant.counted,
    )

pub index_mut-requires : goal.index_mut-requires
index_mut-requires c =
    let low = mod-lt (slice_index_or c.sessions-session-items.result.now c.loop-session.session-index 0) {m = c.args.count} c.requires.some in let many = c.loop-session.invariant.counted.many in let len = c.loop-session.lines.ok.0 in
    omega (arith, low, many, len)

pub overflow_add-index_mut : goal.overflow_add-index_mut
overflow_add-index_mut c =
    let session = slice_index_or c.sessions-session-items.result.now c.loop-session.session-index 0 in
    let was = next (goal.at.overflow_add-index_mut c).In-loop-session in
    let low = was.1.low (session % c.args.count) in
    let fits = mod-lt session {m = c.args.count} c.requires.some in let many = was.1.many in
    let is = c.index_mut.ensures.value ∙ any-default c.loop-session.lines.items (session % c.args.count) c.index_mut.result.now 0 (omega (arith, fits, many)) in
    let less = few-done c.args.count c.args.script.now (with_session session was.0) _ c.loop-session.lines.items c.loop-session.owners.items c.loop-session.limit was.1 in
    let few = c.parts-part-items.ensures.few in
    omega (arith, is, low, less, few)

pub push_reserved-requires : goal.push_reserved-requires
push_reserved-requires c =
    let session = slice_index_or c.sessions-session-items.result.now c.loop-session.session-index 0 in
    let was = next (goal.at.push_reserved-requires c).In-loop-session in
    let several = c.if-count-gt1-2.true in
    let less = few-noted c.args.count c.args.script.now (with_session session was.0) _ c.loop-session.lines.items c.loop-session.owners.items c.loop-session.limit was.1 several in
    let room = c.loop-session.invariant.room several in let len = c.loop-session.owners.ok.0 in
    omega (arith, less, room, len)

pub loop-session-preserved : goal.loop-session-preserved
loop-session-preserved c =
    let session = slice_index_or c.sessions-session-items.result.now c.loop-session.session-index 0 in
    let parts = c.parts-part-items.result.now in
    let was = next (goal.at.loop-session-preserved c).In-loop-session in
    let low = mod-lt session {m = c.args.count} c.requires.some in
    let many = was.1.many in
    record {
      counted = one-counted c.args.count c.args.script.now (with_session session was.0) (left_in parts c.loop-part.part-index (part_at parts c.loop-part.part-index) (c.loop-session.session-index + 1))
          c.loop-session.lines.items c.loop-session.owners.items c.if-count-gt1-2.owners.items c.loop-session.limit c.max-limit.result (c.index_mut.result.now + 1) was.1 (omega (arith, low, many))
          (ap (λ (m : ℕ). m + 1) (c.index_mut.ensures.value ∙ any-default c.loop-session.lines.items (session % c.args.count) c.index_mut.result.now 0 (omega (arith, low, many))))
          (λ several. elim c.if-count-gt1-2.branch [
            | then-count-gt1-2 w ↦ ap (λ (v : Vec ℕ Global). v.items) w.owners-is ∙ w.push_reserved.ensures.items
            | else-count-gt1-2 w ↦ absurd (let few = w.if-count-gt1-2.false in omega (arith, few, several))
          ])
          (λ one. elim c.if-count-gt1-2.branch [
            | then-count-gt1-2 w ↦ absurd (let several = w.if-count-gt1-2.true in omega (arith, several, one))
            | else-count-gt1-2 w ↦ ap (λ (v : Vec ℕ Global). v.items) w.owners-is
          ])
          (search rules) (search rules) (search rules);
      sessions = c.loop-session.invariant.sessions;
      room = λ several. elim c.if-count-gt1-2.branch [
        | then-count-gt1-2 w ↦ let same = w.push_reserved.ensures.capacity in let is = ap (λ (v : Vec ℕ Global). vec_capacity v) w.owners-is in let room = c.loop-session.invariant.room several in omega (arith, same, is, room)
        | else-count-gt1-2 w ↦ absurd (let few = w.if-count-gt1-2.false in omega (arith, few, several))
      ];
    }

pub loop-part-preserved : goal.loop-part-preserved
loop-part-preserved c =
    let parts = c.parts-part-items.result.now in let part = part_at parts c.loop-part.part-index in
    let end = c.loop-session-test.false in let same = as-many part c.sessions-session-items.result.now c.loop-session.invariant.sessions in
    record {
      counted = subst (λ (rest : List Line). AreCounted c.args.count c.args.script.now rest c.loop-session.lines.items c.loop-session.owners.items c.loop-session.limit)
          (part_over parts c.loop-part.part-index part c.loop-session.session-index (omega (arith, end, same))) c.loop-session.invariant.counted;
      room = c.loop-session.invariant.room;
    }

pub returns-clause-owned : goal.returns-clause-owned
returns-clause-owned c =
    are-owned c.args.count c.args.script.now c.loop-part.lines.items c.loop-part.owners.items c.loop-part.limit c.requires.some
    (subst (λ (rest : List Line). AreCounted c.args.count c.args.script.now rest c.loop-part.lines.items c.loop-part.owners.items c.loop-part.limit)
    (parts_over c.parts-part-items.result.now c.loop-part.part-index (let end = c.loop-part-test.false in omega (arith, end))) c.loop-part.invariant.counted)
