use Rattle.std.proofs.Common.{◌≡◌, ◌-◌, ◌≤◌, ◌<◌, ◌%◌, [], ◌∷◌, ◌++◌, ℕ, length, slice_index_or, slice_set, sym, ap, ◌∙◌, subst, arith, Option, option_to_list, Vec, Global}
use Rattle.request_text.specs.declared.reply.Reply.{Reply}
use Rattle.std.proofs.Math.Nat.{mod-lt}
use Rattle.request_text.specs.declared.request.Line.{Line}
use Rattle.worker_lines.specs.Lines.{lines_of}
use Rattle.store_workers.proofs.Counting.{owner_of, noted-line}
use Rattle.store_workers.proofs.Numbering.{numbered-at}
use Rattle.store_workers.proofs.Ordering.{Dealt, none-dealt, one-dealt, has-reply, all-dealt, alone-len, alone-own}
use Rattle.store_workers.proofs.orders.in_order.Goals as goal
use Rattle.store_workers.proofs.orders.in_order.Goals.{In-loop-left}

pub loop-left-init : goal.loop-left-init
loop-left-init c = record {
  dealt = subst (λ (k : ℕ). Dealt c.args.count c.args.script.value c.args.own.items c.args.own.items k c.args.replies.items) (sym c.requires.lines)
      (none-dealt c.args.count c.args.script.value c.args.own.items c.args.replies.items c.requires.each c.requires.none
      (λ w d low. numbered-at (λ (w : ℕ) (rs : Vec Reply Global). length rs.items ≡ length (lines_of w c.args.count c.args.script.value)) c.args.own.items c.requires.whole w d (let many = c.requires.each in omega (arith, low, many))));
  low = let long = c.requires.lines in omega (arith, long);
  room = c.requires.room;
}

-- the next line, whose worker is noted
next : (c : In-loop-left) → (line : Line) × (line ≡ slice_index_or c.args.script.value (c.loop-left.left - 1) line) × (c.loop-left.left - 1 < length c.args.owners.now) × ((d : ℕ) → slice_index_or c.args.owners.now (c.loop-left.left - 1) d ≡ owner_of c.args.count line)
next c = noted-line c.args.count c.args.owners.now c.args.script.value (c.loop-left.left - 1) c.requires.owned c.if-count-eq1.false
    (let some = c.loop-left-test.true in let bound = c.loop-left.invariant.low in omega (arith, some, bound))

pub bounds-owners-left : goal.bounds-owners-left
bounds-owners-left c = (next (goal.at.bounds-owners-left c).In-loop-left).2

pub index_mut-requires : goal.index_mut-requires
index_mut-requires c =
    let line = next (goal.at.index_mut-requires c).In-loop-left in
    let owner = line.3 0 in let low = mod-lt line.0.session {m = c.args.count} c.requires.some in let each = c.loop-left.invariant.dealt.each in let len = c.loop-left.own.ok.0 in
    omega (arith, owner, low, each, len)

pub unwrap-requires : goal.unwrap-requires
unwrap-requires c =
    let was = c.loop-left.invariant in let k = c.loop-left.left - 1 in
    let line = next (goal.at.unwrap-requires c).In-loop-left in
    let some = c.loop-left-test.true in let bound = was.low in
    let d = c.index_mut.result.now in
    let has = has-reply c.args.count c.args.script.value c.args.own.items c.loop-left.own.items k c.loop-left.left c.loop-left.replies.items line.0 d was.dealt (omega (arith, some)) (omega (arith, some, bound)) line.1 c.requires.some in
    let is : d ≡ slice_index_or c.loop-left.own.items (line.0.session % c.args.count) d = c.index_mut.ensures.value ∙ ap (λ (j : ℕ). slice_index_or c.loop-left.own.items j d) (line.3 0) in
    let some-there = subst (λ (v : Vec Reply Global). 0 < length v.items) (sym is) has in let len = d.ok.0 in
    c.pop.ensures.variant.1 (omega (arith, some-there, len))

pub loop-left-preserved : goal.loop-left-preserved
loop-left-preserved c =
    let script = c.args.script.value in let was = c.loop-left.invariant in
    let k = c.loop-left.left - 1 in
    let some = c.loop-left-test.true in let bound = was.low in
    let line = next (goal.at.loop-left-preserved c).In-loop-left in
    let owner = line.3 0 in
    let v = c.pop.new.self in let d = c.index_mut.result.now in
    let popped : (slice_index_or c.loop-left.own.items (line.0.session % c.args.count) d).items ≡ v.items ++ c.unwrap.result ∷ [] =
    ap (λ (j : ℕ). (slice_index_or c.loop-left.own.items j d).items) (sym owner) ∙ ap (λ (x : Vec Reply Global). x.items) (sym c.index_mut.ensures.value)
    ∙ c.pop.ensures.items ∙ ap (λ (o : Option Reply). v.items ++ option_to_list o) c.unwrap.ensures in
    record {
      dealt = one-dealt c.args.count script c.args.own.items c.loop-left.own.items (slice_set c.loop-left.own.items (slice_index_or c.args.owners.now k 0) v) v k c.loop-left.left c.loop-left.replies.items c.push_reserved.new.self.items c.unwrap.result line.0 d
          was.dealt (omega (arith, some)) (omega (arith, some, bound)) line.1 c.requires.some popped (ap (λ (j : ℕ). slice_set c.loop-left.own.items j v) owner) c.push_reserved.ensures.items;
      low = omega (arith, bound);
      room = subst (λ (n : ℕ). length script ≤ n) (sym c.push_reserved.ensures.capacity) was.room;
    }

pub returns-then-count-eq1-clause-len : goal.returns-then-count-eq1-clause-len
returns-then-count-eq1-clause-len c = alone-len c.args.count c.args.script.value c.args.own.items c.alone.result c.if-count-eq1.true c.alone.ensures c.requires.whole

pub returns-then-count-eq1-clause-own : goal.returns-then-count-eq1-clause-own
returns-then-count-eq1-clause-own c = alone-own c.args.count c.args.script.value c.args.own.items c.alone.result c.if-count-eq1.true c.alone.ensures c.requires.whole

pub returns-clause-own : goal.returns-clause-own
returns-clause-own c =
    (all-dealt c.args.count c.args.script.value c.args.own.items c.loop-left.own.items c.loop-left.left c.loop-left.replies.items c.reverse.new.self.items c.loop-left.invariant.dealt
    (let end = c.loop-left-test.false in omega (arith, end)) c.reverse.ensures.items c.requires.each c.args.replies).1
