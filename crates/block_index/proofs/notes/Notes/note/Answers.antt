use Rattle.std.proofs.Common.{◌≡◌, ℕ, ◌+◌, List, [], ap, sym, subst, arith}
use Rattle.edge_log.specs.Entries.{Entry, payload_sum}
use Rattle.edge_log.specs.Places.{oldest}
use Rattle.edge_log.proofs.PlaceLemmas.{oldest_none, oldest_all, oldest_more}
use Rattle.edge_log.proofs.EntryLemmas.{payloads-oldest}
use Rattle.block_index.specs.Noted.{AreNoted}
use Rattle.block_index.proofs.PlaceFacts.{at-place}
use Rattle.block_index.proofs.notes.Notes.note.Goals as goal

pub loop-place-init : goal.loop-place-init
loop-place-init c =
    let empty = c.requires.empty in
    record {
      slots = empty.places.has_slots;
      places = (let n = empty.places.count in let o = c.args.self.now.places.older.ok.0 in omega (arith, n, o));
      props = (let n = empty.props.0 in let o = c.args.self.now.props.ok.0 in omega (arith, n, o));
      room = λ n has. has;
      noted = λ start xs held long.
          let none : oldest 0 xs ≡ [] = oldest_none xs in
          (ap payload_sum (sym none), subst (λ (ys : List Entry). AreNoted c.args.self.now ys) (sym none) empty);
    }

pub push-requires : goal.push-requires
push-requires c =
    let inv = c.loop-place.invariant in
    let room = inv.room c.args.count c.requires.room in
    let a = room.0 in
    let b = room.1 in
    let p = inv.places in
    let q = inv.props in
    record {
      slots = inv.slots;
      places = omega (arith, a, p, c.loop-place-test.true);
      few = omega (arith, p, c.requires.few, c.loop-place-test.true);
      props = omega (arith, b, q, c.loop-place-test.true);
    }

pub overflow_add-props : goal.overflow_add-props
overflow_add-props c =
    let holds = c.requires.holds in
    let xs : List Entry = holds.1 in
    let place : ℕ = c.loop-place.place in
    let sum = (c.loop-place.invariant.noted holds.0 xs holds.2.0 holds.2.1).0 in
    let at = at-place xs place (let long = holds.2.1 in omega (arith, long, c.loop-place-test.true)) in
    let len = ap (λ r. r.len) (c.entry_at-entry.ensures holds.0 xs at.0 holds.2.0 at.1) in
    let more = ap payload_sum (oldest_more xs place at.0 at.1) in
    let most = payloads-oldest (place + 1) xs in
    let few = holds.2.2 in
    omega (arith, sum, len, more, most, few)

pub loop-place-preserved : goal.loop-place-preserved
loop-place-preserved c =
    let inv = c.loop-place.invariant in
    record {
      slots = c.push.ensures.slots;
      places = (let l = c.push.ensures.places in let p = inv.places in omega (arith, l, p));
      props = (let l = c.push.ensures.props in let p = inv.props in omega (arith, l, p));
      room = λ n has. c.push.ensures.room n (inv.room n has);
      noted = λ start xs held long.
          let place : ℕ = c.loop-place.place in
          let was = inv.noted start xs held long in
          let at = at-place xs place (omega (arith, long, c.loop-place-test.true)) in
          let raw = c.entry_at-entry.ensures start xs at.0 held at.1 in
          let len = ap (λ r. r.len) raw in
          let more = oldest_more xs place at.0 at.1 in
          let sum = was.0 in
          let total = ap payload_sum more in (
            omega (arith, sum, len, total),
            subst (λ (ys : List Entry). AreNoted c.push.new.self ys) (sym more) (c.push.ensures.pushed (oldest place xs) at.0 was.1 (ap (λ r. r.d) raw) sum),
          );
    }

pub returns-clause-noted : goal.returns-clause-noted
returns-clause-noted c = λ start xs held long.
    subst (λ (ys : List Entry). AreNoted c.loop-place.self ys) (oldest_all xs c.loop-place.place (omega (arith, long, c.loop-place-test.false))) (c.loop-place.invariant.noted start xs held long).1
