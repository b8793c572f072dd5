use Rattle.std.proofs.Common.{◌≡◌, ℕ, ◌+◌, ◌-◌, ◌<◌, ◌≤◌, true, false, List, [], ◌∷◌, ◌++◌, length, drop, sym, ap, ◌∙◌, subst, arith, Option, Some}
use Rattle.std.specs.Prelude.{◌⊎◌}
use Rattle.std.proofs.lemmas.Bool.{true≢false}
use Rattle.std.proofs.lemmas.List.{length_push, nil_from_length}
use Rattle.std.proofs.lemmas.List.Sums.{sum_by_push}
use Rattle.graph_model.specs.Payload.{payload_most}
use Rattle.graph_model.specs.declared.pairs.Pair.{Pair}
use Rattle.stamps.specs.Stamps.{Reader, Txn}
use Rattle.edge_log.specs.declared.place.Place.{Place}
use Rattle.edge_log.specs.Entries.{Entry, visible, shown, pair_of, payload_sum}
use Rattle.edge_log.specs.Places.{entry_at}
use Rattle.edge_log.specs.Parts.{PartContent, payload_bytes, part_most, with_edge, IsPart}
use Rattle.tel_entry.specs.RawStamps.{raw_visible}
use Rattle.block_reading.specs.Places.{entries_below, place_at}
use Rattle.block_reading.proofs.BelowLemmas.{length-entries_in}
use Rattle.block_reading.proofs.PartLemmas.{IsLooked, part-looked, part-full}
use Rattle.block_reading.proofs.NextLemmas.{next_read, next-sum, next-ends, next-payload, next-at, next-seen, next-shown-seen, next-shown-unseen, looked_all}
use Rattle.block_reading.proofs.parts.push_rows.Goals as goal
use Rattle.block_reading.proofs.parts.push_rows.Goals.{then-visible+else-not-has_room, else-visible}

pub looked_at-rows-requires : goal.looked_at-rows-requires
looked_at-rows-requires c =
    let n = length-entries_in c.args.start c.args.place.below c.args.place.props c.args.block.now in
    let w = c.requires.entries.within in
    omega arith

pub loop-row-init : goal.loop-row-init
loop-row-init c =
    let xs : List Entry = entries_below c.args.start c.args.place c.args.block.now in
    let none : c.clear.new.self.pairs ≡ [] = ap (λ (p : PartContent). p.pairs) c.clear.ensures.cleared in
    let held : c.clear.new.self.held ≡ 0 = ap (λ (p : PartContent). p.held) c.clear.ensures.cleared in
    record {
      pairs = ap (λ (ps : List Pair). ps ++ shown xs c.args.read (Txn c.args.tid)) (sym none);
      few = (let n : length c.clear.new.self.pairs ≡ 0 = ap length none in omega arith);
      bytes = ap (λ (p : PartContent). p.bytes) c.clear.ensures.cleared;
      held = held ∙ sym (ap payload_bytes none);
      wide = c.clear.ensures.wide;
      below = omega arith;
      props = sym c.requires.props;
    }

pub overflow_sub-low : goal.overflow_sub-low
overflow_sub-low c =
    let start : ℕ = c.args.start in
    let place : Place = c.args.place in
    let bytes : List ℕ = c.args.block.now in
    let xs : List Entry = entries_below start place bytes in
    let i : ℕ = c.loop-row.row-index in
    let long : length xs ≡ place.below = length-entries_in start place.below place.props bytes in
    let are = c.looked_at-rows.ensures.rows start xs c.requires.entries long in
    let next = next_read start place bytes c.looked_at-rows.result.now i c.read_row-entry.result
    (record { holds = c.requires; are = are; within = c.loop-row-test.true; is = c.read_row-entry.ensures }) in
    let sum = next-sum start xs i c.read_row-entry.result next.0 bytes next.1 in
    let props = c.loop-row.invariant.props in
    omega arith

pub slice_bounds-payload-end : goal.slice_bounds-payload-end
slice_bounds-payload-end c =
    let start : ℕ = c.args.start in
    let place : Place = c.args.place in
    let bytes : List ℕ = c.args.block.now in
    let xs : List Entry = entries_below start place bytes in
    let i : ℕ = c.loop-row.row-index in
    let long : length xs ≡ place.below = length-entries_in start place.below place.props bytes in
    let are = c.looked_at-rows.ensures.rows start xs c.requires.entries long in
    let next = next_read start place bytes c.looked_at-rows.result.now i c.read_row-entry.result
    (record { holds = c.requires; are = are; within = c.loop-row-test.true; is = c.read_row-entry.ensures }) in
    let ends = next-ends start xs i c.read_row-entry.result next.0 bytes next.1 in
    let props = c.loop-row.invariant.props in
    let within : start + c.loop-row.props ≤ length bytes = omega arith in
    within

pub overflow_sub-below : goal.overflow_sub-below
overflow_sub-below c =
    let below = c.loop-row.invariant.below in
    let test = c.loop-row-test.true in
    let long = c.looked_at-rows.ensures.long in
    omega arith

pub returns-then-not-has_room : goal.returns-then-not-has_room
returns-then-not-has_room c =
    let start : ℕ = c.args.start in
    let place : Place = c.args.place in
    let bytes : List ℕ = c.args.block.now in
    let xs : List Entry = entries_below start place bytes in
    let i : ℕ = c.loop-row.row-index in
    let long : length xs ≡ place.below = length-entries_in start place.below place.props bytes in
    let are = c.looked_at-rows.ensures.rows start xs c.requires.entries long in
    let next = next_read start place bytes c.looked_at-rows.result.now i c.read_row-entry.result
    (record { holds = c.requires; are = are; within = c.loop-row-test.true; is = c.read_row-entry.ensures }) in
    let who : Reader = Txn c.args.tid in
    let old : PartContent = c.loop-row.out in
    let inv = c.loop-row.invariant in
    let x : Entry = next.0 in
    let test = c.loop-row-test.true in
    let rows_long = c.looked_at-rows.ensures.long in
    let below : c.loop-row.below + i ≡ place.below = inv.below in
    let few : length old.pairs < part_most = (let f = inv.few in omega arith) in
    let payload = next-payload start xs i c.read_row-entry.result x bytes c.loop-row.props next.1 inv.props in
    let no_room : payload_bytes old.pairs + length x.p ≤ old.bytes → ⊥ = λ fits.
    true≢false (sym (c.has_room.ensures.1 (few, (let len = ap length payload in let held = inv.held in omega (arith, len, held, fits)))) ∙ c.if-not-has_room.true) in
    let full : old.bytes < payload_bytes old.pairs + length x.p = omega (arith, no_room) in
    let short : length x.p ≤ payload_most = next.1.held.fits.len in
    let moved : 0 < i = (let absent : i ≡ 0 → ⊥ = λ zero.
    (let none : old.pairs ≡ [] = nil_from_length old.pairs (let f = inv.few in omega arith) in
    let empty : payload_bytes old.pairs ≡ 0 = ap payload_bytes none in
    let wide = inv.wide in omega arith) in omega (arith, absent)) in
    let looked : IsLooked xs i c.args.read who c.args.out.now old = record {
      pairs = inv.pairs;
      bytes = inv.bytes;
      some = λ _. moved;
      within = omega arith;
      few = omega arith;
    } in
    let more : i < length xs = omega arith in
    let seen : visible x c.args.read who ≡ true = next-seen start xs i c.read_row-entry.result x bytes c.args.read who next.1 ∙ sym c.visible.ensures ∙ c.if-visible.true in
    let at : entry_at xs (length xs - i - 1) ≡ Some x = next-at start xs i c.read_row-entry.result x bytes next.1 more in
    let P : ℕ → ℕ → ℕ → Type 0 = λ m b p. IsPart xs m (Some (record { below = b; props = p })) c.args.read who c.args.out.now old in
    subst (λ (p : ℕ). P place.below c.loop-row.below p) (sym inv.props)
    (subst (λ (b : ℕ). P place.below b (payload_sum (drop i xs))) (let e : length xs - i ≡ c.loop-row.below = omega arith in e)
    (subst (λ (m : ℕ). P m (length xs - i) (payload_sum (drop i xs))) long
    (part-full xs i c.args.read who c.args.out.now old looked more x at seen full)))

pub loop-row-preserved : goal.loop-row-preserved
loop-row-preserved c =
    let start : ℕ = c.args.start in
    let place : Place = c.args.place in
    let bytes : List ℕ = c.args.block.now in
    let xs : List Entry = entries_below start place bytes in
    let i : ℕ = c.loop-row.row-index in
    let long : length xs ≡ place.below = length-entries_in start place.below place.props bytes in
    let are = c.looked_at-rows.ensures.rows start xs c.requires.entries long in
    let next = next_read start place bytes c.looked_at-rows.result.now i c.read_row-entry.result
    (record { holds = c.requires; are = are; within = c.loop-row-test.true; is = c.read_row-entry.ensures }) in
    let who : Reader = Txn c.args.tid in
    let old : PartContent = c.loop-row.out in
    let inv = c.loop-row.invariant in
    let x : Entry = next.0 in
    let test = c.loop-row-test.true in
    let rows_long = c.looked_at-rows.ensures.long in
    let sum = next-sum start xs i c.read_row-entry.result x bytes next.1 in
    let below : c.loop-row.below - 1 + (i + 1) ≡ place.below = (let b = inv.below in omega arith) in
    let props : c.loop-row.props - c.read_row-entry.result.len ≡ payload_sum (drop (i + 1) xs) = (let p = inv.props in omega arith) in
    elim c.if-visible.branch [
      | then-visible+else-not-has_room w ↦
          let payload = next-payload start xs i c.read_row-entry.result x bytes c.loop-row.props next.1 inv.props in
          let seen : raw_visible c.read_row-entry.result.created c.read_row-entry.result.ended c.args.read who ≡ true = sym c.visible.ensures ∙ w.if-visible.true in
          let same : w.push.new.self ≡ with_edge x.d x.p old = w.push.ensures ∙ ap (λ (p : List ℕ). with_edge c.read_row-entry.result.d p old) payload
          ∙ ap (λ r. with_edge r.d x.p old) next.1.is in
          let now : c.if-visible.out ≡ with_edge x.d x.p old = w.out-is ∙ same in
          let pairs : c.if-visible.out.pairs ≡ old.pairs ++ pair_of x ∷ [] = ap (λ (p : PartContent). p.pairs) now in
          let held : c.if-visible.out.held ≡ old.held + length x.p = ap (λ (p : PartContent). p.held) now in
          let size : c.if-visible.out.bytes ≡ old.bytes = ap (λ (p : PartContent). p.bytes) now in
          record {
            pairs = inv.pairs ∙ next-shown-seen start xs i c.read_row-entry.result x bytes c.args.read who old.pairs next.1 seen
                ∙ ap (λ (ps : List Pair). ps ++ shown (drop (i + 1) xs) c.args.read who) (sym pairs);
            few = (let f = inv.few in let l = ap length pairs in omega (arith, l, length_push {X = Pair} old.pairs (pair_of x)));
            bytes = size ∙ inv.bytes;
            held = held ∙ ap (λ (n : ℕ). n + length x.p) inv.held ∙ sym (sum_by_push (λ (y : Pair). length y.p) old.pairs (pair_of x)) ∙ sym (ap payload_bytes pairs);
            wide = (let v = inv.wide in omega (arith, size));
            below = below;
            props = props;
          }
      | else-visible w ↦
          let unseen : raw_visible c.read_row-entry.result.created c.read_row-entry.result.ended c.args.read who ≡ false = sym c.visible.ensures ∙ w.if-visible.false in
          let now : c.if-visible.out ≡ old = w.out-is in
          let P : PartContent → Type 0 = λ p. shown xs c.args.read who ≡ p.pairs ++ shown (drop (i + 1) xs) c.args.read who in
          record {
            pairs = subst P (sym now) (inv.pairs ∙ next-shown-unseen start xs i c.read_row-entry.result x bytes c.args.read who old.pairs next.1 unseen);
            few = (let f = inv.few in let l = ap (λ (p : PartContent). length p.pairs) now in omega (arith, l));
            bytes = ap (λ (p : PartContent). p.bytes) now ∙ inv.bytes;
            held = ap (λ (p : PartContent). p.held) now ∙ inv.held ∙ sym (ap (λ (p : PartContent). payload_bytes p.pairs) now);
            wide = (let v = inv.wide in let s = ap (λ (p : PartContent). p.bytes) now in omega (arith, s));
            below = below;
            props = props;
          }
    ]

pub returns : goal.returns
returns c =
    let start : ℕ = c.args.start in
    let place : Place = c.args.place in
    let bytes : List ℕ = c.args.block.now in
    let xs : List Entry = entries_below start place bytes in
    let i : ℕ = c.loop-row.row-index in
    let long : length xs ≡ place.below = length-entries_in start place.below place.props bytes in
    let are = c.looked_at-rows.ensures.rows start xs c.requires.entries long in
    let who : Reader = Txn c.args.tid in
    let old : PartContent = c.loop-row.out in
    let inv = c.loop-row.invariant in
    let test = c.loop-row-test.false in
    let end = c.loop-row.auto.row-index-end in
    let rows_long = c.looked_at-rows.ensures.long in
    let looked : IsLooked xs i c.args.read who c.args.out.now old = record {
      pairs = inv.pairs;
      bytes = inv.bytes;
      some = λ some. omega arith;
      within = omega arith;
      few = omega arith;
    } in
    let whole : (i ≡ length xs) ⊎ (i ≡ part_most) = looked_all i (length xs) (omega arith) in
    let P : ℕ → Option Place → Type 0 = λ m o. IsPart xs m o c.args.read who c.args.out.now old in
    let below : length xs - i ≡ c.loop-row.below = (let b = inv.below in omega arith) in
    let there : place_at (length xs - i) (payload_sum (drop i xs)) ≡ c.next_place.result =
    ap (λ (b : ℕ). place_at b (payload_sum (drop i xs))) below ∙ ap (place_at c.loop-row.below) (sym inv.props) ∙ sym c.next_place.ensures in
    subst (P place.below) there
    (subst (λ (m : ℕ). P m (place_at (length xs - i) (payload_sum (drop i xs)))) long
    (part-looked xs i c.args.read who c.args.out.now old looked whole))
