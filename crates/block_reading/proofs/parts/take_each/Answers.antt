use Rattle.std.proofs.Common.{ℕ, ◌<◌, Bool, List, length, ap, ◌∙◌, arith}
use Rattle.stamps.specs.Stamps.{Txn}
use Rattle.edge_log.specs.Parts.{PartContent, with_next}
use Rattle.block_reading.proofs.TakenLemmas.{TakesRow, row_lens, taken-pairs, taken-few, taken-within}
use Rattle.block_reading.proofs.parts.take_each.Goals as goal

pub len_of-len-requires : goal.len_of-len-requires
len_of-len-requires c = λ bare.
    let lens = row_lens c.args.rows.now c.loop-row.row-index c.read_row-entry.result c.loop-row-test.true c.read_row-entry.ensures in
    let none = c.loop-row.invariant.lens bare in
    omega (arith, lens, none)

pub take_next-requires-clause-within : goal.take_next-requires-clause-within
take_next-requires-clause-within c =
    let lens = row_lens c.args.rows.now c.loop-row.row-index c.read_row-entry.result c.loop-row-test.true c.read_row-entry.ensures in
    let fits = c.loop-row.invariant.within in
    let len = c.len_of-len.ensures in
    omega (arith, lens, fits, len)

pub loop-row-preserved : goal.loop-row-preserved
loop-row-preserved c =
    let rows : List (List ℕ) = c.args.rows.now in
    let i : ℕ = c.loop-row.row-index in
    let raw = c.read_row-entry.result in
    let old = c.loop-row.out in
    let new = c.take_next.new.self in
    let takes : TakesRow rows i c.args.read (Txn c.args.tid) raw old new = record {
      within = c.loop-row-test.true;
      is = c.read_row-entry.ensures;
      fits = c.loop-row.invariant.within;
      next = c.take_next.ensures ∙ ap (λ (n : ℕ). with_next raw.d n c.is_seen-shown.result old) c.len_of-len.ensures
          ∙ ap (λ (b : Bool). with_next raw.d raw.len b old) c.is_seen-shown.ensures;
    } in
    let few = taken-few rows i c.args.read (Txn c.args.tid) raw old new takes in
    let was = c.loop-row.invariant.few in
    let inside : i < length rows = c.loop-row-test.true in
    let lens = row_lens rows i raw inside c.read_row-entry.ensures in
    record {
      pairs = taken-pairs rows i c.args.read (Txn c.args.tid) raw old new takes ∙ c.loop-row.invariant.pairs;
      few = omega arith;
      within = taken-within rows i c.args.read (Txn c.args.tid) raw old new takes;
      lens = λ bare. (let none = c.loop-row.invariant.lens bare in omega (arith, lens, none));
      bytes = ap (λ (p : PartContent). p.bytes) c.take_next.ensures ∙ c.loop-row.invariant.bytes;
    }
