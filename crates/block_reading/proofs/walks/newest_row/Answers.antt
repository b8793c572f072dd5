use Rattle.std.proofs.Common.{◌≡◌, ℕ, ◌+◌, ◌-◌, ◌<◌, ◌≤◌, List, length, drop, get_or, [], sym, ap, ◌∙◌, subst, arith, length-drop, Some}
use Rattle.std.proofs.lemmas.List.{at_drop_all}
use Rattle.stamps.specs.Stamps.{Txn}
use Rattle.edge_log.specs.Entries.{Entry as LogEntry}
use Rattle.edge_log.specs.Places.{newest_place}
use Rattle.block_layout.specs.Rows.{HaveRows}
use Rattle.tel_entry.specs.declared.entry.Entry.{Entry as RawEntry}
use Rattle.block_reading.specs.RowLists.{row_list}
use Rattle.block_reading.proofs.RowLemmas.{length-row_list}
use Rattle.block_reading.proofs.NewestLemmas.{IsRow, ReadsRow, row_read, found, passed_other, passed_unseen}
use Rattle.block_reading.proofs.walks.newest_row.Goals as goal
use Rattle.block_reading.proofs.walks.newest_row.Goals.{else-entry-d-via-then-entry-d+else-visible, else-entry-d-via-else-entry-d}

-- the entry of the row that was read
the_row : (rows : List (List ℕ)) (xs : List LogEntry) (i : ℕ) (raw : RawEntry) → HaveRows xs → rows ≡ row_list xs → i < length rows → ReadsRow (get_or rows i []) raw →
    (x : LogEntry) × IsRow xs i raw x
the_row rows xs i raw has is within reads =
    let long : length rows ≡ length xs = ap length is ∙ length-row_list xs in
    let P : List (List ℕ) → Type 0 = λ rs. ReadsRow (get_or rs i []) raw in
    row_read xs i [] raw has (omega arith) (subst P is reads)

pub returns-then-visible : goal.returns-then-visible
returns-then-visible c = λ xs has rows.
    let i : ℕ = c.loop-row.row-index in
    let row = the_row c.args.rows.now xs i c.read_entry-entry.result has rows c.loop-row-test.true c.read_entry-entry.ensures.only in
    let here = found xs i c.args.d c.args.read (Txn c.args.tid) c.read_entry-entry.result row.0 row.1 c.if-entry-d.true (sym c.visible.ensures ∙ c.if-visible.true) in
    let long : length c.args.rows.now ≡ length xs = ap length rows ∙ length-row_list xs in
    let left : length (drop (i + 1) xs) ≡ length xs - (i + 1) = length-drop (i + 1) xs in
    let place : c.loop-row.place - 1 ≡ length (drop (i + 1) xs) = (let inv = c.loop-row.invariant.place in omega arith) in
    ap Some place ∙ sym here ∙ c.loop-row.invariant.left xs has rows

pub loop-row-preserved : goal.loop-row-preserved
loop-row-preserved c = record {
  place = (let inv = c.loop-row.invariant.place in let t = c.loop-row-test.true in omega arith);
  left = λ xs has rows.
      let i : ℕ = c.loop-row.row-index in
      let row = the_row c.args.rows.now xs i c.read_entry-entry.result has rows c.loop-row-test.true c.read_entry-entry.ensures.only in
      elim c.else-entry-d.branch [
        | else-entry-d-via-then-entry-d+else-visible w ↦
            passed_unseen xs i c.args.d c.args.read (Txn c.args.tid) c.read_entry-entry.result row.0 row.1 (sym w.visible.ensures ∙ w.if-visible.false) ∙ c.loop-row.invariant.left xs has rows
        | else-entry-d-via-else-entry-d w ↦
            passed_other xs i c.args.d c.args.read (Txn c.args.tid) c.read_entry-entry.result row.0 row.1 w.if-entry-d.false ∙ c.loop-row.invariant.left xs has rows
      ];
}

pub returns : goal.returns
returns c = λ xs has rows.
    let i : ℕ = c.loop-row.row-index in
    let long : length c.args.rows.now ≡ length xs = ap length rows ∙ length-row_list xs in
    let past : length xs ≤ i = (let t = c.loop-row-test.false in omega arith) in
    sym (at_drop_all (λ (ys : List LogEntry). newest_place ys c.args.d c.args.read (Txn c.args.tid)) xs i past) ∙ c.loop-row.invariant.left xs has rows
