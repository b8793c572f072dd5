use Rattle.std.proofs.Common.{ℕ, ◌≡◌, ◌^◌, ◌<◌, ◌≤◌, List, [], ◌∷◌, ◌++◌, length, slice_get, Result, Ok, Err, ap, subst, sym, ◌∙◌, arith}
use Rattle.std.specs.Prelude.{OnErr}
use Rattle.std.proofs.Math.ListN.{set}
use Rattle.std.proofs.lemmas.List.{length_push}
use Rattle.reader_table.specs.declared.row.Row.{Row}
use Rattle.reader_table.specs.declared.row.Row.TheVariants.{Idle}
use Rattle.reader_table.specs.declared.least.Least.{Least}
use Rattle.reader_table.specs.Nodes.{Leaves}
use Rattle.reader_table.specs.Leasts.{least_of, leasts_of}
use Rattle.reader_table.specs.Rows.{is_open, first_closed}
use Rattle.reader_table.proofs.RowLeasts.{HasClosed, HasNoClosed, has_closed, has_no_closed, length-leasts_of, leasts_of-push}
use Rattle.reader_table.proofs.table.ReaderTable.open_row.Goals as goal

-- what the index tells of the rows
told : (index : Leaves) (rows now : List Row) (least : Least) → least ≡ least_of index.rows → index.rows ≡ leasts_of 0 rows → rows ≡ now → least.closed ≡ (least_of (leasts_of 0 now)).closed
told index rows now least is kept seen = ap (λ (x : Least). x.closed) (is ∙ ap least_of kept ∙ ap (λ (xs : List Row). least_of (leasts_of 0 xs)) seen)

closed_told : (index : Leaves) (rows now : List Row) (least : Least) → least ≡ least_of index.rows → index.rows ≡ leasts_of 0 rows → rows ≡ now → length rows < 2 ^ 32 → least.closed < 4294967295 →
    HasClosed 0 least.closed now
closed_told index rows now least is kept seen few some =
    let t = told index rows now least is kept seen in
    let n = ap length seen in
    subst (λ (k : ℕ). HasClosed 0 k now) (sym t) (has_closed 0 now (omega (arith, n)) (omega (arith, t)))

none_told : (index : Leaves) (rows now : List Row) (least : Least) → least ≡ least_of index.rows → index.rows ≡ leasts_of 0 rows → rows ≡ now → length rows < 2 ^ 32 → 4294967295 ≤ least.closed →
    HasNoClosed now
none_told index rows now least is kept seen few none =
    let t = told index rows now least is kept seen in
    let n = ap length seen in
    has_no_closed 0 now (omega (arith, n)) (omega (arith, t))

told_err : {T E P : Type 0} (r : Result T E) → P → OnErr r P
told_err (Ok x) p = tt
told_err (Err e) p = p

pub mark-requires : goal.mark-requires
mark-requires c =
    let h = closed_told c.self.inside.index c.self.inside.rows.items c.args.self.now c.least-closed.result c.least-closed.ensures c.self.invariant.index c.self.view_is c.self.invariant.few c.if-closed-lt4294967295.true in
    omega (arith, h.first, h.within)

pub returns-then-closed-lt4294967295-clause-row : goal.returns-then-closed-lt4294967295-clause-row
returns-then-closed-lt4294967295-clause-row c =
    let h = closed_told c.self.inside.index c.self.inside.rows.items c.args.self.now c.least-closed.result c.least-closed.ensures c.self.invariant.index c.self.view_is c.self.invariant.few c.if-closed-lt4294967295.true in
    omega (arith, h.first)

pub returns-then-closed-lt4294967295-clause-opened : goal.returns-then-closed-lt4294967295-clause-opened
returns-then-closed-lt4294967295-clause-opened c =
    let h = closed_told c.self.inside.index c.self.inside.rows.items c.args.self.now c.least-closed.result c.least-closed.ensures c.self.invariant.index c.self.view_is c.self.invariant.few c.if-closed-lt4294967295.true in
    let e : c.least-closed.result.closed ≡ first_closed c.args.self.now = omega (arith, h.first) in
    c.mark.ensures ∙ ap (λ (k : ℕ). set c.args.self.now k Idle) e ∙ sym h.opened_is

pub returns-then-closed-lt4294967295-clause-not_open : goal.returns-then-closed-lt4294967295-clause-not_open
returns-then-closed-lt4294967295-clause-not_open c =
    let h = closed_told c.self.inside.index c.self.inside.rows.items c.args.self.now c.least-closed.result c.least-closed.ensures c.self.invariant.index c.self.view_is c.self.invariant.few c.if-closed-lt4294967295.true in
    let e : c.least-closed.result.closed ≡ first_closed c.args.self.now = omega (arith, h.first) in
    ap (λ (k : ℕ). is_open (slice_get c.args.self.now k)) e ∙ h.not_open

pub returns-then-row-clause-no_memory : goal.returns-then-row-clause-no_memory
returns-then-row-clause-no_memory c =
    (none_told c.self.inside.index c.self.inside.rows.items c.args.self.now c.least-closed.result c.least-closed.ensures c.self.invariant.index c.self.view_is c.self.invariant.few c.if-closed-lt4294967295.false).first

pub reserve-requires : goal.reserve-requires
reserve-requires c =
    let a = ap length c.self.invariant.index in
    let b = length-leasts_of 0 c.self.inside.rows.items in
    omega (arith, a, b, c.self.invariant.few)

pub returns-in_err-reserve-clause-no_memory : goal.returns-in_err-reserve-clause-no_memory
returns-in_err-reserve-clause-no_memory c =
    told_err c.from_residual.result
    (none_told c.self.inside.index c.self.inside.rows.items c.args.self.now c.least-closed.result c.least-closed.ensures c.self.invariant.index c.self.view_is c.self.invariant.few c.if-closed-lt4294967295.false).first

pub returns-in_err-push-clause-no_memory : goal.returns-in_err-push-clause-no_memory
returns-in_err-push-clause-no_memory c =
    told_err c.from_residual-in_err-push.result
    (none_told c.self.inside.index c.self.inside.rows.items c.args.self.now c.least-closed.result c.least-closed.ensures c.self.invariant.index c.self.view_is c.self.invariant.few c.if-closed-lt4294967295.false).first

pub invariant_of-self-2 : goal.invariant_of-self-2
invariant_of-self-2 c = record {
  index =
      ap (λ (s : Leaves). s.rows) c.push-2.ensures
      ∙ ap (λ (xs : List Least). xs ++ c.of.result ∷ []) (c.in_ok-reserve.ensures.rows ∙ c.self.invariant.index)
      ∙ ap (λ (x : Least). leasts_of 0 c.self.inside.rows.items ++ x ∷ []) c.of.ensures
      ∙ sym (leasts_of-push 0 c.self.inside.rows.items Idle)
      ∙ ap (leasts_of 0) (sym c.in_ok-push.ensures.items);
  few =
      let n = ap length c.in_ok-push.ensures.items in
      let p = length_push c.self.inside.rows.items Idle in
      omega (arith, n, p, c.self.invariant.few, c.len-row.ensures, c.if-row.false, c.self.inside.rows.ok.0);
}

pub returns-clause-row : goal.returns-clause-row
returns-clause-row c =
    let h = none_told c.self.inside.index c.self.inside.rows.items c.args.self.now c.least-closed.result c.least-closed.ensures c.self.invariant.index c.self.view_is c.self.invariant.few c.if-closed-lt4294967295.false in
    let v = ap length c.self.view_is in
    omega (arith, h.first, v, c.len-row.ensures, c.self.inside.rows.ok.0)

pub returns-clause-opened : goal.returns-clause-opened
returns-clause-opened c =
    let h = none_told c.self.inside.index c.self.inside.rows.items c.args.self.now c.least-closed.result c.least-closed.ensures c.self.invariant.index c.self.view_is c.self.invariant.few c.if-closed-lt4294967295.false in
    c.in_ok-push.ensures.items ∙ ap (λ (xs : List Row). xs ++ Idle ∷ []) c.self.view_is ∙ sym h.opened_is

pub returns-clause-not_open : goal.returns-clause-not_open
returns-clause-not_open c =
    let h = none_told c.self.inside.index c.self.inside.rows.items c.args.self.now c.least-closed.result c.least-closed.ensures c.self.invariant.index c.self.view_is c.self.invariant.few c.if-closed-lt4294967295.false in
    let v = ap length c.self.view_is in
    let e : c.len-row.result ≡ length c.args.self.now = omega (arith, v, c.len-row.ensures, c.self.inside.rows.ok.0) in
    ap (λ (k : ℕ). is_open (slice_get c.args.self.now k)) e ∙ h.not_open
