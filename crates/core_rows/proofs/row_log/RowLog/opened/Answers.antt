-- The edges are appended from the last one on.
use Rattle.std.proofs.Common.{◌≡◌, ◌∙◌, ◌+◌, ◌-◌, ◌<◌, ℕ, List, length, drop, sym, ap, arith, None, Some, inl, inr}
use Rattle.std.specs.List.{slice_get}
use Rattle.std.proofs.lemmas.Option.{slice_get_cases}
use Rattle.graph_model.specs.declared.pairs.Pair.{Pair}
use Rattle.edge_log.specs.Contents.{with_converted, with_appended}
use Rattle.core_rows.proofs.OpenedLogs.{pending_log, opened-pending, drop_here}
use Rattle.core_rows.proofs.row_log.RowLog.opened.Goals as goal
use Rattle.core_rows.proofs.row_log.RowLog.opened.Goals.{else-loop-left-test, then-loop-left-test+in_default}

pub loop-left-preserved : goal.loop-left-preserved
loop-left-preserved c =
    let next : c.loop-left.left ≡ c.loop-left.left - 1 + 1 = omega arith in
    let x = c.in-Some.pair.now in
    let here = drop_here c.args.pairs.now (c.loop-left.left - 1) c.loop-left.left x next (sym c.in-Some.ensures) in
    record {
      within = omega arith;
      appended = c.in_ok-append.ensures ∙ ap (with_appended 0 x.d x.p) c.loop-left.invariant.appended ∙ ap pending_log (sym here);
    }

-- where none stands, the place is past the end
none_past : (xs : List Pair) (i : ℕ) → None ≡ slice_get xs i → i < length xs → ⊥
none_past xs i none lt = elim (slice_get_cases xs i).1 [
  | inl (x, within, at, here) ↦ some_none x (none ∙ at)
  | inr (over, at) ↦ absurd (omega arith)
]
  where
    some_none : (x : Pair) → None ≡ Some x → ⊥
    some_none x e = cc e

pub returns : goal.returns
returns c =
    let pairs = c.args.pairs.now in
    let all : drop c.loop-left.left pairs ≡ pairs = elim c.loop-left-test.branch [
      | else-loop-left-test w ↦ (let start : c.loop-left.left ≡ 0 = omega (arith, w.loop-left-test.false) in ap (λ n. drop n pairs) start)
      | then-loop-left-test+in_default w ↦ absurd (none_past pairs (c.loop-left.left - 1) w.in_default.ensures (omega (arith, w.loop-left-test.true, c.loop-left.invariant.within)))
    ] in
    c.convert.ensures ∙ ap (with_converted 0 c.args.epoch) (c.loop-left.invariant.appended ∙ ap pending_log all) ∙ opened-pending c.args.epoch pairs
