use Rattle.std.proofs.Common.{ℕ, ◌<◌, length, get_or, Some, sym, ap, ◌∙◌, arith}
use Rattle.graph_model.specs.declared.record.Outcome.{Outcome}
use Rattle.commit_queue.specs.KeptOutcomes.{KeptOutcomes, place_in}
use Rattle.commit_queue.proofs.Places.{outcome_at, outcome_none}
use Rattle.commit_queue.proofs.outcomes.Outcomes.of.Goals as goal

pub returns-then-i-len : goal.returns-then-i-len
returns-then-i-len c =
    let same = ap (λ (s : KeptOutcomes). length s.kept) c.self.view_is in
    let kept = c.args.self.now.kept in
    let within : place_in c.args.tid kept < length kept = omega (arith, c.place-i.ensures, c.if-i-len.true, c.len.ensures, same) in
    let i = c.place-i.result in
    let d = c.index.result.now in
    ap (λ (x : ℕ × Outcome). Some x.1) (c.index.ensures ∙ ap (λ (s : KeptOutcomes). get_or s.kept i d) c.self.view_is ∙ ap (λ (k : ℕ). get_or kept k d) c.place-i.ensures)
    ∙ sym (outcome_at c.args.tid kept d within)

pub returns-else-i-len : goal.returns-else-i-len
returns-else-i-len c =
    let same = ap (λ (s : KeptOutcomes). length s.kept) c.self.view_is in
    sym (outcome_none c.args.tid c.args.self.now.kept (omega (arith, c.place-i.ensures, c.if-i-len.false, c.len.ensures, same)))
