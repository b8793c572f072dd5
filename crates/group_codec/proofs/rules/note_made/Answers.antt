use Rattle.std.proofs.Common.{◌≡◌, ◌+◌, ◌<◌, ◌∷◌, [], take, length, true, false, ◌||◌, sym, ap, ◌∙◌, arith}
use Rattle.group_codec.specs.NumberSets.{was_met}
use Rattle.std.proofs.Math.Bool.{or_assoc}
use Rattle.std.proofs.lemmas.Bool.{and_right, and_from}
use Rattle.graph_model.specs.Records.{made_vertices}
use Rattle.graph_model.proofs.Fitting.{take-item}
use Rattle.group_codec.specs.Judging.{are_new}
use Rattle.group_codec.proofs.Making.{is_in, are_new-step, is_in-step, are_new-stop}
use Rattle.group_codec.proofs.rules.note_made.Goals as goal

pub returns-then-not-branch-clause-new : goal.returns-then-not-branch-clause-new
returns-then-not-branch-clause-new c =
    let old = was_met c.args.made.now in
    let cs = c.args.changes.now in
    let i = c.loop-change.change-index in
    let within : i < length cs = omega arith in
    let more = take-item cs i c.change-item.result within c.change-item.is in
    let step = are_new-step old (was_met c.loop-change.made) (take i cs) c.change-item.result c.loop-change.invariant.1 in
    let last : are_new (was_met c.loop-change.made) (made_vertices (c.change-item.result ∷ [])) ≡ false = sym c.in_ok-note_change.ensures.new ∙ c.if-not-branch.true in
    sym (are_new-stop old cs (i + 1) (ap (λ xs. are_new old (made_vertices xs)) more ∙ step ∙ and_right (are_new old (made_vertices (take i cs))) _ last))

pub loop-change-preserved : goal.loop-change-preserved
loop-change-preserved c =
    let old = was_met c.args.made.now in
    let cs = c.args.changes.now in
    let i = c.loop-change.change-index in
    let within : i < length cs = omega arith in
    let more = take-item cs i c.change-item.result within c.change-item.is in
    let step = are_new-step old (was_met c.loop-change.made) (take i cs) c.change-item.result c.loop-change.invariant.1 in
    let last : are_new (was_met c.loop-change.made) (made_vertices (c.change-item.result ∷ [])) ≡ true = sym c.in_ok-note_change.ensures.new ∙ c.if-not-branch.false in (
      ap (λ xs. are_new old (made_vertices xs)) more ∙ step ∙ and_from (are_new old (made_vertices (take i cs))) _ c.loop-change.invariant.0 last,
      λ v.
          c.in_ok-note_change.ensures.noted c.if-not-branch.false v ∙ ap (λ b. b || is_in v (made_vertices (c.change-item.result ∷ []))) (c.loop-change.invariant.1 v)
          ∙ or_assoc (old v) (is_in v (made_vertices (take i cs))) (is_in v (made_vertices (c.change-item.result ∷ [])))
          ∙ ap (λ b. old v || b) (sym (is_in-step v (take i cs) c.change-item.result)) ∙ ap (λ xs. old v || is_in v (made_vertices xs)) (sym more),
    )
