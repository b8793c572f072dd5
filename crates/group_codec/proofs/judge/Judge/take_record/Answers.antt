use Rattle.std.proofs.Common.{◌≡◌, [], ◌∷◌, ◌++◌, true, false, not, cond, ◌||◌, sym, ap, ◌∙◌}
use Rattle.std.specs.Prelude.{◌==◌}
use Rattle.std.specs.List.{list_any}
use Rattle.std.specs.Ordering.{nat_cmp}
use Rattle.std.specs.BTreeMap.{get}
use Rattle.group_codec.specs.NumberSets.{was_met}
use Rattle.std.proofs.lemmas.Bool.{both_ways, not-true}
use Rattle.graph_model.specs.Change.{vertex_of}
use Rattle.graph_model.specs.Graph.{after, all_fit}
use Rattle.graph_model.specs.Records.{all_changes, made_vertices, is_record}
use Rattle.group_codec.specs.declared.judge.Judge.{Judge}
use Rattle.group_codec.specs.Judging.{are_new, newest_of}
use Rattle.group_codec.proofs.Apart.{apart-told, Tells-push}
use Rattle.group_codec.proofs.Making.{is_in}
use Rattle.group_codec.proofs.Keeping.{Judged-by, keep-more, keep-less, record-read, are_new-same, known-numbers, known-made, after-push, made_by}
use Rattle.group_codec.proofs.judge.Judge.take_record.Goals as goal

pub returns-then-not-is_within_limits : goal.returns-then-not-is_within_limits
returns-then-not-is_within_limits c = λ before knows keep later kept.
    let pass = (keep-less before c.args.committed.now kept).1 in
    both_ways _ (sym c.is_within_limits.ensures ∙ c.if-not-is_within_limits.true) pass.limits

pub returns-then-not-is_apart : goal.returns-then-not-is_apart
returns-then-not-is_apart c = λ before knows keep later kept.
    let r = c.args.committed.now in
    let pass = (keep-less before r kept).1 in
    both_ways _ (sym c.is_apart.ensures ∙ c.if-not-is_apart.true) (sym (apart-told (get nat_cmp c.args.self.now.newest) before r knows.newest later (record-read r pass.limits)) ∙ pass.apart)

pub returns-then-not-branch : goal.returns-then-not-branch
returns-then-not-branch c = λ before knows keep later kept.
    let r = c.args.committed.now in
    let pass = (keep-less before r kept).1 in
    both_ways _ (sym c.in_ok-note_number.ensures.new ∙ c.if-not-branch.true) (ap not (knows.numbers r.tid ∙ pass.number))

pub returns-then-not-branch-2 : goal.returns-then-not-branch-2
returns-then-not-branch-2 c = λ before knows keep later kept.
    let r = c.args.committed.now in
    let pass = (keep-less before r kept).1 in
    let same = are_new-same (was_met c.args.self.now.made) (λ v. is_in v (made_by before)) (made_vertices r.changes) knows.made in
    both_ways _ (sym c.in_ok-note_made.ensures.new ∙ c.if-not-branch-2.true) (ap (λ cs. are_new (was_met c.args.self.now.made) (made_vertices cs)) c.as_slice-changes.ensures ∙ same ∙ pass.made)

pub returns : goal.returns
returns c = λ before knows keep later.
    let r = c.args.committed.now in
    let old = c.args.self.now in
    let new : Judge = record { graph = c.apply_all.new.graph; numbers = c.note_number.new.numbers; made = c.note_made.new.made; newest = c.note_newest.new.newest } in
    let limits : is_record 0 1 r ≡ true = sym c.is_within_limits.ensures ∙ c.if-not-is_within_limits.false in
    let changes : c.as_slice-changes.result.now ≡ r.changes = c.as_slice-changes.ensures in
    let same = are_new-same (was_met old.made) (λ v. is_in v (made_by before)) (made_vertices r.changes) knows.made in
    let number : list_any (λ s. s.tid == r.tid) before ≡ false = sym (knows.numbers r.tid) ∙ not-true _ (sym c.in_ok-note_number.ensures.new ∙ c.if-not-branch.false) in
    let made : are_new (λ v. is_in v (made_by before)) (made_vertices r.changes) ≡ true =
    sym same ∙ ap (λ cs. are_new (was_met old.made) (made_vertices cs)) (sym changes) ∙ sym c.in_ok-note_made.ensures.new ∙ c.if-not-branch-2.false in
    let apart = apart-told (get nat_cmp old.newest) before r knows.newest later (record-read r limits) ∙ sym c.is_apart.ensures ∙ c.if-not-is_apart.false in
    let fit : c.in_ok-fit.fit ≡ all_fit r.changes (after (all_changes before) []) = c.in_ok-fit.ensures.fit ∙ ap (all_fit r.changes) knows.graph in
    Judged-by c.in_ok-fit.fit new (before ++ r ∷ [])
    (λ yes. (
      record {
        graph = c.in_ok-fit.ensures.applied yes ∙ ap (after r.changes) knows.graph ∙ sym (after-push before r);
        numbers = known-numbers (was_met old.numbers) (was_met new.numbers) before r knows.numbers c.in_ok-note_number.ensures.noted;
        made = known-made (was_met old.made) (was_met new.made) before r knows.made
            (λ v. c.in_ok-note_made.ensures.noted c.if-not-branch-2.false v ∙ ap (λ cs. was_met old.made v || is_in v (made_vertices cs)) changes);
        newest = Tells-push (get nat_cmp old.newest) (get nat_cmp new.newest) before r knows.newest later
            (λ v. c.in_ok-note_newest.ensures v ∙ ap (λ cs. cond (list_any (λ x. vertex_of x == v) cs) r.epoch (newest_of (get nat_cmp old.newest) v)) changes);
      },
      keep-more before r keep (record { limits = limits; number = number; made = made; fit = sym fit ∙ yes; apart = apart }),
    ))
    (λ unfit kept. both_ways _ (sym fit ∙ unfit) (keep-less before r kept).1.fit)
