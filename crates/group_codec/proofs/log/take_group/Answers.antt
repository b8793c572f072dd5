use Rattle.std.proofs.Common.{◌≡◌, ◌∷◌, [], ◌++◌, true, sym, ap, subst, ◌∙◌, drop}
use Rattle.graph_model.specs.Records.{Lawful}
use Rattle.group_codec.specs.Spelling.{group_bytes, is_group}
use Rattle.group_codec.specs.Log.{records_of}
use Rattle.group_codec.specs.Judging.{KnowsLawfulIf}
use Rattle.group_codec.proofs.Groups.{group-ends}
use Rattle.group_codec.proofs.Grouping.{records_of-push}
use Rattle.group_codec.proofs.log.take_group.Goals as goal

pub returns-then-not-branch-clause-bad : goal.returns-then-not-branch-clause-bad
returns-then-not-branch-clause-bad c = λ bad groups stands is g gate rest text spelled law.
    let found = c.in-Ok.found.0 in
    let same = group-ends c.args.epoch found g (drop c.in-Ok.found.1 c.args.bytes.now) (gate ∷ rest) c.in-Ok.ensures.spelled (subst (λ n. is_group n g ≡ true) (sym is) spelled)
    (sym c.in-Ok.ensures.found.0 ∙ text ∙ ap (λ n. group_bytes n g ++ gate ∷ rest) (sym is)) in
    let slice : c.as_slice.result.now ≡ g = c.as_slice.ensures ∙ same.0 in
    let judged = subst (λ b. KnowsLawfulIf b c.take_group.new.self (groups ++ c.as_slice.result.now ∷ [])) c.if-not-branch.true
    (c.in_ok-take_group.ensures groups stands (subst (λ x. is_group c.args.epoch x ≡ true) (sym c.as_slice.ensures) c.in-Ok.ensures.spelled) is) in
    judged (subst Lawful (ap (λ x. records_of groups ++ x) (sym slice) ∙ sym (records_of-push groups c.as_slice.result.now)) law)
