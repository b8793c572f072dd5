use Rattle.std.proofs.Common.{◌≡◌, [], ◌∷◌, ◌++◌, true, sym, ap, subst, ◌∙◌, arith}
use Rattle.std.proofs.lemmas.Bool.{both_ways}
use Rattle.graph_model.specs.Records.{lists_fit}
use Rattle.group_codec.specs.Spelling.{is_group}
use Rattle.group_codec.specs.Log.{records_of}
use Rattle.group_codec.specs.Judging.{Judged}
use Rattle.group_codec.proofs.Grouping.{group-epochs, groups-later_than}
use Rattle.group_codec.proofs.Lawfuls.{KnowsLawful-more, Lawful-less, Lawful-rules, KnowsLawfulIf-by, puts_fit-from}
use Rattle.group_codec.proofs.judge.Judge.take_group.Goals as goal

pub returns-then-not-branch : goal.returns-then-not-branch
returns-then-not-branch c = λ groups stands one is law.
    let g = c.args.records.now in
    let rs = records_of groups in
    let later = groups-later_than c.args.epoch groups stands.spelled (omega (arith, is)) in
    let less = Lawful-less groups g stands.spelled (subst (λ n. is_group n g ≡ true) is one) law in
    let judged = subst (λ b. Judged b c.take_records.new.self (rs ++ g)) c.if-not-branch.true
    (c.in_ok-take_records.ensures rs stands.knows (Lawful-rules rs stands.lawful) later (group-epochs c.args.epoch g one)) in
    judged less.0

pub returns : goal.returns
returns c = λ groups stands one is.
    let g = c.args.records.now in
    let rs = records_of groups in
    let new = c.take_records.new.self in
    let here = subst (λ n. is_group n g ≡ true) is one in
    let later = groups-later_than c.args.epoch groups stands.spelled (omega (arith, is)) in
    let judged = subst (λ b. Judged b new (rs ++ g)) c.if-not-branch.false
    (c.in_ok-take_records.ensures rs stands.knows (Lawful-rules rs stands.lawful) later (group-epochs c.args.epoch g one)) in
    let fit = c.puts_fit.ensures in
    KnowsLawfulIf-by c.puts_fit.result new (groups ++ g ∷ [])
    (λ yes. KnowsLawful-more new groups g c.args.self.now.graph stands.lawful stands.spelled here stands.knows.graph stands.lists judged.0 judged.1 (sym fit ∙ yes))
    (λ lost law.
    let less = Lawful-less groups g stands.spelled here law in
    both_ways _ (sym fit ∙ lost) (puts_fit-from new.graph g (ap lists_fit judged.0.graph ∙ less.1)))
