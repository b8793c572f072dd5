use Rattle.std.proofs.Common.{◌+◌, ◌++◌, length, reverse, refl, ap, ◌∙◌, vec_len, List}
use Rattle.std.proofs.lemmas.List.{reverse-reverse, length-reverse}
use Rattle.group_commit.specs.Encoded.{Encoded}
use Rattle.group_commit.specs.Members.{records_at}
use Rattle.epoch_clock.proofs.commits.keep_records.Goals as goal

pub loop-member-init : goal.loop-member-init
loop-member-init c = record {
  all = ap (λ (ms : List Encoded). c.args.records.now.items ++ records_at c.args.epoch ms)
      (ap reverse c.reverse.ensures ∙ reverse-reverse c.args.group.now);
  len = ap (λ n. vec_len c.args.records.now + n) (ap length c.reverse.ensures ∙ length-reverse c.args.group.now);
  capacity = refl;
}
