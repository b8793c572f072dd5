use Rattle.std.proofs.Common.{◌∙◌, ap, rules}
use Rattle.std.proofs.lemmas.Map.Made.{map_same_pairs}
use Rattle.core_rows.specs.Rows.{committed_log}
use Rattle.core_rows.specs.LogMap.{logs_of}
use Rattle.core_rows.proofs.LogLists.{logs-each}
use Rattle.core_rows.proofs.core_row.commit_logs.Goals as goal

pub returns : goal.returns
returns c =
    ap logs_of (map_same_pairs _ (committed_log c.args.tid c.args.epoch) _ (λ k v b w f' t. search rules) c.args.logs.now.entries c.retain.new.self.entries c.retain.ensures.filtered)
    ∙ logs-each (committed_log c.args.tid c.args.epoch) c.args.logs.now.entries
