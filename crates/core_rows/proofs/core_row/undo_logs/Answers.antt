use Rattle.std.proofs.Common.{◌∙◌, ap, rules}
use Rattle.std.proofs.lemmas.Map.Made.{map_same_pairs}
use Rattle.edge_log.specs.Contents.{with_undone}
use Rattle.core_rows.specs.LogMap.{logs_of}
use Rattle.core_rows.proofs.LogLists.{logs-each}
use Rattle.core_rows.proofs.core_row.undo_logs.Goals as goal

pub returns : goal.returns
returns c =
    ap logs_of (map_same_pairs _ (with_undone c.args.tid) _ (λ k v b w f' t. search rules) c.args.logs.now.entries c.retain.new.self.entries c.retain.ensures.filtered)
    ∙ logs-each (with_undone c.args.tid) c.args.logs.now.entries
