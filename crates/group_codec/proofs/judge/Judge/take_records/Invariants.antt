use Rattle.std.proofs.Common.{◌≡◌, ◌++◌, List, take, true}
use Rattle.std.specs.Prelude.{◌==◌}
use Rattle.std.specs.List.{list_all}
use Rattle.graph_model.specs.declared.record.Record.{Record}
use Rattle.group_codec.specs.Judging.{Knows, KeepRules, none_later}
use Rattle.group_codec.proofs.judge.Judge.take_records.Given as goal

abbrev pub invariant-loop-record : goal.invariant-loop-record
invariant-loop-record l =
    (before : List Record) → Knows l.fn.self before → KeepRules before → none_later l.epoch before ≡ true → list_all (λ r. r.epoch == l.epoch) l.records ≡ true →
    Knows l.self (before ++ take l.record-index l.records) × KeepRules (before ++ take l.record-index l.records)
