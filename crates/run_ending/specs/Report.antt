-- What a run leaves.
use Rattle.std.specs.Prelude.{[]}
use Rattle.run_ending.specs.declared.ended.Report.{Report}

-- the report of a command that ran no request
abbrev pub empty_report : Report
empty_report = record {
  base_epoch = 0;
  base = [];
  setup = [];
  replies = [];
  records = [];
  durable_at = [];
  durable_length = 0;
  last_moment = 0;
}
