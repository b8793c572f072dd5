-- How a run on a log that was opened ends.
use Rattle.std.specs.Prelude.{◌≡◌, ℕ, ◌≤◌, Bool, true, false, List, [], Option, Result, Ok, Err, IfSome}
use Rattle.io_edges.specs.declared.write_fault.WriteFault.{WriteFault}
use Rattle.graph_model.specs.declared.record.Record.{Record}
use Rattle.disk_model.specs.Images.{EachImage}
use Rattle.graph_wal.specs.Log.{RecoversTo}
use Rattle.store_log.specs.Written.{Origin}
use Rattle.graph_wal.specs.declared.disk_fault.DiskFault.{DiskFault}
use Rattle.log_commands.specs.declared.status.Status.{Status}
use Rattle.log_commands.specs.declared.status.Status.TheVariants as status
use Rattle.run_ending.specs.declared.ended.Report.{Report}
use Rattle.graph_model.specs.declared.graph.Base.{Base}
use Rattle.request_text.specs.declared.reply.Reply.{Reply}
use Rattle.graph_store.specs.declared.closing.Closed.{Closed}
use Rattle.run_ending.specs.Report.{empty_report}

-- No request has run, for want of memory: the disk and the sink are as they were, and the report is empty.
pub record HasNotRun {D K : Type 0} (old new : D) (s : Status) (report : Report) (sink sink' : K) : Type 0 where
  pub no_memory : s ≡ status.NoMemory
  pub same_disk : new ≡ old
  pub same_sink : sink' ≡ sink
  pub empty : report ≡ empty_report

-- how a run ended, by its printing and by the last mending of the log
abbrev pub status_after : {T U : Type 0} → Result T WriteFault → Result U DiskFault → Status
status_after (Err write) mended = status.WriteFault
status_after (Ok printed) (Err fault) = status.DiskFault fault.before fault.after
status_after (Ok printed) (Ok mended) = status.Done

-- the report of a run from this base whose store was closed
abbrev pub report_of : {D : Type 0} → Base → List Reply → List Reply → Closed D → Report
report_of base setup replies closed = record {
  base_epoch = base.epoch;
  base = base.graph;
  setup = setup;
  replies = replies;
  records = closed.records;
  durable_at = closed.durable_at;
  durable_length = closed.durable_length;
  last_moment = closed.last_moment;
}

-- the moment since which a run speaks of images: that at entry, or that when the log was opened
abbrev pub since_of : Bool → ℕ → ℕ → ℕ
since_of true entry opened = entry
since_of false entry opened = opened

-- A crash at any moment since the origin's leaves the records of the log that was opened, and nothing stands behind it.
pub record IsOrigin {D : Type 0} (told : D → Option (List ℕ)) (moment : D → ℕ) (images : D → ℕ → List ℕ → Type 0) (disk : D) (records : List Record) (base : Base) (origin : Origin) : Type 0 where
  pub base_is : origin.base ≡ records
  pub epoch_is : origin.epoch ≡ base.epoch
  pub since : origin.since ≤ moment disk
  pub leaves : IfSome (told disk) (λ _. EachImage moment images disk origin.since (λ _ c. RecoversTo records c))
  pub no_rest : origin.no_rest ≡ true
