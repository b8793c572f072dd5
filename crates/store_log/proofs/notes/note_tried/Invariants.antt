use Rattle.group_commit.specs.Members.{records_at}
use Rattle.store_log.specs.Written.{more_tried}
use Rattle.store_log.proofs.notes.note_tried.Given as goal

abbrev pub ghost-renoted_by : goal.ghost-renoted_by
ghost-renoted_by a = more_tried (records_at a._epoch a._group.now) a.notes.value
