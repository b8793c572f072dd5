use Rattle.disk_model.proofs.Recordings.{AllIn-take, steps_of-take-min}
use Rattle.disk_model.proofs.history.redo_first.Goals as goal

pub redo_all-requires : goal.redo_all-requires
redo_all-requires c = AllIn-take _ _ _ c.requires

pub returns-clause-bytes : goal.returns-clause-bytes
returns-clause-bytes c = rw (← steps_of-take-min c.args.written.now c.min.result c.args.count c.args.calls.now c.min.ensures) c.redo_all.ensures.bytes

pub returns-clause-image : goal.returns-clause-image
returns-clause-image c = rw (← steps_of-take-min c.args.written.now c.min.result c.args.count c.args.calls.now c.min.ensures) c.redo_all.ensures.image
