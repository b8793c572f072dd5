use Rattle.std.proofs.Common.{[]}
use Rattle.tel_block.proofs.RoomFacts.{keeps-all-logs, keeps-all-olds}
use Rattle.tel_block.proofs.form.TelBlockEdgeLog.start.Goals as goal

pub returns-clause-stands : goal.returns-clause-stands
returns-clause-stands c = c.in_ok-log.ensures.begins.stands

pub returns-clause-empty : goal.returns-clause-empty
returns-clause-empty c = c.in_ok-log.ensures.begins.empty

pub returns-clause-limit : goal.returns-clause-limit
returns-clause-limit c = c.in_ok-log.ensures.begins.limit

pub returns-clause-has_room : goal.returns-clause-has_room
returns-clause-has_room c = c.in_ok-log.ensures.begins.has_room

pub returns-clause-may_end : goal.returns-clause-may_end
returns-clause-may_end c = c.in_ok-log.ensures.begins.may_end

pub returns-clause-blocks : goal.returns-clause-blocks
returns-clause-blocks c = c.in_ok-log.ensures.begins.taken

pub returns-clause-keeps_logs : goal.returns-clause-keeps_logs
returns-clause-keeps_logs c = keeps-all-logs [] c.args.room.now _ c.in_ok-log.ensures.begins.keeps

pub returns-clause-keeps_olds : goal.returns-clause-keeps_olds
returns-clause-keeps_olds c = keeps-all-olds [] c.args.room.now _ c.in_ok-log.ensures.begins.keeps
