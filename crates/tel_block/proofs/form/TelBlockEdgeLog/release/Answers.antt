use Rattle.tel_block.proofs.RoomFacts.{keeps-logs, keeps-olds}
use Rattle.tel_block.proofs.TakeFacts.{given-keeps, given-blocks}
use Rattle.tel_block.proofs.form.TelBlockEdgeLog.release.Goals as goal

pub give-requires : goal.give-requires
give-requires c = c.requires.lies.out

pub returns-clause-given : goal.returns-clause-given
returns-clause-given c = given-blocks c.args.old.block c.args.room.now c.give.new.self c.give.ensures.out

pub returns-clause-keeps_logs : goal.returns-clause-keeps_logs
returns-clause-keeps_logs c = keeps-logs c.args.old.block c.args.room.now c.give.new.self (given-keeps c.args.old.block c.args.room.now c.give.new.self c.give.ensures.keeps c.give.ensures.kept c.give.ensures.joined)

pub returns-clause-keeps_olds : goal.returns-clause-keeps_olds
returns-clause-keeps_olds c = keeps-olds c.args.old.block c.args.room.now c.give.new.self (given-keeps c.args.old.block c.args.room.now c.give.new.self c.give.ensures.keeps c.give.ensures.kept c.give.ensures.joined)
