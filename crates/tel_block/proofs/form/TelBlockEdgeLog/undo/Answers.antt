use Rattle.std.proofs.Common.{ℕ, List, [], ◌∷◌, sym, ap, subst, ◌∙◌}
use Rattle.block_pool.specs.Blocks.{Area}
use Rattle.edge_log.specs.Contents.{with_undone}
use Rattle.tel_block.specs.Logs.{IsLog, content_in}
use Rattle.tel_block.specs.Places.{block_of}
use Rattle.tel_block.proofs.RoomFacts.{blocks-same, written-keeps, keeps-logs, keeps-olds}
use Rattle.tel_block.proofs.FormFacts.{stands-written, content-written}
use Rattle.tel_block.proofs.form.TelBlockEdgeLog.undo.Goals as goal

pub bytes_mut-bytes-requires : goal.bytes_mut-bytes-requires
bytes_mut-bytes-requires c = c.requires.stands.lies.out

pub undo_in-requires : goal.undo_in-requires
undo_in-requires c =
    let is = subst (λ (bytes : List ℕ). IsLog c.args.self.now bytes) (sym c.bytes_mut-bytes.ensures.bytes) c.requires.stands.is_log in
    is

pub returns-clause-stands : goal.returns-clause-stands
returns-clause-stands c =
    stands-written c.undo_in.new.self c.args.self.now.block c.args.room.now c.undo_in.new.bytes c.requires.stands.lies c.undo_in.ensures.block
    (c.undo_in.auto.bytes ∙ c.bytes_mut-bytes.ensures.long) c.undo_in.ensures.is_log

pub returns-clause-undone : goal.returns-clause-undone
returns-clause-undone c =
    content-written c.undo_in.new.self c.args.self.now.block c.args.room.now c.undo_in.new.bytes c.requires.stands.lies c.undo_in.ensures.block (c.undo_in.auto.bytes ∙ c.bytes_mut-bytes.ensures.long)
    ∙ c.undo_in.ensures.undone ∙ ap (λ (bytes : List ℕ). with_undone c.args.tid (content_in c.args.self.now bytes)) c.bytes_mut-bytes.ensures.bytes

pub returns-clause-blocks : goal.returns-clause-blocks
returns-clause-blocks c = (ap (λ (b : Area). block_of b ∷ []) c.undo_in.ensures.block, blocks-same c.args.room.now c.args.self.now.block c.undo_in.new.bytes)

pub returns-clause-keeps_logs : goal.returns-clause-keeps_logs
returns-clause-keeps_logs c = keeps-logs c.args.self.now.block c.args.room.now _ (written-keeps c.args.room.now c.args.self.now.block c.undo_in.new.bytes c.requires.stands.lies (c.undo_in.auto.bytes ∙ c.bytes_mut-bytes.ensures.long))

pub returns-clause-keeps_olds : goal.returns-clause-keeps_olds
returns-clause-keeps_olds c = keeps-olds c.args.self.now.block c.args.room.now _ (written-keeps c.args.room.now c.args.self.now.block c.undo_in.new.bytes c.requires.stands.lies (c.undo_in.auto.bytes ∙ c.bytes_mut-bytes.ensures.long))
