use Rattle.std.proofs.Common.{ℕ, List, [], ◌∷◌, sym, ap, subst, ◌∙◌}
use Rattle.block_pool.specs.Blocks.{Area}
use Rattle.edge_log.specs.Contents.{with_converted}
use Rattle.tel_block.specs.Logs.{IsLog, content_in}
use Rattle.tel_block.specs.Places.{block_of}
use Rattle.tel_block.proofs.RoomFacts.{blocks-same, written-keeps, keeps-logs, keeps-olds}
use Rattle.tel_block.proofs.FormFacts.{stands-written, content-written}
use Rattle.tel_block.proofs.form.TelBlockEdgeLog.convert.Goals as goal

pub bytes_mut-bytes-requires : goal.bytes_mut-bytes-requires
bytes_mut-bytes-requires c = c.requires.stands.lies.out

pub convert_in-requires : goal.convert_in-requires
convert_in-requires c =
    let is = subst (λ (bytes : List ℕ). IsLog c.args.self.now bytes) (sym c.bytes_mut-bytes.ensures.bytes) c.requires.stands.is_log in
    record { is_log = is; epoch = c.requires.epoch }

pub returns-clause-stands : goal.returns-clause-stands
returns-clause-stands c =
    stands-written c.convert_in.new.self c.args.self.now.block c.args.room.now c.convert_in.new.bytes c.requires.stands.lies c.convert_in.ensures.block
    (c.convert_in.auto.bytes ∙ c.bytes_mut-bytes.ensures.long) c.convert_in.ensures.is_log

pub returns-clause-converted : goal.returns-clause-converted
returns-clause-converted c =
    content-written c.convert_in.new.self c.args.self.now.block c.args.room.now c.convert_in.new.bytes c.requires.stands.lies c.convert_in.ensures.block (c.convert_in.auto.bytes ∙ c.bytes_mut-bytes.ensures.long)
    ∙ c.convert_in.ensures.converted ∙ ap (λ (bytes : List ℕ). with_converted c.args.tid c.args.epoch (content_in c.args.self.now bytes)) c.bytes_mut-bytes.ensures.bytes

pub returns-clause-blocks : goal.returns-clause-blocks
returns-clause-blocks c = (ap (λ (b : Area). block_of b ∷ []) c.convert_in.ensures.block, blocks-same c.args.room.now c.args.self.now.block c.convert_in.new.bytes)

pub returns-clause-keeps_logs : goal.returns-clause-keeps_logs
returns-clause-keeps_logs c = keeps-logs c.args.self.now.block c.args.room.now _ (written-keeps c.args.room.now c.args.self.now.block c.convert_in.new.bytes c.requires.stands.lies (c.convert_in.auto.bytes ∙ c.bytes_mut-bytes.ensures.long))

pub returns-clause-keeps_olds : goal.returns-clause-keeps_olds
returns-clause-keeps_olds c = keeps-olds c.args.self.now.block c.args.room.now _ (written-keeps c.args.room.now c.args.self.now.block c.convert_in.new.bytes c.requires.stands.lies (c.convert_in.auto.bytes ∙ c.bytes_mut-bytes.ensures.long))
