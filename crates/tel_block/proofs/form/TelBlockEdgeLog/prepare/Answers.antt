use Rattle.std.proofs.Common.{◌≡◌, ◌≤◌, List, [], ◌∷◌, refl, sym, ap, subst, arith}
use Rattle.edge_log.specs.Contents.{LogContent}
use Rattle.block_layout.proofs.Blocked.{start_small}
use Rattle.block_pool.specs.Blocks.{Area}
use Rattle.block_pool.specs.Pools.{ChunkContent, bytes_of}
use Rattle.tel_block.specs.declared.log.TelBlock.{TelBlock}
use Rattle.tel_block.specs.Logs.{limit_of, spare_of, MayEnd}
use Rattle.tel_block.specs.Places.{block_of, content_of, footprint_of, StandsIn, KeepsAll}
use Rattle.tel_block.proofs.LogFacts.{small}
use Rattle.tel_block.proofs.RoomFacts.{keeps-all-logs, keeps-all-olds, keeps-none}
use Rattle.tel_block.proofs.FormFacts.{renoted, used-sizes, on-err}
use Rattle.tel_block.proofs.form.TelBlockEdgeLog.prepare.Goals as goal

pub overflow_sub-left : goal.overflow_sub-left
overflow_sub-left c = omega (arith, c.used.ensures, c.requires.is_log.within)

pub free-free-requires : goal.free-free-requires
free-free-requires c =
    let log = c.args.self.now in
    let s = small log.block.order log.fill log.committed log.epoch (bytes_of c.args.room.now log.block) c.requires.is_log.filled in
    let start = start_small log.block.order in
    record { order = s.order_small; within = omega (arith, s.inside, s.long, start) }

pub grow-requires : goal.grow-requires
grow-requires c = record {
  stands = renoted c.args.self.now c.reserve.new.self c.args.room.now c.requires c.reserve.ensures.items;
  within = omega (arith, c.if-size-left.false, c.used.ensures, c.requires.is_log.within);
}

pub returns-then-size-left-clause-full : goal.returns-then-size-left-clause-full
returns-then-size-left-clause-full c = let s = used-sizes c.args.self.now c.args.room.now c.requires in ((λ _. omega (arith, s, c.if-size-left.true, c.used.ensures, c.requires.is_log.within)), (λ _. refl))

pub returns-then-size-left-clause-keeps_logs : goal.returns-then-size-left-clause-keeps_logs
returns-then-size-left-clause-keeps_logs c = keeps-all-logs (footprint_of c.args.self.now) c.args.room.now c.args.room.now (keeps-none c.args.room.now)

pub returns-then-size-left-clause-keeps_olds : goal.returns-then-size-left-clause-keeps_olds
returns-then-size-left-clause-keeps_olds c = keeps-all-olds (footprint_of c.args.self.now) c.args.room.now c.args.room.now (keeps-none c.args.room.now)

pub returns-in_err-reserve-clause-full : goal.returns-in_err-reserve-clause-full
returns-in_err-reserve-clause-full c = let s = used-sizes c.args.self.now c.args.room.now c.requires in grind (arith, s, c.if-size-left.false, c.used.ensures, c.requires.is_log.within, c.from_residual.ensures)

pub returns-in_err-reserve-clause-stands : goal.returns-in_err-reserve-clause-stands
returns-in_err-reserve-clause-stands c = renoted c.args.self.now c.reserve.new.self c.args.room.now c.requires c.reserve.ensures.items

pub returns-in_err-reserve-clause-keeps_logs : goal.returns-in_err-reserve-clause-keeps_logs
returns-in_err-reserve-clause-keeps_logs c = keeps-all-logs (footprint_of c.args.self.now) c.args.room.now c.args.room.now (keeps-none c.args.room.now)

pub returns-in_err-reserve-clause-keeps_olds : goal.returns-in_err-reserve-clause-keeps_olds
returns-in_err-reserve-clause-keeps_olds c = keeps-all-olds (footprint_of c.args.self.now) c.args.room.now c.args.room.now (keeps-none c.args.room.now)

pub returns-then-size-free-clause-full : goal.returns-then-size-free-clause-full
returns-then-size-free-clause-full c = let s = used-sizes c.args.self.now c.args.room.now c.requires in ((λ e. absurd (cc e)), (λ over. absurd (omega (arith, s, over, c.if-size-left.false, c.used.ensures, c.requires.is_log.within))))

pub returns-then-size-free-clause-stands : goal.returns-then-size-free-clause-stands
returns-then-size-free-clause-stands c = renoted c.args.self.now c.reserve.new.self c.args.room.now c.requires c.reserve.ensures.items

pub returns-then-size-free-clause-keeps_logs : goal.returns-then-size-free-clause-keeps_logs
returns-then-size-free-clause-keeps_logs c = keeps-all-logs (footprint_of c.args.self.now) c.args.room.now c.args.room.now (keeps-none c.args.room.now)

pub returns-then-size-free-clause-keeps_olds : goal.returns-then-size-free-clause-keeps_olds
returns-then-size-free-clause-keeps_olds c = keeps-all-olds (footprint_of c.args.self.now) c.args.room.now c.args.room.now (keeps-none c.args.room.now)

pub returns-in_err-reserve-clause-unchanged : goal.returns-in_err-reserve-clause-unchanged
returns-in_err-reserve-clause-unchanged c =
    let log = c.args.self.now in
    let new : TelBlock = record log { noted = c.reserve.new.self } in
    let P : Type 0 = (c.args.room.now ≡ c.args.room.now) × (footprint_of new ≡ footprint_of log) × (spare_of log ≤ spare_of new) × (MayEnd log → MayEnd new) in
    on-err c.from_residual.result P (refl, refl, omega arith, (λ h. omega (arith, h, c.reserve.ensures.len, c.reserve.ensures.capacity)))

pub returns-then-size-free-clause-has_room : goal.returns-then-size-free-clause-has_room
returns-then-size-free-clause-has_room c = omega (arith, c.if-size-free.true, c.free-free.ensures, c.if-size-left.false, c.used.ensures, c.requires.is_log.within)

pub returns-in_err-old-clause-full : goal.returns-in_err-old-clause-full
returns-in_err-old-clause-full c = let s = used-sizes c.args.self.now c.args.room.now c.requires in grind (arith, s, c.if-size-left.false, c.used.ensures, c.requires.is_log.within, c.from_residual-in_err-old.ensures)

pub returns-in_err-old-clause-stands : goal.returns-in_err-old-clause-stands
returns-in_err-old-clause-stands c =
    let e = c.in_err-old.ensures.unchanged in
    subst (λ (r : List ChunkContent). StandsIn c.grow.new.self r) (sym e.1) (subst (λ (l : TelBlock). StandsIn l c.args.room.now) (sym e.0) (renoted c.args.self.now c.reserve.new.self c.args.room.now c.requires c.reserve.ensures.items))

pub returns-in_err-old-clause-content : goal.returns-in_err-old-clause-content
returns-in_err-old-clause-content c =
    let e = c.in_err-old.ensures.unchanged in
    let X : LogContent = content_of c.args.self.now c.args.room.now in
    subst (λ (r : List ChunkContent). content_of c.grow.new.self r ≡ X) (sym e.1) (subst (λ (l : TelBlock). content_of l c.args.room.now ≡ X) (sym e.0) refl)

pub returns-in_err-old-clause-limit : goal.returns-in_err-old-clause-limit
returns-in_err-old-clause-limit c = ap limit_of c.in_err-old.ensures.unchanged.0

pub returns-in_err-old-clause-unchanged : goal.returns-in_err-old-clause-unchanged
returns-in_err-old-clause-unchanged c =
    let log = c.args.self.now in
    let e = c.in_err-old.ensures.unchanged in
    let spare = ap spare_of e.0 in
    let P : Type 0 = (c.grow.new.room ≡ c.args.room.now) × (footprint_of c.grow.new.self ≡ footprint_of log) × (spare_of log ≤ spare_of c.grow.new.self) × (MayEnd log → MayEnd c.grow.new.self) in
    on-err c.from_residual-in_err-old.result P
    (e.1, ap footprint_of e.0, omega (arith, spare), (λ h. subst MayEnd (sym e.0) (omega (arith, h, c.reserve.ensures.len, c.reserve.ensures.capacity))))

pub returns-in_err-old-clause-keeps_logs : goal.returns-in_err-old-clause-keeps_logs
returns-in_err-old-clause-keeps_logs c = keeps-all-logs (footprint_of c.args.self.now) c.args.room.now c.grow.new.room (subst (λ (r : List ChunkContent). KeepsAll c.args.room.now r) (sym c.in_err-old.ensures.unchanged.1) (keeps-none c.args.room.now))

pub returns-in_err-old-clause-keeps_olds : goal.returns-in_err-old-clause-keeps_olds
returns-in_err-old-clause-keeps_olds c = keeps-all-olds (footprint_of c.args.self.now) c.args.room.now c.grow.new.room (subst (λ (r : List ChunkContent). KeepsAll c.args.room.now r) (sym c.in_err-old.ensures.unchanged.1) (keeps-none c.args.room.now))

pub returns-clause-full : goal.returns-clause-full
returns-clause-full c = let s = used-sizes c.args.self.now c.args.room.now c.requires in ((λ e. absurd (cc e)), (λ over. absurd (omega (arith, s, over, c.if-size-left.false, c.used.ensures, c.requires.is_log.within))))

pub returns-clause-stands : goal.returns-clause-stands
returns-clause-stands c = c.in_ok-old.ensures.moves.stands

pub returns-clause-content : goal.returns-clause-content
returns-clause-content c = c.in_ok-old.ensures.moves.content

pub returns-clause-limit : goal.returns-clause-limit
returns-clause-limit c = c.in_ok-old.ensures.moves.limit

pub returns-clause-has_room : goal.returns-clause-has_room
returns-clause-has_room c = c.in_ok-old.ensures.moves.has_room

pub returns-clause-may_end : goal.returns-clause-may_end
returns-clause-may_end c = c.in_ok-old.ensures.moves.may_end (omega (arith, c.in_ok-reserve.ensures.ok))

pub returns-clause-stayed : goal.returns-clause-stayed
returns-clause-stayed c = λ e. absurd (cc e)

pub returns-clause-moved : goal.returns-clause-moved
returns-clause-moved c = (c.in_ok-old.ensures.moves.old_stands, c.in_ok-old.ensures.moves.old_content, ap (λ (b : Area). block_of b ∷ []) c.in_ok-old.ensures.moves.old_block, c.in_ok-old.ensures.moves.apart)

pub returns-clause-blocks : goal.returns-clause-blocks
returns-clause-blocks c = c.in_ok-old.ensures.moves.taken

pub returns-clause-keeps_logs : goal.returns-clause-keeps_logs
returns-clause-keeps_logs c = keeps-all-logs (footprint_of c.args.self.now) c.args.room.now c.grow.new.room c.in_ok-old.ensures.moves.keeps

pub returns-clause-keeps_olds : goal.returns-clause-keeps_olds
returns-clause-keeps_olds c = keeps-all-olds (footprint_of c.args.self.now) c.args.room.now c.grow.new.room c.in_ok-old.ensures.moves.keeps
