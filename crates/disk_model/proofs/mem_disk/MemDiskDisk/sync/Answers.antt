use Rattle.std.proofs.Common.{◌≡◌, ◌∙◌, ℕ, List, refl, sym, ap, subst, Some}
use Rattle.disk_model.specs.declared.calls.Kind.TheVariants as kinds
use Rattle.disk_model.specs.declared.event.Event.TheVariants as events
use Rattle.disk_model.specs.Images.{Only, NoneNew}
use Rattle.disk_model.specs.Steps.{Other}
use Rattle.disk_model.specs.Memory.{bytes_of, ImageAt}
use Rattle.disk_model.specs.ReadsBack.{memory_reads_back}
use Rattle.disk_model.proofs.Crashes.{stepped-either, stepped-ok, stepped-err, bytes-place, bytes-same, image-place, NoneNew-stepped, stepped-NoneNew}
use Rattle.disk_model.proofs.mem_disk.MemDiskDisk.sync.Goals as goal

pub returns-clause-firm : goal.returns-clause-firm
returns-clause-firm c =
    let d = c.args.self.now in
    let d' = c.try_sync.new.self in
    stepped-ok c.try_sync.result d d' kinds.Sync (Other events.Sync) (Only (bytes_of d') (ImageAt d' d'.moment)) c.try_sync.ensures.done c.try_sync.ensures.has_place
    (λ next place b left. image-place d d' (Other events.Sync) next place b left ∙ sym (bytes-place d d' (Other events.Sync) next place))

pub returns-clause-not_firm : goal.returns-clause-not_firm
returns-clause-not_firm c =
    let d = c.args.self.now in
    let d' = c.try_sync.new.self in
    stepped-err c.try_sync.result d d' kinds.Sync (Other events.SyncFailed) (NoneNew (ImageAt d' d'.moment) (ImageAt d d.moment)) c.try_sync.ensures.undone
    (λ next. stepped-NoneNew d d' (Other events.SyncFailed) next (λ b left. left))

pub returns-clause-told : goal.returns-clause-told
returns-clause-told c =
    let d = c.args.self.now in
    let d' = c.try_sync.new.self in
    let same : bytes_of d' ≡ bytes_of d = stepped-either c.try_sync.result d d' kinds.Sync (Other events.Sync) (Other events.SyncFailed) (bytes_of d' ≡ bytes_of d) c.try_sync.ensures.done c.try_sync.ensures.undone
    (λ next. bytes-same d d' (Other events.Sync) next refl)
    (λ next. bytes-same d d' (Other events.SyncFailed) next refl) in
    ap (λ (b : List ℕ). Some b) same

pub returns-clause-images : goal.returns-clause-images
returns-clause-images c =
    let d = c.args.self.now in
    let d' = c.try_sync.new.self in
    stepped-either c.try_sync.result d d' kinds.Sync (Other events.Sync) (Other events.SyncFailed) (NoneNew (ImageAt d d.moment) (ImageAt d' d'.moment)) c.try_sync.ensures.done c.try_sync.ensures.undone
    (λ next. NoneNew-stepped d d' (Other events.Sync) next (λ b is. subst (λ (b' : List ℕ). ImageAt d d.moment b') (sym is) (memory_reads_back d (bytes_of d) refl)))
    (λ next. NoneNew-stepped d d' (Other events.SyncFailed) next (λ b left. left))
