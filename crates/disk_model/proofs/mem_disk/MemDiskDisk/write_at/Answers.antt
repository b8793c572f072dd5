use Rattle.std.proofs.Common.{◌≡◌, ℕ, List, length, refl, sym, subst}
use Rattle.disk_model.specs.declared.calls.Kind.TheVariants as kinds
use Rattle.disk_model.specs.declared.event.Event.TheVariants as events
use Rattle.disk_model.specs.Images.{overwritten, Torn, Follows, Passes}
use Rattle.disk_model.specs.Steps.{Wrote, Other}
use Rattle.disk_model.specs.Memory.{bytes_of, ImageAt}
use Rattle.disk_model.specs.ReadsBack.{Torn-same}
use Rattle.disk_model.proofs.Crashes.{stepped-either, stepped-ok, stepped-err, Passes-stepped, Follows-stepped, bytes-place, bytes-same}
use Rattle.disk_model.proofs.mem_disk.MemDiskDisk.write_at.Goals as goal

pub returns-clause-written : goal.returns-clause-written
returns-clause-written c =
    let d = c.args.self.now in
    let d' = c.try_write.new.self in
    let step = Wrote c.args.place c.args.bytes.now in
    stepped-ok c.try_write.result d d' kinds.Write step (bytes_of d' ≡ overwritten (bytes_of d) c.args.place c.args.bytes.now) c.try_write.ensures.done c.try_write.ensures.has_place
    (λ next place. bytes-place d d' step next place)

pub returns-clause-torn : goal.returns-clause-torn
returns-clause-torn c =
    let d = c.args.self.now in
    let d' = c.try_write.new.self in
    let n = length c.args.bytes.now in
    let step = Other (events.WriteFailed c.args.place n) in
    stepped-err c.try_write.result d d' kinds.Write step (Torn c.args.place n (bytes_of d) (bytes_of d')) c.try_write.ensures.undone
    (λ next. subst (λ (b : List ℕ). Torn c.args.place n (bytes_of d) b) (sym (bytes-same d d' step next refl)) (Torn-same c.args.place n (bytes_of d)))

pub returns-clause-images : goal.returns-clause-images
returns-clause-images c =
    let d = c.args.self.now in
    let d' = c.try_write.new.self in
    let n = length c.args.bytes.now in
    let done = Wrote c.args.place c.args.bytes.now in
    let failed = Other (events.WriteFailed c.args.place n) in
    let P = Follows (Torn c.args.place n) (ImageAt d d.moment) (ImageAt d' d'.moment) in
    stepped-either c.try_write.result d d' kinds.Write done failed P c.try_write.ensures.done c.try_write.ensures.undone
    (λ next. Follows-stepped d d' done next (Torn c.args.place n) (λ b left. left) (Torn-same c.args.place n))
    (λ next. Follows-stepped d d' failed next (Torn c.args.place n) (λ b left. left) (Torn-same c.args.place n))

pub returns-clause-moment : goal.returns-clause-moment
returns-clause-moment c =
    let d = c.args.self.now in
    let d' = c.try_write.new.self in
    let done = Wrote c.args.place c.args.bytes.now in
    let failed = Other (events.WriteFailed c.args.place (length c.args.bytes.now)) in
    let P = Passes d.moment d'.moment (ImageAt d) (ImageAt d') in
    stepped-either c.try_write.result d d' kinds.Write done failed P c.try_write.ensures.done c.try_write.ensures.undone
    (λ next. Passes-stepped d d' done next c.try_write.ensures.paced)
    (λ next. Passes-stepped d d' failed next c.try_write.ensures.paced)
