use Rattle.std.proofs.Common.{◌≡◌, ℕ, List, take, refl, sym, subst}
use Rattle.disk_model.specs.declared.calls.Kind.TheVariants as kinds
use Rattle.disk_model.specs.declared.event.Event.TheVariants as events
use Rattle.disk_model.specs.Images.{CutShort, Follows, Passes}
use Rattle.disk_model.specs.Steps.{Other}
use Rattle.disk_model.specs.Memory.{bytes_of, ImageAt}
use Rattle.disk_model.specs.ReadsBack.{CutShort-same}
use Rattle.disk_model.proofs.Crashes.{stepped-either, stepped-ok, stepped-err, Passes-stepped, Follows-stepped, bytes-place, bytes-same}
use Rattle.disk_model.proofs.mem_disk.MemDiskDisk.cut.Goals as goal

pub returns-clause-cut : goal.returns-clause-cut
returns-clause-cut c =
    let d = c.args.self.now in
    let d' = c.try_cut.new.self in
    let step = Other (events.Cut c.args.to) in
    stepped-ok c.try_cut.result d d' kinds.Cut step (bytes_of d' ≡ take c.args.to (bytes_of d)) c.try_cut.ensures.done c.try_cut.ensures.has_place
    (λ next place. bytes-place d d' step next place)

pub returns-clause-torn : goal.returns-clause-torn
returns-clause-torn c =
    let d = c.args.self.now in
    let d' = c.try_cut.new.self in
    let step = Other (events.CutFailed c.args.to) in
    stepped-err c.try_cut.result d d' kinds.Cut step (CutShort c.args.to (bytes_of d) (bytes_of d')) c.try_cut.ensures.undone
    (λ next. subst (λ (b : List ℕ). CutShort c.args.to (bytes_of d) b) (sym (bytes-same d d' step next refl)) (CutShort-same c.args.to (bytes_of d)))

pub returns-clause-images : goal.returns-clause-images
returns-clause-images c =
    let d = c.args.self.now in
    let d' = c.try_cut.new.self in
    let done = Other (events.Cut c.args.to) in
    let failed = Other (events.CutFailed c.args.to) in
    let P = Follows (CutShort c.args.to) (ImageAt d d.moment) (ImageAt d' d'.moment) in
    stepped-either c.try_cut.result d d' kinds.Cut done failed P c.try_cut.ensures.done c.try_cut.ensures.undone
    (λ next. Follows-stepped d d' done next (CutShort c.args.to) (λ b left. left) (CutShort-same c.args.to))
    (λ next. Follows-stepped d d' failed next (CutShort c.args.to) (λ b left. left) (CutShort-same c.args.to))

pub returns-clause-moment : goal.returns-clause-moment
returns-clause-moment c =
    let d = c.args.self.now in
    let d' = c.try_cut.new.self in
    let done = Other (events.Cut c.args.to) in
    let failed = Other (events.CutFailed c.args.to) in
    let P = Passes d.moment d'.moment (ImageAt d) (ImageAt d') in
    stepped-either c.try_cut.result d d' kinds.Cut done failed P c.try_cut.ensures.done c.try_cut.ensures.undone
    (λ next. Passes-stepped d d' done next c.try_cut.ensures.paced)
    (λ next. Passes-stepped d d' failed next c.try_cut.ensures.paced)
