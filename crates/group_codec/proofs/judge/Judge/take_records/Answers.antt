use Rattle.std.proofs.Common.{◌≡◌, ◌<◌, ◌+◌, [], ◌∷◌, ◌++◌, true, take, length, sym, ap, subst, arith}
use Rattle.std.proofs.lemmas.List.{take_all}
use Rattle.group_codec.specs.Judging.{Judged, Knows, KeepRules, none_later}
use Rattle.group_codec.proofs.Keeping.{none_later-with, epoch-of, more-front, keep-take}
use Rattle.group_codec.proofs.judge.Judge.take_records.Goals as goal

pub returns-then-not-branch : goal.returns-then-not-branch
returns-then-not-branch c = λ before knows keep later epochs kept.
    let xs = c.args.records.now in
    let i = c.loop-record.record-index in
    let r = c.record-item.result in
    let within : i < length xs = omega arith in
    let held = c.loop-record.invariant before knows keep later epochs in
    let none = subst (λ e. none_later e (before ++ take i xs) ≡ true) (sym (epoch-of c.args.epoch i r xs within c.record-item.is epochs)) (none_later-with c.args.epoch i before xs later epochs) in
    let judged = subst (λ b. Judged b c.take_record.new.self ((before ++ take i xs) ++ r ∷ [])) c.if-not-branch.true (c.in_ok-take_record.ensures (before ++ take i xs) held.0 held.1 none) in
    judged (subst KeepRules (sym (more-front i r before xs within c.record-item.is)) (keep-take (i + 1) before xs kept))

pub loop-record-preserved : goal.loop-record-preserved
loop-record-preserved c = λ before knows keep later epochs.
    let xs = c.args.records.now in
    let i = c.loop-record.record-index in
    let r = c.record-item.result in
    let within : i < length xs = omega arith in
    let held = c.loop-record.invariant before knows keep later epochs in
    let none = subst (λ e. none_later e (before ++ take i xs) ≡ true) (sym (epoch-of c.args.epoch i r xs within c.record-item.is epochs)) (none_later-with c.args.epoch i before xs later epochs) in
    let judged = subst (λ b. Judged b c.take_record.new.self ((before ++ take i xs) ++ r ∷ [])) c.if-not-branch.false (c.in_ok-take_record.ensures (before ++ take i xs) held.0 held.1 none) in
    let more = more-front i r before xs within c.record-item.is in
    (subst (Knows c.take_record.new.self) more judged.0, subst KeepRules more judged.1)

pub returns : goal.returns
returns c = λ before knows keep later epochs.
    let xs = c.args.records.now in
    let held = c.loop-record.invariant before knows keep later epochs in
    let whole = ap (λ ys. before ++ ys) (take_all c.loop-record.record-index xs (omega arith)) in
    (subst (Knows c.loop-record.self) whole held.0, subst KeepRules whole held.1)
