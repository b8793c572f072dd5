use Rattle.std.proofs.Common.{◌≡◌, ◌+◌, ◌<◌, List, [], ◌∷◌, ◌++◌, length, take, drop, Some, None, refl, sym, ap, subst, ◌∙◌, arith}
use Rattle.std.specs.Prelude.{nat_eq, if◌then◌else◌}
use Rattle.std.proofs.lemmas.List.{append-nil, drop_all}
use Rattle.graph_model.specs.declared.record.Record.{Record}
use Rattle.group_commit.specs.Encoded.{Encoded}
use Rattle.commit_queue.specs.KeptOutcomes.{outcome_of, kept_for, KeepsFor, AllNew}
use Rattle.commit_queue.proofs.Steps.{keeps_more, taken_more, rest_more, Appending, appending_more}
use Rattle.commit_queue.proofs.outcomes.Outcomes.keep.Goals as goal

pub loop-i-preserved : goal.loop-i-preserved
loop-i-preserved c =
    let within : c.loop-i.i < length c.args.g.now = omega (arith, c.loop-i-test.true, c.len-i-end.ensures.len) in record {
      appending = λ (new : AllNew c.args.g.now c.args.self.now.kept).
          let next : outcome_of c.in-Some.member.now.draft.tid c.loop-i.self.kept ≡ None → c.keep_one.new.self.kept ≡ c.loop-i.self.kept ++ (c.in-Some.member.now.draft.tid, c.args.o) ∷ [] =
          subst (λ (r : Record). outcome_of r.tid c.loop-i.self.kept ≡ None → c.keep_one.new.self.kept ≡ c.loop-i.self.kept ++ (r.tid, c.args.o) ∷ []) c.record.ensures c.keep_one.ensures.appended in
          appending_more c.in-Some.member.now (drop (c.loop-i.i + 1) c.args.g.now) c.args.o c.args.self.now.kept c.loop-i.self.kept c.keep_one.new.self.kept _
          (subst (λ (rest : List Encoded). Appending rest c.args.o c.args.self.now.kept c.loop-i.self.kept (c.args.self.now.kept ++ kept_for c.args.o c.args.g.now))
          (rest_more c.args.g.now c.loop-i.i c.in-Some.member.now within c.in-Some.ensures) (c.loop-i.invariant.appending new))
          next;
      kept =
          subst (λ (xs : List Encoded). KeepsFor xs c.args.o c.args.self.now.kept c.keep_one.new.self.kept)
          (sym (taken_more c.args.g.now c.loop-i.i c.in-Some.member.now within c.in-Some.ensures))
          (keeps_more (take c.loop-i.i c.args.g.now) c.in-Some.member.now c.args.o c.args.self.now.kept c.loop-i.self.kept c.keep_one.new.self.kept c.loop-i.invariant.kept
          (λ q. c.keep_one.ensures.kept q ∙ ap (λ (r : Record). if nat_eq r.tid q then Some c.args.o else outcome_of q c.loop-i.self.kept) c.record.ensures));
      room = omega (arith, c.loop-i.invariant.room, c.keep_one.ensures.room);
    }

pub returns-clause-appended : goal.returns-clause-appended
returns-clause-appended c new =
    let h = c.loop-i.invariant.appending new in
    let over : drop c.loop-i.i c.args.g.now ≡ [] = drop_all c.loop-i.i c.args.g.now (omega (arith, c.loop-i-test.false, c.len-i-end.ensures.len)) in
    sym (append-nil c.loop-i.self.kept) ∙ ap (λ (rest : List Encoded). c.loop-i.self.kept ++ kept_for c.args.o rest) (sym over) ∙ h.same

pub loop-i-init : goal.loop-i-init
loop-i-init c = record {
  appending = λ (new : AllNew c.args.g.now c.args.self.now.kept). record { new = new; same = refl };
  kept = λ q. refl;
  room = omega arith;
}
