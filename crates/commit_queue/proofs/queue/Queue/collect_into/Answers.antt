use Rattle.std.proofs.Common.{◌≡◌, ◌++◌, List, [], length, drop, sym, ap, ◌∙◌, arith}
use Rattle.std.proofs.lemmas.List.{length-drop, nil_from_length}
use Rattle.group_commit.specs.Encoded.{Encoded}
use Rattle.commit_queue.specs.Waiting.{Waiting}
use Rattle.commit_queue.proofs.Steps.{full_group, whole_group, same_waiting}
use Rattle.commit_queue.proofs.queue.Queue.collect_into.Goals as goal

-- a queue from which nothing came has no members
none_left : (old new : List Encoded) → old ≡ new → new ≡ drop 1 old → old ≡ []
none_left old new same less = let n = length-drop 1 old in let a = ap length same in let b = ap length less in nil_from_length old (omega (arith, n, a, b))

pub returns-in_default-clause-group : goal.returns-in_default-clause-group
returns-in_default-clause-group c =
    let all : c.loop-self.group ++ c.loop-self.self-inside.members.items ≡ c.args.self.now.members = c.loop-self.invariant.all ∙ ap (λ (s : Waiting). s.members) c.self.view_is in
    let none = none_left c.loop-self.self-inside.members.items c.pop_front.new.self.items c.in_default.ensures.items c.pop_front.ensures.rest in
    (whole_group c.loop-self.group c.loop-self.self-inside.members.items c.args.self.now.members all none c.loop-self.invariant.most).0

pub returns-in_default-clause-rest : goal.returns-in_default-clause-rest
returns-in_default-clause-rest c =
    let all : c.loop-self.group ++ c.loop-self.self-inside.members.items ≡ c.args.self.now.members = c.loop-self.invariant.all ∙ ap (λ (s : Waiting). s.members) c.self.view_is in
    let none = none_left c.loop-self.self-inside.members.items c.pop_front.new.self.items c.in_default.ensures.items c.pop_front.ensures.rest in
    same_waiting _ _ _ _
    (sym c.in_default.ensures.items ∙ (whole_group c.loop-self.group c.loop-self.self-inside.members.items c.args.self.now.members all none c.loop-self.invariant.most).1)
    (c.pop_front.ensures.capacity ∙ c.loop-self.invariant.room ∙ ap (λ (s : Waiting). s.room) c.self.view_is)

pub returns-clause-group : goal.returns-clause-group
returns-clause-group c =
    let all : c.loop-self.group ++ c.loop-self.self-inside.members.items ≡ c.args.self.now.members = c.loop-self.invariant.all ∙ ap (λ (s : Waiting). s.members) c.self.view_is in
    (full_group c.loop-self.group c.loop-self.self-inside.members.items c.args.self.now.members all (omega (arith, c.loop-self-test.false, c.len.ensures.len, c.loop-self.invariant.most))).0

pub returns-clause-rest : goal.returns-clause-rest
returns-clause-rest c =
    let all : c.loop-self.group ++ c.loop-self.self-inside.members.items ≡ c.args.self.now.members = c.loop-self.invariant.all ∙ ap (λ (s : Waiting). s.members) c.self.view_is in
    same_waiting _ _ _ _
    (full_group c.loop-self.group c.loop-self.self-inside.members.items c.args.self.now.members all (omega (arith, c.loop-self-test.false, c.len.ensures.len, c.loop-self.invariant.most))).1
    (c.loop-self.invariant.room ∙ ap (λ (s : Waiting). s.room) c.self.view_is)
