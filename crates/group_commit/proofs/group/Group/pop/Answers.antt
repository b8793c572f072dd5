use Rattle.std.proofs.Common.{◌<◌, length, refl, arith}
use Rattle.group_commit.specs.Members.{members_of}
use Rattle.group_commit.proofs.Places.{popped}
use Rattle.group_commit.proofs.group.Group.pop.Goals as goal

pub invariant_of-self-2 : goal.invariant_of-self-2
invariant_of-self-2 c = (popped _ _ _ c.self.invariant c.in_ok-pop.ensures.items).0

pub returns-clause-variant : goal.returns-clause-variant
returns-clause-variant c =
    let some : 0 < length c.self.inside.members.items = c.in_ok-pop.ensures.variant.0 refl in
    let more : 0 < length (members_of c.self.inside.members.items) = omega (arith, some, c.self.invariant) in (
      (λ is. rw c.self.view_is at more),
      (λ is. (popped _ _ _ c.self.invariant c.in_ok-pop.ensures.items).1),
    )
