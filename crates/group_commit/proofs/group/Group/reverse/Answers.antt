use Rattle.std.proofs.Common.{◌≡◌, length, reverse, ap, ◌∙◌}
use Rattle.std.proofs.lemmas.List.{length-reverse}
use Rattle.group_commit.specs.Members.{members_of}
use Rattle.group_commit.proofs.Places.{turned, refilled}
use Rattle.group_commit.proofs.group.Group.reverse.Goals as goal

-- the places after the call are those before it, turned round
turned_places : (c : goal.After-self-1) → (length (members_of c.reverse.new.self) ≡ length c.reverse.new.self) × (members_of c.reverse.new.self ≡ reverse (members_of c.self.inside.members.items))
turned_places c = turned c.self.inside.members.items c.reverse.new.self c.self.invariant (c.reverse.ensures.after ∙ ap reverse c.as_mut_slice.ensures.value)

-- and they fill all places
all_places : (c : goal.After-self-1) → length c.reverse.new.self ≡ length c.self.inside.members.items
all_places c = ap length (c.reverse.ensures.after ∙ ap reverse c.as_mut_slice.ensures.value) ∙ length-reverse c.self.inside.members.items

pub invariant_of-self : goal.invariant_of-self
invariant_of-self c =
    rw (refilled c.self.inside.members.items c.reverse.new.self (all_places c)) ((turned_places c).0)

pub returns : goal.returns
returns c =
    ap members_of (refilled c.self.inside.members.items c.reverse.new.self (all_places c))
    ∙ (turned_places c).1
    ∙ ap reverse c.self.view_is
