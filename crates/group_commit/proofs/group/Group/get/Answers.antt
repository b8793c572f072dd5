use Rattle.std.proofs.Common.{ap, ◌∙◌, sym, List, Option}
use Rattle.std.specs.Prelude.{slice_get}
use Rattle.group_commit.specs.Encoded.{Encoded}
use Rattle.group_commit.proofs.Places.{in_place, slice_get-members_of}
use Rattle.group_commit.proofs.group.Group.get.Goals as goal

pub returns-in-Some : goal.returns-in-Some
returns-in-Some c =
    rw (← c.self.view_is)
    (c.as_ref.ensures.value
    ∙ ap in_place (c.in-Some.ensures ∙ ap (λ (l : List (Option Encoded)). slice_get l c.args.i) c.as_slice.ensures.value)
    ∙ sym (slice_get-members_of c.self.inside.members.items c.args.i c.self.invariant))

pub returns-in-None : goal.returns-in-None
returns-in-None c =
    rw (← c.self.view_is)
    (ap in_place (c.in-None.ensures ∙ ap (λ (l : List (Option Encoded)). slice_get l c.args.i) c.as_slice.ensures.value)
    ∙ sym (slice_get-members_of c.self.inside.members.items c.args.i c.self.invariant))
