use Rattle.std.proofs.Common.{◌≡◌, false, take}
use Rattle.std.specs.List.{list_any}
use Rattle.stamps.specs.Stamps.{is_private}
use Rattle.vertex_versions.proofs.older_versions.OlderVersions.has_private.Given as goal

-- none of the versions so far is private
abbrev pub invariant-loop-place : goal.invariant-loop-place
invariant-loop-place l = list_any (λ x. is_private x.created) (take l.place l.self) ≡ false
