-- What the versions of a vertex say, and what becomes of them. Each list has the newest first.
use Rattle.std.specs.Prelude.{ℕ, not, if◌then◌else◌, List, [], ◌∷◌, filter, find, map, Option, Some, None}
use Rattle.stamps.specs.Stamps.{Reader, Nobody, counts, is_by, converted_stamp}
use Rattle.vertex_versions.specs.declared.version.Version.{Version}

-- the payload of a version that was found
abbrev pub content_found : Option Version → Option (List ℕ)
content_found None = None
content_found (Some x) = x.content

-- The payload that a reader sees at epoch e: that of the newest version that counts for it.
abbrev pub payload_at : List Version → ℕ → Reader → Option (List ℕ)
payload_at versions e who = content_found (find (λ x. counts x.created e who) versions)

-- a version whose private stamp of a transaction becomes the transaction's epoch
abbrev pub converted_version : ℕ → ℕ → Version → Version
converted_version t e x = record { created = converted_stamp t e x.created; content = x.content }

abbrev pub converted_versions : ℕ → ℕ → List Version → List Version
converted_versions t e versions = map (converted_version t e) versions

-- the versions that are not private to a transaction
abbrev pub undone_versions : ℕ → List Version → List Version
undone_versions t versions = filter (λ x. not (is_by t x.created)) versions

-- the newest version with an epoch at most the horizon, and all newer ones
abbrev pub trimmed_versions : ℕ → List Version → List Version
trimmed_versions h [] = []
trimmed_versions h (x ∷ versions) = if counts x.created h Nobody then x ∷ [] else x ∷ trimmed_versions h versions
