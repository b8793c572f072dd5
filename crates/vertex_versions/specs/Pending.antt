-- Which versions may be private to a transaction. Each list has the newest first.
use Rattle.std.specs.Prelude.{ℕ, not, IsTrue, List, drop}
use Rattle.std.specs.List.{list_all}
use Rattle.stamps.specs.Stamps.{is_private}
use Rattle.vertex_versions.specs.declared.version.Version.{Version}

-- No version but the newest n is private to a transaction.
abbrev pub AreSettledFrom : ℕ → List Version → Type 0
AreSettledFrom n versions = IsTrue (list_all (λ x. not (is_private x.created)) (drop n versions))
