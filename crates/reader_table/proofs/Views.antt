-- What a write to a leaf makes of the rows.
use Rattle.std.proofs.Common.{ℕ, ◌≡◌, ◌<◌, List, length, take, drop, ap, ◌∙◌}
use Rattle.std.specs.Vec.{with_items}
use Rattle.std.proofs.Math.ListN.{set}
use Rattle.std.proofs.Math.Seq.{take-set-lt}
use Rattle.std.proofs.lemmas.List.{with_items_is}
use Rattle.reader_table.specs.declared.least.Least.{Least}
use Rattle.reader_table.specs.declared.index.Index.TheInside.{Inside}
use Rattle.reader_table.specs.Nodes.{Leaves}
use Rattle.reader_table.specs.KeptNodes.{leaves_of}

pub set_leaves : (a : Inside) (now : List Least) (at : ℕ) (v : Least) → at < a.len → length now ≡ a.nodes.len → drop a.room now ≡ set (drop a.room a.nodes.items) at v →
    leaves_of (record { nodes = with_items a.nodes now; room = a.room; len = a.len }) ≡ record { rows = set (leaves_of a).rows at v; room = a.room }
set_leaves a now at v within count is =
    ap (λ (rows : List Least). let s : Leaves = record { rows = rows; room = a.room } in s)
    (ap (λ (xs : List Least). take a.len (drop a.room xs)) (with_items_is a.nodes now count) ∙ ap (take a.len) is ∙ take-set-lt a.len (drop a.room a.nodes.items) at v within)
