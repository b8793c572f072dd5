-- What a call on one log leaves of the others in its room.
use Rattle.std.specs.Prelude.{◌≡◌, List}
use Rattle.edge_log.specs.Contents.{LogContent}
use Rattle.edge_log.specs.Rooms.{Block, AreApart}

-- Each log, or each Old, that stands in the old room apart from some blocks stands in the new room, with the same content, apart from others.
abbrev pub LeavesThose : {L R : Type 0} → (L → R → Type 0) → (L → List Block) → (L → R → LogContent) → List Block → List Block → R → R → Type 0
LeavesThose {L} stands footprint content before after old new =
    (log : L) → stands log old → AreApart before (footprint log) → stands log new × (content log new ≡ content log old) × AreApart after (footprint log)
