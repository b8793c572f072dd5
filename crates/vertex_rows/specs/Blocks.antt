-- Where the logs of a row lie in their room.
use Rattle.std.specs.Prelude.{◌≡◌, ℕ, ◌+◌, ◌<◌, List, [], ◌∷◌, ◌++◌, length, get_or, sum_by}
use Rattle.edge_log.specs.Rooms.{Block, AreApart, AreAmong}

-- Whatever of the blocks that were out was apart from the old ones is apart from the new ones.
abbrev pub StaysApart : List Block → List Block → List Block → Type 0
StaysApart out old new = (others : List Block) → AreAmong others out → AreApart old others → AreApart new others

-- Of the blocks that were out, some were given back, and some were taken: whatever is added up over the blocks that are out, it is less by the ones and more by the others.
abbrev pub Trades : List Block → List Block → List Block → List Block → Type 0
Trades before after given taken = (size : Block → ℕ) → sum_by size after + sum_by size given ≡ sum_by size before + sum_by size taken

-- the blocks of all logs
abbrev pub footprints_of : {L : Type 0} → (L → List Block) → List L → List Block
footprints_of footprint [] = []
footprints_of footprint (x ∷ logs) = footprint x ++ footprints_of footprint logs

-- The logs stand in the room, each apart from the others, and the sizes of each may come to this limit.
pub record AreLogs {L R : Type 0} (stands : L → R → Type 0) (footprint : L → List Block) (limit : L → ℕ) (most : ℕ) (logs : List L) (room : R) : Type 0 where
  pub stand : (n : ℕ) (d : L) → n < length logs → stands (get_or logs n d) room
  pub apart : (m n : ℕ) (d : L) → m < length logs → n < length logs → (m ≡ n → ⊥) → AreApart (footprint (get_or logs m d)) (footprint (get_or logs n d))
  pub limits : (n : ℕ) (d : L) → n < length logs → limit (get_or logs n d) ≡ most
