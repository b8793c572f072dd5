-- The rows of entries one by one, and what is read from them. Each list of rows has the newest first.
use Rattle.std.specs.Prelude.{ℕ, ◌+◌, ◌-◌, List, [], ◌∷◌, length, take, drop, if◌then◌else◌}
use Rattle.graph_model.specs.declared.pairs.Pair.{Pair}
use Rattle.stamps.specs.Stamps.{Reader}
use Rattle.edge_log.specs.Entries.{Entry}
use Rattle.tel_entry.specs.declared.entry.Entry.{Entry as RawEntry}
use Rattle.tel_entry.specs.Layouts.{entry_bytes}
use Rattle.tel_entry.specs.RawStamps.{raw_visible}
use Rattle.block_layout.specs.Rows.{raw_entry}
use Rattle.block_layout.specs.Reads.{raw_in}

-- the 28 bytes of each entry
abbrev pub row_list : List Entry → List (List ℕ)
row_list [] = []
row_list (x ∷ xs) = entry_bytes (raw_entry x) ∷ row_list xs

-- how many bytes the payloads of rows have together
abbrev pub lens_of : List (List ℕ) → ℕ
lens_of [] = 0
lens_of (row ∷ rows) = (raw_in row).len + lens_of rows

-- what a row has in front of edges: its own where it is visible, with this payload
abbrev pub with_shown : RawEntry → List ℕ → ℕ → Reader → List Pair → List Pair
with_shown raw p e who pairs = if raw_visible raw.created raw.ended e who then record { d = raw.d; p = p } ∷ pairs else pairs

-- the edges of the rows that a reader sees, whose payloads end where a range of bytes does, the newest last
abbrev pub shown_in : List (List ℕ) → List ℕ → ℕ → Reader → List Pair
shown_in [] range e who = []
shown_in (row ∷ rows) range e who =
    let raw = raw_in row in
    let cut = length range - raw.len in
    with_shown raw (drop cut range) e who (shown_in rows (take cut range) e who)
