-- The headers that a log writes.
use Rattle.std.specs.Prelude.{ℕ}
use Rattle.tel_entry.specs.declared.header.Header.{Header}
use Rattle.block_layout.specs.Sizes.{flags_of}

-- that of a new log, of a vertex under a label
abbrev pub fresh_header : ℕ → ℕ → ℕ → ℕ → Header
fresh_header v l order previous = record {
  source = v;
  label = l;
  order = order;
  flags = flags_of order;
  epoch = 0;
  entries = 0;
  props = 0;
  previous = previous;
}

-- after a commit at an epoch, with which so many entries and payload bytes are committed
abbrev pub committed_header : ℕ → ℕ → ℕ → Header → Header
committed_header epoch entries props h = record h { epoch = epoch; entries = entries; props = props }

-- in a block of another order, which replaces a block
abbrev pub moved_header : ℕ → ℕ → Header → Header
moved_header order previous h = record h { order = order; flags = flags_of order; previous = previous }

-- in a block of another order, which has a part of the entries, of which so many are committed, and replaces a block
abbrev pub kept_header : ℕ → ℕ → ℕ → ℕ → Header → Header
kept_header order previous entries props h = record (moved_header order previous h) { entries = entries; props = props }
