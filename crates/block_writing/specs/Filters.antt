-- The filter of a block.
use Rattle.std.specs.Prelude.{ℕ, List}
use Rattle.tel_entry.specs.Layouts.{header_len}
use Rattle.block_layout.specs.Sizes.{filter_len, bytes_at}

-- what stands in a block behind its header
abbrev pub filter_in : ℕ → List ℕ → List ℕ
filter_in order block = bytes_at header_len (filter_len order) block
