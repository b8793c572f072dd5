-- How long a payload may be.
use Rattle.std.specs.Prelude.{ℕ}

-- the greatest number of bytes in a payload
abbrev pub payload_most : ℕ
payload_most = 65535

-- the greatest number of bytes that lie in the payload itself
abbrev pub short_most : ℕ
short_most = 14
