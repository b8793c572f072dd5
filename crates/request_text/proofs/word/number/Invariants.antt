use Rattle.std.proofs.Common.{◌≡◌, drop}
use Rattle.request_text.specs.Words.{digits_value}
use Rattle.request_text.proofs.Numbers.{digits_from}
use Rattle.request_text.proofs.word.number.Given as goal

-- the digits to come, behind the number so far, stand for what the word does
abbrev pub invariant-loop-byte : goal.invariant-loop-byte
invariant-loop-byte l = digits_value l.word ≡ digits_from l.value (drop l.byte-index l.word)
