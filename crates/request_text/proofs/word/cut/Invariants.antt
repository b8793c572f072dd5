use Rattle.std.proofs.Common.{◌≡◌, ◌==◌, false, take, All}
use Rattle.request_text.proofs.word.cut.Given as goal

-- no byte so far is the separator
abbrev pub invariant-loop-at : goal.invariant-loop-at
invariant-loop-at l = All (λ b. (b == l.separator) ≡ false) (take l.at l.bytes)
