-- The records that are not done.
use Rattle.std.proofs.Common.{◌≡◌, ℕ, true, List, [], ◌∷◌, ◌++◌, arith}
use Rattle.std.proofs.lemmas.Bool.Decides.{nat_tests}
use Rattle.core_states.specs.declared.clock.Active.{Active}
use Rattle.epoch_clock.specs.ActiveRows.{is_running}

-- a transaction whose record is the last of them
pub runs_last : (t e : ℕ) (xs : List Active) → is_running t (xs ++ record { tid = t; epoch = e } ∷ []) ≡ true
runs_last t e [] = grind (arith, nat_tests)
runs_last t e (x ∷ xs) = grind (arith, nat_tests, runs_last t e xs)
