-- The epoch that is asked for.
use Rattle.std.proofs.Common.{◌≡◌, ℕ, ◌<◌, arith, Option, Some, None}
use Rattle.std.specs.Option.{unwrap_or}

-- an epoch above the last one was asked for
pub above_asked : (asked : Option ℕ) (last epoch : ℕ) → epoch ≡ unwrap_or asked last → last < epoch → asked ≡ Some epoch
above_asked None last epoch is above = absurd (omega arith)
above_asked (Some e) last epoch is above = cc
