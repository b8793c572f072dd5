-- How a log is made.
use Rattle.std.specs.Prelude.{◌≡◌, ℕ, ◌<◌, List, [], ◌∷◌, ◌++◌, length, Option, IfSome}
use Rattle.disk_model.specs.Images.{Only}
use Rattle.group_codec.specs.Log.{log_head}
use Rattle.log_commands.specs.declared.status.Status.{Status}
use Rattle.log_commands.specs.declared.status.Status.TheVariants as status
use Rattle.log_commands.specs.Opening.{IsUnwritten, IsDiskFault}

-- the log without a group: nine bytes
abbrev pub empty_log : List ℕ
empty_log = log_head ++ 0 ∷ []

-- How the making of a log ended: the disk had no bytes, and now it has those of the empty log, and a crash leaves
-- nothing else; or it had so many bytes, and is as it was; or its count of faults rose; or memory ran out, and
-- it is as it was. Of bytes and images it
-- says so where the disk tells them.
abbrev pub EndsInit : {D : Type 0} → (D → Option (List ℕ)) → (D → ℕ) → (D → ℕ → List ℕ → Type 0) → (D → ℕ) → D → D → Status → Type 0
EndsInit told moment images faults old new status.Done =
    IfSome (told old) (λ b. b ≡ []) × IfSome (told new) (λ b. (b ≡ empty_log) × Only b (images new (moment new)))
EndsInit told moment images faults old new (status.NotEmpty size) =
    (0 < size) × IfSome (told old) (λ b. size ≡ length b) × IsUnwritten told moment images old new
EndsInit told moment images faults old new (status.DiskFault before after) = IsDiskFault (faults old) (faults new) before after
EndsInit told moment images faults old new status.NoMemory = IsUnwritten told moment images old new
EndsInit told moment images faults old new s = ⊥
