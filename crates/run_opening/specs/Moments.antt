-- What a crash at any moment since a run began may leave, before its first request has run.
use Rattle.std.specs.Prelude.{◌≡◌, ◌⊎◌, ℕ, List, length, Option, IfSome, IsSomeAnd}
use Rattle.graph_model.specs.declared.record.Record.{Record}
use Rattle.disk_model.specs.Images.{EachImage}
use Rattle.group_codec.specs.Log.{Recovers}
use Rattle.graph_wal.specs.Log.{RecoversTo}

-- The bytes are the others, or recover to the records that these recover to.
abbrev pub RecoversAs : List ℕ → List ℕ → Type 0
RecoversAs others bytes = (bytes ≡ others) ⊎ ((r : List Record) × RecoversTo r others × RecoversTo r bytes)

-- The disk tells a log, behind which nothing stands.
abbrev pub TellsNoRest : Option (List ℕ) → Type 0
TellsNoRest told = (r : List Record) × IsSomeAnd told (λ b. Recovers b r (length b))

-- Every image of every moment since could be left at the beginning.
abbrev pub KeepsImages : {D : Type 0} → (D → ℕ) → (D → ℕ → List ℕ → Type 0) → D → D → Type 0
KeepsImages moment images old new = EachImage moment images new (moment old) (λ _ c. images old (moment old) c)

-- Every image of every moment since recovers to what one that could be left at the beginning recovers to, where
-- the disk tells its bytes.
abbrev pub KeepsRecords : {D : Type 0} → (D → Option (List ℕ)) → (D → ℕ) → (D → ℕ → List ℕ → Type 0) → D → D → Type 0
KeepsRecords told moment images old new =
    IfSome (told old) (λ _. EachImage moment images new (moment old) (λ _ c. (d : List ℕ) × images old (moment old) d × RecoversAs d c))

-- A crash now leaves what recovers to these records, where the disk tells its bytes.
abbrev pub IsSettledTo : {D : Type 0} → (D → Option (List ℕ)) → (D → ℕ) → (D → ℕ → List ℕ → Type 0) → D → List Record → Type 0
IsSettledTo told moment images disk records = IfSome (told disk) (λ _. (c : List ℕ) → images disk (moment disk) c → RecoversTo records c)

-- A crash now leaves what recovers to the records that a read recovers to, where the disk tells its bytes.
abbrev pub IsSettledAsRead : {D : Type 0} → (D → Option (List ℕ)) → (D → ℕ) → (D → ℕ → List ℕ → Type 0) → D → Type 0
IsSettledAsRead told moment images disk = (records : List Record) → IfSome (told disk) (RecoversTo records) → IsSettledTo told moment images disk records
