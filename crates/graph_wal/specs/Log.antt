-- What the disk of a log holds, and what a crash may leave of it.
use Rattle.std.specs.Prelude.{◌≡◌, ◌≢◌, ◌⊎◌, ℕ, ◌+◌, ◌<◌, ◌≤◌, ◌^◌, IsTrue, List, [], ◌∷◌, ◌++◌, length, Option, Some, None, IfSome}
use Rattle.graph_model.specs.declared.record.Record.{Record}
use Rattle.graph_model.specs.Records.{Lawful, last_epoch}
use Rattle.disk_model.specs.Images.{Only}
use Rattle.group_codec.specs.Spelling.{group_bytes, is_group}
use Rattle.group_codec.specs.Log.{log_bytes, are_groups, records_of, LogText, Recovers}
use Rattle.group_commit.specs.Encoded.{Encoded}
use Rattle.group_commit.specs.Members.{records_at}
use Rattle.graph_wal.specs.declared.wal.Attempt.{Attempt}
use Rattle.graph_wal.specs.declared.wal.Attempt.TheVariants as attempts
use Rattle.graph_wal.specs.declared.wal.Wal.{Wal}

-- The bytes recover to these records.
abbrev pub RecoversTo : List Record → List ℕ → Type 0
RecoversTo records bytes = (durable : ℕ) × Recovers bytes records durable

-- The bytes are the text of a log of these lawful records, with a gate that is not open as the last byte.
abbrev pub IsWhole : List Record → List ℕ → Type 0
IsWhole records bytes =
    (groups : List (List Record)) × (gate : ℕ)
    × LogText bytes groups gate [] × Lawful records × (records ≡ records_of groups)

-- The bytes recover to these records, or to these and the attempt behind them.
abbrev pub RecoversToEither : List Record → Option (List Record) → List ℕ → Type 0
RecoversToEither records None bytes = RecoversTo records bytes
RecoversToEither records (Some attempt) bytes = RecoversTo records bytes ⊎ RecoversTo (records ++ attempt) bytes

-- The groups spell these lawful records, and the gate behind them is the last byte of so many.
pub record IsDurable (groups : List (List Record)) (records : List Record) (durable : ℕ) : Type 0 where
  pub spelled : IsTrue (are_groups 0 groups)
  pub lawful : Lawful records
  pub all : records ≡ records_of groups
  pub place : durable ≡ length (log_bytes groups) + 1

-- Behind the groups stands a gate that is not open.
abbrev pub IsClosed : List (List Record) → List ℕ → Type 0
IsClosed groups bytes = (gate : ℕ) × (rest : List ℕ) × (gate ≢ 1) × (bytes ≡ log_bytes groups ++ gate ∷ rest)

-- Behind the groups stands some gate, and behind that one group more and a closed gate.
abbrev pub IsStaged : List (List Record) → List Record → List ℕ → Type 0
IsStaged groups g bytes = (gate : ℕ) × (rest : List ℕ) × (bytes ≡ log_bytes groups ++ gate ∷ (group_bytes (length groups + 1) g ++ 0 ∷ rest))

-- The group may be the next one.
pub record MayFollow (groups : List (List Record)) (records g : List Record) : Type 0 where
  pub spelled : IsTrue (is_group (length groups + 1) g)
  pub lawful : Lawful (records ++ g)

-- What the bytes and the images are. Where no attempt stands, the bytes are firm. Where one stands behind a gate
-- that was not touched, each image has the gate closed. Where the gate was touched, each image has the whole
-- attempt behind it.
abbrev pub StandsAs : Attempt → List (List Record) → List Record → Option (List Record) → List ℕ → (List ℕ → Type 0) → Type 0
StandsAs attempts.Mended groups records attempt bytes left = IsClosed groups bytes × Only bytes left
StandsAs attempts.Untouched groups records attempt bytes left = (c : List ℕ) → left c → IsClosed groups c
StandsAs attempts.Touched groups records (Some g) bytes left = MayFollow groups records g × ((c : List ℕ) → left c → IsStaged groups g c)
StandsAs attempts.Touched groups records None bytes left = ⊥

-- The durable records of the log are these, and no attempt but this one may stand behind them, where the disk
-- tells its bytes.
pub record Stands {D : Type 0} (told : D → Option (List ℕ)) (moment : D → ℕ) (images : D → ℕ → List ℕ → Type 0) (wal : Wal D) (records : List Record) (attempt : Option (List Record)) : Type 0 where
  pub long : 9 ≤ wal.durable
  pub short : wal.durable < 2 ^ 63
  pub log : IfSome (told wal.disk) (λ bytes. (groups : List (List Record)) × IsDurable groups records wal.durable × StandsAs wal.attempt groups records attempt bytes (images wal.disk (moment wal.disk)))

-- The log is as it stands, and behind its gate this group and a closed gate are firm, up to this place.
pub record IsReady {D : Type 0} (told : D → Option (List ℕ)) (moment : D → ℕ) (images : D → ℕ → List ℕ → Type 0) (wal : Wal D) (records g : List Record) (end : ℕ) : Type 0 where
  pub long : 9 ≤ wal.durable
  pub short : wal.durable < 2 ^ 63
  pub end_long : 9 ≤ end
  pub end_short : end < 2 ^ 63
  pub log : IfSome (told wal.disk) (λ bytes. (groups : List (List Record)) × IsDurable groups records wal.durable × MayFollow groups records g × IsStaged groups g bytes × (end ≡ wal.durable + length (group_bytes (length groups + 1) g) + 1) × Only bytes (images wal.disk (moment wal.disk)))

-- The members may be appended as the group of this epoch, where the disk tells its bytes: it is the epoch after
-- the last one, and the records are lawful with theirs behind.
abbrev pub MayAppend : Option (List ℕ) → List Record → ℕ → List Encoded → Type 0
MayAppend told records epoch members = IfSome told (λ _. (epoch ≡ last_epoch 0 records + 1) × Lawful (records ++ records_at epoch members))

-- No attempt stands, whose mending is still to be done.
abbrev pub IsMended : {D : Type 0} → Wal D → Type 0
IsMended wal = wal.attempt ≡ attempts.Mended

-- A crash leaves what a read gives, and that is a log of these records, where the disk tells its bytes.
abbrev pub IsSettled : {D : Type 0} → (D → Option (List ℕ)) → (D → ℕ) → (D → ℕ → List ℕ → Type 0) → Wal D → List Record → Type 0
IsSettled told moment images wal records = IfSome (told wal.disk) (λ bytes. Only bytes (images wal.disk (moment wal.disk)) × Recovers bytes records wal.durable)

-- Nothing stands behind the last gate, where the disk tells its bytes.
abbrev pub HasNoRest : {D : Type 0} → (D → Option (List ℕ)) → Wal D → Type 0
HasNoRest told wal = IfSome (told wal.disk) (λ bytes. length bytes ≡ wal.durable)
