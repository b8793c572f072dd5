-- What is durable by the log part, call by call.
use Rattle.std.proofs.Common.{◌≡◌, ℕ, ◌+◌, List, [], ◌++◌, refl, sym, ap, ◌∙◌, subst, Option, Some, None}
use Rattle.graph_model.specs.declared.record.Record.{Record}
use Rattle.graph_model.specs.Records.{Lawful}
use Rattle.group_commit.specs.Encoded.{Encoded}
use Rattle.group_commit.specs.Members.{records_at}
use Rattle.core_states.specs.declared.disk_records.DiskRecords.{DiskRecords}
use Rattle.core_states.specs.LogParts.{LogPart, Firmness, opened_part, with_durable, with_attempt, without_attempt}
use Rattle.core_states.proofs.Names.{some_is}
use Rattle.core_kept.proofs.Beginning.{none_some}
use Rattle.store_log.specs.LogChanges.{with_group, with_fault, without_fault, MayWrite}
use Rattle.store_log.specs.LogValues.{where_told}

-- The last durable epoch is this, and these records are durable, where the disk tells its bytes.
abbrev pub HasDurable : LogPart → ℕ → List Record → Type 0
HasDurable log n rs = (log.durable ≡ n) × ((d : DiskRecords) → log.disk ≡ Some d → d.durable ≡ rs)

-- a log without records
pub opened-durable : (log : LogPart) (n count : ℕ) (firm : Firmness) (t : Option (List ℕ)) → log ≡ opened_part n (record { count = count; firm = firm; records = where_told t [] }) → HasDurable log n []
opened-durable log n count firm t is = subst (λ (g : LogPart). HasDurable g n []) (sym is) (refl, by_told t)
  where
    by_told : (t : Option (List ℕ)) (d : DiskRecords) → (opened_part n (record { count = count; firm = firm; records = where_told t [] })).disk ≡ Some d → d.durable ≡ []
    by_told None d told = absurd (none_some d told)
    by_told (Some b) d told = sym (ap (λ (x : DiskRecords). x.durable) (some_is _ d told))

-- a group more
more-durable : (m : ℕ) (disk : Option DiskRecords) (rs qs : List Record) → ((d : DiskRecords) → disk ≡ Some d → d.durable ≡ rs) → (d : DiskRecords) → with_durable m qs disk ≡ Some d → d.durable ≡ rs ++ qs
more-durable m None rs qs was d told = absurd (none_some d told)
more-durable m (Some c) rs qs was d told = sym (ap (λ (x : DiskRecords). x.durable) (some_is _ d told)) ∙ ap (λ (l : List Record). l ++ qs) (was c refl)

pub grouped-durable : (log next : LogPart) (n m : ℕ) (rs : List Record) (members : List Encoded) → HasDurable log n rs → next ≡ with_group m (records_at (log.durable + 1) members) log → HasDurable next (n + 1) (rs ++ records_at (n + 1) members)
grouped-durable log next n m rs members has is =
    let same = ap (λ (k : ℕ). records_at (k + 1) members) has.0 in
    subst (λ (g : LogPart). HasDurable g (n + 1) (rs ++ records_at (n + 1) members)) (sym is)
    (ap (λ (k : ℕ). k + 1) has.0, λ d told. more-durable m log.disk rs (records_at (log.durable + 1) members) has.1 d told ∙ ap (λ (qs : List Record). rs ++ qs) same)

-- a group that was tried, or is tried no more, leaves what is durable
tried-durable : (disk : Option DiskRecords) (rs qs : List Record) → ((d : DiskRecords) → disk ≡ Some d → d.durable ≡ rs) → (d : DiskRecords) → with_attempt qs disk ≡ Some d → d.durable ≡ rs
tried-durable None rs qs was d told = absurd (none_some d told)
tried-durable (Some c) rs qs was d told = sym (ap (λ (x : DiskRecords). x.durable) (some_is _ d told)) ∙ was c refl

untried-durable : (disk : Option DiskRecords) (rs : List Record) → ((d : DiskRecords) → disk ≡ Some d → d.durable ≡ rs) → (d : DiskRecords) → without_attempt disk ≡ Some d → d.durable ≡ rs
untried-durable None rs was d told = absurd (none_some d told)
untried-durable (Some c) rs was d told = sym (ap (λ (x : DiskRecords). x.durable) (some_is _ d told)) ∙ was c refl

pub faulted-durable : (log next : LogPart) (n after : ℕ) (rs qs : List Record) → HasDurable log n rs → next ≡ with_fault after qs log → HasDurable next n rs
faulted-durable log next n after rs qs has is = subst (λ (g : LogPart). HasDurable g n rs) (sym is) (has.0, tried-durable log.disk rs qs has.1)

pub mended-durable : (log next : LogPart) (n : ℕ) (rs : List Record) → HasDurable log n rs → next ≡ without_fault log → HasDurable next n rs
mended-durable log next n rs has is = subst (λ (g : LogPart). HasDurable g n rs) (sym is) (has.0, untried-durable log.disk rs has.1)

-- what is lawful behind the durable records may be written
pub may-behind : (log : LogPart) (n : ℕ) (rs : List Record) (members : List Encoded) → HasDurable log n rs → Lawful (rs ++ records_at (n + 1) members) → MayWrite log (records_at (log.durable + 1) members)
may-behind log n rs members has lawful d told =
    subst (λ (x : List Record × ℕ). Lawful (x.0 ++ records_at (x.1 + 1) members)) (λ i. (sym (has.1 d told) i, sym has.0 i)) lawful
