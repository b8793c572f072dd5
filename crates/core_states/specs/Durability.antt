-- What every event keeps of the log part, the groups, their moments, and the faults of the disk.
use Rattle.std.specs.Prelude.{◌≡◌, ◌⊎◌, ℕ, ◌+◌, ◌≤◌, ◌<◌, Bool, true, false, ◌&&◌, if◌then◌else◌, ◌==◌, List, [], ◌∷◌, ◌++◌, length, Option, Some, None}
use Rattle.graph_model.specs.declared.graph.Base.{Base}
use Rattle.graph_model.specs.declared.record.Outcome.{Outcome}
use Rattle.graph_model.specs.declared.record.Outcome.TheVariants.{Committed, Failed}
use Rattle.graph_model.specs.declared.record.Record.{Record}
use Rattle.graph_model.specs.Records.{group_most}
use Rattle.core_states.specs.declared.actor.Actor.{Actor}
use Rattle.core_states.specs.declared.clock.KeptOutcome.{KeptOutcome}
use Rattle.core_states.specs.declared.disk_records.DiskRecords.{DiskRecords}
use Rattle.core_states.specs.LogParts.{is_held_by}
use Rattle.core_states.specs.Names.{Name}
use Rattle.core_states.specs.Numbers.{numbered, outcome_of}
use Rattle.core_states.specs.Records.{In, AllAt}
use Rattle.core_states.specs.States.{State}

-- the moments never fall, and none is after one moment
abbrev pub AllSince : ℕ → List ℕ → Type 0
AllSince m [] = Unit {0}
AllSince m (x ∷ xs) = (m ≤ x) × AllSince m xs

abbrev pub NeverFall : List ℕ → Type 0
NeverFall [] = Unit {0}
NeverFall (x ∷ xs) = AllSince x xs × NeverFall xs

abbrev pub AllBy : ℕ → List ℕ → Type 0
AllBy m [] = Unit {0}
AllBy m (x ∷ xs) = (x ≤ m) × AllBy m xs

-- the group that is written and not published, if there is one
abbrev pub is_unpublished : Option Name → (Name → Actor) → Bool
is_unpublished None actor = false
is_unpublished (Some i) actor = (actor i).written

abbrev pub unpublished : Option Name → (Name → Actor) → List Record
unpublished None actor = []
unpublished (Some i) actor = if (actor i).written then (actor i).group else []

-- and its moment, which is that of the last append
abbrev pub unpublished_moment : ℕ → Bool → List ℕ
unpublished_moment moment true = moment ∷ []
unpublished_moment moment false = []

-- an outcome is that of a group whose append failed between these counts, and how many records have it
abbrev pub is_fault : ℕ → ℕ → Outcome → Bool
is_fault before after (Committed e) = false
is_fault before after (Failed b a) = before == b && after == a

abbrev pub faults : ℕ → ℕ → List KeptOutcome → ℕ
faults before after [] = 0
faults before after (x ∷ outcomes) = if is_fault before after x.outcome then faults before after outcomes + 1 else faults before after outcomes

-- the counts of each failed record lie between these
abbrev pub IsCounted : ℕ → ℕ → Outcome → Type 0
IsCounted low high (Committed e) = Unit {0}
IsCounted low high (Failed b a) = (low ≤ b) × (b < a) × (a ≤ high)

abbrev pub AllCounted : ℕ → ℕ → List KeptOutcome → Type 0
AllCounted low high [] = Unit {0}
AllCounted low high (x ∷ xs) = IsCounted low high x.outcome × AllCounted low high xs

-- the same counts, or spans that do not overlap
abbrev pub SpansApart : ℕ → ℕ → ℕ → ℕ → Type 0
SpansApart b a c d = ((b ≡ c) × (a ≡ d)) ⊎ ((a ≤ c) ⊎ (d ≤ b))

-- this number's record failed
abbrev pub HasFailed : State → ℕ → Type 0
HasFailed s t = (b : ℕ) × (a : ℕ) × (outcome_of t s.clock.outcomes ≡ Some (Failed b a))

-- What is on the disk, where it tells its bytes: what was durable at opening, then the published records, then the written group, each group with its moment; and a failed attempt, which has the next epoch.
pub record OnDisk (s : State) (d : DiskRecords) : Type 0 where
  pub durable : d.durable ≡ d.opened ++ (s.clock.records ++ numbered (s.clock.last + 1) (unpublished s.log.holder s.actor))
  pub moments : d.moments ≡ s.clock.moments ++ unpublished_moment s.log.moment (is_unpublished s.log.holder s.actor)
  pub mended : s.log.mended ≡ true → d.attempt ≡ None
  pub attempt : (rs : List Record) → d.attempt ≡ Some rs → AllAt (s.clock.last + 1) rs × ((r : Record) → In r rs → HasFailed s r.tid)

-- **Durability.** The groups and their moments, what is durable, and the faults of the disk.
pub record Durability (base : Base) (s : State) : Type 0 where
  -- the holder of the log turn has a group, and nobody else has
  pub busy : (i : Name) → is_held_by i s.log.holder ≡ true → 0 < length (s.actor i).group
  pub idle : (i : Name) → is_held_by i s.log.holder ≡ false → ((s.actor i).group ≡ []) × ((s.actor i).written ≡ false)
  -- each published group has its moment, which is at most that of the last append
  pub moments : base.epoch + length s.clock.moments ≡ s.clock.last
  pub rise : NeverFall s.clock.moments
  pub past : AllBy s.log.moment s.clock.moments
  -- the last durable epoch is the last one, or that of the group that is written and not published
  pub epoch : s.log.durable ≡ (if is_unpublished s.log.holder s.actor then s.clock.last + 1 else s.clock.last)
  -- no group is written while a failed attempt stands
  pub standing : s.log.mended ≡ false → is_unpublished s.log.holder s.actor ≡ false
  pub disk : (d : DiskRecords) → s.log.disk ≡ Some d → OnDisk s d
  -- each failed record has the counts round its group's append: two groups' spans do not overlap
  pub count : s.log.opening_count ≤ s.log.greatest
  pub counts : AllCounted s.log.opening_count s.log.greatest s.clock.outcomes
  pub spans : (t u b a c d : ℕ) → outcome_of t s.clock.outcomes ≡ Some (Failed b a) → outcome_of u s.clock.outcomes ≡ Some (Failed c d) → SpansApart b a c d
  pub few : (before after : ℕ) → faults before after s.clock.outcomes ≤ group_most
