-- What an append keeps of the value of the log's turn.
use Rattle.std.proofs.Common.{◌≡◌, ℕ, ◌+◌, ◌<◌, ◌≤◌, Bool, true, false, List, [], ◌∷◌, ◌++◌, length, length-append, refl, sym, ap, ◌∙◌, subst, arith, Option, Some, None}
use Rattle.std.specs.Prelude.{IfSome}
use Rattle.std.proofs.lemmas.Bool.{true≢false, false≢true}
use Rattle.graph_model.specs.declared.record.Record.{Record}
use Rattle.graph_model.specs.Records.{Lawful, last_epoch}
use Rattle.disk_model.specs.Images.{StillTells}
use Rattle.group_commit.specs.Encoded.{Encoded}
use Rattle.group_commit.specs.Members.{records_at}
use Rattle.graph_wal.specs.declared.wal.Attempt.{Attempt}
use Rattle.graph_wal.specs.declared.wal.Attempt.TheVariants as attempts
use Rattle.graph_wal.specs.declared.wal.Wal.{Wal}
use Rattle.graph_wal.specs.Appends.{Durable, durable_group, Tried, AreDurableBy, HasAppended}
use Rattle.graph_wal.specs.Log.{MayAppend, IsMended, HasNoRest}
use Rattle.graph_wal.proofs.Crashing.{all-push}
use Rattle.core_states.specs.declared.disk_records.DiskRecords.{DiskRecords}
use Rattle.core_states.specs.Records.{AllAt}
use Rattle.store_log.specs.Written.{Written, durable_records, more_durable, more_tried, disk_of, AreOfEpochs, IsInEpochs}
use Rattle.store_log.specs.LogChanges.{MayWrite}
use Rattle.store_log.specs.LogValues.{LogValue, is_mended}
use Rattle.store_log.specs.LogsKept.{log_value, IsKept}
use Rattle.store_log.specs.declared.log_home.LogHome.TheInside.{Inside}

-- a log is mended exactly where its flag says so
pub flag-mended : (x : Attempt) → is_mended x ≡ true → x ≡ attempts.Mended
flag-mended attempts.Mended h = refl
flag-mended attempts.Untouched h = absurd (false≢true h)
flag-mended attempts.Touched h = absurd (false≢true h)

pub flag-not-mended : (x : Attempt) → (x ≡ attempts.Mended → ⊥) → is_mended x ≡ false
flag-not-mended attempts.Mended h = absurd (h refl)
flag-not-mended attempts.Untouched h = refl
flag-not-mended attempts.Touched h = refl

-- what may stand behind the durable records of the log part may be appended
pub may_append : (t : Option (List ℕ)) (n : ℕ) (m : Bool) (w : Written) (members : List Encoded) → IfSome t (λ _. n ≡ last_epoch 0 (durable_records w))
    → ((d : DiskRecords) → disk_of t m w ≡ Some d → Lawful (d.durable ++ records_at (n + 1) members)) → MayAppend t (durable_records w) (n + 1) members
may_append None n m w members epoch lawful = tt
may_append (Some b) n m w members epoch lawful = (ap (λ (k : ℕ). k + 1) epoch, lawful _ refl)

pub may_append_here : {D : Type 0} (told : D → Option (List ℕ)) (a : Inside D) (v : LogValue D) (members : List Encoded) → log_value told a ≡ v → IfSome (told a.wal.disk) (λ _. a.durable ≡ last_epoch 0 (durable_records a.notes.value))
    → MayWrite v.log (records_at (v.log.durable + 1) members) → MayAppend (told a.wal.disk) (durable_records a.notes.value) (a.durable + 1) members
may_append_here {D} told a v members is epoch may =
    may_append (told a.wal.disk) a.durable (is_mended a.wal.attempt) a.notes.value members epoch (subst (λ (x : LogValue D). MayWrite x.log (records_at (x.log.durable + 1) members)) (sym is) may)

-- the last epoch behind a group is the group's
last-own : (e n : ℕ) (members : List Encoded) → last_epoch n (records_at n members) ≡ n
last-own e n [] = refl
last-own e n (m ∷ members) = last-own e n members

last-group : (e n : ℕ) (rs : List Record) (members : List Encoded) → 0 < length members → last_epoch e (rs ++ records_at n members) ≡ n
last-group e n [] [] some = absurd (omega (arith, some))
last-group e n [] (m ∷ members) some = last-own e n members
last-group e n (r ∷ rs) members some = last-group r.epoch n rs members some

-- and so it is noted
pub last-noted : (n moment : ℕ) (w : Written) (members : List Encoded) → 0 < length members → n ≡ last_epoch 0 (durable_records (more_durable (records_at n members) moment w))
last-noted n moment w members some =
    sym (ap (last_epoch 0) (all-push w.origin.base w.groups (durable_group (records_at n members) moment)) ∙ last-group 0 n (durable_records w) members some)

-- the records of a group are of its epoch, and as many as its members
all-at : (n : ℕ) (members : List Encoded) → AllAt n (records_at n members)
all-at n [] = tt
all-at n (m ∷ members) = (refl, all-at n members)

some-records : (n : ℕ) (members : List Encoded) → 0 < length members → 0 < length (records_at n members)
some-records n [] some = absurd (omega (arith, some))
some-records n (m ∷ members) some = omega arith

epochs-push : (e n : ℕ) (groups : List Durable) (x : Durable) → n ≡ e + length groups → AreOfEpochs e groups → AllAt (n + 1) x.group → 0 < length x.group → AreOfEpochs e (groups ++ x ∷ [])
epochs-push e n [] x is all at some = (subst (λ (k : ℕ). AllAt (k + 1) x.group) (let same : n ≡ e = omega (arith, is) in same) at, some, tt)
epochs-push e n (g ∷ groups) x is all at some = (all.0, all.1, epochs-push (e + 1) n groups x (omega (arith, is)) all.2 at some)

pub epochs-more : (n moment : ℕ) (w : Written) (members : List Encoded) → 0 < length members → IsInEpochs n w → IsInEpochs (n + 1) (more_durable (records_at (n + 1) members) moment w)
epochs-more n moment w members some is = record {
  count = omega (arith, is.count, length-append w.groups (durable_group (records_at (n + 1) members) moment ∷ []));
  groups = epochs-push w.origin.epoch n w.groups (durable_group (records_at (n + 1) members) moment) is.count is.groups (all-at (n + 1) members) (some-records (n + 1) members some);
  failed = is.failed;
}

pub epochs-tried : (n : ℕ) (w : Written) (members : List Encoded) → IsInEpochs n w → IsInEpochs n (more_tried (records_at (n + 1) members) w)
epochs-tried n w members is = record {
  count = is.count;
  groups = is.groups;
  failed = (subst (λ (k : ℕ). AllAt (k + 1) (records_at (n + 1) members)) is.count (all-at (n + 1) members), is.failed);
}

-- what holds anyway holds where a disk tells its bytes
anyway : {P : Type 0} (t : Option (List ℕ)) → P → IfSome t (λ _. P)
anyway None h = tt
anyway (Some b) h = h

module _ {D : Type 0} (told : D → Option (List ℕ)) (moment : D → ℕ) (images : D → ℕ → List ℕ → Type 0) (faults : D → ℕ) where
  abbrev Kept : Inside D → Type 0
  Kept = IsKept told moment images faults

  abbrev Has : Wal D → Written → Type 0
  Has wal w = HasAppended told moment images wal w.origin.since w.origin.base w.groups w.failed

  -- a group is durable
  pub kept-durable : (a b : Inside D) (rs : List Record) → Kept a → b.notes.value ≡ more_durable rs b.moment a.notes.value → Has b.wal (more_durable rs b.moment a.notes.value)
      → b.durable ≡ last_epoch 0 (durable_records (more_durable rs b.moment a.notes.value)) → IsInEpochs b.durable (more_durable rs b.moment a.notes.value) → b.moment ≡ moment b.wal.disk → IsMended b.wal
      → (a.notes.value.origin.no_rest ≡ true → HasNoRest told b.wal) → b.greatest ≤ faults b.wal.disk → moment a.wal.disk ≤ moment b.wal.disk → Kept b
  kept-durable a b rs kept noted has epoch epochs now mended no_rest counted later =
      let w = more_durable rs b.moment a.notes.value in
      record {
        appended = subst (Has b.wal) (sym noted) has;
        epoch = anyway (told b.wal.disk) (epoch ∙ ap (λ (v : Written). last_epoch 0 (durable_records v)) (sym noted));
        epochs = subst (IsInEpochs b.durable) (sym noted) epochs;
        past = subst (λ (v : Written). AreDurableBy b.moment v.groups) (sym noted) (subst (λ (n : ℕ). AreDurableBy n w.groups) (sym now) has.by_now);
        in_time = omega (arith, now);
        since = subst (λ (v : Written). v.origin.since ≤ moment b.wal.disk) (sym noted) (omega (arith, kept.since, later));
        tried = λ broken. absurd (true≢false (sym (ap is_mended mended) ∙ broken));
        no_rest = λ whole _. no_rest (ap (λ (v : Written). v.origin.no_rest) (sym noted) ∙ whole);
        counted = counted;
      }

  -- a group was tried
  pub kept-tried : (a b : Inside D) (rs : List Record) → Kept a → b.notes.value ≡ more_tried rs a.notes.value → Has b.wal (more_tried rs a.notes.value)
      → IfSome (told b.wal.disk) (λ _. b.durable ≡ last_epoch 0 (durable_records a.notes.value)) → IsInEpochs b.durable (more_tried rs a.notes.value) → b.moment ≡ a.moment → b.moment ≤ moment b.wal.disk
      → (IsMended b.wal → ⊥) → b.greatest ≤ faults b.wal.disk → moment a.wal.disk ≤ moment b.wal.disk → Kept b
  kept-tried a b rs kept noted has epoch epochs same in_time broken counted later =
      record {
        appended = subst (Has b.wal) (sym noted) has;
        epoch = subst (λ (v : Written). IfSome (told b.wal.disk) (λ _. b.durable ≡ last_epoch 0 (durable_records v))) (sym noted) epoch;
        epochs = subst (IsInEpochs b.durable) (sym noted) epochs;
        past = subst (λ (v : Written). AreDurableBy b.moment v.groups) (sym noted) (subst (λ (n : ℕ). AreDurableBy n a.notes.value.groups) (sym same) kept.past);
        in_time = in_time;
        since = subst (λ (v : Written). v.origin.since ≤ moment b.wal.disk) (sym noted) (omega (arith, kept.since, later));
        tried = λ _ none. some (sym (ap (λ (v : Written). v.failed) noted) ∙ none);
        no_rest = λ _ mended. absurd (broken (flag-mended b.wal.attempt mended));
        counted = counted;
      }
    where
      some : {x : Tried} {xs : List Tried} → x ∷ xs ≡ [] → ⊥
      some h = let e = ap length h in absurd (omega (arith, e))

-- where a disk told its bytes it tells them, and what held of them holds
pub told-on : (t u : Option (List ℕ)) (A : Type 0) → StillTells t u → IfSome t (λ _. A) → IfSome u (λ _. A)
told-on None None A told a = tt
told-on None (Some y) A told a = absurd told
told-on (Some x) None A told a = tt
told-on (Some x) (Some y) A told a = a
