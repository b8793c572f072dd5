-- What the values of the turns and the run of the board say together, when a store is closed.
use Rattle.std.proofs.Common.{◌≡◌, ℕ, ◌+◌, ◌≤◌, Bool, true, List, [], ◌∷◌, ◌++◌, refl, sym, ap, ◌∙◌, subst, Option, Some, None, is_some, append-nil}
use Rattle.std.specs.Prelude.{if◌then◌else◌, flat_map, Result, Ok, Err, IfSome, OnOk, IfErr}
use Rattle.io_edges.specs.Faults.{Rose}
use Rattle.graph_model.specs.declared.graph.Base.{Base}
use Rattle.graph_model.specs.declared.record.Record.{Record}
use Rattle.graph_model.specs.Records.{last_epoch}
use Rattle.disk_model.specs.Images.{GoesOn, Only, StillTells}
use Rattle.group_codec.specs.Log.{Recovers}
use Rattle.graph_wal.specs.declared.disk_fault.DiskFault.{DiskFault}
use Rattle.graph_wal.specs.declared.wal.Wal.{Wal}
use Rattle.graph_wal.specs.Appends.{AreDurableBy, HasAppended}
use Rattle.graph_wal.specs.Log.{HasNoRest, IsMended, IsSettled}
use Rattle.core_states.specs.declared.disk_records.DiskRecords.{DiskRecords}
use Rattle.core_states.specs.Durability.{is_unpublished, unpublished, unpublished_moment}
use Rattle.core_states.specs.Faults.{AllFailed, tried_on, TriedHaveFailed}
use Rattle.core_states.specs.Laters.{opened_records}
use Rattle.core_states.specs.LogParts.{LogPart, Found}
use Rattle.core_states.specs.Names.{Name}
use Rattle.core_states.specs.Numbers.{numbered}
use Rattle.core_states.specs.Parts.{Parts, state_of_parts}
use Rattle.core_states.specs.States.{State}
use Rattle.core_kept.specs.Bounds.{Kept}
use Rattle.core_kept.proofs.Keeping.{opening_kept, step_kept}
use Rattle.core_states.specs.Openings.{MayOpen}
use Rattle.core_states.specs.RowEvents.{Limits}
use Rattle.core_laws.proofs.Sounds.{kept_sound}
use Rattle.core_laws.proofs.TriedGroups.{opening_tried, tried_stay}
use Rattle.turn_board.specs.Views.{Done, View}
use Rattle.turn_board.specs.Histories.{Reached, found_by, reached}
use Rattle.store_log.specs.Written.{Written, durable_records, disk_of, IsInEpochs, firmness_of, moments_of, groups_of}
use Rattle.store_log.proofs.Keeping.{told-on}
use Rattle.graph_store.specs.Closing.{IsRunOf, HasEpochs, IsClosed}

-- the records of a run and their moments
has-epochs : (base : Base) (parts : Parts) (run : List Done) → Reached base parts run → HasEpochs base parts.clock.records parts.clock.moments parts.log.moment
has-epochs base parts run r =
    let s : State = state_of_parts base parts in
    let sound = kept_sound base parts.limits s r.may.good r.allowed r.kept in
    let d = r.kept.4 in
    record { continues = sound.history.continues; count = d.moments ∙ sound.history.last; rise = d.rise; past = d.past }

-- where nobody leads a commit, the last durable epoch is the last one
last-durable : (base : Base) (parts : Parts) (run : List Done) → Reached base parts run → parts.log.holder ≡ None → parts.log.durable ≡ last_epoch base.epoch parts.clock.records
last-durable base parts run r idle =
    let s : State = state_of_parts base parts in
    let sound = kept_sound base parts.limits s r.may.good r.allowed r.kept in
    r.kept.4.epoch ∙ ap (λ (h : Option Name). if is_unpublished h s.actor then s.clock.last + 1 else s.clock.last) idle ∙ sound.history.last

-- and the durable records are those that were found and the published ones
all-durable : (base : Base) (parts : Parts) (run : List Done) → Reached base parts run → parts.log.holder ≡ None → (d : DiskRecords) → parts.log.disk ≡ Some d → d.durable ≡ d.opened ++ parts.clock.records
all-durable base parts run r idle d told =
    let s : State = state_of_parts base parts in
    (r.kept.4.disk d told).durable ∙ ap (λ (h : Option Name). d.opened ++ (s.clock.records ++ numbered (s.clock.last + 1) (unpublished h s.actor))) idle
    ∙ ap (λ (rs : List Record). d.opened ++ rs) (append-nil s.clock.records)

-- and the moments of the durable groups are those of the published ones
all-moments : (base : Base) (parts : Parts) (run : List Done) → Reached base parts run → parts.log.holder ≡ None → (d : DiskRecords) → parts.log.disk ≡ Some d → d.moments ≡ parts.clock.moments
all-moments base parts run r idle d told =
    let s : State = state_of_parts base parts in
    (r.kept.4.disk d told).moments ∙ ap (λ (h : Option Name). s.clock.moments ++ unpublished_moment s.log.moment (is_unpublished h s.actor)) idle ∙ append-nil s.clock.moments

-- each record that was tried in vain is that of a failed transaction, along the run
kept-along : (base : Base) (most : Limits) (found : Found) (run : List Done) → MayOpen base most → Kept base most (reached most base found run)
kept-along base most found [] may = opening_kept base found most may
kept-along base most found (e ∷ run) may = step_kept base most (reached most base found run) e.by e.act (kept-along base most found run may)

tried-along : (base : Base) (most : Limits) (found : Found) (run : List Done) → MayOpen base most → TriedHaveFailed (reached most base found run)
tried-along base most found [] may = opening_tried base found
tried-along base most found (e ∷ run) may = tried_stay base most (reached most base found run) e.by e.act (kept-along base most found run may) (tried-along base most found run may)

all-tried : (base : Base) (parts : Parts) (run : List Done) → Reached base parts run → TriedHaveFailed (state_of_parts base parts)
all-tried base parts run r = subst TriedHaveFailed (sym r.is) (tried-along base parts.limits (found_by parts.log) run r.may)

-- what a log part says of a disk that tells its bytes
tells-told : (t : Option (List ℕ)) (m : Bool) (w : Written) (disk : Option DiskRecords) (found : Option (List Record)) → disk ≡ disk_of t m w → opened_records disk ≡ found → is_some t ≡ is_some found
tells-told None m w disk found is of = ap is_some (sym (ap opened_records is) ∙ of)
tells-told (Some b) m w disk found is of = ap is_some (sym (ap opened_records is) ∙ of)

still-told : (t u : Option (List ℕ)) → StillTells t u → is_some u ≡ is_some t
still-told None None still = refl
still-told None (Some y) still = absurd still
still-told (Some x) None still = absurd still
still-told (Some x) (Some y) still = refl

moments-told : (t : Option (List ℕ)) (m : Bool) (w : Written) (disk : Option DiskRecords) (ms : List ℕ) → disk ≡ disk_of t m w → ((d : DiskRecords) → disk ≡ Some d → d.moments ≡ ms) → IfSome t (λ _. moments_of w.groups ≡ ms)
moments-told None m w disk ms is all = tt
moments-told (Some b) m w disk ms is all = all _ is

failed-told : (t : Option (List ℕ)) (m : Bool) (w : Written) (s : State) → s.log.disk ≡ disk_of t m w → TriedHaveFailed s → IfSome t (λ _. AllFailed s (groups_of w.failed))
failed-told None m w s is all = tt
failed-told (Some b) m w s is all = subst (λ (o : Option DiskRecords). AllFailed s (tried_on o)) is all

found-told : (t : Option (List ℕ)) (m : Bool) (w : Written) (disk : Option DiskRecords) (found : Option (List Record)) → disk ≡ disk_of t m w → opened_records disk ≡ found → IfSome t (λ _. found ≡ Some w.origin.base)
found-told None m w disk found is of = tt
found-told (Some b) m w disk found is of = sym of ∙ ap opened_records is

all-told : (t : Option (List ℕ)) (m : Bool) (w : Written) (disk : Option DiskRecords) (rs : List Record) → disk ≡ disk_of t m w → ((d : DiskRecords) → disk ≡ Some d → d.durable ≡ d.opened ++ rs) → IfSome t (λ _. durable_records w ≡ w.origin.base ++ rs)
all-told None m w disk rs is all = tt
all-told (Some b) m w disk rs is all = all _ is

-- what is behind a list that two begin with
behind-same : (xs ys zs : List Record) → xs ++ ys ≡ xs ++ zs → ys ≡ zs
behind-same [] ys zs e = e
behind-same (x ∷ xs) ys zs e = behind-same xs ys zs (let rest : ◌≡◌ {A = List Record} (xs ++ ys) (xs ++ zs) = (cc) in rest)

groups-told : (t : Option (List ℕ)) (w : Written) (rs : List Record) → IfSome t (λ _. durable_records w ≡ w.origin.base ++ rs) → IfSome t (λ _. flat_map (λ g. g.group) w.groups ≡ rs)
groups-told None w rs all = tt
groups-told (Some b) w rs all = behind-same w.origin.base (flat_map (λ g. g.group) w.groups) rs all

settled-told : (t : Option (List ℕ)) (P : List Record → List ℕ → Type 0) (rs qs : List Record) → IfSome t (λ _. rs ≡ qs) → IfSome t (P rs) → IfSome t (P qs)
settled-told None P rs qs same settled = tt
settled-told (Some b) P rs qs same settled = subst (λ (x : List Record). P x b) same settled

on-ok : {A B : Type 0} {P Q : Type 0} (r : Result A B) → (P → Q) → OnOk r P → OnOk r Q
on-ok (Ok x) f p = f p
on-ok (Err e) f p = tt

module _ {D : Type 0} (told : D → Option (List ℕ)) (moment : D → ℕ) (images : D → ℕ → List ℕ → Type 0) (faults : D → ℕ) where
  pub closes : (v : View) (parts : Parts) (run : List Done) (log : LogPart) (w : Written) (old : D) (wal : Wal D) (last : ℕ) (mended : Result (Unit {0}) DiskFault) → IsRunOf v parts run → parts.log ≡ log
      → HasAppended told moment images wal w.origin.since w.origin.base w.groups w.failed → log.holder ≡ None → log.disk ≡ disk_of (told old) log.mended w → IsInEpochs log.durable w
      → (last ≡ log.moment) × AreDurableBy last w.groups × (last ≤ moment wal.disk) → OnOk mended (IsMended wal × IsSettled told moment images wal (durable_records w))
      → IfErr mended (λ e. (log.greatest ≤ e.before) × Rose e.before e.after × (e.after ≡ faults wal.disk)) → log.greatest ≤ faults wal.disk
      → OnOk mended (w.origin.no_rest ≡ true → HasNoRest told wal) → GoesOn told moment images faults old wal.disk → log.firm ≡ firmness_of w.origin → w.origin.since ≤ moment wal.disk
      → IsClosed told moment images faults v parts run w (record { records = parts.clock.records; durable_at = parts.clock.moments; durable_length = wal.durable; last_moment = last; mended = mended; disk = wal.disk })
  closes v parts run log w old wal last mended ran log_is has idle shown epochs past settled fault counted no_rest keeps firm since =
      let r = ran.reached in
      let free : parts.log.holder ≡ None = ap (λ (g : LogPart). g.holder) log_is ∙ idle in
      let disk : parts.log.disk ≡ disk_of (told old) log.mended w = ap (λ (g : LogPart). g.disk) log_is ∙ shown in
      let now : last ≡ parts.log.moment = past.0 ∙ ap (λ (g : LogPart). g.moment) (sym log_is) in
      let durable : log.durable ≡ last_epoch v.base.epoch parts.clock.records = ap (λ (g : LogPart). g.durable) (sym log_is) ∙ last-durable v.base parts run r free in
      let found = ap (λ (f : Found). f.records) ran.opened.1 in
      let all : IfSome (told wal.disk) (λ _. durable_records w ≡ w.origin.base ++ parts.clock.records)
      = told-on (told old) (told wal.disk) (durable_records w ≡ w.origin.base ++ parts.clock.records) keeps.tells (all-told (told old) log.mended w parts.log.disk parts.clock.records disk (all-durable v.base parts run r free)) in
      record {
        ran = ran;
        records = refl;
        moments = refl;
        last_moment = now;
        epochs = subst (HasEpochs v.base parts.clock.records parts.clock.moments) (sym now) (has-epochs v.base parts run r);
        logged = record {
          tells = still-told (told old) (told wal.disk) keeps.tells ∙ tells-told (told old) log.mended w parts.log.disk v.found.records disk found;
          firm = ap (λ (f : Found). f.firm) (sym ran.opened.1) ∙ ap (λ (g : LogPart). g.firm) log_is ∙ firm;
          moments = told-on (told old) (told wal.disk) (moments_of w.groups ≡ parts.clock.moments) keeps.tells (moments-told (told old) log.mended w parts.log.disk parts.clock.moments disk (all-moments v.base parts run r free));
          since = since;
          found = told-on (told old) (told wal.disk) (v.found.records ≡ Some w.origin.base) keeps.tells (found-told (told old) log.mended w parts.log.disk v.found.records disk found);
          all = groups-told (told wal.disk) w parts.clock.records all;
          past = past.1;
          in_time = past.2;
          crash = has.crash;
          settled = on-ok mended (λ both. settled-told (told wal.disk) (λ rs bytes. Only bytes (images wal.disk (moment wal.disk)) × Recovers bytes rs wal.durable) (durable_records w) (w.origin.base ++ parts.clock.records) all both.1) settled;
          no_rest = no_rest;
        };
        groups = subst (λ (n : ℕ). IsInEpochs n w) durable epochs;
        failed = told-on (told old) (told wal.disk) (AllFailed (state_of_parts v.base parts) (groups_of w.failed)) keeps.tells (failed-told (told old) log.mended w (state_of_parts v.base parts) disk (all-tried v.base parts run r));
        idle = free;
        counted = subst (λ (g : LogPart). g.greatest ≤ faults wal.disk) (sym log_is) counted;
        disk_fault = subst (λ (g : LogPart). IfErr mended (λ e. (g.greatest ≤ e.before) × Rose e.before e.after × (e.after ≡ faults wal.disk))) (sym log_is) fault;
      }
