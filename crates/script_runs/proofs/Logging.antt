-- What the close of a store tells of the log of the scripts that were run on it, and of its faults.
use Rattle.std.proofs.Common.{◌≡◌, ℕ, ◌≤◌, List, [], ◌∷◌, ◌++◌, length, refl, sym, ap, ◌∙◌, subst, arith, Option, Some, None, is_some}
use Rattle.std.proofs.lemmas.Bool.{true≢false, false≢true}
use Rattle.std.proofs.lemmas.List.{length-map}
use Rattle.std.specs.Prelude.{Result, Ok, Err, IfSome, OnOk, IfErr}
use Rattle.io_edges.specs.Faults.{Rose}
use Rattle.graph_model.specs.declared.graph.Base.{Base}
use Rattle.graph_model.specs.declared.record.Record.{Record}
use Rattle.graph_model.specs.Records.{list_most}
use Rattle.graph_legal.specs.Lines.{Phase, Replied, history}
use Rattle.request_text.specs.declared.reply.Reply.{Reply}
use Rattle.disk_model.specs.Images.{EachImage, Only, StillTells}
use Rattle.group_codec.specs.Log.{Recovers}
use Rattle.graph_wal.specs.Appends.{Durable, Tried, MayLeave}
use Rattle.graph_wal.specs.declared.disk_fault.DiskFault.{DiskFault}
use Rattle.core_states.specs.Faults.{FailedAs, AllFailed}
use Rattle.core_states.specs.LogParts.{Found, Firmness}
use Rattle.core_states.specs.Parts.{Parts, state_of_parts}
use Rattle.core_states.specs.States.{State}
use Rattle.core_kept.proofs.Beginning.{none_some}
use Rattle.core_states.proofs.Names.{some_is}
use Rattle.graph_workers.specs.Faults.{FaultsTold, IsToldFailed}
use Rattle.turn_board.specs.Views.{Done, Start, View, start_of}
use Rattle.store_log.specs.LogValues.{found_on, where_told}
use Rattle.store_log.specs.Written.{Origin, Written, AreOfEpochs, AreTriedNext, firmness_of, moments_of, groups_of}
use Rattle.store_opening.specs.Opened.{start_with}
use Rattle.graph_store.specs.declared.closing.Closed.{Closed}
use Rattle.graph_store.specs.Closing.{IsClosed}
use Rattle.worker_runs.specs.Runs.{AllDid, IsToldOf}
use Rattle.worker_runs.proofs.Closes.{tell_of_groups, are_told}
use Rattle.script_runs.specs.Logged.{AreTold, IsInLog, CountFaults, HasGoneOn, count_before}
use Rattle.store_workers.specs.Phases.{HasRunPhases}
use Rattle.store_workers.proofs.Phasing.{all-did}

-- what holds of the bytes that a disk tells, and what follows from it
where-told : {P Q : List ℕ → Type 0} (t : Option (List ℕ)) → ((bytes : List ℕ) → t ≡ Some bytes → P bytes → Q bytes) → IfSome t P → IfSome t Q
where-told None f p = tt
where-told (Some b) f p = f b refl p

-- it tells them where it did
told-before : (t u : Option (List ℕ)) → is_some u ≡ is_some t → StillTells t u
told-before None None e = tt
told-before None (Some y) e = absurd (true≢false e)
told-before (Some x) None e = absurd (false≢true e)
told-before (Some x) (Some y) e = tt

told-where : (t : Option (List ℕ)) (rs : List Record) → is_some (where_told t rs) ≡ is_some t
told-where None rs = refl
told-where (Some b) rs = refl

found-where : (t : Option (List ℕ)) (rs qs : List Record) → where_told t rs ≡ Some qs → rs ≡ qs
found-where None rs qs e = absurd (none_some qs e)
found-where (Some b) rs qs e = some_is rs qs e

-- the records that were tried are told of
all-told : (s : State) (lines : List Replied) (failed : List Tried) → ((b a : ℕ) (r : Record) → FailedAs s b a r → IsToldFailed b a r lines) → AllFailed s (groups_of failed) → AreTold failed lines
all-told s lines [] told all = tt
all-told s lines (t ∷ failed) told all = (λ r m. let h = all.0 r m in (h.0, h.1, told h.0 h.1 r h.2), all-told s lines failed told all.1)

-- the counts of faults before the last mending are not below those of the groups
counted-before : (greatest exit : ℕ) (mended : Result (Unit {0}) DiskFault) → greatest ≤ exit → IfErr mended (λ e. (greatest ≤ e.before) × Rose e.before e.after × (e.after ≡ exit)) → greatest ≤ count_before mended exit
counted-before greatest exit (Ok done) low fault = low
counted-before greatest exit (Err e) low fault = fault.0

mending-told : (entry greatest exit : ℕ) (mended : Result (Unit {0}) DiskFault) → entry ≤ greatest → IfErr mended (λ e. (greatest ≤ e.before) × Rose e.before e.after × (e.after ≡ exit)) → IfErr mended (λ e. (entry ≤ e.before) × Rose e.before e.after × (e.after ≡ exit))
mending-told entry greatest exit (Ok done) low fault = tt
mending-told entry greatest exit (Err e) low fault = (omega (arith, low, fault.0), fault.1, fault.2)

on-ok : {A B : Type 0} {P Q : Type 0} (r : Result A B) → (P → Q) → OnOk r P → OnOk r Q
on-ok (Ok x) f p = f p
on-ok (Err e) f p = tt

module _ {D : Type 0} (told : D → Option (List ℕ)) (moment : D → ℕ) (images : D → ℕ → List ℕ → Type 0) (faults : D → ℕ) (base : Base) (old : D) (origin : Origin) (shards : ℕ) where
  module _ (v : View) (closed : Closed D) (parts : Parts) (run : List Done) (w : Written) (start : start_of v ≡ start_with base list_most (found_on told faults old origin) shards) (is : IsClosed told moment images faults v parts run w closed) where
    found_is : v.found ≡ found_on told faults old origin
    found_is = ap (λ (s : Start). s.found) start

    firm_is : firmness_of w.origin ≡ firmness_of origin
    firm_is = sym is.logged.firm ∙ ap (λ (f : Found). f.firm) found_is

    since_is : w.origin.since ≡ origin.since
    since_is = ap (λ (f : Firmness). f.since) firm_is

    base_is : v.base ≡ base
    base_is = ap (λ (s : Start). s.base) start

    records_is : IfSome (told closed.disk) (λ _. w.origin.base ≡ origin.base)
    records_is = where-told (told closed.disk) (λ bytes t found. sym (found-where (told old) origin.base w.origin.base (sym (ap (λ (f : Found). f.records) found_is) ∙ found))) is.logged.found

    -- the log was opened at the base's epoch
    epoch_is : moments_of w.groups ≡ closed.durable_at → w.origin.epoch ≡ base.epoch
    epoch_is same =
        let many : length w.groups ≡ length closed.durable_at = sym (length-map w.groups (λ (g : Durable). g.moment)) ∙ ap (λ (ms : List ℕ). length ms) same in
        let count = is.groups.count in
        let epochs = is.epochs.count in
        let own : w.origin.epoch ≡ v.base.epoch = omega (arith, many, count, epochs) in
        own ∙ ap (λ (b : Base). b.epoch) base_is

    -- no fault was counted to less than the disk's count at entry
    counted-from : faults old ≤ parts.log.greatest
    counted-from =
        let opened : parts.log.opening_count ≡ faults old = ap (λ (f : Found). f.count) is.ran.opened.1 ∙ ap (λ (f : Found). f.count) found_is in
        let low = is.ran.reached.kept.4.count in
        omega (arith, opened, low)

    pub goes-on : HasGoneOn told moment faults origin.since old closed.disk
    goes-on = record {
      tells = told-before (told old) (told closed.disk) (is.logged.tells ∙ (ap (λ (f : Found). is_some f.records) found_is ∙ told-where (told old) origin.base));
      later = subst (λ (n : ℕ). n ≤ moment closed.disk) since_is is.logged.since;
      count =
          let opened : parts.log.opening_count ≡ faults old = ap (λ (f : Found). f.count) is.ran.opened.1 ∙ ap (λ (f : Found). f.count) found_is in
          let low = is.ran.reached.kept.4.count in
          let high = is.counted in
          omega (arith, opened, low, high);
    }

    module _ (phases : List Phase) (rs : List Reply) (ran : HasRunPhases phases rs v) where
      abbrev lines : List Replied
      lines = history phases rs

      did : AllDid v (history phases rs)
      did = all-did phases rs v ran

      toldof : IsToldOf v parts run
      toldof = record { reached = is.ran.reached; opened = is.ran.opened; limits = ap (λ (s : Start). s.limits) start; own = is.ran.own; began = is.ran.began }

      pub in-log : IsInLog told moment images origin base.epoch lines closed
      in-log = record {
        groups = w.groups;
        failed = w.failed;
        all = is.logged.all;
        moments = is.logged.moments;
        epochs = where-told (told closed.disk) (λ bytes t same. subst (λ (n : ℕ). AreOfEpochs n w.groups) (epoch_is same) is.groups.groups) is.logged.moments;
        next = where-told (told closed.disk) (λ bytes t same. subst (λ (n : ℕ). AreTriedNext n w.failed) (epoch_is same) is.groups.failed) is.logged.moments;
        answered = where-told (told closed.disk) (λ bytes t all. all-told (state_of_parts v.base parts) lines w.failed (are_told v parts run phases rs did toldof) all) is.failed;
        past = is.logged.past;
        in_time = is.logged.in_time;
        crash = both (told closed.disk) records_is is.logged.crash;
        settled = on-ok closed.mended (settled-at (told closed.disk) records_is) is.logged.settled;
        no_rest = on-ok closed.mended (λ rest whole. rest (ap (λ (f : Firmness). f.no_rest) firm_is ∙ whole)) is.logged.no_rest;
      }
        where
          both : (t : Option (List ℕ)) → IfSome t (λ _. w.origin.base ≡ origin.base) → IfSome t (λ _. EachImage moment images closed.disk w.origin.since (MayLeave w.origin.base w.groups w.failed))
              → IfSome t (λ _. EachImage moment images closed.disk origin.since (MayLeave origin.base w.groups w.failed))
          both None same crash = tt
          both (Some b) same crash = subst (λ (z : ℕ × List Record). EachImage moment images closed.disk z.0 (MayLeave z.1 w.groups w.failed)) (λ i. (since_is i, same i)) crash

          settled-at : (t : Option (List ℕ)) → IfSome t (λ _. w.origin.base ≡ origin.base)
              → IfSome t (λ bytes. Only bytes (images closed.disk (moment closed.disk)) × Recovers bytes (w.origin.base ++ closed.records) closed.durable_length)
              → IfSome t (λ bytes. Only bytes (images closed.disk (moment closed.disk)) × Recovers bytes (origin.base ++ closed.records) closed.durable_length)
          settled-at None same settled = tt
          settled-at (Some b) same settled = subst (λ (x : List Record). Only b (images closed.disk (moment closed.disk)) × Recovers b (x ++ closed.records) closed.durable_length) same settled

      pub count-faults : CountFaults (faults old) (faults closed.disk) closed.mended lines
      count-faults =
          let told_of : FaultsTold v.found (state_of_parts v.base parts) lines = tell_of_groups v parts run lines did toldof in
          let low = counted-before parts.log.greatest (faults closed.disk) closed.mended is.counted is.disk_fault in
          let entry : v.found.count ≡ faults old = ap (λ (f : Found). f.count) found_is in
          record {
            rose = λ before after some. let r = told_of.rose before after some in (omega (arith, entry, r.0), r.1, omega (arith, low, r.2));
            apart = told_of.apart;
            few = told_of.few;
            mending = mending-told (faults old) parts.log.greatest (faults closed.disk) closed.mended counted-from is.disk_fault;
          }
