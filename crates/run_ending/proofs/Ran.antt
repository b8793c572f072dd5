-- What a run leaves on the log that was opened.
use Rattle.std.proofs.Common.{◌≡◌, ℕ, ◌+◌, ◌<◌, ◌≤◌, zero, suc, Bool, true, false, List, ◌++◌, length, refl, sym, ap, ◌∙◌, subst, inl, inr, arith, Option, Some, None, Result, Ok, Err}
use Rattle.std.proofs.lemmas.Bool.{false≢true}
use Rattle.std.specs.Prelude.{IfSome, IfErr, IsOk, OnOk}
use Rattle.io_edges.specs.Faults.{Rose}
use Rattle.io_edges.specs.declared.write_fault.WriteFault.{WriteFault}
use Rattle.graph_model.specs.declared.record.Record.{Record}
use Rattle.graph_model.specs.declared.graph.Base.{Base}
use Rattle.disk_model.specs.Images.{StillTells, EachImage, Only, GoesOn}
use Rattle.request_text.specs.declared.reply.Reply.{Reply}
use Rattle.group_codec.specs.Log.{Recovers}
use Rattle.graph_legal.specs.Lines.{Phase, Replied, history}
use Rattle.graph_legal.specs.Legal.{Legal}
use Rattle.graph_wal.specs.Appends.{MayLeave}
use Rattle.graph_wal.specs.declared.disk_fault.DiskFault.{DiskFault}
use Rattle.graph_recover.specs.Bases.{base_of}
use Rattle.log_commands.specs.declared.status.Status.{Status}
use Rattle.log_commands.specs.declared.status.Status.TheVariants as status
use Rattle.run_opening.specs.Opening.{IsOpened}
use Rattle.store_log.specs.Written.{Origin}
use Rattle.graph_workers.specs.Faults.{log_faults}
use Rattle.graph_store.specs.Closing.{HasEpochs}
use Rattle.graph_store.specs.declared.closing.Closed.{Closed}
use Rattle.script_runs.specs.Logged.{IsInLog, CountFaults, HasGoneOn, count_before}
use Rattle.run_ending.specs.Ending.{IsOrigin, status_after, report_of}
use Rattle.run_ending.specs.Ran.{Ran, TellFaults, told_count}
use Rattle.run_ending.proofs.Opened.{settled-final}

from-ok : {A B : Type 0} {P : Type 0} (r : Result A B) → IsOk r → OnOk r P → P
from-ok (Ok x) ok is = is
from-ok (Err e) ok is = absurd (false≢true ok)

no-positive : (n : ℕ) → (0 < n → ⊥) → n ≡ 0
no-positive zero none = refl
no-positive (suc n) none = absurd (none (omega arith))

tells-on : (a b c : Option (List ℕ)) → StillTells a b → StillTells b c → StillTells a c
tells-on None None None x y = tt
tells-on None None (Some c) x y = y
tells-on None (Some b) c x y = absurd x
tells-on (Some a) None c x y = absurd x
tells-on (Some a) (Some b) None x y = y
tells-on (Some a) (Some b) (Some c) x y = tt

-- the disk went on, of which less is said of the images
pub gone_on : {D : Type 0} (told : D → Option (List ℕ)) (moment : D → ℕ) (images : D → ℕ → List ℕ → Type 0) (faults : D → ℕ) (old new : D) → GoesOn told moment images faults old new → HasGoneOn told moment faults (moment old) old new
gone_on told moment images faults old new on = record { tells = on.tells; later = on.later; count = on.count }

-- the disk went on twice
pub gone-on : {D : Type 0} (told : D → Option (List ℕ)) (moment faults : D → ℕ) (m n : ℕ) (a b c : D) → m ≤ n → HasGoneOn told moment faults m a b → HasGoneOn told moment faults n b c → HasGoneOn told moment faults m a c
gone-on told moment faults m n a b c le first second = record {
  tells = tells-on (told a) (told b) (told c) first.tells second.tells;
  later = let later = second.later in omega (arith, le, later);
  count = let one = first.count in let two = second.count in omega (arith, one, two);
}

-- the fault of the last mending lies within the run
pub mending-within : (mended : Result (Unit {0}) DiskFault) (old entry exit : ℕ) → old ≤ entry → IfErr mended (λ e. (entry ≤ e.before) × Rose e.before e.after × (e.after ≡ exit)) → IfErr mended (λ e. (old ≤ e.before) × (e.after ≡ exit) × Rose e.before e.after)
mending-within (Ok done) old entry exit le fault = tt
mending-within (Err e) old entry exit le fault = (omega (arith, le, fault.0), fault.2, fault.1)

-- the count before it is no greater than that at the end, nor than that which the status tells
rose-kept : (m n : ℕ) → Rose m n → m ≤ n
rose-kept m n (inl less) = omega (arith, less)
rose-kept m n (inr most) = omega (arith, most.0, most.1)

pub before-exit : (mended : Result (Unit {0}) DiskFault) (entry exit : ℕ) → IfErr mended (λ e. (entry ≤ e.before) × Rose e.before e.after × (e.after ≡ exit)) → count_before mended exit ≤ exit
before-exit (Ok done) entry exit fault = omega arith
before-exit (Err e) entry exit fault = let kept = rose-kept e.before e.after fault.1 in omega (arith, kept, fault.2)

pub counted : (printed : Result (Unit {0}) WriteFault) (mended : Result (Unit {0}) DiskFault) (exit : ℕ) → count_before mended exit ≤ exit → count_before mended exit ≤ told_count (status_after printed mended) exit
counted (Err write) (Ok done) exit le = omega arith
counted (Err write) (Err fault) exit le = le
counted (Ok done) (Ok also) exit le = omega arith
counted (Ok done) (Err fault) exit le = omega arith

module _ {D : Type 0} (told : D → Option (List ℕ)) (moment : D → ℕ) (images : D → ℕ → List ℕ → Type 0) (faults : D → ℕ) (settled : Bool) (durable : ℕ) (old d : D) (records : List Record) (base : Base) (origin : Origin) (phases : List Phase) (setup replies : List Reply) (closed : Closed D) (s : Status) where
  end : D
  end = closed.disk

  lines : List Replied
  lines = history phases (setup ++ replies)

  -- what a run of these phases leaves that was not for want of memory after them
  pub has_ran :
      IsOpened told moment images old d records base durable
      → IsOrigin told moment images d records base origin
      → moment old ≤ origin.since → (settled ≡ true → origin.since ≡ moment old)
      → HasGoneOn told moment faults (moment old) old d
      → Legal phases base closed.records (setup ++ replies)
      → IsInLog told moment images origin base.epoch (history phases (setup ++ replies)) closed
      → HasEpochs base closed.records closed.durable_at closed.last_moment
      → CountFaults (faults d) (faults closed.disk) closed.mended (history phases (setup ++ replies))
      → HasGoneOn told moment faults origin.since d closed.disk
      → (s ≡ status.Done → IsOk closed.mended)
      → count_before closed.mended (faults closed.disk) ≤ told_count s (faults closed.disk)
      → Ran told moment images faults settled phases records old closed.disk (report_of base setup replies closed) s
  unfolding end lines
  has_ran o from since at_entry first legal log epochs count second done told_most =
      let exit = faults closed.disk in
      let mended = closed.mended in
      let entry = first.count in
      let before : count_before mended exit ≤ exit = before-exit mended (faults d) exit count.mending in
      record {
        legal = record {
          lawful = o.lawful;
          was = o.was;
          base_is = ap (λ (b : Base). b.graph) o.base_is;
          epoch_is = ap (λ (b : Base). b.epoch) o.base_is;
          legal = subst (λ (b : Base). Legal phases b closed.records (setup ++ replies)) o.base_is legal;
        };
        crash = record {
          groups = log.groups;
          failed = log.failed;
          all = log.all;
          moments = log.moments;
          epochs = log.epochs;
          next = log.next;
          answered = log.answered;
          one_each = subst (λ (b : Base). HasEpochs b closed.records closed.durable_at closed.last_moment) o.base_is epochs;
          by_last = log.past;
          by_now = log.in_time;
          since = origin.since;
          opened = since;
          by_end = second.later;
          at_entry = at_entry;
          any_moment = subst (λ (b : List Record). IfSome (told end) (λ _. EachImage moment images end origin.since (MayLeave b log.groups log.failed))) from.base_is log.crash;
        };
        final = λ ends.
            let ok = done ends in
            settled-final (told end) (images end (moment end)) (records ++ closed.records) closed.durable_length
            (subst (λ (b : List Record). IfSome (told end) (λ bytes. Only bytes (images end (moment end)) × Recovers bytes (b ++ closed.records) closed.durable_length)) from.base_is (from-ok mended ok log.settled))
            (from-ok mended ok log.no_rest from.no_rest);
        calm = λ quiet. λ b a.
            no-positive (log_faults b a lines) (λ some.
            let rose = count.rose b a some in
            let less : faults old < exit = omega (arith, entry, before, rose.0, rose.1, rose.2) in
            quiet (inl less));
        faults_told = record {
          rose = λ b a some.
              let rose = count.rose b a some in
              (omega (arith, entry, rose.0), rose.1, omega (arith, told_most, rose.2));
          apart = count.apart;
          few = count.few;
        };
        goes_on = gone-on told moment faults (moment old) origin.since old d end since first second;
      }
