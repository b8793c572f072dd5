-- What a leader of commits has collected may be appended.
use Rattle.std.proofs.Common.{◌≡◌, ℕ, ◌+◌, ◌<◌, ◌≤◌, Bool, true, false, List, [], ◌∷◌, ◌++◌, length, refl, sym, ap, ◌∙◌, subst, arith, Option, Some, None, append_assoc, append-nil}
use Rattle.std.specs.Prelude.{if◌then◌else◌, nat_lt, nat_le}
use Rattle.std.proofs.lemmas.Bool.{ltb-true, false≢true}
use Rattle.std.proofs.lemmas.Bool.Decides.{nat_tests}
use Rattle.graph_model.specs.declared.graph.Base.{Base}
use Rattle.graph_model.specs.declared.record.Record.{Record}
use Rattle.graph_model.specs.declared.record.Outcome.TheVariants.{Committed, Failed}
use Rattle.graph_model.specs.Records.{IsGood, Lawful, Continues, number_end, transaction_most}
use Rattle.graph_recover.specs.Bases.{base_of}
use Rattle.graph_recover.proofs.Following.{follows}
use Rattle.group_commit.specs.Encoded.{Encoded}
use Rattle.group_commit.specs.Members.{records_at}
use Rattle.graph_wal.specs.Pieces.{AreWithin}
use Rattle.core_states.specs.declared.actor.Actor.{Actor}
use Rattle.core_states.specs.declared.clock.Clock.{Clock}
use Rattle.core_states.specs.declared.disk_records.DiskRecords.{DiskRecords}
use Rattle.core_states.specs.declared.event.Act.TheVariants as act
use Rattle.core_states.specs.declared.event.CoreAnswer.TheVariants as answer
use Rattle.core_states.specs.Durability.{is_unpublished, unpublished}
use Rattle.core_states.specs.Laters.{opened_records}
use Rattle.core_states.specs.LogEvents.{GroupMove, writes, mends, publishes, fails, without_group}
use Rattle.core_states.specs.LogParts.{LogPart, is_held_by, may_take, with_durable, with_attempt, without_attempt}
use Rattle.core_states.specs.Names.{Name, set_name}
use Rattle.core_states.specs.Numbers.{numbered, settled_as, pending_of}
use Rattle.core_states.specs.Openings.{IsAllowed}
use Rattle.core_states.specs.RowEvents.{Limits}
use Rattle.core_states.specs.States.{State, after, after_log, after_group}
use Rattle.core_states.proofs.Names.{same_name_is, set_name_here, same_name_true}
use Rattle.core_kept.specs.Bounds.{Kept, RecordsFit}
use Rattle.core_kept.proofs.Keeping.{step_kept}
use Rattle.core_laws.proofs.Counts.{last_below}
use Rattle.core_laws.proofs.Sounds.{kept_sound}
use Rattle.store_log.specs.LogChanges.{with_group, with_fault, without_fault, in_hands, MayWrite, IsBaseOf}

-- THE EVENTS of a holder
module _ (i : Name) (log : LogPart) (a : Actor) (held : is_held_by i log.holder ≡ true) where
  pub written-by : (m : ℕ) → a.written ≡ false → log.mended ≡ true → log.moment ≤ m → writes m i log a ≡ Some (record {
    answer = answer.Done;
    log = record log { durable = log.durable + 1; moment = m; disk = with_durable m (numbered (log.durable + 1) a.group) log.disk };
    actor = record a { written = true; looked = None };
  })
  written-by m unwritten mended past =
      let late : nat_lt m log.moment ≡ false = grind (arith, nat_tests) in
      rw (held, unwritten, mended, late) refl

  pub published-by : (k : Clock) → a.written ≡ true → publishes i log k a ≡ Some (record {
    answer = answer.Published (k.last + 1);
    log = record log { holder = None };
    clock = record k {
      last = k.last + 1;
      moments = k.moments ++ log.moment ∷ [];
      pending = k.pending ++ pending_of (k.last + 1) a.group;
      outcomes = k.outcomes ++ settled_as (Committed (k.last + 1)) a.group;
      records = k.records ++ numbered (k.last + 1) a.group;
    };
    actor = without_group (Committed (k.last + 1)) a;
  })
  published-by k written = rw (held, written) refl

  pub failed-by : (k : Clock) (before after : ℕ) → a.written ≡ false → before < after → log.greatest ≤ before → fails before after i log k a ≡ Some (record {
    answer = answer.Done;
    log = record log { holder = None; mended = false; greatest = after; disk = with_attempt (numbered (log.durable + 1) a.group) log.disk };
    clock = record k { outcomes = k.outcomes ++ settled_as (Failed before after) a.group };
    actor = without_group (Failed before after) a;
  })
  failed-by k before after unwritten rose low =
      let up : nat_lt before after ≡ true = grind (arith, nat_tests) in
      let above : nat_le log.greatest before ≡ true = grind (arith, nat_tests) in
      rw (held, unwritten, up, above) refl

may-take : (i : Name) (holder : Option Name) → is_held_by i holder ≡ true → may_take i holder ≡ true
may-take i None held = absurd (false≢true held)
may-take i (Some j) held = held

pub mended-by : (i : Name) (log : LogPart) (a : Actor) → may_take i log.holder ≡ true → log.mended ≡ false → mends i log a ≡ Some (record {
  answer = answer.Done;
  log = record log { mended = true; disk = without_attempt log.disk };
  actor = record a { looked = None };
})
mended-by i log a may broken = rw (broken, may) refl

-- THE STATE in which the group is published: what it adds are the group's records
record Ready (base : Base) (most : Limits) (s : State) (i : Name) (t : State) : Type 0 where
  kept : Kept base most t
  held : is_held_by i t.log.holder ≡ true
  clock : t.clock ≡ s.clock
  group : (t.actor i).group ≡ (s.actor i).group

set-own : (s : State) (i : Name) (b : Actor) → set_name s.actor i b i ≡ b
set-own s i b = set_name_here s.actor i b i refl

-- the log is mended first
mended-first : (base : Base) (most : Limits) (s : State) (i : Name) → Kept base most s → is_held_by i s.log.holder ≡ true → (s.actor i).written ≡ false
    → (t : State) × Ready base most s i t × (t.log.mended ≡ true) × ((t.actor i).written ≡ false)
mended-first base most s i kept held unwritten = by_test s.log.mended refl
  where
    by_test : (b : Bool) → s.log.mended ≡ b → (t : State) × Ready base most s i t × (t.log.mended ≡ true) × ((t.actor i).written ≡ false)
    by_test true mended = (s, record { kept = kept; held = held; clock = refl; group = refl }, mended, unwritten)
    by_test false broken =
        let b : Actor = let a = s.actor i in record a { looked = None } in
        let log : LogPart = let g = s.log in record g { mended = true; disk = without_attempt g.disk } in
        let t : State = record s { log = log; actor = set_name s.actor i b } in
        let is : after most s i act.Mend ≡ t = ap (λ m. after_log s i m) (mended-by i s.log (s.actor i) (may-take i s.log.holder held) broken) in
        let own = set-own s i b in
        (t, record { kept = subst (Kept base most) is (step_kept base most s i act.Mend kept); held = held; clock = refl; group = ap (λ (x : Actor). x.group) own }, refl, ap (λ (x : Actor). x.written) own ∙ unwritten)

-- then the group is written
then-written : (base : Base) (most : Limits) (s t : State) (i : Name) → Ready base most s i t → t.log.mended ≡ true → (t.actor i).written ≡ false → (u : State) × Ready base most s i u × ((u.actor i).written ≡ true)
then-written base most s t i ready mended unwritten =
    let b : Actor = let a = t.actor i in record a { written = true; looked = None } in
    let log : LogPart = let g = t.log in record g { durable = g.durable + 1; moment = g.moment; disk = with_durable g.moment (numbered (g.durable + 1) (t.actor i).group) g.disk } in
    let u : State = record t { log = log; actor = set_name t.actor i b } in
    let is : after most t i (act.WriteGroup t.log.moment) ≡ u = ap (λ m. after_log t i m) (written-by i t.log (t.actor i) ready.held t.log.moment unwritten mended (omega arith)) in
    let own = set-own t i b in
    (u, record { kept = subst (Kept base most) is (step_kept base most t i (act.WriteGroup t.log.moment) ready.kept); held = ready.held; clock = ready.clock; group = ap (λ (x : Actor). x.group) own ∙ ready.group }, ap (λ (x : Actor). x.written) own)

published-records : (most : Limits) (u : State) (i : Name) → is_held_by i u.log.holder ≡ true → (u.actor i).written ≡ true → (after most u i act.Publish).clock.records ≡ u.clock.records ++ numbered (u.clock.last + 1) (u.actor i).group
published-records most u i held written = ap (λ (m : Option GroupMove). (after_group u i m).clock.records) (published-by i u.log (u.actor i) held u.clock written)

-- and published, so the records with the group's continue the base
pub group-continues : (base : Base) (most : Limits) (s : State) (i : Name) → IsGood base → IsAllowed most → Kept base most s → is_held_by i s.log.holder ≡ true → (s.actor i).written ≡ false
    → Continues base (s.clock.records ++ numbered (s.clock.last + 1) (s.actor i).group)
group-continues base most s i good allowed kept held unwritten =
    let first = mended-first base most s i kept held unwritten in
    let next = then-written base most s first.0 i first.1 first.2 first.3 in
    let u = next.0 in let ready = next.1 in
    let is = published-records most u i ready.held next.2 in
    let sound = kept_sound base most (after most u i act.Publish) good allowed (step_kept base most u i act.Publish ready.kept) in
    let there = subst (Continues base) is sound.history.continues in
    subst (λ (x : Clock × List Record). Continues base (x.0.records ++ numbered (x.0.last + 1) x.1)) (λ j. (ready.clock j, ready.group j)) there

-- WHAT IS DURABLE while a leader has collected its group and not written it
holder-is : (i : Name) (holder : Option Name) (actor : Name → Actor) → is_held_by i holder ≡ true → (actor i).written ≡ false → (is_unpublished holder actor ≡ false) × (unpublished holder actor ≡ [])
holder-is i None actor held unwritten = absurd (false≢true held)
holder-is i (Some j) actor held unwritten =
    let same = same_name_is i j held in
    let there : (actor j).written ≡ false = subst (λ (n : Name). (actor n).written ≡ false) same unwritten in
    (there, rw there refl)

base-of-found : (base : Base) (disk : Option DiskRecords) (d : DiskRecords) → disk ≡ Some d → IsBaseOf base (opened_records disk) → Lawful d.opened × (base ≡ base_of d.opened)
base-of-found base disk d is of = subst (λ x. IsBaseOf base (opened_records x)) is of

pub may-write : (base : Base) (most : Limits) (s : State) (i : Name) → IsGood base → IsAllowed most → Kept base most s → IsBaseOf base (opened_records s.log.disk) → is_held_by i s.log.holder ≡ true → (s.actor i).written ≡ false
    → MayWrite s.log (numbered (s.log.durable + 1) (s.actor i).group)
may-write base most s i good allowed kept of held unwritten d told =
    let found = base-of-found base s.log.disk d told of in
    let idle = holder-is i s.log.holder s.actor held unwritten in
    let last : s.log.durable ≡ s.clock.last = kept.4.epoch ∙ ap (λ (b : Bool). if b then s.clock.last + 1 else s.clock.last) idle.0 in
    let durable : d.durable ≡ d.opened ++ s.clock.records
    = (kept.4.disk d told).durable ∙ ap (λ (rs : List Record). d.opened ++ (s.clock.records ++ numbered (s.clock.last + 1) rs)) idle.1 ∙ ap (λ (rs : List Record). d.opened ++ rs) (append-nil s.clock.records) in
    let more = group-continues base most s i good allowed kept held unwritten in
    let lawful = follows d.opened (s.clock.records ++ numbered (s.clock.last + 1) (s.actor i).group) found.0 (subst (λ b. Continues b (s.clock.records ++ numbered (s.clock.last + 1) (s.actor i).group)) found.1 more) in
    let front : Lawful ((d.opened ++ s.clock.records) ++ numbered (s.clock.last + 1) (s.actor i).group)
    = subst Lawful (sym (append_assoc d.opened s.clock.records (numbered (s.clock.last + 1) (s.actor i).group))) lawful in
    subst (λ (x : List Record × ℕ). Lawful (x.0 ++ numbered (x.1 + 1) (s.actor i).group)) (λ j. (sym durable j, sym last j)) front

-- THE MEMBERS of the group
pub numbered-members : (e before : ℕ) (members : List Encoded) → numbered e (records_at before members) ≡ records_at e members
numbered-members e before [] = refl
numbered-members e before (m ∷ members) = ap (λ (rs : List Record). (let r = m.draft in record r { epoch = e }) ∷ rs) (numbered-members e before members)

within-all : (low next most before : ℕ) (members : List Encoded) → most ≤ transaction_most → RecordsFit low next most (records_at before members) → AreWithin members
within-all low next most before [] le fit = tt
within-all low next most before (m ∷ members) le fit = (omega (arith, fit.0.lens, le), within-all low next most before members le fit.2)

some-members : (before : ℕ) (members : List Encoded) → 0 < length (records_at before members) → 0 < length members
some-members before [] some = absurd (omega (arith, some))
some-members before (m ∷ members) some = omega arith

pub members-fit : (base : Base) (most : Limits) (s : State) (i : Name) (before : ℕ) (members : List Encoded) → IsAllowed most → Kept base most s → is_held_by i s.log.holder ≡ true → (s.actor i).group ≡ records_at before members
    → (0 < length members) × AreWithin members
members-fit base most s i before members allowed kept held is = (
  some-members before members (subst (λ (rs : List Record). 0 < length rs) is (kept.4.busy i held)),
  within-all base.next_vertex s.clock.next_vertex most.txn before members allowed.txn (subst (RecordsFit base.next_vertex s.clock.next_vertex most.txn) is (kept.1.groups i)),
)

-- THE LAST durable epoch is within the numbers
pub epoch-within : (base : Base) (most : Limits) (s : State) → IsGood base → Kept base most s → s.log.durable ≤ number_end
epoch-within base most s good kept =
    let low = last_below base kept.0.0 s (ltb-true base.epoch base.next_tid good.epoch) kept.0.1 in
    by_test (is_unpublished s.log.holder s.actor) kept.4.epoch (let next = kept.1.next_tid in omega (arith, low, next))
  where
    by_test : (b : Bool) → s.log.durable ≡ (if b then s.clock.last + 1 else s.clock.last) → s.clock.last < number_end → s.log.durable ≤ number_end
    by_test true is lt = omega (arith, is, lt)
    by_test false is lt = omega (arith, is, lt)

-- THE EVENTS on the log part in an actor's hands
pub own-hands : (i : Name) → is_held_by i (Some i) ≡ true
own-hands i = same_name_true i i refl

pub append-event : (i : Name) (log : LogPart) (a : Actor) (m : ℕ) → a.written ≡ false → log.mended ≡ true → log.moment ≤ m → writes m i (in_hands i log) a ≡ Some (record {
  answer = answer.Done;
  log = in_hands i (with_group m (numbered (log.durable + 1) a.group) log);
  actor = record a { written = true; looked = None };
})
append-event i log a m unwritten mended past = written-by i (in_hands i log) a (own-hands i) m unwritten mended past

pub fault-event : (i : Name) (log : LogPart) (k : Clock) (a : Actor) (before after : ℕ) → log.holder ≡ None → a.written ≡ false → before < after → log.greatest ≤ before → fails before after i (in_hands i log) k a ≡ Some (record {
  answer = answer.Done;
  log = with_fault after (numbered (log.durable + 1) a.group) log;
  clock = record k { outcomes = k.outcomes ++ settled_as (Failed before after) a.group };
  actor = without_group (Failed before after) a;
})
fault-event i log k a before after free unwritten rose low =
    subst (λ (h : Option Name). fails before after i (in_hands i log) k a ≡ Some (record {
      answer = answer.Done;
      log = let g = with_fault after (numbered (log.durable + 1) a.group) log in record g { holder = h };
      clock = record k { outcomes = k.outcomes ++ settled_as (Failed before after) a.group };
      actor = without_group (Failed before after) a;
    })) (sym free) (failed-by i (in_hands i log) a (own-hands i) k before after unwritten rose low)

pub mend-event : (i : Name) (log : LogPart) (a : Actor) → log.mended ≡ false → mends i (in_hands i log) a ≡ Some (record {
  answer = answer.Done;
  log = in_hands i (without_fault log);
  actor = record a { looked = None };
})
mend-event i log a broken = mended-by i (in_hands i log) a (own-hands i) broken
