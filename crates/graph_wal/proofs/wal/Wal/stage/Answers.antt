use Rattle.std.proofs.Common.{◌≡◌, ℕ, List, [], ◌∷◌, ◌++◌, ◌<◌, ◌^◌, ◌+◌, arith, subst, Option, length}
use Rattle.std.specs.Prelude.{IfOk, OnOk, OnErr, Result, Ok, Err}
use Rattle.graph_model.specs.declared.record.Record.{Record}
use Rattle.group_codec.specs.Spelling.{group_bytes}
use Rattle.group_commit.specs.Members.{records_at}
use Rattle.graph_wal.specs.declared.wal.Attempt.{Attempt}
use Rattle.graph_wal.specs.declared.wal.Attempt.TheVariants as attempts
use Rattle.graph_wal.specs.Since.{Since, SameFront}
use Rattle.graph_wal.specs.Pieces.{Wrote}
use Rattle.graph_wal.proofs.Writes.{IfOk-map}
use Rattle.graph_wal.specs.Log.{RecoversToEither, Stands, IsReady, MayAppend}
use Rattle.graph_wal.proofs.Moments.{Since-weaken}
use Rattle.graph_wal.proofs.Standing.{LogAs, FirmAs, mended-joined, mended-kept, mended-either, mended-ready}
use Rattle.graph_wal.proofs.wal.Wal.stage.Goals as goal

pub stage_group-requires-clause-joined : goal.stage_group-requires-clause-joined
stage_group-requires-clause-joined g c =
    let w = c.args.self.now in
    let told = g.D.Disk.told w.disk in
    let left = g.D.Disk.images w.disk (g.D.Disk.moment w.disk) in
    let stands = c.requires.stands in
    mended-joined told w.durable stands.0 stands.1 left (subst (λ (x : Attempt). LogAs told w.durable x stands.0 stands.1 left) c.requires.mended stands.2.log)

-- what a success says, joined
together : {T E : Type 0} (r : Result T E) (P Q : T → Type 0) (A B : Type 0) → IfOk r P → IfOk r Q → OnOk r A → OnOk r B → IfOk r (λ x. P x × Q x × A × B)
together (Ok x) P Q A B p q a b = (p, q, a, b)
together (Err e) P Q A B p q a b = tt

on_err : {T E : Type 0} (r : Result T E) (P : Type 0) → P → OnErr r P
on_err (Ok x) P p = tt
on_err (Err e) P p = p

pub returns-clause-ready : goal.returns-clause-ready
returns-clause-ready g c =
    let w = c.args.self.now in
    let told = g.D.Disk.told w.disk in
    let told' = g.D.Disk.told c.stage_group.new.disk in
    let left = g.D.Disk.images w.disk (g.D.Disk.moment w.disk) in
    let left' = g.D.Disk.images c.stage_group.new.disk (g.D.Disk.moment c.stage_group.new.disk) in
    let group = group_bytes c.args.epoch (records_at c.args.epoch c.args.g.now) in
    let all = c.stage_group.ensures in
    IfOk-map c.stage_group.result
    (λ n. (n ≡ w.durable + length group + 1) × (n < 2 ^ 63) × Wrote told told' w.durable (group ++ 0 ∷ []) × FirmAs told' left')
    (λ end. (r : List Record) (a : Option (List Record)) → Stands g.D.Disk.told g.D.Disk.moment g.D.Disk.images w r a → MayAppend told r c.args.epoch c.args.g.now → IsReady g.D.Disk.told g.D.Disk.moment g.D.Disk.images (record { disk = c.stage_group.new.disk; durable = w.durable; attempt = attempts.Untouched }) r (records_at c.args.epoch c.args.g.now) end)
    (together c.stage_group.result (λ n. n ≡ w.durable + length group + 1) (λ n. n < 2 ^ 63) (Wrote told told' w.durable (group ++ 0 ∷ [])) (FirmAs told' left') all.end all.within all.wrote all.firm)
    (λ end is r a stands next.
    let log : LogAs told w.durable attempts.Mended r a left = subst (λ (x : Attempt). LogAs told w.durable x r a left) c.requires.mended stands.log in
    record {
      long = stands.long;
      short = stands.short;
      end_long = omega (arith, stands.long, is.0);
      end_short = is.1;
      log = mended-ready told told' w.durable end c.args.epoch r a c.args.g.now left left' log is.2 is.3 is.0 next all.spelled c.requires.within c.requires.members all.few (omega arith) all.short;
    })

pub returns-clause-stands : goal.returns-clause-stands
returns-clause-stands g c = λ r a stands.
    let w = c.args.self.now in
    let told = g.D.Disk.told w.disk in
    let told' = g.D.Disk.told c.stage_group.new.disk in
    let left = g.D.Disk.images w.disk (g.D.Disk.moment w.disk) in
    let left' = g.D.Disk.images c.stage_group.new.disk (g.D.Disk.moment c.stage_group.new.disk) in
    let log : LogAs told w.durable attempts.Mended r a left = subst (λ (x : Attempt). LogAs told w.durable x r a left) c.requires.mended stands.log in
    let front = c.stage_group.ensures.front in
    on_err c.stage_group.result (Stands g.D.Disk.told g.D.Disk.moment g.D.Disk.images (record { disk = c.stage_group.new.disk; durable = w.durable; attempt = attempts.Untouched }) r a) (record {
      long = stands.long;
      short = stands.short;
      log = mended-kept told told' w.durable r a a left left' log c.stage_group.ensures.keeps.tells (λ b is. front.each (g.D.Disk.moment c.stage_group.new.disk) b front.later (omega arith) is);
    })

pub returns-clause-any_moment : goal.returns-clause-any_moment
returns-clause-any_moment g c = λ r a stands.
    let w = c.args.self.now in
    let told = g.D.Disk.told w.disk in
    let told' = g.D.Disk.told c.stage_group.new.disk in
    let left = g.D.Disk.images w.disk (g.D.Disk.moment w.disk) in
    let left' = g.D.Disk.images c.stage_group.new.disk (g.D.Disk.moment c.stage_group.new.disk) in
    let log : LogAs told w.durable attempts.Mended r a left = subst (λ (x : Attempt). LogAs told w.durable x r a left) c.requires.mended stands.log in
    mended-either told w.durable r a a left (Since g.D.Disk.moment g.D.Disk.images w.disk c.stage_group.new.disk (RecoversToEither r a)) log
    (λ each. Since-weaken g.D.Disk.moment g.D.Disk.images w.disk c.stage_group.new.disk (λ b. (d : List ℕ) × left d × SameFront w.durable d b) (RecoversToEither r a) c.stage_group.ensures.front each)
