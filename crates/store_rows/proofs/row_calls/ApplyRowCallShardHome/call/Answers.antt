use Rattle.std.proofs.Common.{◌≡◌, sym, ap, ◌∙◌, subst, refl, Some}
use Rattle.tel_block.specs.Places.{content_of}
use Rattle.core_states.specs.declared.event.Act.TheVariants as act
use Rattle.core_states.specs.Transactions.{won_epoch}
use Rattle.shard_state.specs.Shards.{IsOf, row_at, limits_with}
use Rattle.shard_state.specs.Says.{Applies}
use Rattle.shard_state.specs.RowLists.{rows_listed}
use Rattle.store_turns.specs.declared.session.Work.{Work}
use Rattle.store_turns.specs.Moves.{IsNext, Won}
use Rattle.store_turns.specs.Rows.{KnownRows, IsAt}
use Rattle.store_turns.specs.Takes.{IsOnceAt}
use Rattle.store_rows.specs.ShardValues.{ShardValue}
use Rattle.store_rows.specs.ShardsKept.{place_in}
use Rattle.store_rows.proofs.RowMoves.{known_owner, does_apply, one_work}
use Rattle.store_rows.proofs.Won.{known_epoch, known_later, known_plain, won_is}
use Rattle.store_rows.proofs.row_calls.ApplyRowCallShardHome.call.Goals as goal

pub apply-requires-clause-owner : goal.apply-requires-clause-owner
apply-requires-clause-owner c =
    let a = c.home.inside in
    let v = c.args.self.now.v in
    let own : IsOf v a.shard = subst (λ (h : ShardValue). IsAt v h.place) (sym c.home.view_is) c.requires.own in
    let known : KnownRows (place_in a) (rows_listed content_of a.shard) c.args.session.now = subst (λ (h : ShardValue). KnownRows h.place h.rows c.args.session.now) (sym c.home.view_is) c.requires.known in
    known_owner a c.home.invariant c.args.session.now c.in_ok-work.work.now v c.in_ok-changed.changed own known (sym c.in_ok-work.ensures.value) c.in_ok-changed.ensures.once

pub apply-requires-clause-later : goal.apply-requires-clause-later
apply-requires-clause-later c =
    let a = c.home.inside in
    let v = c.args.self.now.v in
    let own : IsOf v a.shard = subst (λ (h : ShardValue). IsAt v h.place) (sym c.home.view_is) c.requires.own in
    let known : KnownRows (place_in a) (rows_listed content_of a.shard) c.args.session.now = subst (λ (h : ShardValue). KnownRows h.place h.rows c.args.session.now) (sym c.home.view_is) c.requires.known in
    known_later a c.home.invariant c.args.session.now c.in_ok-work.work.now v c.in_ok-changed.changed own known (sym c.in_ok-work.ensures.value) c.in_ok-epoch.epoch (sym c.in_ok-epoch.ensures) c.in_ok-changed.ensures.once

pub apply-requires-clause-told : goal.apply-requires-clause-told
apply-requires-clause-told c =
    let a = c.home.inside in
    let v = c.args.self.now.v in
    let own : IsOf v a.shard = subst (λ (h : ShardValue). IsAt v h.place) (sym c.home.view_is) c.requires.own in
    let known : KnownRows (place_in a) (rows_listed content_of a.shard) c.args.session.now = subst (λ (h : ShardValue). KnownRows h.place h.rows c.args.session.now) (sym c.home.view_is) c.requires.known in
    known_plain a c.home.invariant c.args.session.now c.in_ok-work.work.now v c.in_ok-changed.changed own known (sym c.in_ok-work.ensures.value) c.in_ok-epoch.epoch (sym c.in_ok-epoch.ensures) c.in_ok-changed.ensures.once

pub apply-requires-clause-epoch : goal.apply-requires-clause-epoch
apply-requires-clause-epoch c =
    let a = c.home.inside in
    let v = c.args.self.now.v in
    let own : IsOf v a.shard = subst (λ (h : ShardValue). IsAt v h.place) (sym c.home.view_is) c.requires.own in
    let known : KnownRows (place_in a) (rows_listed content_of a.shard) c.args.session.now = subst (λ (h : ShardValue). KnownRows h.place h.rows c.args.session.now) (sym c.home.view_is) c.requires.known in
    known_epoch a c.home.invariant c.args.session.now c.in_ok-work.work.now v c.in_ok-changed.changed own known (sym c.in_ok-work.ensures.value) c.in_ok-epoch.epoch (sym c.in_ok-epoch.ensures)

pub returns-clause-does : goal.returns-clause-does
returns-clause-does c =
    let a = c.home.inside in
    let v = c.args.self.now.v in
    let was = c.in_ok-work.work.now in
    let e = c.in_ok-epoch.epoch in
    let b = c.in_ok-changed.changed in
    let t = c.in_ok-settling.settling.now in
    let own : IsOf v a.shard = subst (λ (h : ShardValue). IsAt v h.place) (sym c.home.view_is) c.requires.own in
    let one : was ≡ t = one_work c.args.session.now.work was t c.in_ok-work.ensures.value c.in_ok-settling.ensures.value in
    let won : won_epoch t.stage ≡ Some e = ap (λ (z : Work). won_epoch z.stage) (sym one) ∙ sym c.in_ok-epoch.ensures in
    let once : IsOnceAt v b t.settled t.touched.taken = subst (λ (z : Work). IsOnceAt v b z.settled z.touched.taken) one c.in_ok-changed.ensures.once in
    let event : Applies (limits_with a.shard.log_most) v t.tid e b (row_at content_of a.shard v) (row_at content_of c.apply.new.self v) =
    subst (λ (z : Work). Applies (limits_with a.shard.log_most) v z.tid e b (row_at content_of a.shard v) (row_at content_of c.apply.new.self v)) one c.apply.ensures.event in
    does_apply a c.home.invariant c.args.home.now c.home.view_is c.apply.new.self c.apply.ensures.same v own c.args.session.now _ t c.settle.new.work e b (λ _. act.Apply v) refl
    (sym c.in_ok-settling.ensures.value) won refl refl refl c.settle.ensures once c.apply.ensures.keeps event

pub returns-clause-leaves : goal.returns-clause-leaves
returns-clause-leaves c =
    let v = c.args.self.now.v in
    let was = c.in_ok-work.work.now in
    let e = c.in_ok-epoch.epoch in
    let t = c.in_ok-settling.settling.now in
    let one : was ≡ t = one_work c.args.session.now.work was t c.in_ok-work.ensures.value c.in_ok-settling.ensures.value in
    let won : Won c.args.session.now t e = record {
      is = sym c.in_ok-settling.ensures.value;
      stage = won_is t.stage e (ap (λ (z : Work). won_epoch z.stage) (sym one) ∙ sym c.in_ok-epoch.ensures);
    } in
    (refl, t, c.settle.new.work, e, won, refl, subst (λ (z : Work). IsNext v z) one c.in_ok-changed.ensures.next, c.settle.ensures)
