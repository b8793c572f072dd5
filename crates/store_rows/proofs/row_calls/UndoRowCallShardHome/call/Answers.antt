use Rattle.std.proofs.Common.{◌≡◌, sym, ap, ◌∙◌, subst, refl, true}
use Rattle.tel_block.specs.Places.{content_of}
use Rattle.core_states.specs.declared.event.Act.TheVariants as act
use Rattle.core_states.specs.Transactions.{is_loser}
use Rattle.shard_state.specs.Shards.{IsOf, row_at, limits_with}
use Rattle.shard_state.specs.Says.{Undoes}
use Rattle.shard_state.specs.RowLists.{rows_listed}
use Rattle.store_turns.specs.declared.session.Work.{Work}
use Rattle.store_turns.specs.Moves.{IsNext}
use Rattle.store_turns.specs.Rows.{KnownRows, IsAt}
use Rattle.store_turns.specs.Takes.{IsOnceAt}
use Rattle.store_rows.specs.ShardValues.{ShardValue}
use Rattle.store_rows.specs.ShardsKept.{place_in}
use Rattle.store_rows.proofs.RowMoves.{known_owner, does_undo, one_work}
use Rattle.store_rows.proofs.row_calls.UndoRowCallShardHome.call.Goals as goal

pub undo-requires-clause-owner : goal.undo-requires-clause-owner
undo-requires-clause-owner c =
    let a = c.home.inside in
    let v = c.args.self.now.v in
    let own : IsOf v a.shard = subst (λ (h : ShardValue). IsAt v h.place) (sym c.home.view_is) c.requires.own in
    let known : KnownRows (place_in a) (rows_listed content_of a.shard) c.args.session.now = subst (λ (h : ShardValue). KnownRows h.place h.rows c.args.session.now) (sym c.home.view_is) c.requires.known in
    known_owner a c.home.invariant c.args.session.now c.in_ok-work.work.now v _ own known (sym c.in_ok-work.ensures.value) c.in_ok-next.ensures.once

pub returns-clause-does : goal.returns-clause-does
returns-clause-does c =
    let a = c.home.inside in
    let v = c.args.self.now.v in
    let was = c.in_ok-work.work.now in
    let t = c.in_ok-settling.settling.now in
    let own : IsOf v a.shard = subst (λ (h : ShardValue). IsAt v h.place) (sym c.home.view_is) c.requires.own in
    let one : was ≡ t = one_work c.args.session.now.work was t c.in_ok-work.ensures.value c.in_ok-settling.ensures.value in
    let lost : is_loser t.stage ≡ true = ap (λ (z : Work). is_loser z.stage) (sym one) ∙ sym c.is_lost.ensures ∙ c.if-not-is_lost.false in
    let once : IsOnceAt v c.in_ok-next.field-0 t.settled t.touched.taken = subst (λ (z : Work). IsOnceAt v c.in_ok-next.field-0 z.settled z.touched.taken) one c.in_ok-next.ensures.once in
    let event : Undoes (limits_with a.shard.log_most) v t.tid (row_at content_of a.shard v) (row_at content_of c.undo.new.self v) =
    subst (λ (z : Work). Undoes (limits_with a.shard.log_most) v z.tid (row_at content_of a.shard v) (row_at content_of c.undo.new.self v)) one c.undo.ensures.event in
    does_undo a c.home.invariant c.args.home.now c.home.view_is c.undo.new.self c.undo.ensures.same v own c.args.session.now _ t c.settle.new.work c.in_ok-next.field-0 (λ _. act.Undo v) refl
    (sym c.in_ok-settling.ensures.value) lost refl refl refl c.settle.ensures once c.undo.ensures.keeps event

pub returns-clause-leaves : goal.returns-clause-leaves
returns-clause-leaves c =
    let was = c.in_ok-work.work.now in
    let t = c.in_ok-settling.settling.now in
    let one : was ≡ t = one_work c.args.session.now.work was t c.in_ok-work.ensures.value c.in_ok-settling.ensures.value in
    (refl, t, c.settle.new.work, sym c.in_ok-settling.ensures.value, refl, subst (λ (z : Work). IsNext c.args.self.now.v z) one c.in_ok-next.ensures.next, c.settle.ensures)
