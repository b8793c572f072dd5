use Rattle.std.proofs.Common.{◌≡◌, ℕ, sym, ap, ◌∙◌, subst, refl, Some}
use Rattle.tel_block.specs.Places.{content_of}
use Rattle.core_states.specs.declared.event.Act.TheVariants as act
use Rattle.shard_state.specs.Shards.{IsOf}
use Rattle.shard_state.specs.RowLists.{rows_listed}
use Rattle.store_turns.specs.declared.session.Work.{Work}
use Rattle.store_turns.specs.Rows.{KnownRows, IsAt}
use Rattle.store_rows.specs.ShardValues.{ShardValue}
use Rattle.store_rows.specs.ShardsKept.{place_in}
use Rattle.store_rows.proofs.RowMoves.{one_work}
use Rattle.store_rows.proofs.Unused.{known_fresh}
use Rattle.store_rows.proofs.Making.{makes, leaves_new}
use Rattle.store_rows.proofs.makes.MakeRowCallShardHome.call.Goals as goal

pub make_row-requires-clause-fresh : goal.make_row-requires-clause-fresh
make_row-requires-clause-fresh c =
    let a = c.home.inside in
    let v = c.args.self.now.v in
    let own : IsOf v a.shard = subst (λ (h : ShardValue). IsAt v h.place) (sym c.home.view_is) c.requires.own in
    let known : KnownRows (place_in a) (rows_listed content_of a.shard) c.args.session.now = subst (λ (h : ShardValue). KnownRows h.place h.rows c.args.session.now) (sym c.home.view_is) c.requires.known in
    known_fresh a c.home.invariant c.args.session.now c.in_ok-known.known.now v own known (sym c.in_ok-known.ensures.value) (c.in_ok-drawn.was ∙ ap (λ (n : ℕ). Some n) c.if-drawn-self.false)

pub returns-clause-does : goal.returns-clause-does
returns-clause-does c =
    let a = c.home.inside in
    let v = c.args.self.now.v in
    let t = c.in_ok-work.work.now in
    let does = c.make_row.ensures in
    let own : IsOf v a.shard = subst (λ (h : ShardValue). IsAt v h.place) (sym c.home.view_is) c.requires.own in
    let one = one_work c.args.session.now.work c.in_ok-known.known.now t c.in_ok-known.ensures.value c.in_ok-work.ensures.value in
    let drew : t.drawn ≡ Some v = ap (λ (w : Work). w.drawn) (sym one) ∙ c.in_ok-drawn.was ∙ ap (λ (n : ℕ). Some n) c.if-drawn-self.false in
    makes a c.home.invariant c.args.home.now c.home.view_is c.make_row.new.shard does.same v c.args.self.now.p.now own c.args.session.now _ c.in_ok-who.who t c.make_row.new.work c.in_ok-who.ensures (sym c.in_ok-work.ensures.value) drew refl refl refl does.keeps (λ _. act.New v c.args.self.now.p.now) refl
    c.make_row.result does.event does.work

pub returns-clause-leaves : goal.returns-clause-leaves
returns-clause-leaves c =
    let a = c.home.inside in
    let v = c.args.self.now.v in
    let t = c.in_ok-work.work.now in
    let does = c.make_row.ensures in
    let own : IsOf v a.shard = subst (λ (h : ShardValue). IsAt v h.place) (sym c.home.view_is) c.requires.own in
    let one = one_work c.args.session.now.work c.in_ok-known.known.now t c.in_ok-known.ensures.value c.in_ok-work.ensures.value in
    let drew : t.drawn ≡ Some v = ap (λ (w : Work). w.drawn) (sym one) ∙ c.in_ok-drawn.was ∙ ap (λ (n : ℕ). Some n) c.if-drawn-self.false in
    leaves_new a c.home.invariant c.args.home.now c.home.view_is c.make_row.new.shard does.same v c.args.self.now.p.now own c.args.session.now _ c.in_ok-who.who t c.make_row.new.work c.in_ok-who.ensures (sym c.in_ok-work.ensures.value) drew refl refl refl does.keeps (λ _. act.New v c.args.self.now.p.now) refl
    c.make_row.result does.event does.work refl
