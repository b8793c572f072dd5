-- What the facts say of an owner, and of a record that is not applied.
use Rattle.std.proofs.Common.{◌≡◌, ℕ, ◌<◌, true, List, [], ◌∷◌, sym, ap, ◌∙◌, subst, Option, Some, inl, inr}
use Rattle.graph_model.specs.declared.graph.Base.{Base}
use Rattle.graph_model.specs.declared.record.Record.{Record}
use Rattle.core_kept.specs.Good.{InLog, Ghost, Owned, RowOkBy, In, RecordsOk, Good}
use Rattle.core_states.specs.Names.{Name}
use Rattle.core_states.specs.States.{State}
use Rattle.core_states.specs.Transactions.{holds}
use Rattle.core_states.specs.declared.transaction.Transaction.{Transaction}
use Rattle.core_kept.proofs.Snapshots.{active_above}

pub in_place : (base : Base) (g : Ghost) (n : ℕ) (r : Record) (rs : List Record) → RecordsOk base g n rs → In r rs → g.place r.tid ≡ InLog r.epoch
in_place base g n r [] ok m = absurd m
in_place base g n r (x ∷ rs) ok (inl is) = ap (λ (y : Record). g.place y.tid) is ∙ ok.0 ∙ ap (λ (y : Record). InLog y.epoch) (sym is)
in_place base g n r (x ∷ rs) ok (inr m) = in_place base g n r rs ok.6 m

pub owner_of : (base : Base) (g : Ghost) (s : State) (v t : ℕ) → Good base g s → (s.row v).owner ≡ Some t → Owned base g s.clock.records s.actor v (s.row v) t
owner_of base g s v t good owner = subst (λ (o : Option ℕ). RowOkBy o base g s.clock.records s.actor v (s.row v)) owner (good.rows v)

-- a record that is not applied at a vertex is above the visible epoch, and its transaction runs
pub visibility : (base : Base) (g : Ghost) (s : State) (v : ℕ) (r : Record) → Good base g s → In r s.clock.records → (s.row v).owner ≡ Some r.tid → s.clock.visible < r.epoch
visibility base g s v r good m owner =
    let ok = owner_of base g s v r.tid good owner in
    let theirs = good.txns (g.who r.tid) ok.txn ok.is in
    active_above s.clock.visible s.clock.last ok.txn.tid r.epoch s.clock.pending good.pending (theirs.pending r.epoch (ap g.place ok.tid ∙ in_place base g s.clock.next_tid r s.clock.records good.records m))

-- a running transaction owns a vertex exactly where it touched it and has neither undone nor applied it
pub owns : (base : Base) (g : Ghost) (s : State) (i : Name) (v : ℕ) (x : Transaction) → Good base g s → (s.actor i).txn ≡ Some x → (s.row v).owner ≡ Some x.tid → holds x v ≡ true
owns base g s i v x good at owner =
    let ok = owner_of base g s v x.tid good owner in
    ap (λ (y : Transaction). holds y v) (sym (same ok)) ∙ ok.held
  where
    some_is : (a b : Transaction) → Some a ≡ Some b → a ≡ b
    some_is a b e = (cc)

    same : (ok : Owned base g s.clock.records s.actor v (s.row v) x.tid) → ok.txn ≡ x
    same ok = some_is ok.txn x (sym ok.is ∙ ap (λ j. (s.actor j).txn) (good.txns i x at).who ∙ at)
