-- Who drew each number: every transaction number and every vertex number that was drawn has one actor, which keeps it.
use Rattle.std.specs.Prelude.{◌≡◌, ℕ, ◌≤◌, ◌<◌, true, List, ◌∷◌, map, Option, Some, None}
use Rattle.graph_model.specs.declared.graph.Base.{Base}
use Rattle.graph_model.specs.Whole.{all_differ}
use Rattle.core_states.specs.declared.transaction.Transaction.{Transaction}
use Rattle.core_states.specs.declared.actor.Actor.{Actor}
use Rattle.core_states.specs.Names.{Name}
use Rattle.core_states.specs.Numbers.{has_number}
use Rattle.core_states.specs.States.{State}

-- The numbers from `low` up to `next` were drawn, each once and by one actor, which keeps it; and no actor keeps another.
pub record Drawn (low next : ℕ) (numbers : Name → List ℕ) : Type 0 where
  pub drawer : ℕ → Name
  pub range : low ≤ next
  pub kept : (i : Name) (n : ℕ) → has_number n (numbers i) ≡ true → (drawer n ≡ i) × (low ≤ n) × (n < next)
  pub each : (n : ℕ) → low ≤ n → n < next → has_number n (numbers (drawer n)) ≡ true
  pub once : (i : Name) → all_differ (numbers i) ≡ true

-- the number of a transaction that runs, in front of those that have ended
abbrev pub with_tid : Option Transaction → List ℕ → List ℕ
with_tid None ts = ts
with_tid (Some x) ts = x.tid ∷ ts

-- the numbers of an actor's transactions, running or ended
abbrev pub tids_of : Actor → List ℕ
tids_of a = with_tid a.txn (map (λ r. r.tid) a.receipts)

-- Each transaction number that was drawn is that of one transaction, running or ended, of one actor.
abbrev pub TidsDrawn : Base → State → Type 0
TidsDrawn base s = Drawn base.next_tid s.clock.next_tid (λ i. tids_of (s.actor i))

-- Each vertex number that was drawn is among those that one actor drew.
abbrev pub VerticesDrawn : Base → State → Type 0
VerticesDrawn base s = Drawn base.next_vertex s.clock.next_vertex (λ i. (s.actor i).drew)
