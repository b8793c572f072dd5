-- A shard whose rows are kept otherwise, and say the same of each vertex, stands for the same state.
use Rattle.std.proofs.Common.{◌≡◌, ◌≢◌, ℕ, ◌<◌, ◌≤◌, ◌%◌, List, [], length, refl, sym, ap, ◌∙◌, subst, ⊎_elim, arith}
use Rattle.std.proofs.lemmas.Bool.{cases_lt}
use Rattle.std.proofs.lemmas.List.{get_or-set_same, get_or-set_other}
use Rattle.std.proofs.Math.ListN.{get_or, set, length-set}
use Rattle.std.specs.Prelude.{nat_lt, ◌==◌, if◌then◌else◌}
use mathlib.Core.Logic.{dite}
use native.Mathlib.Decide.{ℕ_discrete}
use Rattle.graph_model.specs.declared.graph.Base.{Base}
use Rattle.core_states.specs.Parts.{VertexRow, row_of, Part, OfShard, OfClock, OfLog, Parts, state_of_parts}
use Rattle.turn_board.specs.Works.{SaysSame}
use Rattle.turn_board.specs.Turns.{turn_part}
use Rattle.turn_board.proofs.Steps.{part_shard, part_clock, part_log}

pub record Reshown (base : Base) (parts : Parts) (k : ℕ) (p : Part) : Type 0 where
  pub next : Parts
  pub state : state_of_parts base next ≡ state_of_parts base parts
  pub long : length next.shards ≡ length parts.shards
  pub limits : next.limits ≡ parts.limits
  pub clock : next.clock ≡ parts.clock
  pub log : next.log ≡ parts.log
  pub actors : next.actors ≡ parts.actors
  pub here : turn_part next k ≡ p
  pub elsewhere : (j : ℕ) → j ≢ k → turn_part next j ≡ turn_part parts j

abbrev rows_in : Part → List VertexRow
rows_in (OfShard rows) = rows
rows_in (OfClock k) = []
rows_in (OfLog log) = []

abbrev IsShard : Part → Type 0
IsShard (OfShard rows) = Unit {0}
IsShard (OfClock k) = ⊥
IsShard (OfLog log) = ⊥

shard_low : (parts : Parts) (k : ℕ) (rows : List VertexRow) → turn_part parts k ≡ OfShard rows → k < length parts.shards
shard_low parts k rows is = ⊎_elim (λ low. low)
    (λ (high : length parts.shards ≤ k). absurd (dite (ℕ_discrete k (length parts.shards))
    (λ (e : k ≡ length parts.shards). subst (λ z. IsShard z) (sym is ∙ part_clock parts k e) tt)
    (λ ne. subst (λ z. IsShard z) (sym is ∙ part_log parts k (above k (length parts.shards) high ne)) tt)))
    (cases_lt k (length parts.shards))
  where
    above : (k n : ℕ) → n ≤ k → k ≢ n → n < k
    above k n high ne = omega (arith, high, ne)

as_is : (base : Base) (parts : Parts) (k : ℕ) (p : Part) → turn_part parts k ≡ p → Reshown base parts k p
as_is base parts k p is = record { next = parts; state = refl; long = refl; limits = refl; clock = refl; log = refl; actors = refl; here = is; elsewhere = λ j ne. refl }

rows_put : (base : Base) (parts : Parts) (k : ℕ) (rows left : List VertexRow) → turn_part parts k ≡ OfShard left → ((v : ℕ) → row_of base rows v ≡ row_of base left v) → Reshown base parts k (OfShard rows)
rows_put base parts k rows left is same = record {
  next = record parts { shards = set parts.shards k rows };
  state = λ i. record (state_of_parts base parts) { row = λ v. row_same v i };
  long = long;
  limits = refl;
  clock = refl;
  log = refl;
  actors = refl;
  here = part_shard (record parts { shards = set parts.shards k rows }) k (omega (arith, low, long)) ∙ ap (λ rs. OfShard rs) put;
  elsewhere = λ j ne. λ i. if nat_lt j (long i) then OfShard (get_or-set_other parts.shards k j rows [] ne i) else (if j == long i then OfClock parts.clock else OfLog parts.log);
}
  where
    low : k < length parts.shards
    low = shard_low parts k left is

    long : length (set parts.shards k rows) ≡ length parts.shards
    long = length-set parts.shards k rows

    put : get_or (set parts.shards k rows) k [] ≡ rows
    put = get_or-set_same parts.shards k rows [] low

    were : get_or parts.shards k [] ≡ left
    were = ap (λ p. rows_in p) (sym (part_shard parts k low) ∙ is)

    row_same : (v : ℕ) → row_of base (get_or (set parts.shards k rows) (v % length (set parts.shards k rows)) []) v ≡ row_of base (get_or parts.shards (v % length parts.shards) []) v
    row_same v = ap (λ m. row_of base (get_or (set parts.shards k rows) (v % m) []) v) long ∙ dite (ℕ_discrete (v % length parts.shards) k)
        (λ (e : v % length parts.shards ≡ k). ap (λ j. row_of base (get_or (set parts.shards k rows) j []) v) e ∙ (ap (λ rs. row_of base rs v) put ∙ (same v
        ∙ (ap (λ rs. row_of base rs v) (sym were) ∙ ap (λ j. row_of base (get_or parts.shards j []) v) (sym e)))))
        (λ ne. ap (λ rs. row_of base rs v) (get_or-set_other parts.shards k (v % length parts.shards) rows [] ne))

pub reshow : (base : Base) (parts : Parts) (k : ℕ) (p q : Part) → turn_part parts k ≡ q → SaysSame base p q → Reshown base parts k p
reshow base parts k (OfShard rows) (OfShard left) is same = rows_put base parts k rows left is same
reshow base parts k (OfClock c) (OfClock left) is same = as_is base parts k (OfClock c) (is ∙ ap (λ z. OfClock z) (sym same))
reshow base parts k (OfLog g) (OfLog left) is same = as_is base parts k (OfLog g) (is ∙ ap (λ z. OfLog z) (sym same))
reshow base parts k (OfShard rows) (OfClock left) is same = absurd same
reshow base parts k (OfShard rows) (OfLog left) is same = absurd same
reshow base parts k (OfClock c) (OfShard left) is same = absurd same
reshow base parts k (OfClock c) (OfLog left) is same = absurd same
reshow base parts k (OfLog g) (OfShard left) is same = absurd same
reshow base parts k (OfLog g) (OfClock left) is same = absurd same
