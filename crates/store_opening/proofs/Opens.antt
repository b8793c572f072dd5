-- The values of the board show the state that a run of the base starts from.
use Rattle.std.proofs.Common.{◌≡◌, ℕ, zero, suc, ◌+◌, ◌<◌, ◌≤◌, ◌%◌, List, [], ◌∷◌, ◌++◌, length, length-append, get_or, refl, sym, ap, ◌∙◌, subst, arith, ◌⊎◌, inl, inr, Option, Some, None, Box, Global}
use Rattle.std.specs.Prelude.{IsTrue}
use mathlib.Core.Option.{some}
use lib.ListN.{get_elem?}
use Rattle.graph_model.specs.declared.graph.Base.{Base}
use Rattle.graph_model.specs.Graph.{vertex_at}
use Rattle.graph_model.specs.Records.{IsGood, list_most}
use Rattle.core_states.specs.declared.clock.Clock.{Clock}
use Rattle.core_states.specs.LogParts.{LogPart, Found, Firmness, opened_part}
use Rattle.core_states.specs.Openings.{opened_clock, opened_row, fresh_actor, lists_within, opening}
use Rattle.core_states.specs.Parts.{OfClock, OfShard, Parts, VertexRow, row_of, state_of_parts}
use Rattle.turn_board.specs.Views.{Shown, Belongs}
use Rattle.turn_board.specs.Histories.{found_by}
use Rattle.turn_board.specs.Homes.{home_shown}
use Rattle.turn_board.specs.Openings.{limits_of}
use Rattle.turn_board.specs.Turns.{turn_part}
use Rattle.turn_board.specs.Board.{Opens}
use Rattle.turn_board.specs.declared.home.Home.{Home}
use Rattle.turn_board.specs.declared.home.Home.TheVariants as home
use Rattle.turn_board.proofs.Steps.{part_shard, part_clock, part_log}
use Rattle.store_turns.specs.declared.clock_home.ClockHome.{ClockHome}
use Rattle.store_rows.specs.ShardValues.{ShardValue}
use Rattle.store_opening.specs.Opened.{IsOpened, AllOpened, AreShards, start_with}

-- the values of a shard's turn and of the clock's
abbrev ShardBox : Type 0
ShardBox = Box ShardValue Global

abbrev ClockBox : Type 0
ClockBox = Box ClockHome Global

-- what stands behind a list
behind_at : {A : Type 0} (xs ys : List A) (k n : ℕ) → n ≡ length xs + k → get_elem? (xs ++ ys) n ≡ get_elem? ys k
behind_at [] ys k n e = let same : n ≡ k = omega (arith, e) in ap (λ m. get_elem? ys m) same
behind_at (x ∷ xs) ys k zero e = absurd (omega (arith, e))
behind_at (x ∷ xs) ys k (suc n) e = behind_at xs ys k n (omega (arith, e))

-- the values before the last one, and that one
snoc_parts : {A : Type 0} (xs ys : List A) (a b : A) → xs ++ a ∷ [] ≡ ys ++ b ∷ [] → (xs ≡ ys) × (a ≡ b)
snoc_parts [] [] a b e = (refl, (cc))
snoc_parts [] (y ∷ []) a b e = absurd (let bad : ⊥ = (cc) in bad)
snoc_parts [] (y ∷ z ∷ ys) a b e = absurd (let bad : ⊥ = (cc) in bad)
snoc_parts (x ∷ []) [] a b e = absurd (let bad : ⊥ = (cc) in bad)
snoc_parts (x ∷ z ∷ xs) [] a b e = absurd (let bad : ⊥ = (cc) in bad)
snoc_parts {A} (x ∷ xs) (y ∷ ys) a b e =
    let head : x ≡ y = (cc) in
    let tail : ◌≡◌ {A = List A} (xs ++ a ∷ []) (ys ++ b ∷ []) = (cc) in
    let rest = snoc_parts xs ys a b tail in
    (λ i. head i ∷ rest.0 i, rest.1)

module _ {X E W : Type 0} where
  pub shards_front : (xs ys : List (Option (Home X E W))) → AreShards (xs ++ ys) → AreShards xs × AreShards ys
  shards_front [] ys all = (tt, all)
  shards_front (None ∷ xs) ys all = absurd all
  shards_front (Some (home.Shard x) ∷ xs) ys all = shards_front xs ys all
  shards_front (Some (home.Clock c) ∷ xs) ys all = absurd all
  shards_front (Some (home.Log g) ∷ xs) ys all = absurd all

pub opened_shards : {W : Type 0} (base : Base) (count most n : ℕ) (xs : List (Option (Home ShardBox ClockBox W))) → AllOpened base count most n xs → AreShards xs
opened_shards base count most n [] all = tt
opened_shards base count most n (None ∷ xs) all = absurd all
opened_shards base count most n (Some (home.Shard x) ∷ xs) all = opened_shards base count most (n + 1) xs all.1
opened_shards base count most n (Some (home.Clock c) ∷ xs) all = absurd all
opened_shards base count most n (Some (home.Log g) ∷ xs) all = absurd all

-- what a refusal hands back is what was handed in
pub handed_back : {W : Type 0} (xs ys : List (Option (Home ShardBox ClockBox W))) (c d : ClockBox) (g h : W)
    → (xs ++ Some (home.Clock c) ∷ []) ++ Some (home.Log g) ∷ [] ≡ (ys ++ Some (home.Clock d) ∷ []) ++ Some (home.Log h) ∷ [] → (xs ≡ ys) × (g ≡ h)
handed_back {W} xs ys c d g h e =
    let last = snoc_parts (xs ++ Some (home.Clock c) ∷ []) (ys ++ Some (home.Clock d) ∷ []) (Some (home.Log g)) (Some (home.Log h)) e in
    let before = snoc_parts xs ys (Some (home.Clock c)) (Some (home.Clock d)) last.0 in
    let log : ◌≡◌ {A = Option (Home ShardBox ClockBox W)} (Some (home.Log g)) (Some (home.Log h)) = last.1 in
    (before.0, (cc))

module _ (W : Type 0) (base : Base) (count most : ℕ) where
  abbrev Spot : Type 0
  Spot = Home ShardBox ClockBox W

  -- one shard more behind the others
  opened_more : (n : ℕ) (xs : List (Option Spot)) (x : ShardBox) → AllOpened base count most n xs → IsOpened base (n + length xs) count most x.value → AllOpened base count most n (xs ++ Some (home.Shard x) ∷ [])
  opened_more n [] x all is = (subst (λ k. IsOpened base k count most x.value) (plus_none n) is, tt)
    where
      plus_none : (n : ℕ) → n + 0 ≡ n
      plus_none n = omega arith
  opened_more n (None ∷ xs) x all is = absurd all
  opened_more n (Some (home.Shard y) ∷ xs) x all is = (all.0, opened_more (n + 1) xs x all.1 (subst (λ k. IsOpened base k count most x.value) (one_over n (length xs)) is))
    where
      one_over : (n m : ℕ) → n + suc m ≡ n + 1 + m
      one_over n m = omega arith
  opened_more n (Some (home.Clock c) ∷ xs) x all is = absurd all
  opened_more n (Some (home.Log g) ∷ xs) x all is = absurd all

  -- and of the next number
  pub opened_next : (xs : List (Option Spot)) (x : ShardBox) (n : ℕ) → length xs ≡ n → AllOpened base count most 0 xs → IsOpened base n count most x.value → AllOpened base count most 0 (xs ++ Some (home.Shard x) ∷ [])
  opened_next xs x n long all is = let same : n ≡ 0 + length xs = omega (arith, long) in opened_more 0 xs x all (subst (λ k. IsOpened base k count most x.value) same is)

  -- the rows of the shards
  abbrev rows_all : (xs : List (Option Spot)) → List (List VertexRow)
  rows_all [] = []
  rows_all (None ∷ xs) = rows_all xs
  rows_all (Some (home.Shard x) ∷ xs) = x.value.rows ∷ rows_all xs
  rows_all (Some (home.Clock c) ∷ xs) = rows_all xs
  rows_all (Some (home.Log g) ∷ xs) = rows_all xs

  as_many : (n : ℕ) (xs : List (Option Spot)) → AllOpened base count most n xs → length (rows_all xs) ≡ length xs
  as_many n [] all = refl
  as_many n (None ∷ xs) all = absurd all
  as_many n (Some (home.Shard x) ∷ xs) all = ap suc (as_many (n + 1) xs all.1)
  as_many n (Some (home.Clock c) ∷ xs) all = absurd all
  as_many n (Some (home.Log g) ∷ xs) all = absurd all

  rows_opened : (n : ℕ) (xs : List (Option Spot)) → AllOpened base count most n xs → (k v : ℕ) → row_of base (get_or (rows_all xs) k []) v ≡ opened_row base.epoch (vertex_at v base.graph)
  rows_opened n [] all k v = refl
  rows_opened n (None ∷ xs) all k v = absurd all
  rows_opened n (Some (home.Shard x) ∷ xs) all zero v = all.0.rows v
  rows_opened n (Some (home.Shard x) ∷ xs) all (suc k) v = rows_opened (n + 1) xs all.1 k v
  rows_opened n (Some (home.Clock c) ∷ xs) all k v = absurd all
  rows_opened n (Some (home.Log g) ∷ xs) all k v = absurd all

  -- the shard at a place
  shard_at : (n : ℕ) (xs ys : List (Option Spot)) → AllOpened base count most n xs → (k : ℕ) → k < length xs → (x : ShardBox) × (get_elem? (xs ++ ys) k ≡ some (Some (home.Shard x))) × (get_or (rows_all xs) k [] ≡ x.value.rows) × (x.value.place ≡ record { number = n + k; shards = count; log_most = most; base = base })
  shard_at n [] ys all k low = absurd (omega (arith, low))
  shard_at n (None ∷ xs) ys all k low = absurd all
  shard_at n (Some (home.Shard x) ∷ xs) ys all zero low = (x, refl, refl, all.0.place ∙ (let same : n ≡ n + 0 = omega arith in λ i. record { number = same i; shards = count; log_most = most; base = base }))
  shard_at n (Some (home.Shard x) ∷ xs) ys all (suc k) low =
      let rest = shard_at (n + 1) xs ys all.1 k (omega (arith, low)) in
      let same : n + 1 + k ≡ n + suc k = omega arith in
      (rest.0, rest.1, rest.2, rest.3 ∙ (λ i. record { number = same i; shards = count; log_most = most; base = base }))
  shard_at n (Some (home.Clock c) ∷ xs) ys all k low = absurd all
  shard_at n (Some (home.Log g) ∷ xs) ys all k low = absurd all

module _ (W : Type 0) (log_of : W → LogPart) (moment_of : W → ℕ) (base : Base) (count most : ℕ) (good : IsGood base) (lists : IsTrue (lists_within most base.graph)) (some_shards : 0 < count) (few : count ≤ 64) (within : most ≤ list_most) (xs : List (Option (Home ShardBox ClockBox W)))
    (all : AllOpened base count most 0 xs) (long : length xs ≡ count) (c : ClockBox) (c_is : c.value.part.clock ≡ opened_clock base) (log : W) (found : Found) (log_is : log_of log ≡ opened_part base.epoch found) (early : (log_of log).moment ≤ moment_of log) where
  abbrev pub home_of : Home ShardBox ClockBox W → Shown
  home_of value = home_shown (λ (h : ShardBox). h.value.rows) (λ (h : ShardBox). h.value.place) (λ (h : ClockBox). h.value.part.clock) log_of moment_of value

  abbrev Item : Type 0
  Item = Option (Home ShardBox ClockBox W)

  abbrev tail : List Item
  tail = Some (home.Clock c) ∷ Some (home.Log log) ∷ []

  abbrev parts : Parts
  parts = record { limits = limits_of most; shards = rows_all W base count most xs; clock = opened_clock base; log = log_of log; actors = [] }

  many : length parts.shards ≡ count
  many = as_many W base count most 0 xs all ∙ long

  found_is : found_by (log_of log) ≡ found
  found_is = ap found_by log_is ∙ same_found found
    where
      same_found : (f : Found) → found_by (opened_part base.epoch f) ≡ f
      same_found f = by_records f.count f.firm f.records
        where
          by_records : (n : ℕ) (firm : Firmness) (rs : Option (List Rattle.graph_model.specs.declared.record.Record.Record)) → found_by (opened_part base.epoch (record { count = n; firm = firm; records = rs })) ≡ record { count = n; firm = firm; records = rs }
          by_records n firm None = refl
          by_records n firm (Some rs) = refl

  state_is : state_of_parts base parts ≡ opening base (found_by (log_of log))
  state_is = λ k. record {
    clock = opened_clock base;
    log = (log_is ∙ ap (λ f. opened_part base.epoch f) (sym found_is)) k;
    actor = λ i. fresh_actor base;
    row = λ v. rows_opened W base count most 0 xs all (v % length parts.shards) v k;
  }

  flat : (xs ++ Some (home.Clock c) ∷ []) ++ Some (home.Log log) ∷ [] ≡ xs ++ tail
  flat = Rattle.std.proofs.Common.append_assoc xs (Some (home.Clock c) ∷ []) (Some (home.Log log) ∷ [])

  abbrev Shown-at : ℕ → Type 0
  Shown-at k = (x : Home ShardBox ClockBox W) × (get_elem? (xs ++ tail) k ≡ some (Some x)) × (turn_part parts k ≡ (home_of x).part) × Belongs (start_with base most (found_by (log_of log)) (length parts.shards)) k (home_of x)

  at_shard : (k : ℕ) → k < count → Shown-at k
  at_shard k low =
      let s = shard_at W base count most 0 xs tail all k (omega (arith, low, long)) in (
        home.Shard s.0,
        s.1,
        part_shard parts k (omega (arith, low, many)) ∙ ap (λ rows. OfShard rows) s.2,
        s.3 ∙ (let same : 0 + k ≡ k = omega arith in λ i. record { number = same i; shards = sym many i; log_most = most; base = base }),
      )

  at_clock : (k : ℕ) → k ≡ count → Shown-at k
  at_clock k e = (
    home.Clock c,
    behind_at xs tail 0 k (omega (arith, e, long)),
    part_clock parts k (e ∙ sym many) ∙ ap (λ (z : Clock). OfClock z) (sym c_is),
    tt,
  )

  at_log : (k : ℕ) → k ≡ count + 1 → Shown-at k
  at_log k e = (
    home.Log log,
    behind_at xs tail 1 k (omega (arith, e, long)),
    part_log parts k (omega (arith, e, many)),
    early,
  )

  by_place : (k : ℕ) → k < length parts.shards + 2 → Shown-at k
  by_place k low = by_cases (Rattle.std.proofs.lemmas.Bool.cases_eq k count) (Rattle.std.proofs.lemmas.Bool.cases_eq k (count + 1))
    where
      by_cases : (k ≡ count) ⊎ (k ≡ count → ⊥) → (k ≡ count + 1) ⊎ (k ≡ count + 1 → ⊥) → Shown-at k
      by_cases (inl e) d = at_clock k e
      by_cases (inr ne) (inl e) = at_log k e
      by_cases (inr ne) (inr nf) = at_shard k (omega (arith, ne, nf, low, many))

  pub all_open : Opens base (limits_of most) home_of ((xs ++ Some (home.Clock c) ∷ []) ++ Some (home.Log log) ∷ [])
  all_open = subst (λ (items : List Item). Opens base (limits_of most) home_of items) (sym flat) (record {
    may = record { good = good; lists = lists };
    allowed = record { txn = omega arith; log = omega (arith, within) };
    parts = parts;
    some = omega (arith, some_shards, many);
    few = omega (arith, few, many);
    limits = refl;
    idle = refl;
    is = state_is;
    shows = (length-append xs tail ∙ (let same : length xs + 2 ≡ length parts.shards + 2 = omega (arith, many, long) in same), by_place);
  })
