-- The values of the small board show the state that a run of an empty log starts from.
use Rattle.std.proofs.Common.{◌≡◌, ℕ, zero, suc, ◌<◌, ◌≢◌, ◌+◌, ◌∙◌, List, [], ◌∷◌, ◌++◌, length, length-append, replicate, get_or, refl, sym, subst, arith, inl, ap, Option, Some, None, ◌≤◌}
use mathlib.Core.Logic.{dite}
use mathlib.Core.Option.{some}
use native.Mathlib.Decide.{ℕ_discrete}
use Rattle.std.proofs.lemmas.List.{length-replicate}
use lib.ListN.{get_elem?}
use Rattle.graph_model.specs.declared.graph.Base.{Base}
use Rattle.graph_model.specs.Records.{IsGood}
use Rattle.core_states.specs.LogParts.{Found, all_firm, opened_part}
use Rattle.core_states.specs.Openings.{opened_clock}
use Rattle.core_states.specs.RowEvents.{Limits}
use Rattle.core_states.specs.Parts.{OfShard, OfLog, Parts, VertexRow}
use Rattle.turn_board.specs.Views.{Belongs}
use Rattle.std.specs.Prelude.{if◌then◌else◌, true, false, Result, Ok, Err, OnOk, is_err}
use Rattle.core_states.specs.declared.clock.Clock.{Clock}
use Rattle.core_states.specs.declared.event.Act.TheVariants as act
use Rattle.core_states.specs.declared.event.CoreAnswer.TheVariants as answer
use Rattle.core_states.specs.LogParts.{LogPart}
use Rattle.core_states.specs.Moves.{clock_move}
use Rattle.core_states.specs.ClockEvents.{opens, same_clock, with_row}
use Rattle.core_states.specs.Parts.{OfClock, actor_of}
use Rattle.turn_board.specs.Views.{View}
use Rattle.turn_board.specs.Works.{Leads}
use Rattle.turn_board.specs.Ones.{DoesOne}
use Rattle.turn_board.proofs.Ones.{clock_leads, clock_beside}
use Rattle.board_trials.specs.Opened.{own_name, opening_row, HasNoRow, AreBlank, blank, home_of, small_start}
use Rattle.board_trials.specs.declared.spot.Rows.{Rows}
use Rattle.board_trials.specs.declared.spot.Hand.{Hand}
use Rattle.board_trials.specs.declared.spot.Paper.{Paper}
use Rattle.turn_board.specs.declared.home.Home.{Home}
use Rattle.turn_board.specs.declared.home.Home.TheVariants as home
use Rattle.turn_board.specs.Openings.{opening_of, limits_of}
use Rattle.turn_board.specs.Turns.{turn_part}
use Rattle.turn_board.specs.Board.{Opens}
use Rattle.turn_board.proofs.Starting.{opening_is}
use Rattle.turn_board.proofs.Steps.{part_shard, part_clock, part_log}

abbrev pub empty_base : Base
empty_base = record { graph = []; epoch = 0; next_tid = 1; next_vertex = 1 }

abbrev Spot : Type 0
Spot = Home Rows Hand Paper

good : IsGood empty_base
good = record { graph = refl; vertices = refl; lists = refl; epoch = refl; numbers = refl; beginning = λ _. refl }

abbrev pub no_log : Found
no_log = record { count = 0; firm = all_firm; records = None }

abbrev pub small_limits : Limits
small_limits = limits_of 4096

-- each of these values is where the order of the turns has it
shard_item : {A : Type 0} (xs : List A) (k : ℕ) (c g : A) → k < length xs → get_elem? ((xs ++ c ∷ []) ++ g ∷ []) k ≡ get_elem? xs k
shard_item [] k c g low = absurd (omega (arith, low))
shard_item (x ∷ xs) zero c g low = refl
shard_item (x ∷ xs) (suc k) c g low = shard_item xs k c g (omega (arith, low))

clock_item : {A : Type 0} (xs : List A) (k : ℕ) (c g : A) → k ≡ length xs → get_elem? ((xs ++ c ∷ []) ++ g ∷ []) k ≡ some c
clock_item [] zero c g e = refl
clock_item [] (suc k) c g e = absurd (omega (arith, e))
clock_item (x ∷ xs) zero c g e = absurd (omega (arith, e))
clock_item (x ∷ xs) (suc k) c g e = clock_item xs k c g (omega (arith, e))

log_item : {A : Type 0} (xs : List A) (k : ℕ) (c g : A) → k ≡ length xs + 1 → get_elem? ((xs ++ c ∷ []) ++ g ∷ []) k ≡ some g
log_item [] zero c g e = absurd (omega (arith, e))
log_item [] (suc zero) c g e = refl
log_item [] (suc (suc k)) c g e = absurd (omega (arith, e))
log_item (x ∷ xs) zero c g e = absurd (omega (arith, e))
log_item (x ∷ xs) (suc k) c g e = log_item xs k c g (omega (arith, e))

items_length : {A : Type 0} (xs : List A) (c g : A) → length ((xs ++ c ∷ []) ++ g ∷ []) ≡ length xs + 2
items_length [] c g = refl
items_length (x ∷ xs) c g = let rest = items_length xs c g in omega (arith, rest)

-- a shard more
first_items : {A : Type 0} (xs : List A) (k : ℕ) (c : A) → k < length xs → get_elem? (xs ++ c ∷ []) k ≡ get_elem? xs k
first_items [] k c low = absurd (omega (arith, low))
first_items (x ∷ xs) zero c low = refl
first_items (x ∷ xs) (suc k) c low = first_items xs k c (omega (arith, low))

last_item : {A : Type 0} (xs : List A) (k : ℕ) (c : A) → k ≡ length xs → get_elem? (xs ++ c ∷ []) k ≡ some c
last_item [] zero c e = refl
last_item [] (suc k) c e = absurd (omega (arith, e))
last_item (x ∷ xs) zero c e = absurd (omega (arith, e))
last_item (x ∷ xs) (suc k) c e = last_item xs k c (omega (arith, e))

pub one_blank_more : (shards n : ℕ) (xs ys : List (Option Spot)) → AreBlank shards n xs → ys ≡ xs ++ Some (home.Shard (blank shards n)) ∷ [] → AreBlank shards (n + 1) ys
one_blank_more shards n xs ys blanks is = subst (λ zs. AreBlank shards (n + 1) zs) (sym is) (
  length-append xs (Some (home.Shard (blank shards n)) ∷ []) ∙ ap (λ m. m + 1) blanks.0,
  (λ k low. dite (ℕ_discrete k n)
      (λ (e : k ≡ n). last_item xs k (Some (home.Shard (blank shards n))) (e ∙ sym blanks.0) ∙ (λ i. some (Some (home.Shard (blank shards (sym e i))))))
      (λ (other : k ≢ n). let below : k < n = under k n low other in
      first_items xs k (Some (home.Shard (blank shards n))) (subst (λ m. k < m) (sym blanks.0) below) ∙ blanks.1 k below)),
)
  where
    under : (k n : ℕ) → k < n + 1 → k ≢ n → k < n
    under k n low other = omega (arith, low, other)

no_rows : (n k : ℕ) → ◌≡◌ {A = List VertexRow} (get_or (replicate n []) k []) []
no_rows zero k = refl
no_rows (suc n) zero = refl
no_rows (suc n) (suc k) = no_rows n k

module _ (n : ℕ) (low : 0 < n) (high : n ≤ 64) (xs : List (Option Spot)) (blanks : AreBlank n n xs) (c g : Spot) (c_is : (home_of c).part ≡ OfClock (opened_clock empty_base)) (g_is : (home_of g).part ≡ OfLog (opened_part 0 no_log)) (c_by : (k : ℕ) → Belongs (small_start n) k (home_of c)) (g_by : (k : ℕ) → Belongs (small_start n) k (home_of g)) where
  abbrev parts : Parts
  parts = opening_of empty_base small_limits no_log n

  abbrev items : List (Option Spot)
  items = (xs ++ Some c ∷ []) ++ Some g ∷ []

  long : length parts.shards ≡ n
  long = length-replicate n []

  each_of : (k : ℕ) → k < length parts.shards + 2 → (x : Spot) × (get_elem? items k ≡ some (Some x)) × (turn_part parts k ≡ (home_of x).part) × Belongs (small_start n) k (home_of x)
  each_of k inside = let longer = long in dite (ℕ_discrete k n)
      (λ (e : k ≡ n). (c, clock_item xs k (Some c) (Some g) (e ∙ sym blanks.0), part_clock parts k (e ∙ sym long) ∙ sym c_is, c_by k))
      (λ (other : k ≢ n). dite (ℕ_discrete k (n + 1))
      (λ (e : k ≡ n + 1). (g, log_item xs k (Some c) (Some g) (e ∙ ap (λ m. m + 1) (sym blanks.0)), part_log parts k (above k n (length parts.shards) e longer) ∙ sym g_is, g_by k))
      (λ (ne : k ≢ n + 1). let under : k < n = below k n (length parts.shards) inside longer other ne in
      (home.Shard (blank n k), shard_item xs k (Some c) (Some g) (subst (λ m. k < m) (sym blanks.0) under) ∙ blanks.1 k under, part_shard parts k (subst (λ (m : ℕ). k < m) (sym long) under) ∙ ap (λ rows. OfShard rows) (no_rows n k), refl)))
    where
      above : (k n m : ℕ) → k ≡ n + 1 → m ≡ n → m < k
      above k n m e is = omega (arith, e, is)

      below : (k n m : ℕ) → k < m + 2 → m ≡ n → k ≢ n → k ≢ n + 1 → k < n
      below k n m inside is other ne = omega (arith, inside, is, other, ne)

  each : (k : ℕ) → k < length parts.shards + 2 → (x : Spot) × (get_elem? items k ≡ some (Some x)) × (turn_part parts k ≡ (home_of x).part) × Belongs (small_start (length parts.shards)) k (home_of x)
  each k inside = let found = each_of k inside in (found.0, found.1, found.2, subst (λ m. Belongs (small_start m) k (home_of found.0)) (sym long) found.3)

  pub small_opens : Opens empty_base small_limits home_of items
  small_opens = record {
    may = record { good = good; lists = refl };
    allowed = record { txn = omega arith; log = omega arith };
    parts = parts;
    some = subst (λ (m : ℕ). 0 < m) (sym long) low;
    few = subst (λ (m : ℕ). m ≤ 64) (sym long) high;
    limits = refl;
    idle = refl;
    is = opening_is empty_base small_limits no_log n low;
    shows = (items_length xs (Some c) (Some g) ∙ ap (λ (m : ℕ). m + 2) (blanks.0 ∙ sym long), each);
  }

-- the event of a pass that opens a row, under the clock's turn alone or beside the log's
called : (v : View) (k : Clock) → HasNoRow v → clock_move k (actor_of v.base v.actors (own_name v)) (opens k (actor_of v.base v.actors (own_name v))) ≡ record { answer = answer.Done; clock = k; actor = with_row (actor_of v.base v.actors (own_name v)) true }
called v k none = λ i. clock_move k (actor_of v.base v.actors (own_name v)) (if none i then None else same_clock answer.Done k (with_row (actor_of v.base v.actors (own_name v)) true))

pub opens_alone : (v : View) (k : Clock) → HasNoRow v → v.held ≡ record { turn = 2; part = OfClock k } ∷ [] → Leads 2 v (opening_row v) (OfClock k)
opens_alone v k none front = (clock_leads 2 v k (record { by = own_name v; act = act.Open; answer = answer.Done }) _ (inl refl) front refl (called v k none) refl).leads

pub opens_beside : (v : View) (k : Clock) (log : LogPart) → HasNoRow v → v.held ≡ record { turn = 2; part = OfClock k } ∷ record { turn = 3; part = OfLog log } ∷ []
    → DoesOne 2 v (record { by = own_name v; act = act.Open; answer = answer.Done }) (OfClock k) (record { turn = 3; part = OfLog log } ∷ []) (with_row (actor_of v.base v.actors (own_name v)) true)
opens_beside v k log none front = clock_beside 2 v log k (record { by = own_name v; act = act.Open; answer = answer.Done }) _ (inl refl) front refl (called v k none) refl

-- what a call tells that had no error
pub on_ok : {T E : Type 0} (r : Result T E) (P : Type 0) → is_err r ≡ false → OnOk r P → P
on_ok (Ok x) P ok h = h
on_ok (Err e) P ok h = absurd (let e : ⊥ = (cc) in e)
